-- Trusted: signed overflow of a byte and of a word.
use Rattle.std.specs.Prelude.{Bool, not, ◌&&◌, ℤ, pos, neg_ℤ, int_le}

-- whether an integer lies outside -128 to 127
abbrev pub overflows_byte : ℤ → Bool
overflows_byte z = not (int_le (neg_ℤ (pos 128)) z && int_le z (pos 127))

-- whether an integer lies outside -32,768 to 32,767
abbrev pub overflows_word : ℤ → Bool
overflows_word z = not (int_le (neg_ℤ (pos 32768)) z && int_le z (pos 32767))
