use Rattle.std.proofs.Common.{◌++◌, take, inr, arith, vec_len, length-append}
use Rattle.std.proofs.lemmas.List.{length-take}
use Rattle.texts.proofs.DeviceLemmas.{gives_all, gives_both}
use Rattle.command_parts.proofs.FileLemmas.{first_bytes}
use Rattle.command_parts.proofs.reading.read_rom.Goals as goal

pub returns-then-count-eq0-clause-first : goal.returns-then-count-eq0-clause-first
returns-then-count-eq0-clause-first g c =
    first_bytes _ _ _ (vec_len c.loop-chunk.bytes) c.loop-chunk.bytes.items c.loop-chunk.bytes.ok.0 c.loop-chunk.invariant.within
    (λ few. gives_all _ _ _ c.loop-chunk.invariant.given (c.in-Ok.ensures.end (cc) (omega (arith, length-take c.min-asked.result c.loop-chunk.chunk, c.min-asked.ensures, c.len-in-loop-chunk.ensures, few))))
    c.loop-chunk.invariant.given.given

pub returns-clause-first : goal.returns-clause-first
returns-clause-first g c =
    first_bytes _ _ _ (vec_len c.loop-chunk.bytes) c.loop-chunk.bytes.items c.loop-chunk.bytes.ok.0 c.loop-chunk.invariant.within
    (λ few. absurd (omega (arith, few, c.len.ensures, c.loop-chunk-test.false))) c.loop-chunk.invariant.given.given

pub returns-in_err-extend_from_slice-clause-limit : goal.returns-in_err-extend_from_slice-clause-limit
returns-in_err-extend_from_slice-clause-limit g c = inr (
  c.loop-chunk.bytes.items ++ take c.in-Ok.count c.read.new.buffer,
  omega (arith, length-append c.loop-chunk.bytes.items (take c.in-Ok.count c.read.new.buffer), length-take c.in-Ok.count c.read.new.buffer, length-take c.min-asked.result c.loop-chunk.chunk, c.in-Ok.ensures.within, c.min-asked.ensures, c.len-in-loop-chunk.ensures, c.loop-chunk.bytes.ok.0),
  gives_both _ _ _ _ _ c.loop-chunk.invariant.given c.in-Ok.ensures.given,
)
