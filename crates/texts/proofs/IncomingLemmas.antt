-- The next line of a source: reading it byte by byte, and when its end is decided.
use Rattle.std.proofs.Common.{◌≡◌, ◌≢◌, ◌<◌, ◌≤◌, ◌⊎◌, inl, inr, ℕ, Bool, true, false, IsTrue, if◌then◌else◌, List, [], ◌∷◌, ◌++◌, Option, Some, None, IfSome, IsSome, length, refl, sym, ap, subst, ◌∙◌, append_assoc, arith, length-append}
use Rattle.std.proofs.lemmas.List.{append-nil}
use Rattle.texts.specs.Device.{DeviceState, Gives}
use Rattle.texts.specs.Incoming.{IncomingView, EndsWell, GivesLine, HasNoFeed, IsEnough, KnowsNext, TakesEnough, TakesNext, UsesByte, left_bytes, unread_of}
use Rattle.texts.specs.declared.incoming.LineEnd.{LineEnd}
use Rattle.texts.specs.declared.incoming.LineEnd.TheVariants.{Feed, Bad, Nothing}
use Rattle.texts.specs.declared.incoming.NextByte.{NextByte}
use Rattle.texts.specs.declared.incoming.NextByte.TheVariants.{Byte, Ended}
use Rattle.texts.proofs.DeviceLemmas.{gives_all, gives_both}

-- bytes without a line feed, and one more
pub no_feed_more : (text : List ℕ) (byte : ℕ) → HasNoFeed text → byte ≢ 10 → HasNoFeed (text ++ byte ∷ [])
no_feed_more [] byte none other = (other, tt)
no_feed_more (b ∷ text) byte none other = (none.0, no_feed_more text byte none.1 other)

-- the line so far has ended
ended_at : (longest : ℕ) (a b c : DeviceState) (text : List ℕ) (end : LineEnd) → Gives a text b → HasNoFeed text → length text ≤ longest →
    TakesNext longest (length text) b (Ended end) c → GivesLine longest a text end c
ended_at longest a b c text Feed given none short next = record { short = short; no_feed = none; given = gives_both a b c text (10 ∷ []) given next }
ended_at longest a b c text Bad given none short (inl (full, byte, other, next)) = inl record {
  text = text ++ byte ∷ [];
  long = omega (arith, full, short, length-append text (byte ∷ []));
  no_feed = no_feed_more text byte none other;
  given = gives_both a b c text (byte ∷ []) given next;
}
ended_at longest a b c text Bad given none short (inr (some, (next, end))) = inr record {
  text = text;
  some = some;
  short = short;
  no_feed = none;
  given = subst (λ (bytes : List ℕ). Gives a bytes c) (append-nil text) (gives_both a b c text [] given next);
  all = gives_all a b text given end;
}
ended_at longest a b c text Nothing given none short (empty, (next, end)) =
    let nothing : text ≡ [] = no_bytes text empty in (
      subst (λ (bytes : List ℕ). Gives a bytes c) (append-nil text ∙ nothing) (gives_both a b c text [] given next),
      at_end a.bytes (subst (λ (bytes : List ℕ). IfSome a.bytes (λ all. bytes ≡ all)) nothing (gives_all a b text given end)),
    )
  where
    no_bytes : (xs : List ℕ) → length xs ≡ 0 → xs ≡ []
    no_bytes [] e = refl
    no_bytes (x ∷ xs) e = absurd (omega (arith, e))

    at_end : (o : Option (List ℕ)) → IfSome o (λ all. [] ≡ all) → IfSome o (λ all. all ≡ [])
    at_end None e = tt
    at_end (Some all) e = sym e

pub line_ended : (longest len : ℕ) (a b c : DeviceState) (text : List ℕ) (end : LineEnd) → Gives a text b → HasNoFeed text → length text ≤ longest → len ≡ length text →
    TakesNext longest len b (Ended end) c → GivesLine longest a text end c
line_ended longest len a b c text end given none short is next =
    ended_at longest a b c text end given none short (subst (λ (n : ℕ). TakesNext longest n b (Ended end) c) is next)

turned : (o : Option (List ℕ)) → IfSome o (λ all. all ≡ []) → IfSome o (λ all. [] ≡ all)
turned None e = tt
turned (Some all) e = sym e

fresh_bytes : (unused : IncomingView) (rest : Option (List ℕ)) → unused.bytes ≡ [] → unused.ended ≡ false → left_bytes unused rest ≡ rest
fresh_bytes unused None empty going = refl
fresh_bytes unused (Some rest) empty going = ap (λ (bytes : List ℕ). Some (bytes ++ (if unused.ended then [] else rest))) empty ∙ ap (λ (b : Bool). Some (if b then [] else rest)) going

-- when a line has ended, enough of it was taken
pub enough : (longest : ℕ) (old new : DeviceState) (text : List ℕ) (end : LineEnd) → GivesLine longest old text end new → TakesEnough longest old new
enough longest old new text Feed line = record { line = text ++ 10 ∷ []; given = line.given; enough = inl (text, [], refl) }
enough longest old new text Bad (inl bad) = record { line = bad.text; given = bad.given; enough = inr (inl (omega (arith, bad.long))) }
enough longest old new text Bad (inr bad) = record { line = bad.text; given = bad.given; enough = inr (inr bad.all) }
enough longest old new text Nothing none = record { line = []; given = none.0; enough = inr (inr (turned old.bytes none.1)) }

-- if nothing was read from a source, all is left
pub fresh : (unused : IncomingView) (source : DeviceState) → unused.bytes ≡ [] → unused.ended ≡ false → unread_of unused source ≡ source
fresh unused source empty going = ap (λ (bytes : Option (List ℕ)). record { bytes = bytes; failures = source.failures }) (fresh_bytes unused source.bytes empty going)

pub fresh_ends : (unused : IncomingView) (source : DeviceState) → unused.ended ≡ false → IsSome source.bytes → EndsWell unused source
fresh_ends unused source going told = record { told = told; at_end = λ ended. absurd (never unused.ended going ended) }
  where
    never : (b : Bool) → b ≡ false → IsTrue b → ⊥
    never true e t = cc
    never false e t = cc

feed_among : (before more : List ℕ) → HasNoFeed (before ++ 10 ∷ more) → ⊥
feed_among [] more none = none.0 refl
feed_among (b ∷ before) more none = feed_among before more none.1

-- if enough was read for a line that is not ended, its next byte was
pub knows_next : (longest : ℕ) (all text bytes : List ℕ) (ended : Type 0) → IsEnough longest all ended → HasNoFeed text → length text ≤ longest → all ≡ text ++ bytes → (0 < length bytes) ⊎ ended
knows_next longest all text bytes ended (inr (inr is)) none short parts = inr is
knows_next longest all text (b ∷ bytes) ended is none short parts = inl (omega arith)
knows_next longest all text [] ended (inl (before, more, is)) none short parts =
    absurd (feed_among before more (subst HasNoFeed (sym (append-nil text) ∙ sym parts ∙ is) none))
knows_next longest all text [] ended (inr (inl long)) none short parts = absurd (omega (arith, long, short, ap length (parts ∙ append-nil text)))

-- nothing more is read once enough was
pub stays_quiet : {X P : Type 0} (longest : ℕ) (first now after : IncomingView) (x y z : X) (text : List ℕ) →
    (IsEnough longest first.bytes (IsTrue first.ended) → (y ≡ x) × (now.ended ≡ first.ended) × (first.bytes ≡ text ++ now.bytes)) → HasNoFeed text → length text ≤ longest →
    (KnowsNext now → (z ≡ y) × (after.ended ≡ now.ended) × P) → IsEnough longest first.bytes (IsTrue first.ended) →
    (z ≡ x) × (after.ended ≡ first.ended) × (first.bytes ≡ text ++ now.bytes) × P
stays_quiet {X} {P} longest first now after x y z text quiet none short next is =
    let before = quiet is in
    let knows : KnowsNext now = elim (knows_next longest first.bytes text now.bytes (IsTrue first.ended) is none short before.2) [
      | inl some ↦ inl some
      | inr ended ↦ inr (subst IsTrue (sym before.1) ended)
    ] in
    let behind = next knows in
    (behind.0 ∙ before.0, behind.1 ∙ before.1, before.2, behind.2)

-- a line that continues by one byte
pub record GoesOn (longest : ℕ) (a : DeviceState) (text : List ℕ) (byte : ℕ) (c : DeviceState) : Type 0 where
  pub below : length text < longest
  pub no_feed : HasNoFeed (text ++ byte ∷ [])
  pub given : Gives a (text ++ byte ∷ []) c

pub goes_on : (longest len : ℕ) (a b c : DeviceState) (text : List ℕ) (byte : ℕ) (next : NextByte) → Gives a text b → HasNoFeed text → len ≡ length text → next ≡ Byte byte →
    TakesNext longest len b next c → GoesOn longest a text byte c
goes_on longest len a b c text byte next given none same is takes =
    let (below, other, one) = subst (λ (n : NextByte). TakesNext longest len b n c) is takes in
    record {
      below = omega (arith, below, same);
      no_feed = no_feed_more text byte none other;
      given = gives_both a b c text (byte ∷ []) given one;
    }

pub used : (all text bytes new : List ℕ) (byte : ℕ) (next : NextByte) → all ≡ text ++ bytes → next ≡ Byte byte → UsesByte bytes next new → all ≡ (text ++ byte ∷ []) ++ new
used all text bytes new byte next parts is uses =
    parts ∙ ap (λ (b : List ℕ). text ++ b) (subst (λ (n : NextByte). UsesByte bytes n new) is uses) ∙ sym (append_assoc text (byte ∷ []) new)
