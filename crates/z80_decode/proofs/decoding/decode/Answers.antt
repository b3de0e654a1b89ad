use Rattle.std.proofs.Common.{◌≡◌, ◌≤◌, length, take, refl, sym, ◌∙◌, ap, arith}
use Rattle.z80_decode.specs.Spelling.{spelling}
use Rattle.z80_decode.proofs.Laws.{take-spelling, front, proper_beginning, not_both, no_front, no_beginning, undocumented, same_front, too_short}
use Rattle.z80_decode.proofs.decoding.decode.Goals as goal

pub returns-in_default-clause-only : goal.returns-in_default-clause-only
returns-in_default-clause-only c = λ i rest e. absurd (no_front c.args.bytes.now (sym c.in_default.ensures) i rest e)

pub returns-in_default-clause-truncated : goal.returns-in_default-clause-truncated
returns-in_default-clause-truncated c = (λ e. cc, λ p. absurd (no_beginning c.args.bytes.now (sym c.in_default.ensures) p))

pub returns-in_default-clause-undocumented : goal.returns-in_default-clause-undocumented
returns-in_default-clause-undocumented c = (λ _. undocumented c.args.bytes.now (sym c.in_default.ensures), λ _. refl)

pub returns-then-from-bytes-clause-only : goal.returns-then-from-bytes-clause-only
returns-then-from-bytes-clause-only c = λ i rest e. absurd (too_short c.args.bytes.now c.in-Some.instr i rest (sym c.in-Some.ensures) (omega arith) e)

pub returns-then-from-bytes-clause-truncated : goal.returns-then-from-bytes-clause-truncated
returns-then-from-bytes-clause-truncated c = (λ _. proper_beginning c.args.bytes.now (λ k. omega (arith, c.type_inv.bytes k)) c.in-Some.instr (sym c.in-Some.ensures) (omega arith), λ _. refl)

pub returns-then-from-bytes-clause-undocumented : goal.returns-then-from-bytes-clause-undocumented
returns-then-from-bytes-clause-undocumented c = (λ e. cc, λ u. absurd (u.no_beginning (proper_beginning c.args.bytes.now (λ k. omega (arith, c.type_inv.bytes k)) c.in-Some.instr (sym c.in-Some.ensures) (omega arith))))

pub returns-clause-found : goal.returns-clause-found
returns-clause-found c =
    let enough : length (spelling c.in-Some.instr) ≤ length c.args.bytes.now = omega arith in
    (omega arith, ap (λ n. take n c.args.bytes.now) c.length-length.ensures.exact ∙ take-spelling c.args.bytes.now (λ k. omega (arith, c.type_inv.bytes k)) c.in-Some.instr (sym c.in-Some.ensures) enough)

pub returns-clause-only : goal.returns-clause-only
returns-clause-only c = λ i rest e.
    let same : c.in-Some.instr ≡ i = same_front c.args.bytes.now c.in-Some.instr i rest (sym c.in-Some.ensures) e in
    let count : c.length-length.result ≡ length (spelling i) = c.length-length.ensures.exact ∙ ap (λ j. length (spelling j)) same in
    cc

pub returns-clause-truncated : goal.returns-clause-truncated
returns-clause-truncated c = (λ e. cc, λ p. absurd (not_both c.args.bytes.now c.in-Some.instr _ (front c.args.bytes.now (λ k. omega (arith, c.type_inv.bytes k)) c.in-Some.instr (sym c.in-Some.ensures) (omega arith)) p))

pub returns-clause-undocumented : goal.returns-clause-undocumented
returns-clause-undocumented c = (λ e. cc, λ u. absurd (u.no_spelling c.in-Some.instr _ (front c.args.bytes.now (λ k. omega (arith, c.type_inv.bytes k)) c.in-Some.instr (sym c.in-Some.ensures) (omega arith))))
