use Rattle.std.proofs.Common.{◌≡◌, ◌⊎◌, Err, IsSome, Ok, ◌∷◌, ◌++◌, [], length, length-append, inl, inr, subst, ap, ◌∙◌, arith}
use Rattle.std.proofs.lemmas.Result.{err_from_is_err_and}
use Rattle.cert_form.specs.Reader.{lines_read}
use Rattle.texts.specs.Device.{HasFailed, HasGrown}
use Rattle.texts.specs.Incoming.{EndsWell, IsAmid, IsLineTaken, IsTooLong, IsUnended, TakesNone, unread_of}
use Rattle.texts.proofs.IncomingLemmas.{fresh, fresh_ends}
use Rattle.certificate.proofs.PiecesLemmas.{all_read, bad_end, few_lines, gave_all, gave_line, gave_none, gave_some, never_read, refused_line, source_limit, source_line, source_only, source_same, source_some}
use Rattle.certificate.specs.Pieces.{read_fault}
use Rattle.certificate.specs.declared.pieces.ReadFault.TheVariants as faults
use Rattle.certificate.proofs.pieces.read_from.Goals as goal

pub loop-reader-init : goal.loop-reader-init
loop-reader-init g c =
    let first = g.R.Source.state c.args.input.now in
    let unused = c.new-incoming.result in
    record {
      has = gave_none first (unread_of unused first) c.new-reader.result c.new-reader.ensures.none c.new-reader.ensures.form (fresh unused first c.new-incoming.ensures.bytes c.new-incoming.ensures.ended);
      at_end = λ told. fresh_ends unused first c.new-incoming.ensures.ended told;
    }

pub loop-reader-smaller : goal.loop-reader-smaller
loop-reader-smaller g c =
    let takes = c.in_ok-line-in-Ok-Feed.ensures.line in
    omega (arith, few_lines c.line.new.self takes.4, length-append (lines_read c.loop-reader.reader) (takes.0 ∷ []), ap length takes.3)

pub loop-reader-preserved : goal.loop-reader-preserved
loop-reader-preserved g c =
    let first = g.R.Source.state c.args.input.now in
    let mid = unread_of c.loop-reader.incoming (g.R.Source.state c.loop-reader.input) in
    let after = unread_of c.next_long_line.new.self (g.R.Source.state c.next_long_line.new.input) in
    let text = c.as_slice.result.now in
    let next : IsLineTaken 1048575 mid text after = rw (c.in-Ok-Feed.field-0-is, ← c.as_slice.ensures.value) at c.in-Ok-Feed.ensures.line in
    let takes = c.in_ok-line-in-Ok-Feed.ensures.line in
    record {
      has = gave_line 1048575 first mid after c.loop-reader.reader c.line.new.self text takes.0 c.loop-reader.invariant.has next takes.2 takes.3 takes.4;
      at_end = λ told. c.in-Ok-Feed.ensures.at_end (λ e. cc) (c.loop-reader.invariant.at_end told);
    }

pub returns-in_err-line-in-Ok-Feed-clause-only : goal.returns-in_err-line-in-Ok-Feed-clause-only
returns-in_err-line-in-Ok-Feed-clause-only g c =
    let first = g.R.Source.state c.args.input.now in
    let mid = unread_of c.loop-reader.incoming (g.R.Source.state c.loop-reader.input) in
    let after = unread_of c.next_long_line.new.self (g.R.Source.state c.next_long_line.new.input) in
    let text = c.as_slice.result.now in
    let next : IsLineTaken 1048575 mid text after = rw (c.in-Ok-Feed.field-0-is, ← c.as_slice.ensures.value) at c.in-Ok-Feed.ensures.line in
    let fault = c.in_err-line-in-Ok-Feed.field-0.0 in
    let answer = refused_line (Unit {0}) first mid after c.loop-reader.reader c.line.new.self text fault c.loop-reader.invariant.has next c.in_err-line-in-Ok-Feed.ensures.line in
    let p = err_from_is_err_and c.from_residual.result c.from_residual.ensures.1 in
    rw (p.1, p.2) (source_only first fault answer)

pub returns-in_err-line-in-Ok-Feed-clause-line : goal.returns-in_err-line-in-Ok-Feed-clause-line
returns-in_err-line-in-Ok-Feed-clause-line g c =
    let first = g.R.Source.state c.args.input.now in
    let mid = unread_of c.loop-reader.incoming (g.R.Source.state c.loop-reader.input) in
    let after = unread_of c.next_long_line.new.self (g.R.Source.state c.next_long_line.new.input) in
    let text = c.as_slice.result.now in
    let next : IsLineTaken 1048575 mid text after = rw (c.in-Ok-Feed.field-0-is, ← c.as_slice.ensures.value) at c.in-Ok-Feed.ensures.line in
    let fault = c.in_err-line-in-Ok-Feed.field-0.0 in
    let answer = refused_line (Unit {0}) first mid after c.loop-reader.reader c.line.new.self text fault c.loop-reader.invariant.has next c.in_err-line-in-Ok-Feed.ensures.line in
    let p = err_from_is_err_and c.from_residual.result c.from_residual.ensures.1 in
    rw (p.1, p.2) (λ n same. source_line first fault answer n (cc))

pub returns-in_err-line-in-Ok-Feed-clause-limit : goal.returns-in_err-line-in-Ok-Feed-clause-limit
returns-in_err-line-in-Ok-Feed-clause-limit g c =
    let first = g.R.Source.state c.args.input.now in
    let mid = unread_of c.loop-reader.incoming (g.R.Source.state c.loop-reader.input) in
    let after = unread_of c.next_long_line.new.self (g.R.Source.state c.next_long_line.new.input) in
    let text = c.as_slice.result.now in
    let next : IsLineTaken 1048575 mid text after = rw (c.in-Ok-Feed.field-0-is, ← c.as_slice.ensures.value) at c.in-Ok-Feed.ensures.line in
    let fault = c.in_err-line-in-Ok-Feed.field-0.0 in
    let answer = refused_line (Unit {0}) first mid after c.loop-reader.reader c.line.new.self text fault c.loop-reader.invariant.has next c.in_err-line-in-Ok-Feed.ensures.line in
    let p = err_from_is_err_and c.from_residual.result c.from_residual.ensures.1 in
    rw (p.1, p.2) (λ same. source_limit first fault answer (cc))

pub returns-in_err-line-in-Ok-Feed-clause-failed : goal.returns-in_err-line-in-Ok-Feed-clause-failed
returns-in_err-line-in-Ok-Feed-clause-failed g c =
    let fault = c.in_err-line-in-Ok-Feed.field-0.0 in
    let p = err_from_is_err_and c.from_residual.result c.from_residual.ensures.1 in
    rw (p.1, p.2) (λ same.
    let bad : read_fault fault ≡ faults.Read = cc in
    absurd (never_read fault bad))

pub returns-in-Ok-Bad-clause-only : goal.returns-in-Ok-Bad-clause-only
returns-in-Ok-Bad-clause-only g c =
    let first = g.R.Source.state c.args.input.now in
    let mid = unread_of c.loop-reader.incoming (g.R.Source.state c.loop-reader.input) in
    let after = unread_of c.next_long_line.new.self (g.R.Source.state c.next_long_line.new.input) in
    let bad : IsTooLong 1048575 mid after ⊎ IsUnended 1048575 mid after = rw c.in-Ok-Bad.field-0-is at c.in-Ok-Bad.ensures.line in
    let answer = bad_end first mid after c.loop-reader.reader c.bad_line.result c.loop-reader.invariant.has bad c.bad_line.ensures in
    rw c.from.ensures (source_only first c.bad_line.result answer)

pub returns-in-Ok-Bad-clause-line : goal.returns-in-Ok-Bad-clause-line
returns-in-Ok-Bad-clause-line g c =
    let first = g.R.Source.state c.args.input.now in
    let mid = unread_of c.loop-reader.incoming (g.R.Source.state c.loop-reader.input) in
    let after = unread_of c.next_long_line.new.self (g.R.Source.state c.next_long_line.new.input) in
    let bad : IsTooLong 1048575 mid after ⊎ IsUnended 1048575 mid after = rw c.in-Ok-Bad.field-0-is at c.in-Ok-Bad.ensures.line in
    let answer = bad_end first mid after c.loop-reader.reader c.bad_line.result c.loop-reader.invariant.has bad c.bad_line.ensures in
    rw c.from.ensures (λ n same. source_line first c.bad_line.result answer n (cc))

pub returns-in-Ok-Bad-clause-quiet : goal.returns-in-Ok-Bad-clause-quiet
returns-in-Ok-Bad-clause-quiet g c _ =
    let first = g.R.Source.state c.args.input.now in
    let mid = unread_of c.loop-reader.incoming (g.R.Source.state c.loop-reader.input) in
    let after = unread_of c.next_long_line.new.self (g.R.Source.state c.next_long_line.new.input) in
    let bad : IsTooLong 1048575 mid after ⊎ IsUnended 1048575 mid after = rw c.in-Ok-Bad.field-0-is at c.in-Ok-Bad.ensures.line in
    elim bad [
      | inl long ↦ long.given.quiet ∙ c.loop-reader.invariant.has.given.quiet
      | inr last ↦ last.given.quiet ∙ c.loop-reader.invariant.has.given.quiet
    ]

pub returns-in_err-end-in-Ok-Nothing-clause-only : goal.returns-in_err-end-in-Ok-Nothing-clause-only
returns-in_err-end-in-Ok-Nothing-clause-only g c =
    let first = g.R.Source.state c.args.input.now in
    let mid = unread_of c.loop-reader.incoming (g.R.Source.state c.loop-reader.input) in
    let after = unread_of c.next_long_line.new.self (g.R.Source.state c.next_long_line.new.input) in
    let none : TakesNone mid after = rw c.in-Ok-Nothing.field-0-is at c.in-Ok-Nothing.ensures.line in
    let fault = c.in_err-end-in-Ok-Nothing.field-0.0 in
    let answer = all_read first mid after c.loop-reader.reader (Err fault) c.loop-reader.invariant.has none c.in_err-end-in-Ok-Nothing.ensures in
    let p = err_from_is_err_and c.from_residual-in_err-end-in-Ok-Nothing.result c.from_residual-in_err-end-in-Ok-Nothing.ensures.1 in
    rw (p.1, p.2) (source_only first fault answer)

pub returns-in_err-end-in-Ok-Nothing-clause-line : goal.returns-in_err-end-in-Ok-Nothing-clause-line
returns-in_err-end-in-Ok-Nothing-clause-line g c =
    let first = g.R.Source.state c.args.input.now in
    let mid = unread_of c.loop-reader.incoming (g.R.Source.state c.loop-reader.input) in
    let after = unread_of c.next_long_line.new.self (g.R.Source.state c.next_long_line.new.input) in
    let none : TakesNone mid after = rw c.in-Ok-Nothing.field-0-is at c.in-Ok-Nothing.ensures.line in
    let fault = c.in_err-end-in-Ok-Nothing.field-0.0 in
    let answer = all_read first mid after c.loop-reader.reader (Err fault) c.loop-reader.invariant.has none c.in_err-end-in-Ok-Nothing.ensures in
    let p = err_from_is_err_and c.from_residual-in_err-end-in-Ok-Nothing.result c.from_residual-in_err-end-in-Ok-Nothing.ensures.1 in
    rw (p.1, p.2) (λ n same. source_line first fault answer n (cc))

pub returns-in-Ok-Nothing-clause-found : goal.returns-in-Ok-Nothing-clause-found
returns-in-Ok-Nothing-clause-found g c =
    let first = g.R.Source.state c.args.input.now in
    let mid = unread_of c.loop-reader.incoming (g.R.Source.state c.loop-reader.input) in
    let after = unread_of c.next_long_line.new.self (g.R.Source.state c.next_long_line.new.input) in
    let none : TakesNone mid after = rw c.in-Ok-Nothing.field-0-is at c.in-Ok-Nothing.ensures.line in
    gave_all first mid (g.R.Source.state c.next_long_line.new.input) c.next_long_line.new.self c.loop-reader.reader c.in_ok-end-in-Ok-Nothing.field-0 c.loop-reader.invariant.has none
    (λ told. c.in-Ok-Nothing.ensures.at_end (λ e. cc) (c.loop-reader.invariant.at_end told)) c.in_ok-end-in-Ok-Nothing.ensures

pub returns-in-Ok-Nothing-clause-only : goal.returns-in-Ok-Nothing-clause-only
returns-in-Ok-Nothing-clause-only g c =
    let first = g.R.Source.state c.args.input.now in
    let mid = unread_of c.loop-reader.incoming (g.R.Source.state c.loop-reader.input) in
    let after = unread_of c.next_long_line.new.self (g.R.Source.state c.next_long_line.new.input) in
    let none : TakesNone mid after = rw c.in-Ok-Nothing.field-0-is at c.in-Ok-Nothing.ensures.line in
    let read = c.in_ok-end-in-Ok-Nothing.field-0 in
    source_same first read (all_read first mid after c.loop-reader.reader (Ok read) c.loop-reader.invariant.has none c.in_ok-end-in-Ok-Nothing.ensures)

pub returns-in-Err-Read-clause-failed : goal.returns-in-Err-Read-clause-failed
returns-in-Err-Read-clause-failed g c _ =
    let first = g.R.Source.state c.args.input.now in
    let mid = unread_of c.loop-reader.incoming (g.R.Source.state c.loop-reader.input) in
    let after = unread_of c.next_long_line.new.self (g.R.Source.state c.next_long_line.new.input) in
    let failed : HasFailed mid after = rw c.in-Err-Read.field-0-is at c.in-Err-Read.ensures.fault in
    subst (λ n. HasGrown n after.failures) c.loop-reader.invariant.has.given.quiet failed

pub returns-in_err-line-in-Ok-Feed-clause-memory : goal.returns-in_err-line-in-Ok-Feed-clause-memory
returns-in_err-line-in-Ok-Feed-clause-memory g c _ =
    let first = g.R.Source.state c.args.input.now in
    let mid = unread_of c.loop-reader.incoming (g.R.Source.state c.loop-reader.input) in
    let after = unread_of c.next_long_line.new.self (g.R.Source.state c.next_long_line.new.input) in
    let text = c.as_slice.result.now in
    let next : IsLineTaken 1048575 mid text after = rw (c.in-Ok-Feed.field-0-is, ← c.as_slice.ensures.value) at c.in-Ok-Feed.ensures.line in
    source_some first mid after c.loop-reader.reader (text ++ 10 ∷ []) c.loop-reader.invariant.has next.given (omega (arith, length-append text (10 ∷ [])))

pub returns-in-Err-NoMemory-clause-memory : goal.returns-in-Err-NoMemory-clause-memory
returns-in-Err-NoMemory-clause-memory g c _ =
    let first = g.R.Source.state c.args.input.now in
    let mid = unread_of c.loop-reader.incoming (g.R.Source.state c.loop-reader.input) in
    let after = unread_of c.next_long_line.new.self (g.R.Source.state c.next_long_line.new.input) in
    let amid : IsAmid 1048575 mid after = rw c.in-Err-NoMemory.field-0-is at c.in-Err-NoMemory.ensures.fault in
    source_some first mid after c.loop-reader.reader amid.text c.loop-reader.invariant.has amid.given amid.some

pub returns-in_err-line-in-Ok-Feed-clause-taken : goal.returns-in_err-line-in-Ok-Feed-clause-taken
returns-in_err-line-in-Ok-Feed-clause-taken g c _ =
    let first = g.R.Source.state c.args.input.now in
    let mid = unread_of c.loop-reader.incoming (g.R.Source.state c.loop-reader.input) in
    let after = unread_of c.next_long_line.new.self (g.R.Source.state c.next_long_line.new.input) in
    let source = g.R.Source.state c.next_long_line.new.input in
    let unused = c.next_long_line.new.self in
    let text = c.as_slice.result.now in
    let next : IsLineTaken 1048575 mid text after = rw (c.in-Ok-Feed.field-0-is, ← c.as_slice.ensures.value) at c.in-Ok-Feed.ensures.line in
    gave_some first mid source unused c.loop-reader.reader (text ++ 10 ∷ []) c.loop-reader.invariant.has next.given
    (λ told. c.in-Ok-Feed.ensures.at_end (λ e. cc) (c.loop-reader.invariant.at_end told))

pub returns-in-Ok-Bad-clause-taken : goal.returns-in-Ok-Bad-clause-taken
returns-in-Ok-Bad-clause-taken g c _ =
    let first = g.R.Source.state c.args.input.now in
    let mid = unread_of c.loop-reader.incoming (g.R.Source.state c.loop-reader.input) in
    let after = unread_of c.next_long_line.new.self (g.R.Source.state c.next_long_line.new.input) in
    let source = g.R.Source.state c.next_long_line.new.input in
    let unused = c.next_long_line.new.self in
    let bad : IsTooLong 1048575 mid after ⊎ IsUnended 1048575 mid after = rw c.in-Ok-Bad.field-0-is at c.in-Ok-Bad.ensures.line in
    let well : IsSome first.bytes → EndsWell unused source = λ told. c.in-Ok-Bad.ensures.at_end (λ e. cc) (c.loop-reader.invariant.at_end told) in
    elim bad [
      | inl long ↦ gave_some first mid source unused c.loop-reader.reader long.text c.loop-reader.invariant.has long.given well
      | inr last ↦ gave_some first mid source unused c.loop-reader.reader last.text c.loop-reader.invariant.has last.given well
    ]

pub returns-in_err-end-in-Ok-Nothing-clause-taken : goal.returns-in_err-end-in-Ok-Nothing-clause-taken
returns-in_err-end-in-Ok-Nothing-clause-taken g c _ =
    let first = g.R.Source.state c.args.input.now in
    let mid = unread_of c.loop-reader.incoming (g.R.Source.state c.loop-reader.input) in
    let after = unread_of c.next_long_line.new.self (g.R.Source.state c.next_long_line.new.input) in
    let source = g.R.Source.state c.next_long_line.new.input in
    let unused = c.next_long_line.new.self in
    let none : TakesNone mid after = rw c.in-Ok-Nothing.field-0-is at c.in-Ok-Nothing.ensures.line in
    gave_some first mid source unused c.loop-reader.reader [] c.loop-reader.invariant.has none.0
    (λ told. c.in-Ok-Nothing.ensures.at_end (λ e. cc) (c.loop-reader.invariant.at_end told))

pub returns-in-Ok-Nothing-clause-taken : goal.returns-in-Ok-Nothing-clause-taken
returns-in-Ok-Nothing-clause-taken g c _ =
    let first = g.R.Source.state c.args.input.now in
    let mid = unread_of c.loop-reader.incoming (g.R.Source.state c.loop-reader.input) in
    let after = unread_of c.next_long_line.new.self (g.R.Source.state c.next_long_line.new.input) in
    let source = g.R.Source.state c.next_long_line.new.input in
    let unused = c.next_long_line.new.self in
    let none : TakesNone mid after = rw c.in-Ok-Nothing.field-0-is at c.in-Ok-Nothing.ensures.line in
    gave_some first mid source unused c.loop-reader.reader [] c.loop-reader.invariant.has none.0
    (λ told. c.in-Ok-Nothing.ensures.at_end (λ e. cc) (c.loop-reader.invariant.at_end told))

pub returns-in-Err-NoMemory-clause-taken : goal.returns-in-Err-NoMemory-clause-taken
returns-in-Err-NoMemory-clause-taken g c _ =
    let first = g.R.Source.state c.args.input.now in
    let mid = unread_of c.loop-reader.incoming (g.R.Source.state c.loop-reader.input) in
    let after = unread_of c.next_long_line.new.self (g.R.Source.state c.next_long_line.new.input) in
    let source = g.R.Source.state c.next_long_line.new.input in
    let unused = c.next_long_line.new.self in
    let amid : IsAmid 1048575 mid after = rw c.in-Err-NoMemory.field-0-is at c.in-Err-NoMemory.ensures.fault in
    gave_some first mid source unused c.loop-reader.reader amid.text c.loop-reader.invariant.has amid.given
    (λ told. c.in-Err-NoMemory.ensures.at_end (λ e. cc) (c.loop-reader.invariant.at_end told))
