-- The lines that were read begin a certificate.
use Rattle.std.proofs.Common.{◌≡◌, ◌≤◌, ◌<◌, ℕ, ◌∷◌, [], ◌++◌, List, length, map, take, Option, Some, None, refl, sym, ap, subst, ◌∙◌, inl, inr, arith, append_assoc, append-nil, length-append}
use Rattle.std.specs.List.{AllByRecursion}
use Rattle.std.proofs.lemmas.Bool.{cases_lt}
use Rattle.std.proofs.lemmas.List.{map-append, take_at}
use Rattle.cert_lines.specs.Proc.{IsProc}
use Rattle.cert_lines.specs.declared.line.Line.{Line}
use Rattle.cert_lines.specs.declared.line.Line.TheVariants as lines
use Rattle.cert_lines.specs.declared.proc.Proc.{Proc}
use Rattle.cert_lines.specs.declared.proc.ProcKind.TheVariants.{Main, Nmi}
use Rattle.cert_form.specs.Contents.{CertificateView}
use Rattle.cert_form.specs.Form.{IsCertificate, IsInForm, IsWithinLimits, AreInOrder, AreSplits, AreRows}
use Rattle.cert_form.specs.Text.{board_lines, head_lines, list_lines, lines_of}
use Rattle.cert_form.specs.Reader.{ReaderView, IsProgress, AreFirstProcs, stage_rank, lines_before, lines_read}
use Rattle.cert_form.specs.declared.stage.Stage.{Stage}
use Rattle.cert_form.specs.declared.stage.Stage.TheVariants as stages
use Rattle.cert_form.proofs.GoesOn.{nothing_stage}
use Rattle.cert_form.proofs.Order.{IsOrdered, ordered, suits_again}
use Rattle.cert_form.proofs.OrderOfLists.{at_lists}

abbrev some_main : Proc
some_main = record { kind = Main; entry = 0; rank = 0; depth = 0; time = None }

abbrev some_nmi : Proc
some_nmi = record { kind = Nmi; entry = 102; rank = 0; depth = 0; time = Some 0 }

main_is_proc : IsProc some_main
main_is_proc = record { entry = omega arith; rank = omega arith; depth = omega arith; time = tt; kind = (refl, refl) }

nmi_is_proc : IsProc some_nmi
nmi_is_proc = record {
  entry = omega arith;
  rank = omega arith;
  depth = omega arith;
  time = omega arith;
  kind =
      (refl, refl);
}

-- the procedures that are missing
abbrev missing_procs : Option ℕ → List Proc → List Proc
missing_procs None [] = some_main ∷ []
missing_procs None (main ∷ subs) = []
missing_procs (Some budget) [] = some_main ∷ some_nmi ∷ []
missing_procs (Some budget) (main ∷ []) = some_nmi ∷ []
missing_procs (Some budget) (main ∷ nmi ∷ subs) = []

-- the first procedures of a certificate, and those that are missing
record AreCompleted (budget : Option ℕ) (procs : List Proc) : Type 0 where
  each : AllByRecursion IsProc (procs ++ missing_procs budget procs)
  order : AreInOrder budget (procs ++ missing_procs budget procs)
  few : length procs ≤ 1024 → length (procs ++ missing_procs budget procs) ≤ 1024

all_nil : {X : Type 0} (P : List X → Type 0) (xs : List X) → P xs → P (xs ++ [])
all_nil P xs h = subst P (sym (append-nil xs)) h

completed : (budget : Option ℕ) (procs : List Proc) → AllByRecursion IsProc procs → AreFirstProcs budget procs →
    AreCompleted budget procs
completed None [] each first = record {
  each = (main_is_proc, tt);
  order =
      (refl, record { kind = tt; rising = tt });
  few = λ few. omega arith;
}
completed None (main ∷ subs) each first = record {
  each = all_nil (AllByRecursion IsProc) (main ∷ subs) each;
  order = all_nil (AreInOrder None) (main ∷ subs) first;
  few = all_nil (λ ps. length ps ≤ 1024) (main ∷ subs);
}
completed
    (Some n) [] each first = record {
      each = (main_is_proc, (nmi_is_proc, tt));
      order =
          (refl, refl, record { kind = tt; rising = tt });
      few = λ few. omega arith;
    }
completed (Some n)
    (main ∷ []) each first = record {
      each = (each.0, (nmi_is_proc, tt));
      order =
          (first, refl, record { kind = tt; rising = tt });
      few = λ few. omega arith;
    }
completed (Some n) (main ∷ nmi ∷ subs) each first = record {
  each = all_nil (AllByRecursion IsProc) (main ∷ nmi ∷ subs) each;
  order = all_nil (AreInOrder (Some n)) (main ∷ nmi ∷ subs) first;
  few = all_nil (λ ps. length ps ≤ 1024) (main ∷ nmi ∷ subs);
}

-- after the stage of the procedures, what was read is a certificate
certificate_behind_procs : (p : ReaderView) → IsOrdered p → 5 < stage_rank p.stage → IsCertificate p.contents
certificate_behind_procs p h late = record {
  version = h.version;
  rom_len = h.rom_len;
  region = h.region;
  budget = h.budget;
  procs = h.procs;
  order = h.all_procs late;
  splits = h.splits;
  inlines = h.inlines;
  cells = h.cells;
  rows = h.rows;
}

-- at the end it is one in form
pub whole_in_form : (p : ReaderView) → IsProgress p → p.stage ≡ stages.Nothing → IsInForm p.contents
whole_in_form p h at =
    let rank : stage_rank p.stage ≡ 10 = ap stage_rank at in
    record { certificate = certificate_behind_procs p (ordered p h) (omega arith); limits = h.limits }

abbrev with_procs : CertificateView → CertificateView
with_procs d = record d { procs = d.procs ++ missing_procs d.budget d.procs }

-- up to the procedures, what was read with the missing procedures is a certificate
certificate_with_procs : (p : ReaderView) → IsOrdered p → stage_rank p.stage ≤ 5 → IsCertificate (with_procs p.contents)
certificate_with_procs p h early =
    let d = p.contents in
    let new = with_procs d in
    let splits : d.splits ≡ [] = h.no_splits (omega arith) in
    let rows : d.rows ≡ [] = h.no_rows (omega arith) in
    let all = completed d.budget d.procs h.procs h.first_procs in
    record {
      version = suits_again d.version d new refl refl h.version;
      rom_len = h.rom_len;
      region = h.region;
      budget = h.budget;
      procs = all.each;
      order = all.order;
      splits = subst (AreSplits (length new.procs)) (sym splits) record { each = tt; rising = tt };
      inlines = h.inlines;
      cells = h.cells;
      rows = subst (AreRows d.version (length new.procs) (length d.cells)) (sym rows) record { each = tt; rising = tt };
    }

limits_with_procs : (p : ReaderView) → IsOrdered p → IsWithinLimits p.contents → IsWithinLimits (with_procs p.contents)
limits_with_procs p h limits = record {
  procs = (completed p.contents.budget p.contents.procs h.procs h.first_procs).few limits.procs;
  splits = limits.splits;
  inlines = limits.inlines;
  cells = limits.cells;
  rows = limits.rows;
  short = limits.short;
}

head_front : (s : Stage) (d : CertificateView) (tail : List Line) → stage_rank s < 5 →
    (rest : List Line) × (head_lines d ++ tail ≡ lines_before s d ++ rest)
head_front stages.Header d tail early = (_, refl)
head_front stages.Rom d tail early = (_, refl)
head_front stages.Board d tail early = (_, refl)
head_front stages.Stack d tail early = (
  _,
  ap (λ ls. lines.Header d.version ∷ lines.Rom d.rom_len ∷ ls)
      (append_assoc (board_lines d.version d.board) (lines.Stack d.region ∷ lines.Budget d.budget ∷ []) tail),
)
head_front stages.Budget d tail early = (
  lines.Budget d.budget ∷ tail,
  ap (λ ls. lines.Header d.version ∷ lines.Rom d.rom_len ∷ ls)
      (append_assoc (board_lines d.version d.board) (lines.Stack d.region ∷ lines.Budget d.budget ∷ []) tail
      ∙ sym (append_assoc (board_lines d.version d.board) (lines.Stack d.region ∷ []) (lines.Budget d.budget ∷ tail))),
)
head_front _ d tail early = absurd (omega arith)

procs_front : (d : CertificateView) (xs : List Proc) → d.splits ≡ [] → d.inlines ≡ [] → d.cells ≡ [] → d.rows ≡ [] →
    list_lines (record d { procs = d.procs ++ xs }) ++ lines.End ∷ [] ≡ list_lines d ++ (map lines.Proc xs ++ lines.End ∷ [])
procs_front d xs splits inlines cells rows =
    let after = map lines.Split d.splits ++
    (map lines.Inline d.inlines ++ (map lines.Cell d.cells ++ map lines.Row d.rows)) in
    let none : after ≡ [] = rw (splits, inlines, cells, rows) refl in
    ap (λ ls. (map lines.Proc (d.procs ++ xs) ++ ls) ++ lines.End ∷ []) none
    ∙ ap (λ ls. ls ++ lines.End ∷ []) (append-nil (map lines.Proc (d.procs ++ xs)) ∙ map-append lines.Proc d.procs xs)
    ∙ append_assoc (map lines.Proc d.procs) (map lines.Proc xs) (lines.End ∷ [])
    ∙ ap (λ ls. ls ++ (map lines.Proc xs ++ lines.End ∷ []))
    (sym (append-nil (map lines.Proc d.procs)) ∙ ap (λ ls. map lines.Proc d.procs ++ ls) (sym none))

-- a certificate that begins with the lines that were read, and has no more rows
pub record IsCompletion (p : ReaderView) (c : CertificateView) : Type 0 where
  pub certificate : IsCertificate c
  pub limits : IsWithinLimits p.contents → IsWithinLimits c
  pub version : c.version ≡ p.contents.version
  pub rows : c.rows ≡ p.contents.rows
  pub rest : List Line
  pub lines : lines_of c ≡ lines_read p ++ rest

pub completes : (p : ReaderView) → IsOrdered p → (c : CertificateView) × IsCompletion p c
completes p h =
    let d = p.contents in
    elim (cases_lt (stage_rank p.stage) 6) [
      | inl early ↦
          let new = with_procs d in
          let rest : (rest : List Line) × (lines_of new ≡ lines_read p ++ rest) =
          elim (cases_lt (stage_rank p.stage) 5) [
            | inl before ↦ head_front p.stage d (list_lines new ++ lines.End ∷ []) before
            | inr at ↦ (
              map lines.Proc (missing_procs d.budget d.procs) ++ lines.End ∷ [],
              ap (λ ls. head_lines d ++ ls)
                  (procs_front d (missing_procs d.budget d.procs) (h.no_splits (omega arith)) (h.no_inlines (omega arith))
                  (h.no_cells (omega arith)) (h.no_rows (omega arith)))
                  ∙ sym (append_assoc (head_lines d) (list_lines d)
                  (map lines.Proc (missing_procs d.budget d.procs) ++ lines.End ∷ []))
                  ∙ ap (λ ls. ls ++ (map lines.Proc (missing_procs d.budget d.procs) ++ lines.End ∷ []))
                  (sym (at_lists p.stage d at (omega arith))),
            )
          ] in (
            new,
            record {
              certificate = certificate_with_procs p h (omega arith);
              limits = limits_with_procs p h;
              version = refl;
              rows = refl;
              rest = rest.0;
              lines = rest.1;
            },
          )
      | inr late ↦ elim (cases_lt (stage_rank p.stage) 10) [
        | inl before ↦ (
          d,
          record {
            certificate = certificate_behind_procs p h (omega arith);
            limits = λ limits. limits;
            version = refl;
            rows = refl;
            rest = lines.End ∷ [];
            lines = sym (append_assoc (head_lines d) (list_lines d) (lines.End ∷ []))
                ∙ ap (λ ls. ls ++ lines.End ∷ []) (sym (at_lists p.stage d (omega arith) (omega arith)));
          },
        )
        | inr last ↦ (
          d,
          record {
            certificate = certificate_behind_procs p h (omega arith);
            limits = λ limits. limits;
            version = refl;
            rows = refl;
            rest = [];
            lines = sym (append-nil (lines_of d)) ∙ ap (λ s. lines_before s d ++ []) (sym (nothing_stage p.stage last));
          },
        )
      ]
    ]

-- it is in form if the counts of what was read are within their limits
pub completion_in_form : (p : ReaderView) (c : CertificateView) → IsProgress p → IsCompletion p c → IsInForm c
completion_in_form p c h is = record { certificate = is.certificate; limits = is.limits h.limits }

-- a certificate's first lines are those that were read
pub completion_begins : (p : ReaderView) (c : CertificateView) → IsCompletion p c →
    take (length (lines_read p)) (lines_of c) ≡ lines_read p
completion_begins p c is = ap (take (length (lines_read p))) is.lines
    ∙ take_at (lines_read p) is.rest (length (lines_read p)) refl

pub completion_within : (p : ReaderView) (c : CertificateView) → IsCompletion p c → length (lines_read p) ≤ length (lines_of c)
completion_within p c is = omega (arith, ap length is.lines, length-append (lines_read p) is.rest)
