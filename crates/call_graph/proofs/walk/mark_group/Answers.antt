use Rattle.std.proofs.Common.{rules, ◌≡◌, ◌≢◌, ℕ, ◌+◌, ◌<◌, ◌≤◌, inl, inr, ap, sym, ◌∙◌, arith, length, set, slice_index, sum_by, below_more, get_or-set_same, get_or-set_other, length-set}
use Rattle.std.proofs.lemmas.Bool.{cases_eq}
use Rattle.std.proofs.lemmas.List.Sums.{sum_by-set}
use Rattle.call_graph.specs.Walk.{mark_at, mark_work}
use Rattle.call_graph.specs.declared.walk.Mark.TheVariants.{Unseen, Done}
use Rattle.call_graph.proofs.walk.mark_group.Goals as goal

pub loop-proc-preserved : goal.loop-proc-preserved
loop-proc-preserved c =
    let kept = c.loop-proc.invariant in
    let marks = c.loop-proc.marks in
    let procs = c.args.procs.now in
    let index : ℕ = c.loop-proc.proc-index in
    let p : ℕ = slice_index procs index in
    let done = Done c.args.group in
    let fits : p < 65536 = search rules in
    let room : length marks ≡ 65536 = kept.room in
    let inside : p < length marks = omega arith in
    rw c.from.ensures (record {
      room = length-set marks p done ∙ room;
      each = λ q. elim (cases_eq q p) [
        | inl e ↦ inl (index, omega arith, sym e, ap (mark_at (set marks p done)) e ∙ get_or-set_same marks p done Unseen inside)
        | inr ne ↦ elim (kept.each q) [
          | inl z ↦ inl (z.0, let l : z.0 < index = z.1 in omega arith, z.2, get_or-set_other marks p q done Unseen ne ∙ z.3)
          | inr z ↦ inr (get_or-set_other marks p q done Unseen ne ∙ z.0, below_more (λ i. slice_index procs i ≢ q) index z.1 (λ e. ne (sym e)))
        ]
      ];
      less = λ count.
          let old : sum_by (mark_work count) marks ≤ sum_by (mark_work count) c.args.marks.now = kept.less count in
          let new : sum_by (mark_work count) (set marks p done) + mark_work count (mark_at marks p) ≡ sum_by (mark_work count) marks + 0 = sum_by-set (mark_work count) marks p done Unseen inside in
          omega arith;
    })

pub returns-clause-each : goal.returns-clause-each
returns-clause-each c =
    let all : length c.args.procs.now ≡ c.loop-proc.proc-index = search rules in
    rw all c.loop-proc.invariant.each

pub returns-clause-less : goal.returns-clause-less
returns-clause-less c = c.loop-proc.invariant.less
