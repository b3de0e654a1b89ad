-- The tests of the data writes that are left; each of them may arm a cell.
use Rattle.std.proofs.Common.{◌≡◌, ◌+◌, ◌<◌, ◌≤◌, ◌↔◌, ℕ, List, true, drop, take, get_or, length, sym, subst}
use Rattle.std.proofs.lemmas.List.{drop_all}
use Rattle.abs_draft.specs.Ground.{GroundView, armed_after, may_enable}
use Rattle.abs_draft.specs.declared.data_write.DataWrite.{DataWrite}
use Rattle.abs_laws.specs.Writes.{AllKeep, KeepsCells}
use Rattle.check_writes.specs.Writes.{FindsArmed}
use Rattle.check_writes.proofs.Lists.{next_left}

pub keep_next : (g : GroundView) (armed n : ℕ) (ws : List DataWrite) (w : DataWrite) → n < length ws → w ≡ get_or ws n w →
    AllKeep g armed (drop n ws) ↔ (KeepsCells g.map (take armed g.cells) w × AllKeep g (armed_after g w armed) (drop (n + 1) ws))
unfolding AllKeep
keep_next g armed n ws w within is =
    ((λ all. subst (AllKeep g armed) (next_left ws n w within is) all), λ both. subst (AllKeep g armed) (sym (next_left ws n w within is)) both)

pub keep_none : (g : GroundView) (armed n : ℕ) (ws : List DataWrite) → length ws ≤ n → AllKeep g armed (drop n ws)
unfolding AllKeep
keep_none g armed n ws past = subst (AllKeep g armed) (sym (drop_all n ws past)) tt

pub find_next : (g : GroundView) (armed n : ℕ) (ws : List DataWrite) (w : DataWrite) → n < length ws → w ≡ get_or ws n w →
    FindsArmed g armed (drop n ws) ↔ ((may_enable g.map w ≡ true → length g.cells ≤ armed) × FindsArmed g (armed_after g w armed) (drop (n + 1) ws))
unfolding FindsArmed
find_next g armed n ws w within is =
    ((λ all. subst (FindsArmed g armed) (next_left ws n w within is) all), λ both. subst (FindsArmed g armed) (sym (next_left ws n w within is)) both)

pub find_none : (g : GroundView) (armed n : ℕ) (ws : List DataWrite) → length ws ≤ n → FindsArmed g armed (drop n ws)
unfolding FindsArmed
find_none g armed n ws past = subst (FindsArmed g armed) (sym (drop_all n ws past)) tt
