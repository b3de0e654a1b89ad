-- Lists of lines that agree, as far as they go.
use Rattle.std.proofs.Common.{◌≡◌, ◌≤◌, ◌<◌, ◌⊎◌, ℕ, ◌∷◌, [], ◌++◌, List, length, map, drop, refl, sym, ap, subst, inl, inr, arith, length-append}
use Rattle.std.specs.List.{AllByRecursion}
use Rattle.cert_lines.specs.declared.line.Line.{Line}
use Rattle.cert_lines.specs.declared.line.Line.TheVariants as lines
use Rattle.cert_form.specs.Form.{Follow}

pub all_push : {X : Type 0} (P : X → Type 0) (xs : List X) (x : X) → AllByRecursion P xs → P x →
    AllByRecursion P (xs ++ x ∷ [])
all_push P [] x all one = (one, tt)
all_push P (y ∷ xs) x all one = (all.0, all_push P xs x all.1 one)

pub all_append : {X : Type 0} (P : X → Type 0) (xs ys : List X) → AllByRecursion P xs → AllByRecursion P ys →
    AllByRecursion P (xs ++ ys)
all_append P [] ys first last = last
all_append P (x ∷ xs) ys first last = (first.0, all_append P xs ys first.1 last)

pub all_front : {X : Type 0} (P : X → Type 0) (xs ys : List X) → AllByRecursion P (xs ++ ys) → AllByRecursion P xs
all_front P [] ys all = tt
all_front P (x ∷ xs) ys all = (all.0, all_front P xs ys all.1)

pub all_at : {X : Type 0} (P : X → Type 0) (xs : List X) (y : X) (ys : List X) → AllByRecursion P (xs ++ y ∷ ys) → P y
all_at P [] y ys all = all.0
all_at P (x ∷ xs) y ys all = all_at P xs y ys all.1

pub all_map : {X Y : Type 0} (P : X → Type 0) (Q : Y → Type 0) (f : X → Y) → ((x : X) → P x → Q (f x)) → (xs : List X) →
    AllByRecursion P xs → AllByRecursion Q (map f xs)
all_map P Q f each [] all = tt
all_map P Q f each (x ∷ xs) all = (each x all.0, all_map P Q f each xs all.1)

pub all_every : {X Y : Type 0} (Q : Y → Type 0) (f : X → Y) → ((x : X) → Q (f x)) → (xs : List X) →
    AllByRecursion Q (map f xs)
all_every Q f each [] = tt
all_every Q f each (x ∷ xs) = (each x, all_every Q f each xs)

pub all_both : {X : Type 0} (P Q R : X → Type 0) → ((x : X) → P x → Q x → R x) → (xs : List X) → AllByRecursion P xs →
    AllByRecursion Q xs → AllByRecursion R xs
all_both P Q R join [] ps qs = tt
all_both P Q R join (x ∷ xs) ps qs = (join x ps.0 qs.0, all_both P Q R join xs ps.1 qs.1)

pub follow_front : {X : Type 0} (R : X → X → Type 0) (xs ys : List X) → Follow R (xs ++ ys) → Follow R xs
follow_front R [] ys follow = tt
follow_front R (x ∷ []) ys follow = tt
follow_front R (x ∷ y ∷ xs) ys follow = (follow.0, follow_front R (y ∷ xs) ys follow.1)

pub same_cons : {X : Type 0} (x y : X) (xs ys : List X) → x ≡ y → xs ≡ ys → x ∷ xs ≡ y ∷ ys
same_cons x y xs ys e f = cc

-- the kinds of lines in their order
abbrev pub line_rank : Line → ℕ
line_rank (lines.Header version) = 0
line_rank (lines.Rom len) = 1
line_rank (lines.Board board) = 2
line_rank (lines.Stack region) = 3
line_rank (lines.Budget budget) = 4
line_rank (lines.Proc proc) = 5
line_rank (lines.Split split) = 6
line_rank (lines.Inline address) = 7
line_rank (lines.Cell cell) = 8
line_rank (lines.Row row) = 9
line_rank lines.End = 10

-- the first line, if there is one, is of this kind or of a later one
abbrev pub BeginsFrom : ℕ → List Line → Type 0
BeginsFrom rank [] = Unit {0}
BeginsFrom rank (line ∷ others) = rank ≤ line_rank line

pub begins_earlier : (low high : ℕ) (ls : List Line) → low ≤ high → BeginsFrom high ls → BeginsFrom low ls
begins_earlier low high [] order begins = tt
begins_earlier low high (line ∷ ls) order begins = omega (arith, begins)

pub begins_map : {X : Type 0} (F : X → Line) (rank : ℕ) → ((x : X) → rank ≤ line_rank (F x)) →
    (xs : List X) (rest : List Line) → BeginsFrom rank rest → BeginsFrom rank (map F xs ++ rest)
begins_map F rank late [] rest begins = begins
begins_map F rank late (x ∷ xs) rest begins = late x

-- one list has one more element, with whose line the tail begins
pub record Longer {X : Type 0} (F : X → Line) (xs ys : List X) (tail : List Line) : Type 0 where
  pub next : X
  pub more : List X
  pub rest : List Line
  pub begins : tail ≡ F next ∷ rest
  pub longer : xs ≡ (ys ++ next ∷ []) ++ more

pub longer_length : {X : Type 0} (F : X → Line) (xs ys : List X) (tail : List Line) → Longer F xs ys tail →
    length ys < length xs
longer_length F xs ys tail l = omega
    (arith, ap length l.longer, length-append (ys ++ l.next ∷ []) l.more, length-append ys (l.next ∷ []))

-- the same with another tail that begins so
pub with_tail : {X : Type 0} (F : X → Line) (xs ys : List X) (tail other : List Line) (l : Longer F xs ys tail) →
    other ≡ F l.next ∷ l.rest → Longer F xs ys other
with_tail F xs ys tail other l begins =
    record { next = l.next; more = l.more; rest = l.rest; begins = begins; longer = l.longer }

-- lines of one kind are the same on both sides, or one side continues
pub peel : {X : Type 0} (F : X → Line) (rank : ℕ) → ((x y : X) → F x ≡ F y → x ≡ y) → ((x : X) → line_rank (F x) < rank) →
    (xs ys : List X) (behind tail : List Line) →
    BeginsFrom rank behind → map F xs ++ behind ≡ map F ys ++ tail → ((xs ≡ ys) × (behind ≡ tail)) ⊎ Longer F xs ys tail
peel F rank same early [] [] behind tail begins e = inl (refl, e)
peel F rank same early (x ∷ xs) [] behind tail begins e =
    inr record { next = x; more = xs; rest = map F xs ++ behind; begins = sym e; longer = refl }
peel F rank same early [] (y ∷ ys) behind tail begins e =
    let late : rank ≤ line_rank (F y) = subst (BeginsFrom rank) e begins in
    absurd (omega (arith, early y))
peel F rank same early (x ∷ xs) (y ∷ ys) behind tail begins e =
    let one : x ≡ y = same x y (cc) in
    elim (peel F rank same early xs ys behind tail begins (ap (drop 1) e)) [
      | inl both ↦ inl (same_cons x y xs ys one both.0, both.1)
      | inr l ↦ inr record {
        next = l.next;
        more = l.more;
        rest = l.rest;
        begins = l.begins;
        longer = same_cons x y xs ((ys ++ l.next ∷ []) ++ l.more) one l.longer;
      }
    ]

-- lines of another kind than the first are none
pub skip : {X : Type 0} (F : X → Line) (line : Line) → ((x : X) → F x ≡ line → ⊥) →
    (xs : List X) (rest others : List Line) → map F xs ++ rest ≡ line ∷ others → (xs ≡ []) × (rest ≡ line ∷ others)
skip F line other [] rest others e = (refl, e)
skip F line other (x ∷ xs) rest others e = absurd (other x (cc))
