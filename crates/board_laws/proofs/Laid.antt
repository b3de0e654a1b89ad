-- Words that are pushed, popped, exchanged and read, byte by byte.
use Rattle.std.proofs.Common.{◌≡◌, ◌<◌, ◌≤◌, ◌+◌, ◌-◌, ◌*◌, ℕ, Bool, true, List, ◌∷◌, length, sym, ap, subst, ◌∙◌, arith}
use Rattle.address_map.specs.AddressMap.{MapView}
use Rattle.address_map.specs.declared.region.Region.{Region}
use Rattle.z80_alu.specs.Word.{high_of, low_of, word_of}
use Rattle.z80_draft.specs.Draft.{above, below, word_read}
use Rattle.board_step.specs.Context.{ContextView}
use Rattle.board_step.specs.Memory.{stored}
use Rattle.board_step.specs.Reads.{byte_of_class, byte_read, outside_of}
use Rattle.board_step.specs.State.{BoardView}
use Rattle.board_laws.specs.Region.{HasRoom, IsStackRegion}
use Rattle.board_laws.specs.Words.{work_byte, Lays}
use Rattle.board_laws.proofs.Bytes.{byte_kept, byte_stored, region_class, stored_same}
use Rattle.board_laws.proofs.WordLaws.{halves, lays-kept, lays-sp}

below_is : (word n : ℕ) → n ≤ word → 1 ≤ n → word < 65536 → below word n ≡ word - n
below_is word n le some lt = omega arith

above_is : (word n : ℕ) → word + n < 65536 → above word n ≡ word + n
above_is word n lt = omega arith

-- where words lie in a region with room for them, SP is in the region
pub record Placed (region : Region) (sp count : ℕ) : Type 0 where
  pub low : region.low ≤ sp
  pub is : sp + 2 * count ≡ region.top

pub placed : (map : MapView) (region : Region) (s : BoardView) (sp : ℕ) (words : List ℕ) → IsStackRegion map region → HasRoom region (length words) → Lays s sp region.top words
    → Placed region sp (length words)
placed map region s sp words r room l =
    let some = r.some in
    let is = lays-sp s sp region.top words l in
    record { low = omega arith; is = is }

-- both bytes of a pushed word lie in the region
pub record Below (region : Region) (sp : ℕ) : Type 0 where
  pub fits : sp < 65536
  pub room : region.low + 2 ≤ sp
  pub top : sp ≤ region.top
  pub high : below sp 1 ≡ sp - 1
  pub low : below sp 2 ≡ sp - 2

pub below_words : (map : MapView) (region : Region) (s : BoardView) (sp : ℕ) (words : List ℕ) → IsStackRegion map region → HasRoom region (1 + length words) → Lays s sp region.top words
    → Below region sp
below_words map region s sp words r room l =
    let some = r.some in
    let top : region.top < 65536 = r.top_fits in
    let is = lays-sp s sp region.top words l in
    record { fits = omega arith; room = omega arith; top = omega arith; high = below_is sp 1 (omega arith) (omega arith) (omega arith); low = below_is sp 2 (omega arith) (omega arith) (omega arith) }

-- the high byte below SP, then the low byte below it
pub push_lays : (map : MapView) (region : Region) (s : BoardView) (sp word : ℕ) (words : List ℕ) → IsStackRegion map region → length s.work ≡ 0x400
    → HasRoom region (1 + length words) → Lays s sp region.top words
    → Lays (stored map (below sp 2) (low_of word) (stored map (below sp 1) (high_of word) s)) (below sp 2) region.top (word ∷ words)
unfolding Lays
push_lays map region s sp word words r size room l =
    let b = below_words map region s sp words r room l in
    let fits : sp < 65536 = b.fits in
    let free : region.low + 2 ≤ sp = b.room in
    let top : sp ≤ region.top = b.top in
    let b1 : below sp 1 ≡ sp - 1 = b.high in
    let b2 : below sp 2 ≡ sp - 2 = b.low in
    let mid : BoardView = stored map (below sp 1) (high_of word) s in
    let new : BoardView = stored map (below sp 2) (low_of word) mid in
    let up : below sp 2 + 2 ≡ sp = omega arith in
    let next : below sp 2 + 1 ≡ below sp 1 = omega arith in
    let sized : length mid.work ≡ 0x400 = (stored_same map (below sp 1) (high_of word) s).work ∙ size in (
      byte_stored map region r (below sp 2) (low_of word) mid sized (omega arith) (omega arith),
      byte_kept map region r (below sp 2) (low_of word) (below sp 2 + 1) mid (omega arith) (omega arith) (omega arith) (omega arith) (λ e. omega arith) ∙ ap (work_byte mid) next ∙ byte_stored map region r (below sp 1) (high_of word) s size (omega arith) (omega arith),
      subst (λ (n : ℕ). Lays new n region.top words) (sym up)
          (lays-kept s new sp region.top words (λ x from to.
          byte_kept map region r (below sp 2) (low_of word) x mid (omega arith) (omega arith) (omega arith) (omega arith) (λ e. omega arith) ∙ byte_kept map region r (below sp 1) (high_of word) x s (omega arith) (omega arith) (omega arith) (omega arith) (λ e. omega arith)) l),
    )

-- both bytes of the word at SP lie in the region
pub record AtSp (region : Region) (sp : ℕ) : Type 0 where
  pub low : region.low ≤ sp
  pub top : sp + 2 ≤ region.top
  pub next : above sp 1 ≡ sp + 1
  pub behind : above sp 2 ≡ sp + 2

pub at_sp : (map : MapView) (region : Region) (s : BoardView) (sp word : ℕ) (words : List ℕ) → IsStackRegion map region → HasRoom region (1 + length words) → Lays s sp region.top (word ∷ words)
    → AtSp region sp
unfolding Lays
at_sp map region s sp word words r room l =
    let some = r.some in
    let top : region.top < 65536 = r.top_fits in
    let is : (sp + 2) + 2 * length words ≡ region.top = lays-sp s (sp + 2) region.top words l.2 in
    record { low = omega arith; top = omega arith; next = above_is sp 1 (omega arith); behind = above_is sp 2 (omega arith) }

-- a pop
pub pop_lays : (map : MapView) (region : Region) (s : BoardView) (sp word : ℕ) (words : List ℕ) → IsStackRegion map region → HasRoom region (1 + length words)
    → Lays s sp region.top (word ∷ words) → Lays s (above sp 2) region.top words
unfolding Lays
pop_lays map region s sp word words r room l =
    let a = at_sp map region s sp word words r room l in
    subst (λ (n : ℕ). Lays s n region.top words) (sym a.behind) l.2

-- the low byte at SP, then the high byte after it
pub exchange_lays : (map : MapView) (region : Region) (s : BoardView) (sp old word : ℕ) (words : List ℕ) → IsStackRegion map region → length s.work ≡ 0x400
    → HasRoom region (1 + length words) → Lays s sp region.top (old ∷ words)
    → Lays (stored map (above sp 1) (high_of word) (stored map sp (low_of word) s)) sp region.top (word ∷ words)
unfolding Lays
exchange_lays map region s sp old word words r size room l =
    let a = at_sp map region s sp old words r room l in
    let low : region.low ≤ sp = a.low in
    let top : sp + 2 ≤ region.top = a.top in
    let up : above sp 1 ≡ sp + 1 = a.next in
    let mid : BoardView = stored map sp (low_of word) s in
    let new : BoardView = stored map (above sp 1) (high_of word) mid in
    let sized : length mid.work ≡ 0x400 = (stored_same map sp (low_of word) s).work ∙ size in (
      byte_kept map region r (above sp 1) (high_of word) sp mid (omega arith) (omega arith) (omega arith) (omega arith) (λ e. omega arith) ∙ byte_stored map region r sp (low_of word) s size (omega arith) (omega arith),
      ap (work_byte new) (sym up) ∙ byte_stored map region r (above sp 1) (high_of word) mid sized (omega arith) (omega arith),
      lays-kept s new (sp + 2) region.top words (λ x from to.
          byte_kept map region r (above sp 1) (high_of word) x mid (omega arith) (omega arith) (omega arith) (omega arith) (λ e. omega arith) ∙ byte_kept map region r sp (low_of word) x s (omega arith) (omega arith) (omega arith) (omega arith) (λ e. omega arith)) l.2,
    )

-- a byte of the region is read from its cell
byte_found : (c : ContextView) (region : Region) (later : Bool) (at : ℕ) → IsStackRegion c.hardware.map region → region.low ≤ at → at < region.top → byte_read c later at ≡ work_byte c.state at
unfolding byte_read
byte_found c region later at r from to = ap (λ k. byte_of_class k.read c later at) (region_class c.hardware.map region r at from to)

-- the word at SP is read, whatever the environment
pub word_found : (c : ContextView) (region : Region) (later : Bool) (sp word : ℕ) (words : List ℕ) → IsStackRegion c.hardware.map region → HasRoom region (1 + length words)
    → Lays c.state sp region.top (word ∷ words) → word_read (outside_of c) later sp ≡ word
unfolding Lays
word_found c region later sp word words r room l =
    let a = at_sp c.hardware.map region c.state sp word words r room l in
    let low : region.low ≤ sp = a.low in
    let top : sp + 2 ≤ region.top = a.top in
    let up : above sp 1 ≡ sp + 1 = a.next in
    let first : byte_read c later sp ≡ low_of word = byte_found c region later sp r low (omega arith) ∙ l.0 in
    let next : byte_read c true (above sp 1) ≡ high_of word = byte_found c region true (above sp 1) r (omega arith) (omega arith) ∙ ap (work_byte c.state) up ∙ l.1 in
    ap (λ (n : ℕ). word_of n (byte_read c later sp)) next ∙ ap (λ (n : ℕ). word_of (high_of word) n) first ∙ halves word
