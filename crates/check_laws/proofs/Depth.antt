-- The words of a chain keep within its lowest activation's depth and what lies under them.
use Rattle.std.proofs.Common.{◌≡◌, ◌≤◌, ◌+◌, ◌*◌, ℕ, Bool, List, [], ◌∷◌, ◌++◌, length, length-append, sym, ap, subst, arith}
use Rattle.intervals.specs.Domain.{Entry}
use Rattle.board_laws.specs.Region.{HasRoom}
use Rattle.board_laws.specs.Words.{on_top}
use Rattle.board_laws.proofs.WordLaws.{on_top-length}
use Rattle.abs_step.specs.Contained.{IsUnder}
use Rattle.check_cover.specs.Program.{is_main}
use Rattle.check_cover.specs.declared.program.Callee.{Callee}
use Rattle.cert_form.specs.Contents.{CertificateView}
use Rattle.check_rules.specs.Table.{IsTimed, entry_bytes}
use Rattle.check_laws.specs.Chain.{Chain, Waiting, waiting_words}
use Rattle.check_laws.specs.Placed.{Under}

module _ (rom : List ℕ) (cert : CertificateView) (lowest : Callee) (first : Entry) where
  pub chain_depth : (running : Callee) (entry : Entry) (ws : List Waiting) → Chain rom cert lowest first running entry ws
      → 2 * length (waiting_words ws) + running.proc.depth + entry_bytes lowest.proc.kind ≤ lowest.proc.depth + entry_bytes running.proc.kind
  unfolding Chain waiting_words
  chain_depth running entry [] c = subst (λ (p : Callee). 2 * 0 + p.proc.depth + entry_bytes lowest.proc.kind ≤ lowest.proc.depth + entry_bytes p.proc.kind) (sym c.0) (omega arith)
  chain_depth running entry (w ∷ ws) c =
      let h = chain_depth w.of w.entry ws c.1 in
      let count : length (on_top w.saw.words (waiting_words ws)) ≡ length w.saw.words + length (waiting_words ws) = on_top-length w.saw.words (waiting_words ws) in
      let two : entry_bytes running.proc.kind ≡ 2 = ap entry_bytes c.0.sub in
      let deep = c.0.deep in
      omega arith

  pub chain_under : (running : Callee) (entry : Entry) (ws : List Waiting) (under : List ℕ) → Chain rom cert lowest first running entry ws → IsUnder (is_main lowest.number) under
      → IsUnder (is_main running.number) (waiting_words ws ++ under)
  unfolding Chain waiting_words
  chain_under running entry [] under c h = subst (λ (p : Callee). IsUnder (is_main p.number) under) (sym c.0) h
  chain_under running entry (w ∷ ws) under c h = subst (λ (b : Bool). IsUnder b (w.resume ∷ (on_top w.saw.words (waiting_words ws) ++ under))) (sym c.0.not_main) tt

  -- each activation of a chain has a time if the lowest has
  pub chain_timed : (running : Callee) (entry : Entry) (ws : List Waiting) → Chain rom cert lowest first running entry ws → IsTimed lowest.proc → IsTimed running.proc
  unfolding Chain
  chain_timed running entry [] c t = subst (λ (p : Callee). IsTimed p.proc) (sym c.0) t
  chain_timed running entry (w ∷ ws) c t = c.0.timed (chain_timed w.of w.entry ws c.1 t)

  -- if a number of words of the running activation fits its depth, all words fit the region
  pub room_by : (running : Callee) (entry : Entry) (ws : List Waiting) (under : List ℕ) → Chain rom cert lowest first running entry ws → Under cert lowest under → (k : ℕ)
      → entry_bytes running.proc.kind + 2 * k ≤ running.proc.depth → HasRoom cert.region (k + length (waiting_words ws ++ under))
  room_by running entry ws under c u k fits =
      let h = chain_depth running entry ws c in
      let len : length (waiting_words ws ++ under) ≡ length (waiting_words ws) + length under = length-append (waiting_words ws) under in
      let room = u.room in
      omega arith
