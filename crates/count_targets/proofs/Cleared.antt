-- What was counted is cleared away: the room is as it was.
use Prim.Native.Nat.{ℕ, min, max}
use mathlib.Core.Path.{◌≡◌, sym, ap, ◌∙◌}
use mathlib.Core.List.{List, ◌++◌}
use native.Mathlib.Omega.{arith}
use lib.ListN.{length, drop, replicate}
use Rattle.diagram.specs.Verdict.{most}
use Rattle.approximation.specs.Search.{Answer}
use Rattle.room_map.specs.Map.{counts_to}
use Rattle.cuts.proofs.Rooms.{zeros_back}
use Rattle.count_search.specs.Rounds.{Counted}
use Rattle.targets.specs.Hits.{Targeting, Hit}

module _ {w r out : List ℕ} {n v : ℕ} (a : Targeting w r out n v) {heads b count : List ℕ} (x : Counted w heads r b count) {m : ℕ} (is_m : m ≡ max n 2) {c : List ℕ}
    (e : c ≡ replicate (min (counts_to m) (length b)) 0 ++ drop (counts_to m) b) where
  cleared : c ≡ r
  cleared =
      let m_is : m ≡ most w = is_m ∙ ap (λ (k : ℕ). max k 2) a.is_size in
      let long = a.long in
      e ∙ zeros_back (counts_to m) r b (omega arith) (λ j h. a.zero j (omega arith)) x.kept
      (ap (λ (i : ℕ). drop (counts_to i) b) m_is ∙ x.beyond ∙ ap (λ (i : ℕ). drop (counts_to i) r) (sym m_is))

  pub cleared_targets : Targeting w c out n v
  cleared_targets = rw cleared a

  pub cleared_hits : {d : Answer} {u out' : List ℕ} {k trials : ℕ} → Hit d c u out out' k trials → Hit d r u out out' k trials
  cleared_hits h = rw cleared at h
