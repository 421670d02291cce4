-- The answer to a size target that takes no search, and what a search begins with.
use Prim.Native.Nat.{ℕ, ◌-◌, ◌*◌, ◌≤◌, ◌<◌}
use mathlib.Core.Path.{◌≡◌, sym, ap, ◌∙◌}
use mathlib.Core.List.{List}
use native.Mathlib.Omega.{arith}
use lib.ListN.{length, take}
use Rattle.diagram.specs.Limits.{max_nodes}
use Rattle.diagram.specs.Diagram.{size, vars}
use Rattle.diagram.specs.Verdict.{most}
use Rattle.diagram.proofs.Tests.{by-eq}
use Rattle.room_map.specs.Map.{weights_to, search_to}
use Rattle.approximation.specs.Constants.{false_of}
use Rattle.approximation.specs.Search.{answer, size_search, under_to_size}
use Rattle.approximation.proofs.Targets.{to_size_none, to_size_false, to_size_search}
use Rattle.cuts.proofs.Rooms.{drop_more}
use Rattle.trials.specs.Trials.{Searching, Preparing, Prepared, Found}
use Rattle.trials.proofs.Early.{searching_ordered}
use Rattle.size_search.specs.Search.{Halving}

module _ {w r : List ℕ} {n v : ℕ} (a : Searching w r n v) where
  -- ---- the early rule

  module _ {t : ℕ} where
    pub size_none : t ≤ 2 → t < n → under_to_size w t ≡ answer (false_of (vars w)) 0
    size_none h more =
        let is = a.is_size in
        by-eq t 2
        (λ two. to_size_false w t two (λ e. omega arith))
        (λ ne. to_size_none w t (omega arith))

    -- ---- the search

    module _ (least : 2 < t) (more : t < n) where
      pub searching_prepares : Preparing w r n v
      searching_prepares =
          let is = a.is_size in
          let long = a.long in
          record { ordered = searching_ordered a; is_size = is; is_vars = a.is_vars; many = omega arith; long = omega arith }

      module _ {s : List ℕ} (p : Prepared w r s) where
        pub prepared_halves : {sent : List ℕ} → 3 * max_nodes ≤ length sent → Halving w sent s t n v
        prepared_halves long-sent =
            let few = (searching_ordered a).formed.few in
            let whole = (searching_ordered a).formed.whole in
            let is = a.is_size in
            let long = a.long in
            let kept = p.kept in
            record {
              ordered = searching_ordered a;
              is_size = is;
              is_vars = a.is_vars;
              least = least;
              more = more;
              copy = omega arith;
              long = omega arith;
              ready = p.ready;
            }

        pub searched_found : {after : List ℕ} {k trials : ℕ} → Found w (size_search w t (n - t) 0 (n - t) 0) s after k trials → Found w (under_to_size w t) r after k trials
        searched_found {after} {k} {trials} f =
            let is = a.is_size in
            let e : size_search w t (n - t) 0 (n - t) 0 ≡ under_to_size w t =
            ap (λ (i : ℕ). size_search w t (i - t) 0 (i - t) 0) is ∙ sym (to_size_search w t least (omega arith)) in
            rw (sym e) (record {
              trials = f.trials;
              count = f.count;
              words = f.words;
              fits = f.fits;
              kept = f.kept ∙ p.kept;
              made = f.made;
              beyond = f.beyond ∙ drop_more (weights_to (size w)) (search_to (most w)) s r (omega arith) p.beyond;
            })
