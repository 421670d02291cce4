-- The walk that enters pairs in the table: what each call may rest on, and each of its returns.
use Prim.Native.Nat.{ℕ, suc, ◌-◌, ◌≤◌, ◌<◌}
use mathlib.Core.Path.{◌≡◌, refl, sym, ap, ◌∙◌}
use mathlib.Core.Bool.{Bool, true, false}
use mathlib.Core.List.{List, [], ◌∷◌, ◌++◌}
use native.Mathlib.Omega.{arith}
use native.Mathlib.Decide.{dec_lt}
use lib.ListN.{length}
use Rattle.std.specs.Prelude.{Option, Some, None}
use Rattle.diagram.specs.Limits.{max_nodes}
use Rattle.diagram.specs.Diagram.{vars}
use Rattle.diagram.specs.Reading.{pass}
use Rattle.diagram.proofs.Tests.{by_test, not_both}
use Rattle.pairs.specs.Pairs.{Pair, pair, level_of, next, ended, met, meet_from}
use Rattle.pairs.specs.Table.{key_in, key_of, at, Space, Linked, Sought, Adding, Added, Tabled, Alike, Walking, Met, Walked}
use Rattle.pairs.proofs.Entries.{entered_tabled, entered_here}
use Rattle.pairs.proofs.Levels.{Inside, level_below, next_in_lem, next_above}
use Rattle.pairs.proofs.Meeting.{one_more, pair_ext, in_met, met_in, at_in, in_at, meet_met, meet_end, meet_longer, meet_prefix, from_on}

-- a pair's word tells the pair
pub key_tells : (x y : Pair) → x.second < max_nodes → y.second < max_nodes → key_of x ≡ key_of y → x ≡ y
key_tells x y l m e = pair_ext x y (omega arith) (omega arith)

-- the pair that a step leads to
pub next_is : (a b : List ℕ) (x : Pair) (bit : Bool) {i p q : ℕ} → i ≡ level_of a b x → p ≡ pass a i x.first bit → q ≡ pass b i x.second bit
    → pair p q ≡ next a b x bit
next_is a b x bit {i} {p} {q} ei ep eq =
    ap (λ (y : ℕ). pair y q) (ep ∙ ap (λ (j : ℕ). pass a j x.first bit) ei)
    ∙ ap (λ (y : ℕ). pair (pass a (level_of a b x) x.first bit) y) (eq ∙ ap (λ (j : ℕ). pass b j x.second bit) ei)

-- pairs that stand in a table of so many
tabled_linked : {a b : List ℕ} {c : ℕ} {s : List Pair} {t : List ℕ} {k : ℕ} → Space c t → Tabled a b c s t → length s ≡ k → Linked c t k
tabled_linked space tabled e = rw (← e) (record { space = space; fits = tabled.standing.fits; chains = tabled.chains })

module _ {a b : List ℕ} {c : ℕ} {t : List ℕ} {k : ℕ} {x : Pair} (w : Walking a b c t k x) where
  alike : Alike a b
  alike = w.alike

  inside : Inside a b x
  inside = record { first = w.first; second = w.second }

  pub walk_linked : Linked c t k
  walk_linked = tabled_linked w.space w.tabled w.count

  pub walk_small : (x.first < max_nodes) × (x.second < max_nodes)
  walk_small = (
    omega (arith, w.first, w.alike.first.formed.few),
    omega (arith, w.second, w.alike.second.formed.few),
  )

  -- ---- a pair that is there already, or isn't

  module _ {s : List Pair} (tabled : Tabled a b c s t) (count : length s ≡ k) where
    here_is : (i : ℕ) → i < k → key_in c t i ≡ key_of x → at s i ≡ x
    here_is i l e =
        let there = (tabled.standing.settled i (omega arith)).second in
        let few = w.alike.second.formed.few in
        key_tells (at s i) x (omega arith) walk_small.1 (sym (tabled.standing.held i (omega arith)) ∙ e)

    known : {r : Option ℕ} → Sought c t k (key_of x) r → {i : ℕ} → r ≡ Some i → Met a b c (meet_from a b x s) t x i k
    known found {i} there =
        let l = (found.here i there).0 in
        let is = here_is i l (found.here i there).1 in
        let fits = tabled.standing.fits in
        let e = meet_met a b (vars a) x s (in_met x s (rw (← is) (at_in s i (omega arith)))) in
        rw e (record {
          is_count = omega arith;
          arrived = λ few. record { tabled = tabled; inside = omega arith; here = is };
        })

    unknown : {r : Option ℕ} → Sought c t k (key_of x) r → r ≡ None → met x s ≡ false
    unknown found none = by_test (met x s)
        (λ e.
        let i = in_at x s (met_in x s e) in
        absurd (found.absent none i.0 (omega (arith, i.1)) (tabled.standing.held i.0 i.1 ∙ ap key_of i.2)))
        (λ e. e)

  pub walk_known : {r : Option ℕ} {key : ℕ} → key ≡ key_of x → Sought c t k key r → {i : ℕ} → r ≡ Some i → Walked a b c t k x t i k
  walk_known e found there = record { meets = λ s tabled count. known tabled count (rw e at found) there }

  -- ---- one pair more, behind the pairs s' that stand in a table

  added : (s s' : List Pair) (t₁ : List ℕ) (k₁ low high : ℕ) → Space c t₁ → Tabled a b c s' t₁ → length s' ≡ k₁
      → meet_from a b x s ≡ s' ++ (x ∷ [])
      → (ended x ≡ false → low < k₁) → (ended x ≡ false → at s' low ≡ next a b x false)
      → (ended x ≡ false → high < k₁) → (ended x ≡ false → at s' high ≡ next a b x true)
      → {t₂ : List ℕ} {place k₂ : ℕ} → Added c t₁ k₁ x low high t₂ place k₂ → Met a b c (meet_from a b x s) t₂ x place k₂
  added s s' t₁ k₁ low high space tabled count is low_before low_is high_before high_is {t₂} {place} {k₂} d =
      let long = one_more s' x in
      let fits = tabled.standing.fits in
      rw is (elim (dec_lt k₁ c) [
        | yes free ↦
            let e = d.stands free in
            let e₀ = e.0 in
            let e₁ = e.1 in
            record {
              is_count = omega arith;
              arrived = λ few. rw (e.2, e.0) (record {
                tabled = entered_tabled c t₁ k₁ (key_of x) low high space free tabled count refl w.first w.second low_before low_is high_before high_is;
                inside = omega arith;
                here = entered_here c t₁ k₁ (key_of x) low high space free tabled count refl w.first w.second low_before low_is high_before high_is;
              });
            }
        | no full ↦
            let e = d.full (omega arith) in
            record { is_count = omega arith; arrived = λ few. absurd (omega arith) }
      ])

  module _ {r : Option ℕ} {key : ℕ} (is_key : key ≡ key_of x) (found : Sought c t k key r) (absent : r ≡ None) where
    new : {s : List Pair} → Tabled a b c s t → length s ≡ k → met x s ≡ false
    new tabled count = unknown tabled count (rw is_key at found) absent

    pub walk_end_asks : Adding c t k x 0 0
    walk_end_asks = record { linked = walk_linked; first = walk_small.0; second = walk_small.1; low_small = omega arith; high_small = omega arith }

    pub walk_end : ended x ≡ true → {t₂ : List ℕ} {place k₂ : ℕ} → Added c t k x 0 0 t₂ place k₂ → Walked a b c t k x t₂ place k₂
    walk_end f {t₂} {place} {k₂} d = record {
      meets = λ s tabled count.
          added s s t k 0 0 w.space tabled count (meet_end a b (vars a) x s (new tabled count) f)
          (λ e. absurd (not_both (ended x) f e)) (λ e. absurd (not_both (ended x) f e))
          (λ e. absurd (not_both (ended x) f e)) (λ e. absurd (not_both (ended x) f e)) d;
    }

    -- ---- the children

    module _ (f : ended x ≡ false) where
      pub walk_falls : (bit : Bool) {y : Pair} → y ≡ next a b x bit → vars a - level_of a b y < vars a - level_of a b x
      walk_falls bit {y} e =
          let up = next_above a b alike x inside f bit in
          let below = level_below a b alike x inside f in
          rw e (omega arith)

      abbrev low-from : List Pair → List Pair
      low-from s = meet_from a b (next a b x false) s

      abbrev high-from : List Pair → List Pair
      high-from s = meet_from a b (next a b x true) (low-from s)

      pub walk_low : {y : Pair} → y ≡ next a b x false → Walking a b c t k y
      walk_low e = rw e (record {
        alike = w.alike;
        space = w.space;
        first = (next_in_lem a b alike x inside false).first;
        second = (next_in_lem a b alike x inside false).second;
        pairs = w.pairs;
        tabled = w.tabled;
        count = w.count;
      })

      whole : {s : List Pair} → Tabled a b c s t → length s ≡ k → meet_from a b x s ≡ high-from s ++ (x ∷ [])
      whole {s} tabled count = from_on a b alike x s inside (new tabled count) f

      module _ {y : Pair} (is-low : y ≡ next a b x false) {t₁ : List ℕ} {l k₁ : ℕ} (low : Walked a b c t k y t₁ l k₁) where
        low_met : {s : List Pair} → Tabled a b c s t → length s ≡ k → Met a b c (low-from s) t₁ (next a b x false) l k₁
        low_met {s} tabled count = rw is-low at (low.meets s tabled count)

        pub walk_low_full : c < k₁ → Walked a b c t k x t₁ l k₁
        walk_low_full over = record {
          meets = λ s tabled count.
              let is = (low_met tabled count).is_count in
              let longer = meet_longer a b (suc (vars a)) (next a b x true) (low-from s) in
              let more = one_more (high-from s) x in
              rw (whole tabled count) (record { is_count = omega arith; arrived = λ few. absurd (omega arith) });
        }

        module _ (few-low : k₁ ≤ c) (same : length t₁ ≡ length t) where
          low_count : {s : List Pair} → Tabled a b c s t → length s ≡ k → length (low-from s) ≡ k₁
          low_count tabled count = let is = (low_met tabled count).is_count in omega arith

          low_tabled : {s : List Pair} → Tabled a b c s t → length s ≡ k → Tabled a b c (low-from s) t₁
          low_tabled tabled count = ((low_met tabled count).arrived few-low).tabled

          low_space : Space c t₁
          low_space = record { some = w.space.some; few = w.space.few; long = omega (arith, w.space.long) }

          pub walk_high : {z : Pair} → z ≡ next a b x true → Walking a b c t₁ k₁ z
          walk_high e = rw e (record {
            alike = w.alike;
            space = low_space;
            first = (next_in_lem a b alike x inside true).first;
            second = (next_in_lem a b alike x inside true).second;
            pairs = low-from w.pairs;
            tabled = low_tabled w.tabled w.count;
            count = low_count w.tabled w.count;
          })

          module _ {z : Pair} (is-high : z ≡ next a b x true) {t₂ : List ℕ} {h k₂ : ℕ} (high : Walked a b c t₁ k₁ z t₂ h k₂) where
            high_met : {s : List Pair} → Tabled a b c s t → length s ≡ k → Met a b c (high-from s) t₂ (next a b x true) h k₂
            high_met {s} tabled count = rw is-high at (high.meets (low-from s) (low_tabled tabled count) (low_count tabled count))

            pub walk_high_full : c < k₂ → Walked a b c t k x t₂ h k₂
            walk_high_full over = record {
              meets = λ s tabled count.
                  let is = (high_met tabled count).is_count in
                  let more = one_more (high-from s) x in
                  rw (whole tabled count) (record { is_count = omega arith; arrived = λ few. absurd (omega arith) });
            }

            module _ (few-high : k₂ ≤ c) (same₂ : length t₂ ≡ length t₁) where
              high_count : {s : List Pair} → Tabled a b c s t → length s ≡ k → length (high-from s) ≡ k₂
              high_count tabled count = let is = (high_met tabled count).is_count in omega arith

              high_tabled : {s : List Pair} → Tabled a b c s t → length s ≡ k → Tabled a b c (high-from s) t₂
              high_tabled tabled count = ((high_met tabled count).arrived few-high).tabled

              high_space : Space c t₂
              high_space = record { some = w.space.some; few = w.space.few; long = omega (arith, w.space.long) }

              low_place : {s : List Pair} → Tabled a b c s t → length s ≡ k → l < k₁
              low_place tabled count = let in-low = ((low_met tabled count).arrived few-low).inside in let is = low_count tabled count in omega arith

              high_place : {s : List Pair} → Tabled a b c s t → length s ≡ k → h < k₂
              high_place tabled count = let in-high = ((high_met tabled count).arrived few-high).inside in let is = high_count tabled count in omega arith

              grown : {s : List Pair} → Tabled a b c s t → length s ≡ k → k₁ ≤ k₂
              grown {s} tabled count =
                  let longer = meet_longer a b (suc (vars a)) (next a b x true) (low-from s) in
                  let is = low_count tabled count in
                  let is₂ = high_count tabled count in
                  omega arith

              low_here : {s : List Pair} → Tabled a b c s t → length s ≡ k → at (high-from s) l ≡ next a b x false
              low_here {s} tabled count =
                  let there = (low_met tabled count).arrived few-low in
                  meet_prefix a b (suc (vars a)) (next a b x true) (low-from s) l there.inside ∙ there.here

              pub walk_asks : Adding c t₂ k₂ x l h
              walk_asks =
                  let few = w.space.few in
                  let in-low = low_place w.tabled w.count in
                  let in-high = high_place w.tabled w.count in
                  record {
                    linked = tabled_linked high_space (high_tabled w.tabled w.count) (high_count w.tabled w.count);
                    first = walk_small.0;
                    second = walk_small.1;
                    low_small = omega arith;
                    high_small = omega arith;
                  }

              pub walk_node : {t₃ : List ℕ} {place k₃ : ℕ} → Added c t₂ k₂ x l h t₃ place k₃ → Walked a b c t k x t₃ place k₃
              walk_node d = record {
                meets = λ s tabled count.
                    let in-low = low_place tabled count in
                    let in-high = high_place tabled count in
                    let more = grown tabled count in
                    added s (high-from s) t₂ k₂ l h high_space (high_tabled tabled count) (high_count tabled count) (whole tabled count)
                    (λ e. omega arith) (λ e. low_here tabled count)
                    (λ e. in-high) (λ e. ((high_met tabled count).arrived few-high).here) d;
              }
