-- The search for a size, step by step.
use Prim.Native.Nat.{ℕ, suc, ◌+◌, ◌-◌, ◌*◌, ◌≤◌, ◌<◌}
use mathlib.Core.Path.{◌≡◌, refl, sym, ap, ◌∙◌}
use mathlib.Core.List.{List}
use native.Mathlib.Omega.{arith}
use native.Mathlib.Numerals.{add-one}
use lib.ListN.{length, take, drop}
use Rattle.diagram.specs.Diagram.{size}
use Rattle.diagram.specs.Verdict.{most}
use Rattle.room_map.specs.Map.{answer_from, tables_to, search_to}
use Rattle.approximation.specs.Search.{Answer, answer, cut_first, middle, size_search}
use Rattle.approximation.proofs.Search.{search_last, search_exact, search_fewer, search_more}
use Rattle.cuts.proofs.Rooms.{drop_more}
use Rattle.trials.specs.Trials.{Ready, Trying, Tried, Found}
use Rattle.trials.specs.First.{Limited, TriedWithin}
use Rattle.size_search.specs.Search.{Halving, At}

-- ---- the definition's steps

module _ (w : List ℕ) (t c : ℕ) where
  pub at_start : At w t c 0 c 0
  at_start =
      let all : c - 0 ≡ c = omega arith in
      record { within = omega arith; most = omega arith; tried = omega arith; left = omega arith; same = rw all refl }

  module _ {start stop trials : ℕ} (a : At w t c start stop trials) where
    pub at_last : stop ≤ start → size_search w t c 0 c 0 ≡ answer (cut_first w stop) (trials + 1)
    at_last h = a.same ∙ search_last w t (c - trials) start stop trials h ∙ ap (λ (k : ℕ). answer (cut_first w stop) k) (sym (add-one trials))

    module _ (h : start < stop) where
      pub at_room : trials < c
      at_room = let l = a.left in omega arith

      fuel_is : c - trials ≡ suc (c - (trials + 1))
      fuel_is = let r = at_room in omega arith

      goes_on : size_search w t c 0 c 0 ≡ size_search w t (suc (c - (trials + 1))) start stop trials
      goes_on = a.same ∙ ap (λ (k : ℕ). size_search w t k start stop trials) fuel_is

      pub at_exact : size (cut_first w (middle start stop)) ≡ t → size_search w t c 0 c 0 ≡ answer (cut_first w (middle start stop)) (trials + 1)
      at_exact e =
          goes_on ∙ search_exact w t (c - (trials + 1)) start stop trials h e
          ∙ ap (λ (k : ℕ). answer (cut_first w (middle start stop)) k) (sym (add-one trials))

      pub at_fewer : size (cut_first w (middle start stop)) < t → At w t c start (middle start stop) (trials + 1)
      at_fewer e =
          let room = at_room in
          let m = a.most in
          let l = a.left in
          record {
            within = omega arith;
            most = omega arith;
            tried = omega arith;
            left = omega arith;
            same = goes_on ∙ search_fewer w t (c - (trials + 1)) start stop trials h e
                ∙ ap (λ (k : ℕ). size_search w t (c - (trials + 1)) start (middle start stop) k) (sym (add-one trials));
          }

      pub at_more : t < size (cut_first w (middle start stop)) → At w t c (middle start stop + 1) stop (trials + 1)
      at_more e =
          let room = at_room in
          let m = a.most in
          let l = a.left in
          record {
            within = omega arith;
            most = m;
            tried = omega arith;
            left = omega arith;
            same = goes_on ∙ search_more w t (c - (trials + 1)) start stop trials h e
                ∙ ap (λ (k : ℕ). size_search w t (c - (trials + 1)) (suc (middle start stop)) stop k) (sym (add-one trials))
                ∙ ap (λ (k : ℕ). size_search w t (c - (trials + 1)) k stop (trials + 1)) (sym (add-one (middle start stop)));
          }

-- ---- the room

-- Priorities are there, and nothing beyond the tables has changed.
pub record Kept (w r s : List ℕ) : Type 0 where
  pub ready : Ready w s
  pub kept : length s ≡ length r
  pub beyond : drop (tables_to (size w)) s ≡ drop (tables_to (size w)) r

module _ {w sent r : List ℕ} {t n v : ℕ} (a : Halving w sent r t n v) where
  pub kept_start : Kept w r r
  kept_start = record { ready = a.ready; kept = refl; beyond = refl }

  module _ {s : List ℕ} (k : Kept w r s) where
    pub halving_tries : {c : ℕ} {sent' : List ℕ} → length sent' ≡ length sent → c ≤ n - t → Trying w sent' s c n v
    halving_tries same h =
        let least = a.least in
        let more = a.more in
        let copy = a.copy in
        let long = a.long in
        let kept = k.kept in
        record {
          ordered = a.ordered;
          is_size = a.is_size;
          is_vars = a.is_vars;
          many = omega arith;
          few = omega arith;
          copy = omega arith;
          long = omega arith;
          ready = k.ready;
        }

    pub halving_limited : {c : ℕ} {sent' : List ℕ} → length sent' ≡ length sent → c ≤ n - t → Limited w sent' s t c n v
    halving_limited same h =
        let least = a.least in
        let more = a.more in
        record { trying = halving_tries same h; two = omega arith; within = omega arith }

    pub kept_on : {c m : ℕ} {u : List ℕ} → TriedWithin w t c s u m → Kept w r u
    kept_on x = record { ready = x.ready; kept = x.kept ∙ k.kept; beyond = x.beyond ∙ k.beyond }

    module _ {c m : ℕ} {u : List ℕ} (x : Tried w c s u m) where
      is_most : most w ≡ size w
      is_most = let least = a.least in let more = a.more in let is = a.is_size in omega arith

      -- It is the answer.
      pub halving_found : {b : Answer} {trials : ℕ} → b ≡ answer (cut_first w c) trials → Found w b r u m trials
      halving_found {b} {trials} e =
          let m_is = is_most in
          rw e (record {
            trials = refl;
            count = x.count;
            words = x.words;
            fits = x.fits;
            kept = x.kept ∙ k.kept;
            made = ap (λ (i : ℕ). take (3 * m) (drop (answer_from i) u)) m_is ∙ x.made;
            beyond =
                ap (λ (i : ℕ). drop (search_to i) u) m_is
                ∙ drop_more (tables_to (size w)) (search_to (size w)) u r (omega arith) (x.beyond ∙ k.beyond)
                ∙ ap (λ (i : ℕ). drop (search_to i) r) (sym m_is);
          })
