-- The reduced diagram from a room that is zero: how the walk starts, and what is left in output and room.
use Prim.Native.Nat.{ℕ, zero, suc, ◌+◌, ◌-◌, ◌*◌, ◌≤◌, ◌<◌, min, max}
use mathlib.Core.Path.{◌≡◌, refl, sym, ap, ◌∙◌, subst}
use mathlib.Core.List.{List, ◌++◌}
use native.Mathlib.Omega.{arith}
use native.Mathlib.Decide.{ℕ_discrete, dec_lt}
use lib.ListN.{length, get_or, set, take, drop, replicate, length-append, length-drop, length-replicate, take-append-drop, get_or-append}
use lib.Seq.{get_or-set_same, get_or-set_other, get_or-take, get_or-drop, get_or-append-add, ext_get_or, length-take-le}
use Rattle.diagram.specs.Limits.{max_nodes}
use Rattle.diagram.specs.Diagram.{size, vars, root, holds}
use Rattle.diagram.specs.Verdict.{most as most-of}
use Rattle.diagram.proofs.Reading.{layered, root_in}
use Rattle.store.specs.Store.{Node, words, Built, terminals}
use Rattle.store.specs.Build.{Held, own}
use Rattle.store.specs.Room.{farthest, store_to, word_in, memo_in, store_in, Stored, Empty, Started, On, Walking, Arrived, Walked}
use Rattle.store.proofs.Store.{length_words, size_words}
use Rattle.store.proofs.Sound.{sound_terminals}
use Rattle.store.proofs.Graph.{own_means}
use Rattle.store.proofs.Tables.{take_words, memo_start}
use Rattle.store.proofs.Joining.{stands}
use Rattle.reduction.specs.Reduce.{reduce}
use Rattle.reduction.specs.Room.{memo_from, Copied, Asked, Placed, Shelved, Lent, Answered}
use Rattle.reduction.proofs.Reached.{canon_last}
use Rattle.reduction.proofs.Rooted.{reduce_own, reduce_is}
use Rattle.reduction.proofs.Fewest.{store_fits}
use Rattle.reduction.proofs.Canonical.{reduce_size}

-- ---- lists that begin with zeros

abbrev zeros : ℕ → List ℕ
zeros k = replicate k 0

zero_at : (k j : ℕ) → get_or (zeros k) j 0 ≡ 0
zero_at zero j = refl
zero_at (suc k) zero = refl
zero_at (suc k) (suc j) = zero_at k j

-- Zeros written where zeros stood.
zeros_again : (k : ℕ) (r s : List ℕ) → length s ≡ length r → k ≤ length r → ((j : ℕ) → j < k → get_or r j 0 ≡ 0)
    → ((j : ℕ) → k ≤ j → get_or s j 0 ≡ get_or r j 0) → zeros (min k (length s)) ++ drop k s ≡ r
zeros_again k r s same fits none kept =
    let all : min k (length s) ≡ k = omega arith in
    let front : length (zeros k) ≡ k = length-replicate k 0 in
    let sizes : length (zeros k ++ drop k s) ≡ length r = simp (length-append, length-drop, length-replicate) (omega arith) in
    rw all (ext_get_or 0 (zeros k ++ drop k s) r sizes (λ j h. elim (dec_lt j k) [
      | yes before ↦ get_or-append (zeros k) (drop k s) 0 j (omega arith) ∙ zero_at k j ∙ sym (none j before)
      | no after ↦
          let place : length (zeros k) + (j - k) ≡ j = omega arith in
          let back : k + (j - k) ≡ j = omega arith in
          ap (λ (i : ℕ). get_or (zeros k ++ drop k s) i 0) (sym place)
          ∙ get_or-append-add (zeros k) (drop k s) (j - k) 0
          ∙ get_or-drop k s (j - k) 0
          ∙ ap (λ (i : ℕ). get_or s i 0) back
          ∙ kept j (omega arith)
    ]))

-- ---- the whole

module _ {w r : List ℕ} {c n v : ℕ} (a : Asked w r c n v) {m : ℕ} (is_m : m ≡ max n 2) where
  most_is : m ≡ most-of w
  most_is = is_m ∙ ap (λ (k : ℕ). max k 2) a.is_size

  pub lent_few : m ≤ max_nodes
  lent_few = let e = most_is in let few = a.ordered.formed.few in omega arith

  pub lent_some : 0 < n
  lent_some = let e = a.is_size in let some = a.ordered.formed.some in omega arith

  pub make_empty : Empty m c r
  make_empty =
      let few = lent_few in
      rw most_is (record { space = record { near = rw most_is at (lent_near few); few = a.few; long = a.long }; two = a.two; heads = a.heads })
    where
      lent_near : m ≤ max_nodes → m ≤ farthest
      lent_near few = omega arith

  module _ {s : List ℕ} (started : Started m c v r s) (same_s : length s ≡ length r) where
    on_start : On w memo_from m c (terminals (vars w)) s
    on_start =
        let is_most = most_is in
        let long = a.long in
        record {
          ordered = a.ordered;
          sound = sound_terminals (vars w);
          stored = subst (λ (x : ℕ). Stored m c (terminals x) s) a.is_vars started.stored;
          near = omega arith;
          inside = omega arith;
          apart = λ p h i in-i e. omega arith;
          noted = memo_start w (vars w) (size w) (terminals (vars w)) (memo_in memo_from s)
              (λ p h. started.beyond (memo_from + p) (λ i in-i e. omega arith) ∙ a.memo p h);
        }

    first_store : store_in m s 2 ≡ terminals (vars w)
    first_store = stands m c (terminals (vars w)) s on_start.stored 2 refl

    pub walk_start : {p : ℕ} → p ≡ n - 1 → Walking w memo_from m c s 2 p
    walk_start {p} e =
        let at_root : p ≡ root w = e ∙ ap (λ (k : ℕ). k - 1) a.is_size in
        rw at_root (record { on = rw first_store on_start; node = root_in w a.ordered })

    -- what is built
    whole : Built
    whole = own w (vars w) (root w) (terminals (vars w))

    pointer_in : whole.pointer < length whole.store
    unfolding whole
    pointer_in = (own_means w (vars w) (size w) (layered w a.ordered) (root w) (root_in w a.ordered) (terminals (vars w)) (sound_terminals (vars w))).place

    result : words (take (suc whole.pointer) whole.store) ≡ reduce w
    unfolding whole
    result = sym (reduce_is w a.ordered)

    taken : length (take (suc whole.pointer) whole.store) ≡ suc whole.pointer
    taken = length-take-le (suc whole.pointer) whole.store pointer_in

    result_nodes : size (reduce w) ≡ suc whole.pointer
    result_nodes = ap (λ (l : List ℕ). size l) (sym result) ∙ size_words (take (suc whole.pointer) whole.store) ∙ taken

    result_length : length (reduce w) ≡ 3 * suc whole.pointer
    result_length = ap length (sym result) ∙ length_words (take (suc whole.pointer) whole.store) ∙ ap (λ (k : ℕ). 3 * k) taken

    -- The root is the last node, unless there are only the terminals.
    pointer_last : 2 < length whole.store → suc whole.pointer ≡ length whole.store
    unfolding whole
    pointer_last = rw (reduce_own w a.ordered) at (canon_last (vars w) (vars w) 0 (holds w) (terminals (vars w)) (sound_terminals (vars w)) (omega arith))

    whole_fits : length whole.store ≤ most-of w
    unfolding whole
    whole_fits = store_fits w a.ordered

    module _ {p : ℕ} (is-p : p ≡ n - 1) {t : List ℕ} {x k : ℕ} (walked : Walked w memo_from m c s 2 p t x k) where
      made : own w (vars w) p (store_in m s 2) ≡ whole
      unfolding whole
      made =
          let at_root : p ≡ root w = is-p ∙ ap (λ (k : ℕ). k - 1) a.is_size in
          rw (at_root, first_store) refl

      told_count : k ≡ min (length whole.store) (suc c)
      told_count = walked.is_count ∙ ap (λ (b : Built). min (length b.store) (suc c)) made

      module _ (same : length t ≡ length r) where
        kept_beyond : (j : ℕ) → store_to (most-of w) c ≤ j → get_or t j 0 ≡ get_or r j 0
        kept_beyond j far =
            let is_most = most_is in
            walked.beyond j (λ i h e. omega arith) (λ i h e. omega arith) ∙ started.beyond j (λ i h e. omega arith)

        pub make_full : c < k → Shelved w r t c (c + 1)
        make_full over =
            let is = told_count in
            let two = a.two in
            let last = pointer_last (omega arith) in
            let nodes = result_nodes in
            record { count = omega arith; placed = λ h. absurd (omega arith); kept = same; beyond = kept_beyond }

        module _ (few : k ≤ c) where
          arrived : Arrived w memo_from m c s 2 p t x
          arrived = walked.arrived few

          store_few : length whole.store ≤ c
          store_few = let is = told_count in omega arith

          is_pointer : x ≡ whole.pointer
          is_pointer = arrived.is_pointer ∙ ap (λ (b : Built). b.pointer) made

          pub answer_small : x < max_nodes
          answer_small =
              let e = is_pointer in
              let inside = pointer_in in
              let fits = store_few in
              let most = a.few in
              omega arith

          stored : take (3 * suc whole.pointer) (drop (most-of w) t) ≡ reduce w
          stored =
              let held = arrived.on.stored.held in
              let inside = pointer_in in
              let fits = store_few in
              let long = a.long in
              let rest = length-drop (most-of w) t in
              take_words whole.store (word_in m t) (subst (λ (b : Built). Held b.store (word_in m t)) made held) (drop (most-of w) t) (suc whole.pointer) inside (omega arith)
              (λ j h. get_or-drop (most-of w) t j 0 ∙ ap (λ (i : ℕ). get_or t (i + j) 0) (sym most_is))
              ∙ result

          pub make_ends : {y : ℕ} → y ≡ x + 1 → Shelved w r t c y
          make_ends {y} e =
              let is = is_pointer in
              let is_y : y ≡ suc whole.pointer = omega arith in
              let nodes = result_nodes in
              let inside = pointer_in in
              let fits = store_few in
              let least = whole_fits in
              rw is_y (record {
                count = omega arith;
                placed = λ h. record { words = result_length; fits = omega arith; store = stored };
                kept = same;
                beyond = kept_beyond;
              })

-- ---- copying

-- One word more has been copied.
pub copy_more : (r out : List ℕ) (from i x : ℕ) → x ≡ get_or r (from + i) 0 → i < length out → ((j : ℕ) → j < i → get_or out j 0 ≡ get_or r (from + j) 0)
    → (j : ℕ) → j < i + 1 → get_or (set out i x) j 0 ≡ get_or r (from + j) 0
copy_more r out from i x e inside below j h = elim (ℕ_discrete j i) [
  | yes same ↦ rw same (get_or-set_same out i x 0 inside ∙ e)
  | no other ↦ get_or-set_other out i j x 0 other ∙ below j (omega arith)
]

-- Words that were copied, as lists.
pub copied_front : {r before after : List ℕ} {from k : ℕ} → Copied r from before after k → k ≤ length after → from + k ≤ length r
    → take k after ≡ take k (drop from r)
copied_front {r} {before} {after} {from} {k} c fits room =
    let rest = length-drop from r in
    let there : k ≤ length (drop from r) = omega arith in
    ext_get_or 0 (take k after) (take k (drop from r)) (length-take-le k after fits ∙ sym (length-take-le k (drop from r) there))
    (λ j h.
    let inside : j < k = rw (length-take-le k after fits) at h in
    rw (get_or-take k after j 0 inside, get_or-take k (drop from r) j 0 inside, get_or-drop from r j 0) (c.first j inside))

-- The made words are copied, and the tables cleared. There are as many places as the array has nodes, so none is missing.
module _ {w r out : List ℕ} {n v : ℕ} (lent : Lent w r out n v) {m : ℕ} (is_m : m ≡ max n 2) where
  pub lent_most : m ≡ most-of w
  lent_most = most_is lent.asked is_m

  pub lent_asked : Asked w r m n v
  lent_asked = rw lent_most lent.asked

  module _ {t : List ℕ} {c : ℕ} (made : Shelved w r t m c) where
    never_full : c ≤ m
    never_full = let e = made.count in let least = reduce_size w lent.asked.ordered in let is_most = lent_most in omega arith

    placed : Placed w t c
    placed = made.placed never_full

    pub answer_fits : 3 * c ≤ length out
    answer_fits = let fits = placed.fits in let room = lent.output in omega arith

    pub answer_inside : max (size w) 2 + 3 * c ≤ length t
    answer_inside = let fits = placed.fits in let long = lent.asked.long in let same = made.kept in omega arith

    module _ {out' : List ℕ} (kept : length out' ≡ length out) (copied : Copied t (max (size w) 2) out out' (3 * c)) where
      front : take (3 * c) out' ≡ reduce w
      front =
          let fits = answer_fits in
          let few = placed.fits in
          let long = lent.asked.long in
          let same = made.kept in
          copied_front copied (omega arith) (omega arith) ∙ placed.store

      pub answer_ends : {u : List ℕ} → u ≡ replicate (min (store_to m m) (length t)) 0 ++ drop (store_to m m) t → Answered w r out u out' c
      answer_ends e =
          let is_most = lent_most in
          let long = lent.asked.long in
          let fits = never_full in
          record {
            count = let e = made.count in omega arith;
            room = e ∙ zeros_again (store_to m m) r t made.kept (omega arith) (λ j h. lent.zero j (omega arith)) (λ j far. made.beyond j (omega arith));
            output = sym (take-append-drop (3 * c) out') ∙ (rw (front, copied.rest, placed.words) refl);
          }
