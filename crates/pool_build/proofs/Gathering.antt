-- The conditions of the slots, one after the other: each of the returns of the two functions that build them.
use Prim.Native.Nat.{ℕ, suc, ◌+◌, ◌-◌, ◌≤◌, ◌<◌, min}
use mathlib.Core.Path.{◌≡◌, refl, sym, ap, ◌∙◌}
use mathlib.Core.Logic.{◌≢◌}
use mathlib.Core.List.{List, [], ◌∷◌, ◌++◌, append_assoc}
use native.Mathlib.Omega.{arith}
use native.Mathlib.Decide.{dec_lt}
use lib.ListN.{length, get_or, set, take, drop, length-set, take-append-drop}
use lib.Seq.{slice, slice-cons, slice_empty, set-get_or, take-set-lt, drop-set-lt, take-suc-set, get_or-set_other}
use Rattle.diagram.specs.Limits.{max_nodes}
use Rattle.diagram.specs.Diagram.{size, vars}
use Rattle.diagram.proofs.Reading.{layered}
use Rattle.store.specs.Store.{Node, Built}
use Rattle.store.specs.Build.{own}
use Rattle.store.specs.Room.{word_in, Walking, Walked}
use Rattle.store.proofs.Graph.{own_means}
use Rattle.store.proofs.Tables.{nodes_length}
use Rattle.store.proofs.Joining.{stands}
use borrow.Author.Tests.{eq-eqb, ne_eqb}
use Rattle.pool.specs.Walked.{walked_words}
use Rattle.pool.specs.Pool.{terminal_words, Slot, slot_of, held, placed, named, gather, names}
use Rattle.pool.proofs.Walked.{canon_own}
use Rattle.pool.proofs.Gathered.{slot_empty, slot_live, held_cons, held_nil, placed_empty, placed_live, named_empty, named_live, gather_nil, gather_cons, gather_grows, names_nil, names_cons}
use Rattle.pool_build.specs.Work.{store_from, table_memo, built, Standing, Behind, Naming, Slotted, Gathered}

-- ---- the part that is walked

pub walks_ends : (t : List ℕ) → vars t ≡ 0 → terminal_words ≡ walked_words t
unfolding walked_words
walks_ends t e = simp (eq-eqb (vars t) 0 e)

pub walks_all : (t : List ℕ) → vars t ≢ 0 → length t ≡ walked_words t
unfolding walked_words
walks_all t ne = simp (ne_eqb (vars t) 0 ne)

-- ---- what stands there

-- What has been built stands there as so many nodes.
pub stands_there : {w : List ℕ} {c : ℕ} {o : List Node} {r : List ℕ} {count : ℕ} → Standing w c o r → count ≡ min (length o) (suc c) → count ≤ c → built r count ≡ o
stands_there {w} {c} {o} {r} {count} a e few = stands store_from c o r a.stored count (omega arith)

pub built_length : (r : List ℕ) (count : ℕ) → length (built r count) ≡ count
built_length r count = nodes_length (word_in store_from r) count

pub standing_fits : {w : List ℕ} {c : ℕ} {r : List ℕ} {count : ℕ} → Standing w c (built r count) r → count ≤ c
standing_fits {w} {c} {r} {count} a = let fits = a.stored.fits in let all = built_length r count in omega arith

-- ---- one slot

module _ {w : List ℕ} {c count k : ℕ} {n r : List ℕ} (a : Standing w c (built r count) r) (naming : Naming w k (suc k) n) where
  -- an empty slot adds nothing
  pub slot_stays : {x : ℕ} → x ≡ get_or n k 0 → x ≡ 0 → Slotted w c count k n r n r count × Behind r r
  slot_stays e none =
      let is : get_or n k 0 ≡ 0 = sym e ∙ none in
      let here : slot_of w (get_or n k 0) ≡ slot_of w 0 = ap (slot_of w) is in
      let made : placed (vars w) (slot_of w (get_or n k 0)) (built r count) ≡ built r count =
      ap (λ (s : Slot). placed (vars w) s (built r count)) (here ∙ slot_empty w) ∙ placed_empty (vars w) (built r count) in
      let word : named (vars w) (slot_of w (get_or n k 0)) (built r count) ≡ get_or n k 0 =
      ap (λ (s : Slot). named (vars w) s (built r count)) (here ∙ slot_empty w) ∙ named_empty (vars w) (built r count) ∙ sym is in
      let all = ap length made ∙ built_length r count in
      let fits = standing_fits a in (
        record {
          is_count = omega arith;
          standing = λ few. rw made a;
          names = λ few. rw word (sym (set-get_or n k 0));
        },
        λ j far. refl,
      )

  module _ {x : ℕ} (e : x ≡ get_or n k 0) (some : x ≢ 0) where
    pub slot_walks : Walking w table_memo store_from c r count (x - 1)
    slot_walks = record { on = a; node = let inside = naming.inside k (omega arith) (omega arith) in omega arith }

    module _ {r' : List ℕ} {p count' : ℕ} (walked : Walked w table_memo store_from c r count (x - 1) r' p count') where
      mine : Built
      mine = own w (vars w) (x - 1) (built r count)

      pub slot_small : p < max_nodes
      unfolding mine
      slot_small = elim (dec_lt c count') [
        | yes over ↦ let z = walked.nowhere over in omega arith
        | no few ↦
            let there = walked.arrived (omega arith) in
            let place = (own_means w (vars w) (size w) (layered w a.ordered) (x - 1) slot_walks.node (built r count) a.sound).place in
            let is = there.is_pointer in
            let fits = there.on.stored.fits in
            let most = there.on.stored.space.few in
            omega arith
      ]

      slot_is : slot_of w (get_or n k 0) ≡ slot_of w (suc (x - 1))
      slot_is = let is : get_or n k 0 ≡ suc (x - 1) = omega arith in ap (slot_of w) is

      made : placed (vars w) (slot_of w (get_or n k 0)) (built r count) ≡ (own w (vars w) (x - 1) (built r count)).store
      made =
          ap (λ (s : Slot). placed (vars w) s (built r count)) (slot_is ∙ slot_live w (x - 1)) ∙ placed_live (vars w) _ (built r count)
          ∙ ap (λ (b : Built). b.store) (canon_own w a.ordered (x - 1) slot_walks.node (built r count))

      word : named (vars w) (slot_of w (get_or n k 0)) (built r count) ≡ suc (own w (vars w) (x - 1) (built r count)).pointer
      word =
          ap (λ (s : Slot). named (vars w) s (built r count)) (slot_is ∙ slot_live w (x - 1)) ∙ named_live (vars w) _ (built r count)
          ∙ ap (λ (b : Built). suc b.pointer) (canon_own w a.ordered (x - 1) slot_walks.node (built r count))

      pub slot_goes : {n' : List ℕ} → n' ≡ set n k (p + 1) → Slotted w c count k n r n' r' count' × Behind r r'
      slot_goes written =
          let all = ap length made in
          let most = a.ordered.formed.few in
          let few-c = a.stored.space.few in (
            record {
              is_count = walked.is_count ∙ ap (λ (l : ℕ). min l (suc c)) (sym all);
              standing = λ few. rw made (walked.arrived few).on;
              names = λ few.
                  let is : p + 1 ≡ suc (own w (vars w) (x - 1) (built r count)).pointer = (let z = (walked.arrived few).is_pointer in omega arith) in
                  written ∙ ap (set n k) (is ∙ sym word);
            },
            λ j far. walked.beyond j (λ i in-i at. omega arith) (λ i in-i at. omega arith),
          )

-- ---- slot after slot

-- The slots before k are done.
pub record Looping (w : List ℕ) (c from to : ℕ) (n₀ r₀ : List ℕ) (count₀ k made : ℕ) (n r : List ℕ) : Type 0 where
  pub standing : Standing w c (built r made) r
  pub naming : Naming w k to n
  pub whole : gather (vars w) (held w (slice k to n)) (built r made) ≡ gather (vars w) (held w (slice from to n₀)) (built r₀ count₀)
  pub noted : take k n ++ (names (vars w) (held w (slice k to n)) (built r made) ++ drop to n)
      ≡ take from n₀ ++ (names (vars w) (held w (slice from to n₀)) (built r₀ count₀) ++ drop to n₀)
  pub behind : Behind r₀ r

module _ {w : List ℕ} {c from to : ℕ} {n₀ r₀ : List ℕ} {count₀ k made : ℕ} {n r : List ℕ} (l : Looping w c from to n₀ r₀ count₀ k made n r) where
  module _ (more : k < to) where
    -- the conditions still to come begin with slot k's
    next_slots : held w (slice k to n) ≡ slot_of w (get_or n k 0) ∷ held w (slice (suc k) to n)
    next_slots = ap (held w) (slice-cons k to n 0 more l.naming.most) ∙ held_cons w (get_or n k 0) (slice (suc k) to n)

    o' : List Node
    o' = placed (vars w) (slot_of w (get_or n k 0)) (built r made)

    x' : ℕ
    x' = named (vars w) (slot_of w (get_or n k 0)) (built r made)

    next_whole : gather (vars w) (held w (slice k to n)) (built r made) ≡ gather (vars w) (held w (slice (suc k) to n)) o'
    unfolding o'
    next_whole = ap (λ (cs : List Slot). gather (vars w) cs (built r made)) next_slots
        ∙ gather_cons (vars w) (slot_of w (get_or n k 0)) (held w (slice (suc k) to n)) (built r made)

    next_names : names (vars w) (held w (slice k to n)) (built r made) ≡ x' ∷ names (vars w) (held w (slice (suc k) to n)) o'
    unfolding o' x'
    next_names = ap (λ (cs : List Slot). names (vars w) cs (built r made)) next_slots
        ∙ names_cons (vars w) (slot_of w (get_or n k 0)) (held w (slice (suc k) to n)) (built r made)

    module _ {n' r' : List ℕ} {count' : ℕ} (s : Slotted w c made k n r n' r' count' × Behind r r') where
      pub loop_full : c < count' → Gathered w c count₀ from to n₀ r₀ n' r' count' × Behind r₀ r'
      unfolding o'
      loop_full over =
          let is = s.0.is_count in
          let grows = gather_grows (vars w) (held w (slice (suc k) to n)) o' in
          let whole = ap length (sym next_whole) ∙ ap length l.whole in (
            record { is_count = omega arith; standing = λ few. absurd (omega arith); names = λ few. absurd (omega arith) },
            λ j far. s.1 j far ∙ l.behind j far,
          )

      module _ (few : count' ≤ c) where
        at_n' : n' ≡ set n k x'
        unfolding x'
        at_n' = s.0.names few

        slice_kept : slice (suc k) to n' ≡ slice (suc k) to n
        slice_kept =
            ap (slice (suc k) to) at_n' ∙ ap (drop (suc k)) (take-set-lt to n k x' more) ∙ drop-set-lt (suc k) (take to n) k x' (omega arith)

        pub loop_goes : Looping w c from to n₀ r₀ count₀ (k + 1) count' n' r'
        unfolding o'
        loop_goes =
            let built-is : built r' count' ≡ o' = stands_there (s.0.standing few) s.0.is_count few in
            let step : k + 1 ≡ suc k = omega arith in
            let most = l.naming.most in
            let front : take (suc k) n' ≡ take k n ++ (x' ∷ []) = ap (take (suc k)) at_n' ∙ take-suc-set n k x' (omega arith) in
            let back : drop to n' ≡ drop to n = ap (drop to) at_n' ∙ drop-set-lt to n k x' more in
            let same_length = ap length at_n' ∙ length-set n k x' in
            rw step (record {
              standing = rw built-is (s.0.standing few);
              naming = record {
                up = omega arith;
                most = omega arith;
                inside = λ j low high.
                    let kept : get_or n' j 0 ≡ get_or n j 0 = ap (λ (m : List ℕ). get_or m j 0) at_n' ∙ get_or-set_other n k j x' 0 (omega arith) in
                    rw kept (l.naming.inside j (omega arith) high);
              };
              whole = rw (built-is, slice_kept) (sym next_whole ∙ l.whole);
              noted = rw (built-is, slice_kept, front, back)
                  (append_assoc (take k n) (x' ∷ []) (names (vars w) (held w (slice (suc k) to n)) o' ++ drop to n)
                  ∙ ap (λ (m : List ℕ). take k n ++ (m ++ drop to n)) (sym next_names) ∙ l.noted);
              behind = λ j far. s.1 j far ∙ l.behind j far;
            })

  pub loop_ends : k ≡ to → Gathered w c count₀ from to n₀ r₀ n r made × Behind r₀ r
  loop_ends done =
      let none : held w (slice k to n) ≡ [] = ap (λ (i : ℕ). held w (slice i to n)) done ∙ ap (held w) (slice_empty to n) ∙ held_nil w in
      let all : built r made ≡ gather (vars w) (held w (slice from to n₀)) (built r₀ count₀) =
      sym (gather_nil (vars w) (built r made)) ∙ ap (λ (cs : List Slot). gather (vars w) cs (built r made)) (sym none) ∙ l.whole in
      let fits = standing_fits l.standing in
      let many = ap length (sym all) ∙ built_length r made in
      let words : take k n ++ drop to n ≡ take from n₀ ++ (names (vars w) (held w (slice from to n₀)) (built r₀ count₀) ++ drop to n₀) =
      ap (λ (m : List ℕ). take k n ++ (m ++ drop to n)) (sym (ap (λ (cs : List Slot). names (vars w) cs (built r made)) none ∙ names_nil (vars w) (built r made))) ∙ l.noted in (
        record {
          is_count = omega arith;
          standing = λ few. rw (← all) l.standing;
          names = λ few. sym (ap (λ (i : ℕ). take i n ++ drop to n) done ∙ take-append-drop to n) ∙ words;
        },
        l.behind,
      )
