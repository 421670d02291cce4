-- All conditions of a pool built anew: how it begins, the diagram that is put among them, and each of the returns.
use Prim.Native.Nat.{ℕ, suc, ◌+◌, ◌-◌, ◌/◌, ◌≤◌, ◌<◌, min}
use mathlib.Core.Path.{◌≡◌, refl, sym, ap, ◌∙◌, subst}
use mathlib.Core.Bool.{Bool}
use mathlib.Core.List.{List, [], ◌∷◌, ◌++◌, append_assoc, append-nil}
use native.Mathlib.Omega.{arith}
use native.Mathlib.Decide.{dec_lt}
use lib.ListN.{length, get_or, set, take, drop, length-set, length-drop, length-append, drop_of_length-le}
use lib.Seq.{slice, set_split, take_all, take-suc-set, drop-set-lt, take_at, drop-drop, drop-append-add, get_or-drop, length-take-le}
use Rattle.diagram.specs.Limits.{max_nodes}
use Rattle.diagram.specs.Diagram.{size, vars, root, holds, Ordered}
use Rattle.diagram.proofs.Reading.{layered, root_in}
use Rattle.store.specs.Store.{Node, Built, terminals}
use Rattle.store.specs.Build.{own}
use Rattle.store.specs.Room.{memo_in, Stored, Started, On, Walking, Walked}
use Rattle.store.proofs.Sound.{sound_terminals}
use Rattle.store.proofs.Graph.{own_means, own_extends}
use Rattle.store.proofs.Tables.{memo_start, memo_same, memo_grown}
use Rattle.store.proofs.Joining.{stands}
use Rattle.pool.specs.Pool.{slot_count, holds_from, Slot, live, held, placed, named, gather, names, needs, slots_of}
use Rattle.pool.proofs.Walked.{holds_root, canon_own}
use Rattle.pool.proofs.Gathered.{held_length, held_take, held_drop, placed_live, named_live, placed_extends, gather_append, gather_cons, gather_grows, names_append, names_cons, names_length, needs_is, slots_are}
use Rattle.store.proofs.Store.{extends_length}
use Rattle.pool_build.specs.Work.{store_from, table_memo, diagram_memo, built, Standing, Behind, Naming, Gathered, Adding, AddedTo, Begun, Composed}
use Rattle.pool_build.proofs.Gathering.{stands_there}

-- ---- a diagram among the conditions

module _ {w : List ℕ} {c count : ℕ} {r d : List ℕ} (a : Adding w c count r d) where
  diagram_on : On d diagram_memo store_from c (built r count) r
  diagram_on =
      let few = a.diagram.formed.few in
      let long = a.long in
      let places = a.standing.stored.space.few in
      record {
        ordered = a.diagram;
        sound = rw a.variables a.standing.sound;
        stored = a.standing.stored;
        near = omega arith;
        inside = omega arith;
        apart = λ p h i in-i at. omega arith;
        noted = memo_start d (vars d) (size d) (built r count) (memo_in diagram_memo r) (λ p h. a.clean p (omega arith));
      }

  module _ {p : ℕ} (is-root : p ≡ length d / 3 - 1) where
    pub diagram_walks : Walking d diagram_memo store_from c r count p
    diagram_walks = record { on = diagram_on; node = rw is-root (root_in d a.diagram) }

    module _ {r' : List ℕ} {x count' : ℕ} (walked : Walked d diagram_memo store_from c r count p r' x count') where
      pub diagram_small : x < max_nodes
      diagram_small = elim (dec_lt c count') [
        | yes over ↦ let z = walked.nowhere over in omega arith
        | no few ↦
            let there = walked.arrived (omega arith) in
            let place = (own_means d (vars d) (size d) (layered d a.diagram) p diagram_walks.node (built r count) diagram_on.sound).place in
            let is = there.is_pointer in
            let fits = there.on.stored.fits in
            let most = there.on.stored.space.few in
            omega arith
      ]

      all_built : own d (vars d) p (built r count) ≡ own d (vars d) (root d) (built r count)
      all_built = ap (λ (q : ℕ). own d (vars d) q (built r count)) is-root

      made : placed (vars w) (live (holds d)) (built r count) ≡ (own d (vars d) p (built r count)).store
      made =
          ap (λ (f : List Bool → Bool). placed (vars w) (live f) (built r count)) (holds_root d)
          ∙ ap (λ (v : ℕ). placed v (live (holds_from d (root d))) (built r count)) (sym a.variables)
          ∙ placed_live (vars d) (holds_from d (root d)) (built r count)
          ∙ ap (λ (b : Built). b.store) (canon_own d a.diagram (root d) (root_in d a.diagram) (built r count) ∙ sym all_built)

      word : named (vars w) (live (holds d)) (built r count) ≡ suc (own d (vars d) p (built r count)).pointer
      word =
          ap (λ (f : List Bool → Bool). named (vars w) (live f) (built r count)) (holds_root d)
          ∙ ap (λ (v : ℕ). named v (live (holds_from d (root d))) (built r count)) (sym a.variables)
          ∙ named_live (vars d) (holds_from d (root d)) (built r count)
          ∙ ap (λ (b : Built). suc b.pointer) (canon_own d a.diagram (root d) (root_in d a.diagram) (built r count) ∙ sym all_built)

      -- the table can still be walked: its memo is untouched, and what it says stays right on a store that has grown
      module _ (same : length r' ≡ length r) (few : count' ≤ c) where
        table_on : On w table_memo store_from c (own d (vars d) p (built r count)).store r'
        table_on =
            let there = walked.arrived few in
            let inside = a.standing.inside in
            let most = a.standing.ordered.formed.few in
            let most-d = a.diagram.formed.few in
            let places = a.standing.stored.space.few in
            record {
              ordered = a.standing.ordered;
              sound = rw (← a.variables) there.on.sound;
              stored = there.on.stored;
              near = a.standing.near;
              inside = omega arith;
              apart = a.standing.apart;
              noted = memo_grown w (vars w) (size w) (memo_in table_memo r') (own_extends d (vars d) p (built r count))
                  (memo_same w (vars w) (size w) (built r count) (memo_in table_memo r) (memo_in table_memo r') a.standing.noted
                  (λ j in-j. walked.beyond (table_memo + j) (λ i in-i at. omega arith) (a.standing.apart j in-j)));
            }

      pub diagram_goes : (k : ℕ) (n : List ℕ) {n' : List ℕ} → n' ≡ set n k (x + 1) → length r' ≡ length r → AddedTo w c count k n r d n' r' count'
      diagram_goes k n written same =
          let all = ap length made in
          record {
            is_count = walked.is_count ∙ ap (λ (l : ℕ). min l (suc c)) (sym all);
            standing = λ few. rw made (table_on same few);
            names = λ few.
                let is : x + 1 ≡ suc (own d (vars d) p (built r count)).pointer = (let z = (walked.arrived few).is_pointer in omega arith) in
                written ∙ ap (set n k) (is ∙ sym word);
          }

-- ---- how it begins

module _ {w : List ℕ} {c : ℕ} {n r : List ℕ} (b : Begun w c n r) where
  module _ {v : ℕ} (is_vars : v ≡ vars w) {r₁ : List ℕ} (started : Started store_from c v r r₁) (same₁ : length r₁ ≡ length r) where
    terminals_on : Standing w c (terminals (vars w)) r₁
    terminals_on =
        let few = b.few in
        let most = b.ordered.formed.few in
        let long = b.long in
        record {
          ordered = b.ordered;
          sound = sound_terminals (vars w);
          stored = subst (λ (x : ℕ). Stored store_from c (terminals x) r₁) is_vars started.stored;
          near = omega arith;
          inside = omega arith;
          apart = λ p h i in-i at. omega arith;
          noted = memo_start w (vars w) (size w) (terminals (vars w)) (memo_in table_memo r₁)
              (λ p h. started.beyond (table_memo + p) (λ i in-i at. omega arith) ∙ b.zero (table_memo + p));
        }

    pub begin_built : built r₁ 2 ≡ terminals (vars w)
    begin_built = stands store_from c (terminals (vars w)) r₁ terminals_on.stored 2 refl

    pub begin_standing : Standing w c (built r₁ 2) r₁
    begin_standing = rw begin_built terminals_on

    pub begin_behind : (j : ℕ) → diagram_memo ≤ j → get_or r₁ j 0 ≡ 0
    begin_behind j far = let few = b.few in started.beyond j (λ i in-i at. omega arith) ∙ b.zero j

    pub begin_names : (to : ℕ) → to ≤ slot_count → Naming w 0 to n
    begin_names to most =
        let all = b.slots in
        record { up = omega arith; most = omega arith; inside = λ j low high. b.naming.inside j low (omega arith) }

    -- ---- all that are named, and nothing else

    pub composed_all : {n' r' : List ℕ} {count : ℕ} → Gathered w c 2 0 slot_count n r₁ n' r' count × Behind r₁ r' → Composed w (held w n) c n' r' count
    composed_all g =
        let whole : slice 0 slot_count n ≡ n = take_all slot_count n (let all = b.slots in omega arith) in
        let made : gather (vars w) (held w (slice 0 slot_count n)) (built r₁ 2) ≡ gather (vars w) (held w n) (terminals (vars w)) =
        rw (whole, begin_built) refl in
        let words : names (vars w) (held w (slice 0 slot_count n)) (built r₁ 2) ≡ slots_of (vars w) (held w n) =
        rw (whole, begin_built) (sym (slots_are (vars w) (held w n))) in
        let behind : drop slot_count n ≡ [] = drop_of_length-le n {i = slot_count} (let all = b.slots in omega arith) in
        record {
          is_count = g.0.is_count ∙ ap (λ (l : ℕ). min l (suc c)) (ap length made ∙ sym (needs_is (vars w) (held w n)));
          standing = λ few. rw (← made) (g.0.standing few);
          slots = λ few. g.0.names few ∙ ap (λ (m : List ℕ). names (vars w) (held w (slice 0 slot_count n)) (built r₁ 2) ++ m) behind
              ∙ append-nil (names (vars w) (held w (slice 0 slot_count n)) (built r₁ 2)) ∙ words;
        }

    -- ---- those before a slot, a diagram, and those behind it

    module _ {slot : ℕ} (in-slot : slot < slot_count) {d : List ℕ} (ordered : Ordered d) (variables : vars d ≡ vars w)
        {n₂ r₂ : List ℕ} {before : ℕ} (front : Gathered w c 2 0 slot n r₁ n₂ r₂ before × Behind r₁ r₂) where
      new : Slot
      new = live (holds d)

      old : List Slot
      old = held w n

      -- the nodes before the slot's, with the slot's, and all
      first : List Node
      first = gather (vars w) (take slot old) (terminals (vars w))

      second : List Node
      second = placed (vars w) new first

      third : List Node
      third = gather (vars w) (drop (suc slot) old) second

      old_length : length old ≡ slot_count
      unfolding old
      old_length = held_length w n ∙ b.slots

      split : set old slot new ≡ take slot old ++ new ∷ drop (suc slot) old
      split = set_split old slot new (let e = old_length in omega arith)

      all_nodes : gather (vars w) (set old slot new) (terminals (vars w)) ≡ third
      unfolding first second third
      all_nodes =
          ap (λ (cs : List Slot). gather (vars w) cs (terminals (vars w))) split
          ∙ gather_append (vars w) (take slot old) (new ∷ drop (suc slot) old) (terminals (vars w))
          ∙ gather_cons (vars w) new (drop (suc slot) old) first

      all_names : slots_of (vars w) (set old slot new)
          ≡ names (vars w) (take slot old) (terminals (vars w)) ++ named (vars w) new first ∷ names (vars w) (drop (suc slot) old) second
      unfolding first second
      all_names =
          slots_are (vars w) (set old slot new)
          ∙ ap (λ (cs : List Slot). names (vars w) cs (terminals (vars w))) split
          ∙ names_append (vars w) (take slot old) (new ∷ drop (suc slot) old) (terminals (vars w))
          ∙ ap (λ (m : List ℕ). names (vars w) (take slot old) (terminals (vars w)) ++ m) (names_cons (vars w) new (drop (suc slot) old) first)

      all_needs : needs (vars w) (set old slot new) ≡ length third
      all_needs = needs_is (vars w) (set old slot new) ∙ ap length all_nodes

      -- what is built for a part is no more than what is built for all
      first_fits : length first ≤ length second
      unfolding second
      first_fits = extends_length (placed_extends (vars w) new first)

      second_fits : length second ≤ length third
      unfolding third
      second_fits = gather_grows (vars w) (drop (suc slot) old) second

      front_made : gather (vars w) (held w (slice 0 slot n)) (built r₁ 2) ≡ first
      unfolding first old
      front_made = rw (begin_built, held_take w slot n) refl

      front_named : names (vars w) (held w (slice 0 slot n)) (built r₁ 2) ≡ names (vars w) (take slot old) (terminals (vars w))
      unfolding old
      front_named = rw (begin_built, held_take w slot n) refl

      front_count : before ≡ min (length first) (suc c)
      front_count = front.0.is_count ∙ ap (λ (o : List Node). min (length o) (suc c)) front_made

      pub front_full : c < before → Composed w (set (held w n) slot (live (holds d))) c n₂ r₂ before
      unfolding new old
      front_full over =
          let is = front_count in
          let all = all_needs in
          let more = first_fits in
          let most = second_fits in
          record { is_count = omega arith; standing = λ few. absurd (omega arith); slots = λ few. absurd (omega arith) }

      module _ (few₁ : before ≤ c) (same₂ : length r₂ ≡ length r) where
        front_built : built r₂ before ≡ first
        front_built = stands_there (front.0.standing few₁) front.0.is_count few₁ ∙ front_made

        pub diagram_next : Adding w c before r₂ d
        diagram_next =
            let long = b.long in
            record {
              standing = rw (front_built ∙ sym front_made) (front.0.standing few₁);
              long = omega arith;
              diagram = ordered;
              variables = variables;
              clean = λ p h. front.1 (diagram_memo + p) (omega arith) ∙ begin_behind (diagram_memo + p) (omega arith);
            }

        module _ {n₃ r₃ : List ℕ} {with_it : ℕ} (middle : AddedTo w c before slot n₂ r₂ d n₃ r₃ with_it) where
          middle_made : placed (vars w) (live (holds d)) (built r₂ before) ≡ second
          unfolding second new
          middle_made = rw front_built refl

          middle_count : with_it ≡ min (length second) (suc c)
          middle_count = middle.is_count ∙ ap (λ (o : List Node). min (length o) (suc c)) middle_made

          pub middle_full : c < with_it → Composed w (set (held w n) slot (live (holds d))) c n₃ r₃ with_it
          unfolding new old
          middle_full over =
              let is = middle_count in
              let all = all_needs in
              let most = second_fits in
              record { is_count = omega arith; standing = λ few. absurd (omega arith); slots = λ few. absurd (omega arith) }

          module _ (few₂ : with_it ≤ c) where
            middle_built : built r₃ with_it ≡ second
            middle_built = stands_there (middle.standing few₂) middle.is_count few₂ ∙ middle_made

            -- the words of the slots so far
            start_names : List ℕ
            start_names = names (vars w) (take slot old) (terminals (vars w))

            start_length : length start_names ≡ slot
            unfolding start_names
            start_length = names_length (vars w) (take slot old) (terminals (vars w)) ∙ length-take-le slot old (let e = old_length in omega arith)

            x : ℕ
            x = named (vars w) new first

            n₂_is : n₂ ≡ start_names ++ drop slot n
            unfolding start_names
            n₂_is = front.0.names few₁ ∙ ap (λ (m : List ℕ). m ++ drop slot n) front_named

            n₂_length : length n₂ ≡ slot_count
            n₂_length =
                let all = b.slots in
                let rest = length-drop slot n in
                let e = ap length n₂_is ∙ length-append start_names (drop slot n) in
                let s = start_length in
                omega arith

            n₃_is : n₃ ≡ set n₂ slot x
            unfolding x new
            n₃_is = middle.names few₂ ∙ ap (λ (o : List Node). set n₂ slot (named (vars w) (live (holds d)) o)) front_built

            n₃_length : length n₃ ≡ slot_count
            n₃_length = ap length n₃_is ∙ length-set n₂ slot x ∙ n₂_length

            -- behind the slot they are as they were
            n₃_drop : drop (suc slot) n₃ ≡ drop (suc slot) n
            n₃_drop =
                let e : suc slot ≡ length start_names + 1 = (let s = start_length in omega arith) in
                let f : slot + 1 ≡ suc slot = omega arith in
                ap (drop (suc slot)) n₃_is ∙ drop-set-lt (suc slot) n₂ slot x (omega arith)
                ∙ ap (drop (suc slot)) n₂_is ∙ ap (λ (k : ℕ). drop k (start_names ++ drop slot n)) e
                ∙ drop-append-add start_names (drop slot n) 1 ∙ drop-drop 1 slot n ∙ ap (λ (k : ℕ). drop k n) f

            n₃_take : take (suc slot) n₃ ≡ start_names ++ (x ∷ [])
            n₃_take =
                ap (take (suc slot)) n₃_is ∙ take-suc-set n₂ slot x (let e = n₂_length in omega arith)
                ∙ ap (λ (m : List ℕ). take slot m ++ (x ∷ [])) n₂_is ∙ ap (λ (m : List ℕ). m ++ (x ∷ [])) (take_at start_names (drop slot n) slot start_length)

            back_slice : slice (suc slot) slot_count n₃ ≡ drop (suc slot) n
            back_slice = ap (drop (suc slot)) (take_all slot_count n₃ (let e = n₃_length in omega arith)) ∙ n₃_drop

            pub back_standing : Standing w c (built r₃ with_it) r₃
            back_standing = rw (middle_built ∙ sym middle_made) (middle.standing few₂)

            pub back_names : {from : ℕ} → from ≡ slot + 1 → Naming w from slot_count n₃
            back_names {from} is-from =
                let e = n₃_length in
                record {
                  up = omega arith;
                  most = omega arith;
                  inside = λ j low high.
                      let at : suc slot + (j - suc slot) ≡ j = omega arith in
                      let kept : get_or n₃ j 0 ≡ get_or n j 0 =
                      ap (λ (i : ℕ). get_or n₃ i 0) (sym at) ∙ sym (get_or-drop (suc slot) n₃ (j - suc slot) 0)
                      ∙ ap (λ (m : List ℕ). get_or m (j - suc slot) 0) n₃_drop ∙ get_or-drop (suc slot) n (j - suc slot) 0 ∙ ap (λ (i : ℕ). get_or n i 0) at in
                      rw kept (b.naming.inside j (omega arith) high);
                }

            module _ {from : ℕ} (is-from : from ≡ slot + 1) {n₄ r₄ : List ℕ} {count : ℕ} (back : Gathered w c with_it from slot_count n₃ r₃ n₄ r₄ count × Behind r₃ r₄) where
              from_is : from ≡ suc slot
              from_is = is-from ∙ omega arith

              back_slots : held w (slice from slot_count n₃) ≡ drop (suc slot) old
              unfolding old
              back_slots = ap (λ (k : ℕ). held w (slice k slot_count n₃)) from_is ∙ ap (held w) back_slice ∙ held_drop w (suc slot) n

              back_made : gather (vars w) (held w (slice from slot_count n₃)) (built r₃ with_it) ≡ third
              unfolding third
              back_made = rw (back_slots, middle_built) refl

              back_named : names (vars w) (held w (slice from slot_count n₃)) (built r₃ with_it) ≡ names (vars w) (drop (suc slot) old) second
              back_named = rw (back_slots, middle_built) refl

              -- the words that were noted are those of all conditions
              noted : take from n₃ ++ (names (vars w) (held w (slice from slot_count n₃)) (built r₃ with_it) ++ drop slot_count n₃)
                  ≡ slots_of (vars w) (set old slot new)
              unfolding start_names x
              noted =
                  let behind : drop slot_count n₃ ≡ [] = drop_of_length-le n₃ {i = slot_count} (let e = n₃_length in omega arith) in
                  rw (from_is, n₃_take, behind, append-nil (names (vars w) (held w (slice (suc slot) slot_count n₃)) (built r₃ with_it)))
                  (ap (λ (m : List ℕ). (start_names ++ (x ∷ [])) ++ m) (ap (λ (k : ℕ). names (vars w) (held w (slice k slot_count n₃)) (built r₃ with_it)) (sym from_is) ∙ back_named)
                  ∙ append_assoc start_names (x ∷ []) (names (vars w) (drop (suc slot) old) second) ∙ sym all_names)

              pub back_ends : Composed w (set (held w n) slot (live (holds d))) c n₄ r₄ count
              unfolding new old
              back_ends = record {
                is_count = back.0.is_count ∙ ap (λ (l : ℕ). min l (suc c)) (ap length back_made ∙ sym all_needs);
                standing = λ few. rw (all_nodes ∙ sym back_made) (back.0.standing few);
                slots = λ few. back.0.names few ∙ noted;
              }
