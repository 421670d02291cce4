-- Reading a condition: built in a room of any contents, copied where the output has place for it, and cleared away.
use Prim.Native.Nat.{ℕ, suc, ◌+◌, ◌*◌, ◌≤◌, ◌<◌, min}
use mathlib.Core.Path.{◌≡◌, refl, sym, ap, ◌∙◌, subst}
use mathlib.Core.Bool.{cond}
use mathlib.Core.List.{List, ◌++◌}
use native.Mathlib.Omega.{arith}
use lib.ListN.{length, get_or, take, drop, replicate, length-drop, take-append-drop, get_or-append}
use lib.Seq.{get_or-drop, length-take-le}
use lib.Dec.{ltb, leb}
use borrow.Author.Tests.{lt-ltb, le-ltb, le-leb}
use Rattle.diagram.specs.Diagram.{size, vars}
use Rattle.diagram.specs.Verdict.{Verdict, Outcome, accepted, refused, said, row, output_after}
use Rattle.diagram.proofs.Reading.{layered}
use Rattle.diagram.proofs.Tests.{by_test}
use Rattle.diagram.proofs.Words.{zeros_whole}
use Rattle.store.specs.Store.{words, Built, terminals}
use Rattle.store.specs.Build.{Held, own}
use Rattle.store.specs.Room.{store_to, word_in, memo_in, store_in, Stored, Empty, Started, On, Walking, Walked}
use Rattle.store.proofs.Store.{length_words}
use Rattle.store.proofs.Sound.{sound_terminals}
use Rattle.store.proofs.Graph.{own_means}
use Rattle.store.proofs.Tables.{take_words, memo_start}
use Rattle.store.proofs.Joining.{stands}
use Rattle.reduction.specs.Reduce.{reduced}
use Rattle.reduction.specs.Room.{Copied}
use Rattle.reduction.proofs.Answering.{copied_front}
use Rattle.reduction.proofs.Count.{count_nodes}
use Rattle.reduction.proofs.Fewest.{own_fits, all_closed}
use Rattle.pool.specs.Walked.{walked_words}
use Rattle.pool.proofs.Walked.{walked_ordered, walked_vars, walked_size, walked_names, walked_holds, canon_own}
use Rattle.pool_build.specs.Work.{answer_of, Making, Made, Given, Fetching, fetch_of, Fetched}
use Rattle.pool_build.proofs.Replacing.{part_fits, zero_words, length_zeros, zeros}

-- ---- building in the room

abbrev memo_from : ℕ
memo_from = 0

module _ {w : List ℕ} {p n v : ℕ} {r : List ℕ} (a : Making w p n v r) {r₁ : List ℕ} (cleared : r₁ ≡ replicate (min (store_to n n) (length r)) 0 ++ drop (store_to n n) r) where
  clear_words : (j : ℕ) → j < store_to n n → get_or r₁ j 0 ≡ 0
  clear_words j h =
      let long = a.long in
      let front = length_zeros (min (store_to n n) (length r)) in
      ap (λ (s : List ℕ). get_or s j 0) cleared
      ∙ get_or-append (zeros (min (store_to n n) (length r))) (drop (store_to n n) r) 0 j (omega arith) ∙ zero_words (min (store_to n n) (length r)) j

  module _ (same₁ : length r₁ ≡ length r) where
    pub make_empty : Empty n n r₁
    make_empty =
        let few = a.few in
        let long = a.long in
        record {
          space = record { near = omega arith; few = few; long = omega arith };
          two = a.two;
          heads = λ h in-h. clear_words (n + 4 * n + h) (omega arith);
        }

    module _ {r₂ : List ℕ} (started : Started n n v r₁ r₂) (same₂ : length r₂ ≡ length r₁) where
      on_start : On w memo_from n n (terminals (vars w)) r₂
      on_start =
          let long = a.long in
          let most = a.most in
          record {
            ordered = a.ordered;
            sound = sound_terminals (vars w);
            stored = subst (λ (x : ℕ). Stored n n (terminals x) r₂) a.is_vars started.stored;
            near = omega arith;
            inside = omega arith;
            apart = λ q h i in-i e. omega arith;
            noted = memo_start w (vars w) (size w) (terminals (vars w)) (memo_in memo_from r₂)
                (λ q h. started.beyond (memo_from + q) (λ i in-i e. omega arith) ∙ clear_words (memo_from + q) (omega arith));
          }

      first_store : store_in n r₂ 2 ≡ terminals (vars w)
      first_store = stands n n (terminals (vars w)) r₂ on_start.stored 2 refl

      pub make_walks : Walking w memo_from n n r₂ 2 p
      make_walks = record { on = rw first_store on_start; node = a.node }

      whole : Built
      whole = own w (vars w) p (terminals (vars w))

      pointer_in : whole.pointer < length whole.store
      unfolding whole
      pointer_in = (own_means w (vars w) (size w) (layered w a.ordered) p a.node (terminals (vars w)) (sound_terminals (vars w))).place

      whole_fits : length whole.store ≤ n
      unfolding whole
      whole_fits =
          let fits = own_fits w (vars w) (size w) (layered w a.ordered) (leb 2) (all_closed w (size w)) p a.node (le-leb 2 p) in
          let nodes = count_nodes (size w) in
          let most = a.most in
          let two = a.two in
          omega arith

      answer_is : words (take (suc whole.pointer) whole.store) ≡ answer_of w p
      unfolding whole reduced
      answer_is = ap (λ (b : Built). words (take (suc b.pointer) b.store)) (sym (canon_own w a.ordered p a.node (terminals (vars w))))

      answer_length : length (answer_of w p) ≡ 3 * suc whole.pointer
      answer_length =
          ap length (sym answer_is) ∙ length_words (take (suc whole.pointer) whole.store)
          ∙ ap (λ (k : ℕ). 3 * k) (length-take-le (suc whole.pointer) whole.store pointer_in)

      module _ {r₃ : List ℕ} {x k : ℕ} (walked : Walked w memo_from n n r₂ 2 p r₃ x k) where
        made : own w (vars w) p (store_in n r₂ 2) ≡ whole
        unfolding whole
        made = rw first_store refl

        never_full : k ≤ n
        never_full =
            let is = walked.is_count ∙ ap (λ (b : Built). min (length b.store) (suc n)) made in
            let fits = whole_fits in
            omega arith

        is_pointer : x ≡ whole.pointer
        is_pointer = (walked.arrived never_full).is_pointer ∙ ap (λ (b : Built). b.pointer) made

        pub make_ends : length r₃ ≡ length r → {y : ℕ} → y ≡ x → Made w p n r₃ (y + 1)
        make_ends same {y} e =
            let held = (walked.arrived never_full).on.stored.held in
            let is = is_pointer in
            let inside = pointer_in in
            let fits = whole_fits in
            let long = a.long in
            let rest = length-drop n r₃ in
            let is_y : y + 1 ≡ suc whole.pointer = omega arith in
            rw is_y (record {
              words = answer_length;
              fits = omega arith;
              store = take_words whole.store (word_in n r₃) (subst (λ (b : Built). Held b.store (word_in n r₃)) made held) (drop n r₃) (suc whole.pointer) inside (omega arith)
                  (λ j h. get_or-drop n r₃ j 0) ∙ answer_is;
            })

-- ---- giving it

pub give_short : {r out : List ℕ} {n k v : ℕ} {verdict : Verdict} → said verdict ≡ refused 4 0 → length out < 3 * k → Given r out out n k v verdict
unfolding row
give_short {r} {out} {n} {k} {v} told h =
    record { outcome = told ∙ simp (lt-ltb (length out) (3 * k) h); output = simp (lt-ltb (length out) (3 * k) h) }

pub give_all : {r out out' : List ℕ} {n k v : ℕ} {verdict : Verdict} → said verdict ≡ accepted k v → 3 * k ≤ length out → n + 3 * k ≤ length r → length out' ≡ length out → Copied r n out out' (3 * k)
    → Given r out out' n k v verdict
unfolding row
give_all {r} {out} {out'} {n} {k} {v} told h room same copied =
    let words : out' ≡ take (3 * k) (drop n r) ++ drop (3 * k) out =
    sym (take-append-drop (3 * k) out') ∙ (rw (copied_front copied (omega arith) room, copied.rest) refl) in
    record { outcome = told ∙ simp (le-ltb (length out) (3 * k) h); output = simp (le-ltb (length out) (3 * k) h) words }

-- ---- the whole

module _ {t : List ℕ} {p n v : ℕ} {r : List ℕ} (a : Fetching t p n v r) {part : ℕ} (is-part : part ≡ walked_words t) where
  pub fetch_part : part ≤ length t
  fetch_part = part_fits a.pool is-part

  pub fetch_makes : Making (take part t) p n v r
  fetch_makes =
      let size_is = a.is_size in
      let most = walked_size t a.slots a.pool in
      let two = a.pool.two in
      let few = a.pool.few in
      let long = a.long in
      rw is-part (record {
        ordered = walked_ordered t a.slots a.pool;
        node = walked_names t a.slots a.pool a.slot p a.root;
        is_vars = a.is_vars ∙ sym (walked_vars t a.slots a.pool);
        two = omega arith;
        most = omega arith;
        few = omega arith;
        long = omega arith;
      })

  same_answer : answer_of (take part t) p ≡ answer_of t p
  same_answer = rw (is-part, walked_vars t a.slots a.pool, walked_holds t a.slots a.pool p) refl

  module _ {r₁ : List ℕ} {k : ℕ} (made : Made (take part t) p n r₁ k) (same₁ : length r₁ ≡ length r) where
    answer_words : length (answer_of t p) ≡ 3 * k
    answer_words = ap length (sym same_answer) ∙ made.words

    answer_size : size (answer_of t p) ≡ k
    answer_size = let e = answer_words in omega arith

    module _ (out : List ℕ) where
      told : Outcome
      told = row 4 (ltb (length out) (3 * k)) 0 (accepted k v)

      told_is : fetch_of (answer_of t p) v (length out) ≡ told
      unfolding told
      told_is =
          ap (λ (l : ℕ). row 4 (ltb (length out) l) 0 (accepted (size (answer_of t p)) v)) answer_words
          ∙ ap (λ (s : ℕ). row 4 (ltb (length out) (3 * k)) 0 (accepted s v)) answer_size

      told_output : cond (ltb (length out) (3 * k)) out (take (3 * k) (drop n r₁) ++ drop (3 * k) out) ≡ output_after told (answer_of t p) out
      unfolding told row
      told_output = by_test (ltb (length out) (3 * k))
          (λ e. rw e refl)
          (λ e. rw e (ap (λ (l : List ℕ). l ++ drop (3 * k) out) (made.store ∙ same_answer) ∙ ap (λ (l : ℕ). answer_of t p ++ drop l out) (sym answer_words)))

      pub fetched : {out' : List ℕ} {verdict : Verdict} → Given r₁ out out' n k v verdict → {r₂ : List ℕ}
          → r₂ ≡ replicate (min (length r₁) (length r₁)) 0 ++ drop (length r₁) r₁ → Fetched t p v r r₂ out out' verdict
      unfolding told
      fetched g cleared = record {
        outcome = g.outcome ∙ sym told_is;
        output = g.output ∙ told_output ∙ ap (λ (o : Outcome). output_after o (answer_of t p) out) (sym told_is);
        room = cleared ∙ zeros_whole r₁ r same₁;
      }
