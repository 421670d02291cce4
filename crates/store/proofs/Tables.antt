-- The store's words and the memo as tables: how they start, what a new node and a new entry do to them, and what is read
-- from them.
use Prim.Native.Nat.{ℕ, zero, suc, ◌+◌, ◌*◌, ◌/◌, ◌%◌, ◌≤◌, ◌<◌}
use mathlib.Core.Path.{◌≡◌, refl, sym, ap, ◌∙◌, subst}
use mathlib.Core.Logic.{◌≢◌}
use mathlib.Core.List.{List, [], ◌∷◌, ◌++◌}
use native.Mathlib.Omega.{arith}
use native.Mathlib.Decide.{ℕ_discrete, dec_lt}
use lib.ListN.{length, get_or, take}
use lib.Seq.{take-suc, take-length, ext_get_or, get_or-take, length-take-le}
use Rattle.store.specs.Store.{Node, node, words, built, terminals}
use Rattle.store.specs.Build.{at, Held, nodes, Memo, own}
use Rattle.store.proofs.Store.{length_words, words_take, var_words, low_words, high_words, node_path, Extends, extends_refl, extends_add, extends_at, length_add, at_new}
use Rattle.store.proofs.Graph.{own_again}

-- ---- the store's words

pub held_start : (v : ℕ) (word : ℕ → ℕ) → word 0 ≡ v → word 1 ≡ 0 → word 2 ≡ 0 → word 3 ≡ v → word 4 ≡ 1 → word 5 ≡ 1
    → Held (terminals v) word
held_start v word a b c d e f = record { var = vars; low = lows; high = highs }
  where
    vars : (q : ℕ) → q < 2 → word (3 * q) ≡ (at (terminals v) q).var
    vars zero h = a
    vars (suc zero) h = d
    vars (suc (suc q)) h = absurd (omega arith)

    lows : (q : ℕ) → q < 2 → word (3 * q + 1) ≡ (at (terminals v) q).low
    lows zero h = b
    lows (suc zero) h = e
    lows (suc (suc q)) h = absurd (omega arith)

    highs : (q : ℕ) → q < 2 → word (3 * q + 2) ≡ (at (terminals v) q).high
    highs zero h = c
    highs (suc zero) h = f
    highs (suc (suc q)) h = absurd (omega arith)

-- Stores elsewhere leave it as it is.
pub held_same : (o : List Node) (word word' : ℕ → ℕ) → Held o word → ((j : ℕ) → j < 3 * length o → word' j ≡ word j) → Held o word'
held_same o word word' s kept = record {
  var = λ q h. kept (3 * q) (omega arith) ∙ s.var q h;
  low = λ q h. kept (3 * q + 1) (omega arith) ∙ s.low q h;
  high = λ q h. kept (3 * q + 2) (omega arith) ∙ s.high q h;
}

-- A new node's three words at the end.
pub held_add : (o : List Node) (word word' : ℕ → ℕ) (n : Node) → Held o word → ((j : ℕ) → j < 3 * length o → word' j ≡ word j)
    → word' (3 * length o) ≡ n.var → word' (3 * length o + 1) ≡ n.low → word' (3 * length o + 2) ≡ n.high
    → Held (o ++ (n ∷ [])) word'
held_add o word word' n s kept a b c =
    let old = held_same o word word' s kept in
    record {
      var = λ q h. each (λ k. 3 * k) (λ m. m.var) q h old.var a;
      low = λ q h. each (λ k. 3 * k + 1) (λ m. m.low) q h old.low b;
      high = λ q h. each (λ k. 3 * k + 2) (λ m. m.high) q h old.high c;
    }
  where
    each : (place : ℕ → ℕ) (part : Node → ℕ) (q : ℕ) → q < length (o ++ (n ∷ [])) → ((r : ℕ) → r < length o → word' (place r) ≡ part (at o r))
        → word' (place (length o)) ≡ part n → word' (place q) ≡ part (at (o ++ (n ∷ [])) q)
    each place part q h old new =
        let more = length_add o n in
        elim (dec_lt q (length o)) [
          | yes before ↦ old q before ∙ ap part (sym (extends_at (extends_add o n) q before))
          | no after ↦
              let here : q ≡ length o = omega arith in
              rw (here, at_new o n) new
        ]

-- The node at a place, by its words.
pub held_is : (o : List Node) (word : ℕ → ℕ) (n : Node) (q : ℕ) → Held o word → q < length o
    → word (3 * q) ≡ n.var → word (3 * q + 1) ≡ n.low → word (3 * q + 2) ≡ n.high → at o q ≡ n
held_is o word n q s h a b c = node_path (at o q) n (sym (s.var q h) ∙ a) (sym (s.low q h) ∙ b) (sym (s.high q h) ∙ c)

pub held_of : (o : List Node) (word : ℕ → ℕ) (n : Node) (q : ℕ) → Held o word → q < length o → at o q ≡ n
    → (word (3 * q) ≡ n.var) × (word (3 * q + 1) ≡ n.low) × (word (3 * q + 2) ≡ n.high)
held_of o word n q s h e =
    (s.var q h ∙ ap (λ (m : Node). m.var) e, s.low q h ∙ ap (λ (m : Node). m.low) e, s.high q h ∙ ap (λ (m : Node). m.high) e)

-- All words of the store, in their order.
by_three : (P : ℕ → Type 0) → ((q : ℕ) → P (3 * q)) → ((q : ℕ) → P (3 * q + 1)) → ((q : ℕ) → P (3 * q + 2)) → (j : ℕ) → P j
by_three P a b c j = elim (ℕ_discrete (j % 3) 0) [
  | yes e ↦ let k : 3 * (j / 3) ≡ j = omega arith in subst P k (a (j / 3))
  | no zero-not ↦ elim (ℕ_discrete (j % 3) 1) [
    | yes e ↦ let k : 3 * (j / 3) + 1 ≡ j = omega arith in subst P k (b (j / 3))
    | no one-not ↦ let k : 3 * (j / 3) + 2 ≡ j = omega arith in subst P k (c (j / 3))
  ]
]

pub held_words : (o : List Node) (word : ℕ → ℕ) → Held o word → (j : ℕ) → j < 3 * length o → word j ≡ get_or (words o) j 0
held_words o word s = by_three (λ j. j < 3 * length o → word j ≡ get_or (words o) j 0)
    (λ q h. s.var q (omega arith) ∙ sym (var_words o q))
    (λ q h. s.low q (omega arith) ∙ sym (low_words o q))
    (λ q h. s.high q (omega arith) ∙ sym (high_words o q))

-- A table's nodes, as a store: each table holds its first k nodes, and a store that a table holds is its first nodes.
pub nodes_length : (word : ℕ → ℕ) (k : ℕ) → length (nodes word k) ≡ k
unfolding nodes
nodes_length word zero = refl
nodes_length word (suc k) = length_add (nodes word k) (node (word (3 * k)) (word (3 * k + 1)) (word (3 * k + 2))) ∙ ap suc (nodes_length word k)

pub held_nodes : (word : ℕ → ℕ) (k : ℕ) → Held (nodes word k) word
unfolding nodes
held_nodes word zero = record { var = λ q h. absurd (omega arith); low = λ q h. absurd (omega arith); high = λ q h. absurd (omega arith) }
held_nodes word (suc k) =
    let n = nodes_length word k in
    held_add (nodes word k) word word (node (word (3 * k)) (word (3 * k + 1)) (word (3 * k + 2))) (held_nodes word k) (λ j h. refl)
    (rw n refl) (rw n refl) (rw n refl)

nodes_take : (o : List Node) (word : ℕ → ℕ) → Held o word → (k : ℕ) → k ≤ length o → nodes word k ≡ take k o
unfolding nodes
nodes_take o word s zero h = refl
nodes_take o word s (suc k) h =
    let last : at o k ≡ node (word (3 * k)) (word (3 * k + 1)) (word (3 * k + 2)) = held_is o word (node (word (3 * k)) (word (3 * k + 1)) (word (3 * k + 2))) k s h refl refl refl in
    rw (nodes_take o word s k (omega arith), ← last) (sym (take-suc o k (node 0 0 0) h))

pub nodes_held : (o : List Node) (word : ℕ → ℕ) → Held o word → nodes word (length o) ≡ o
nodes_held o word s = nodes_take o word s (length o) (omega arith) ∙ take-length o

-- A list that has the first k nodes' words begins with them.
pub take_words : (o : List Node) (word : ℕ → ℕ) → Held o word → (s : List ℕ) (k : ℕ) → k ≤ length o → 3 * k ≤ length s
    → ((j : ℕ) → j < 3 * k → get_or s j 0 ≡ word j) → take (3 * k) s ≡ words (take k o)
take_words o word held s k fits room same =
    ext_get_or 0 (take (3 * k) s) (words (take k o))
    (length-take-le (3 * k) s room ∙ sym (length_words (take k o) ∙ ap (λ (m : ℕ). 3 * m) (length-take-le k o fits)))
    (λ j h.
    let in-k : j < 3 * k = rw (length-take-le (3 * k) s room) at h in
    rw (get_or-take (3 * k) s j 0 in-k, words_take k o, get_or-take (3 * k) (words o) j 0 in-k)
    (same j in-k ∙ held_words o word held j (omega arith)))

-- ---- the memo

module _ (w : List ℕ) (v n : ℕ) where
  pub memo_start : (o : List Node) (memo : ℕ → ℕ) → ((p : ℕ) → p < n → memo p ≡ 0) → Memo w v n o memo
  memo_start o memo none = record { entry = λ p x h e. let z = none p h in absurd (omega arith) }

  -- Stores elsewhere leave it as it is,
  pub memo_same : (o : List Node) (memo memo' : ℕ → ℕ) → Memo w v n o memo → ((p : ℕ) → p < n → memo' p ≡ memo p) → Memo w v n o memo'
  memo_same o memo memo' m kept = record { entry = λ p x h e. m.entry p x h (sym (kept p h) ∙ e) }

  -- and so does a store that has grown.
  pub memo_grown : {o o' : List Node} (memo : ℕ → ℕ) → Extends o o' → Memo w v n o memo → Memo w v n o' memo
  memo_grown {o} {o'} memo x m = record {
    entry = λ p y h e.
        let was : own w v p o ≡ built o y = m.entry p y h e in
        rw (own_again w v p o o' (rw was x), was) refl;
  }

  -- The entry for a node that has been built on o.
  pub memo_note : (o : List Node) (p : ℕ) (memo memo' : ℕ → ℕ) → Memo w v n (own w v p o).store memo
      → memo' p ≡ suc (own w v p o).pointer → ((q : ℕ) → q < n → q ≢ p → memo' q ≡ memo q) → Memo w v n (own w v p o).store memo'
  memo_note o p memo memo' m new old = record {
    entry = λ q x h e. elim (ℕ_discrete q p) [
      | yes same ↦
          let made : List Node = (own w v p o).store in
          let here : memo' q ≡ memo' p = ap memo' same in
          let pointer : (own w v p o).pointer ≡ x = omega arith in
          rw same (own_again w v p o made (extends_refl made) ∙ ap (built made) pointer)
      | no ne ↦ m.entry q x h (sym (old q h ne) ∙ e)
    ];
  }
