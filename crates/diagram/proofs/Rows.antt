-- Each return of the checks is its row of the verdict, by the tests that led there.
use Prim.Native.Nat.{ℕ, ◌+◌, ◌-◌, ◌*◌, ◌/◌, ◌%◌, ◌≤◌, ◌<◌, max}
use mathlib.Core.Path.{◌≡◌, sym, ◌∙◌, ap}
use mathlib.Core.Bool.{Bool, true, false, not, ◌&&◌}
use mathlib.Core.List.{List}
use native.Mathlib.Omega.{arith}
use native.Mathlib.Nat.{add_comm}
use borrow.Author.Tests.{lt-ltb, le-ltb, le-leb, lt-leb, eq-eqb, ne_eqb}
use lib.ListN.{length, get_or, take, drop, length-take, length-drop}
use lib.Seq.{get_or-take, get_or-drop}
use lib.Dec.{ltb, eqb}
use Rattle.naturals.specs.Natural.{word_count}
use Rattle.diagram.specs.Limits.{max_nodes, max_variables, room_per_node}
use Rattle.diagram.specs.Diagram.{var_of, low_of, high_of, size, vars}
use Rattle.diagram.specs.Verdict.{accepted, refused, row, short, lengths_of, is_terminal, terminals_of, first, first_node, ranges_of, reaches, is_above_low, is_broken, graph_of}
use Rattle.diagram.specs.declared.verdict.Refused.{Refused}
use Rattle.diagram.specs.Refusal.{number_of}
use Rattle.diagram.specs.Faults.{IsFirstFault, fault_of, is_faulty, order_number}
use Rattle.diagram.specs.Marking.{Marks}
use Rattle.diagram.specs.declared.verdict.Output.{Output}
use Rattle.diagram.specs.declared.verdict.Output.TheVariants.{Nothing, Diagram, Weights, PerVariable}
use Rattle.diagram.proofs.Tests.{by_test}
use Rattle.diagram.proofs.Count.{first_shift, first_from, first_same}
use Rattle.diagram.proofs.Faulty.{ranges_by}

-- 4: by what is lent
module _ (w : List ℕ) (o : Output) where
  pub short_nothing : o ≡ Nothing → false ≡ short w o
  unfolding short
  short_nothing e = rw e

  pub short_diagram : (lent m : ℕ) → o ≡ Diagram lent → m ≡ max (size w) 2 → ltb lent (3 * m) ≡ short w o
  unfolding short
  short_diagram lent m e em = rw (e, em)

  pub short_weights : (lent : ℕ) → o ≡ Weights lent → ltb lent (word_count * size w) ≡ short w o
  unfolding short
  short_weights lent e = rw e

  pub short_per_variable : (lent : ℕ) → o ≡ PerVariable lent → ltb lent max_variables ≡ short w o
  unfolding short
  short_per_variable lent e = rw e

-- 1 to 5
module _ (w : List ℕ) (o : Output) (room : ℕ) where
  pub refuse_1 : length w ≡ 0 → refused 1 0 ≡ lengths_of w o room
  unfolding lengths_of row
  refuse_1 a = simp (eq-eqb (length w) 0 a)

  module _ (a : length w ≡ 0 → ⊥) where
    pub refuse_2 : (length w % 3 ≡ 0 → ⊥) → refused 2 0 ≡ lengths_of w o room
    unfolding lengths_of row
    refuse_2 b = simp (ne_eqb (length w) 0 a, ne_eqb (length w % 3) 0 b)

    module _ (b : length w % 3 ≡ 0) where
      pub refuse_3 : max_nodes < size w → refused 3 0 ≡ lengths_of w o room
      unfolding lengths_of row
      refuse_3 c = simp (ne_eqb (length w) 0 a, eq-eqb (length w % 3) 0 b, lt-ltb max_nodes (size w) c)

      module _ (c : size w ≤ max_nodes) where
        pub refuse_4 : (s : Bool) → s ≡ short w o → s ≡ true → refused 4 0 ≡ lengths_of w o room
        unfolding lengths_of row
        refuse_4 s e d = simp (ne_eqb (length w) 0 a, eq-eqb (length w % 3) 0 b, le-ltb max_nodes (size w) c, sym e ∙ d)

        module _ (s : Bool) (e : s ≡ short w o) (d : s ≡ false) (m : ℕ) (em : m ≡ max (size w) 2) where
          pub refuse_5 : room < room_per_node * m → refused 5 0 ≡ lengths_of w o room
          unfolding lengths_of row
          refuse_5 f = simp (ne_eqb (length w) 0 a, eq-eqb (length w % 3) 0 b, le-ltb max_nodes (size w) c, sym e ∙ d, lt-ltb room (room_per_node * max (size w) 2) (rw em at f))

          pub pass_5 : room_per_node * m ≤ room → (v : ℕ) → v ≡ vars w → accepted (size w) v ≡ lengths_of w o room
          unfolding lengths_of row
          pass_5 f v ev = simp (ne_eqb (length w) 0 a, eq-eqb (length w % 3) 0 b, le-ltb max_nodes (size w) c, sym e ∙ d, le-ltb room (room_per_node * max (size w) 2) (rw em at f)) (ap (λ (x : ℕ). accepted (size w) x) ev)

-- 6 and 7: a node is a terminal
module _ (w : List ℕ) (p var v : ℕ) (e₁ : var ≡ var_of w p) (e₂ : v ≡ vars w) where
  pub terminal_no_var : (var ≡ v → ⊥) → false ≡ is_terminal w p
  unfolding is_terminal
  terminal_no_var n = simp (ne_eqb (var_of w p) (vars w) (λ x. n (cc)))

  module _ (a : var ≡ v) (low : ℕ) (e₃ : low ≡ low_of w p) where
    var_same : eqb (var_of w p) (vars w) ≡ true
    var_same = eq-eqb (var_of w p) (vars w) (cc)

    pub terminal_no_low : (low ≡ p → ⊥) → false ≡ is_terminal w p
    unfolding is_terminal
    terminal_no_low n = simp (var_same, ne_eqb (low_of w p) p (λ x. n (cc)))

    pub terminal_by_high : low ≡ p → (high : ℕ) → high ≡ high_of w p → eqb high p ≡ is_terminal w p
    unfolding is_terminal
    terminal_by_high b high e₄ = simp (var_same, eq-eqb (low_of w p) p (cc)) (ap (λ (x : ℕ). eqb x p) e₄)

module _ (w : List ℕ) where
  pub lacks_yes : (b : Bool) → 1 < size w → b ≡ is_terminal w 1 → not b ≡ (ltb 1 (size w) && not (is_terminal w 1))
  lacks_yes b l e = simp (lt-ltb 1 (size w) l) (ap not e)

  pub lacks_no : size w ≤ 1 → false ≡ (ltb 1 (size w) && not (is_terminal w 1))
  lacks_no l = simp (le-ltb 1 (size w) l)

  module _ (zero_ok : Bool) (e₀ : zero_ok ≡ is_terminal w 0) where
    pub refuse_6 : not zero_ok ≡ true → refused 6 0 ≡ terminals_of w
    unfolding terminals_of row
    refuse_6 a = simp (← e₀, a)

    module _ (a : not zero_ok ≡ false) (lacks : Bool) (e₁ : lacks ≡ (ltb 1 (size w) && not (is_terminal w 1))) where
      pub refuse_6_one : lacks ≡ true → refused 6 1 ≡ terminals_of w
      unfolding terminals_of row
      refuse_6_one b = simp (← e₀, a, ← e₁, b)

      module _ (b : lacks ≡ false) (v : ℕ) (ev : v ≡ vars w) where
        pub refuse_7 : max_variables < v → refused 7 0 ≡ terminals_of w
        unfolding terminals_of row
        refuse_7 l = simp (← e₀, a, ← e₁, b, lt-ltb max_variables (vars w) (rw ev at l))

        pub pass_7 : v ≤ max_variables → accepted (size w) v ≡ terminals_of w
        unfolding terminals_of row
        pass_7 l = simp (← e₀, a, ← e₁, b, le-ltb max_variables (vars w) (rw ev at l)) (ap (λ (x : ℕ). accepted (size w) x) ev)

-- 8 to 10: what is out of range at a node
module _ (n v : ℕ) (w : List ℕ) (p var : ℕ) (e₁ : var ≡ var_of w p) where
  pub fault_var : v ≤ var → 8 ≡ fault_of n v w p
  unfolding fault_of
  fault_var l = simp (le-leb v (var_of w p) (rw e₁ at l))

  module _ (a : var < v) (low : ℕ) (e₂ : low ≡ low_of w p) where
    pub fault_low : n ≤ low → 9 ≡ fault_of n v w p
    unfolding fault_of
    fault_low l = simp (lt-leb v (var_of w p) (rw e₁ at a), le-leb n (low_of w p) (rw e₂ at l))

    module _ (b : low < n) (high : ℕ) (e₃ : high ≡ high_of w p) where
      pub fault_high : n ≤ high → 10 ≡ fault_of n v w p
      unfolding fault_of
      fault_high l = simp (lt-leb v (var_of w p) (rw e₁ at a), lt-leb n (low_of w p) (rw e₂ at b), le-leb n (high_of w p) (rw e₃ at l))

      pub fault_none : high < n → 0 ≡ fault_of n v w p
      unfolding fault_of
      fault_none l = simp (lt-leb v (var_of w p) (rw e₁ at a), lt-leb n (low_of w p) (rw e₂ at b), lt-leb n (high_of w p) (rw e₃ at l))

-- the stretch of the words that starts at node 2: its nodes are those from 2 on
module _ (w : List ℕ) where
  abbrev stretch : List ℕ
  stretch = take (length w - 6) (drop 6 w)

  stretch_word : (i : ℕ) → i + 6 < length w → get_or stretch i 0 ≡ get_or w (6 + i) 0
  stretch_word i l = get_or-take (length w - 6) (drop 6 w) i 0 (omega arith) ∙ get_or-drop 6 w i 0

  stretch_fault : (n v p : ℕ) → 3 * (2 + p) + 2 < length w → fault_of n v w (2 + p) ≡ fault_of n v stretch p
  unfolding fault_of
  stretch_fault n v p l =
      let a : var_of w (2 + p) ≡ var_of stretch p = word_at (3 * (2 + p)) (3 * p) (omega arith) (omega arith) in
      let b : low_of w (2 + p) ≡ low_of stretch p = word_at (3 * (2 + p) + 1) (3 * p + 1) (omega arith) (omega arith) in
      let c : high_of w (2 + p) ≡ high_of stretch p = word_at (3 * (2 + p) + 2) (3 * p + 2) (omega arith) (omega arith) in
      rw (a, b, c)
    where
      word_at : (i j : ℕ) → i ≡ 6 + j → j + 6 < length w → get_or w i 0 ≡ get_or stretch j 0
      word_at i j e m = ap (λ (x : ℕ). get_or w x 0) e ∙ sym (stretch_word j m)

  pub stretch_first : (n v : ℕ) → 2 < size w
      → first_node w (is_faulty n v w) ≡ 2 + first (is_faulty n v stretch) 0 (length stretch / 3)
  stretch_first n v l =
      let e : length stretch / 3 ≡ size w - 2 = simp (length-take, length-drop) (omega arith) in
      rw e
      (first_shift (is_faulty n v w) (is_faulty n v stretch) 2 0 (size w - 2)
      (λ p a b. ap (λ (x : ℕ). not (eqb x 0)) (stretch_fault n v p (omega arith))))

-- 8 to 10
module _ (w : List ℕ) (v : ℕ) (ev : v ≡ vars w) where
  abbrev fault : ℕ → Bool
  fault = is_faulty (size w) (vars w) w

  pub ranges_few : size w ≤ 2 → accepted (size w) v ≡ ranges_of w
  unfolding row
  ranges_few l =
      simp (ranges_by w, le-ltb (first_node w fault) (size w) (omega (arith, (first_from fault 2 (size w - 2)).0))) (ap (λ (x : ℕ). accepted (size w) x) ev)

  stretch_nodes : length (stretch w) / 3 ≡ size w - 2
  stretch_nodes = simp (length-take, length-drop) (omega arith)

  module _ (more : 2 < size w) (at : ℕ) (ea : at ≡ first (is_faulty (size w) v (stretch w)) 0 (length (stretch w) / 3)) where
    place_is : first_node w fault ≡ at + 2
    place_is =
        stretch_first w (size w) (vars w) more ∙ ap (λ (x : ℕ). 2 + x) (rw (← ev) (sym ea)) ∙ add_comm 2 at

    ranges_bad : (number : ℕ) → at + 2 < size w → number ≡ fault_of (size w) v w (at + 2) → refused number (at + 2) ≡ ranges_of w
    unfolding row
    ranges_bad number l e = simp (ranges_by w, place_is, lt-ltb (at + 2) (size w) l) (rw (e, ev))

    ranges_good : size w ≤ at + 2 → accepted (size w) v ≡ ranges_of w
    unfolding row
    ranges_good l = simp (ranges_by w, place_is, le-ltb (at + 2) (size w) l) (ap (λ (x : ℕ). accepted (size w) x) ev)

  pub ranges_fault : 2 < size w → (e : Refused) → IsFirstFault (size w) v (stretch w) e → refused (number_of e.reason) (e.place + 2) ≡ ranges_of w
  ranges_fault more e f =
      ranges_bad more e.place f.place (number_of e.reason) (omega (arith, f.within, stretch_nodes))
      (f.number ∙ sym (stretch_fault w (size w) v e.place (omega (arith, f.within, stretch_nodes))) ∙ ap (fault_of (size w) v w) (add_comm 2 e.place))

  pub ranges_clear : 2 < size w → first (is_faulty (size w) v (stretch w)) 0 (length (stretch w) / 3) ≡ length (stretch w) / 3 → accepted (size w) v ≡ ranges_of w
  ranges_clear more e = ranges_good more (length (stretch w) / 3) (sym e) (omega (arith, stretch_nodes))

-- 11, 17 and 12
module _ (w : List ℕ) (n broken : ℕ) (en : n ≡ size w) (eb : broken ≡ first_node w (is_broken w)) where
  pub broken_near : broken ≤ 2 + (size w - 2)
  broken_near = omega (arith, eb, (first_from (is_broken w) 2 (size w - 2)).1)

  pub refuse_order : broken < n → (number : ℕ) → number ≡ order_number (is_above_low w broken) → refused number broken ≡ graph_of w
  unfolding graph_of row
  refuse_order l number e =
      let inside : ltb broken (size w) ≡ true = lt-ltb broken (size w) (rw en at l) in
      by_test (is_above_low w broken)
      (λ t. simp (← eb, inside, e, t))
      (λ f. simp (← eb, inside, e, f))

  module _ (a : n ≤ broken) (r : List ℕ) (marks : Marks w r) (lost : ℕ) (el : lost ≡ first (λ p. eqb (get_or r p 0) 0) 2 (n - 2)) where
    lost_is : lost ≡ first_node w (λ p. not (reaches w p))
    lost_is =
        el ∙ ap (λ (k : ℕ). first (λ p. eqb (get_or r p 0) 0) 2 (k - 2)) en
        ∙ first_same (λ p. eqb (get_or r p 0) 0) (λ p. not (reaches w p)) 2 (size w - 2) (λ p l m. marks p (omega arith))

    pub refuse_12 : lost < n → refused 12 lost ≡ graph_of w
    unfolding graph_of row
    refuse_12 l = simp (← eb, le-ltb broken (size w) (rw en at a), ← lost_is, lt-ltb lost (size w) (rw en at l))

    pub pass_12 : n ≤ lost → (v : ℕ) → v ≡ vars w → accepted n v ≡ graph_of w
    unfolding graph_of row
    pass_12 l v ev = simp (← eb, le-ltb broken (size w) (rw en at a), ← lost_is, le-ltb lost (size w) (rw en at l)) (rw (en, ev))
