-- The returns of the tests, by what led there.
use Prim.Native.Nat.{ℕ, ◌-◌, ◌*◌, ◌%◌, ◌≤◌, ◌<◌}
use mathlib.Core.Path.{◌≡◌, sym, ◌∙◌, ap}
use mathlib.Core.Logic.{◌≢◌}
use mathlib.Core.Bool.{Bool, true, false, not, and-true, and-false}
use mathlib.Core.List.{List}
use native.Mathlib.Omega.{arith}
use borrow.Author.Tests.{lt-ltb, le-ltb, le-leb, lt-leb, eq-eqb, ne_eqb, not-true, not-false}
use lib.ListN.{length, get_or}
use lib.Dec.{leb, ltb, eqb}
use Rattle.diagram.specs.Limits.{max_nodes, max_variables}
use Rattle.diagram.specs.Diagram.{var_of, low_of, high_of, size, vars}
use Rattle.diagram.specs.Verdict.{any, is_terminal, is_above}
use Rattle.diagram.proofs.Count.{any_intro, Scanned}
use Rattle.pool.specs.Pool.{slot_count, terminal_words, is_free, is_measured, is_ended, is_name, is_right, is_wanted, is_again, each_node, is_pool}
use Rattle.pool.proofs.Testing.{any_none, measured_told}

-- ---- a free place

module _ (t : List ℕ) (p : ℕ) {var : ℕ} (v : var ≡ var_of t p) where
  pub used_by_var : var ≢ 0 → false ≡ is_free t p
  unfolding is_free
  used_by_var ne = simp (ne_eqb (var_of t p) 0 (λ x. ne (v ∙ x)))

  module _ (no-var : var ≡ 0) {low : ℕ} (l : low ≡ low_of t p) where
    pub used_by_low : low ≢ 0 → false ≡ is_free t p
    unfolding is_free
    used_by_low ne = simp (eq-eqb (var_of t p) 0 (sym v ∙ no-var), ne_eqb (low_of t p) 0 (λ x. ne (l ∙ x)))

    pub free_by_high : low ≡ 0 → {high : ℕ} → high ≡ high_of t p → eqb high 0 ≡ is_free t p
    unfolding is_free
    free_by_high no-low h = simp (eq-eqb (var_of t p) 0 (sym v ∙ no-var), eq-eqb (low_of t p) 0 (sym l ∙ no-low), ← h)

-- ---- a slot's word

-- words below this one name nothing, 0, or a terminal
abbrev first_node_name : ℕ
first_node_name = 3

module _ (t : List ℕ) (x : ℕ) where
  pub name_early : x < first_node_name → true ≡ is_name t x
  unfolding is_name
  name_early l = simp (lt-ltb x first_node_name l)

  module _ (later : first_node_name ≤ x) where
    pub name_past : size t < x → false ≡ is_name t x
    unfolding is_name
    name_past l = simp (le-ltb x first_node_name later, lt-leb x (size t) l)

    pub name_by : x ≤ size t → {free : Bool} → free ≡ is_free t (x - 1) → not free ≡ is_name t x
    unfolding is_name
    name_by l e = simp (le-ltb x first_node_name later, le-leb x (size t) l) (ap not e)

module _ (t s : List ℕ) where
  abbrev pub isUnnamed : ℕ → Bool
  isUnnamed k = not (is_name t (get_or s k 0))

  -- what the code says of a slot's word
  unnamed_is : (k : ℕ) {x : ℕ} {r : Bool} → x ≡ get_or s k 0 → r ≡ is_name t x → isUnnamed k ≡ not r
  unnamed_is k e n = rw e at (ap not (sym n))

  pub names_hit : (k : ℕ) {x : ℕ} {r : Bool} → k < slot_count → x ≡ get_or s k 0 → r ≡ is_name t x → not r ≡ true → false ≡ not (any slot_count isUnnamed)
  names_hit k l e n hit = sym (ap not (any_intro slot_count isUnnamed k l (unnamed_is k e n ∙ hit)))

  pub names_end : (k : ℕ) → Scanned isUnnamed 0 k → slot_count ≤ k → true ≡ not (any slot_count isUnnamed)
  names_end k s all = sym (ap not (any_none slot_count isUnnamed (λ q l. s.none q (omega arith) (omega arith))))

-- ---- a node's words

module _ (t : List ℕ) (p : ℕ) {var v : ℕ} (is-var : var ≡ var_of t p) (is-v : v ≡ vars t) where
  pub right_no_var : v ≤ var → false ≡ is_right t p
  unfolding is_right
  right_no_var le = simp (le-ltb (var_of t p) (vars t) (omega arith))

  module _ (in-v : var < v) {low at : ℕ} (is-low : low ≡ low_of t p) (is_at : at ≡ low) where
    var_right : ltb (var_of t p) (vars t) ≡ true
    var_right = lt-ltb (var_of t p) (vars t) (omega arith)

    pub right_no_low : size t ≤ at → false ≡ is_right t p
    unfolding is_right
    right_no_low le = simp (var_right, le-ltb (low_of t p) (size t) (omega arith))

    module _ (in-low : at < size t) {high at₂ : ℕ} (is-high : high ≡ high_of t p) (is-at₂ : at₂ ≡ high) where
      low_right : ltb (low_of t p) (size t) ≡ true
      low_right = lt-ltb (low_of t p) (size t) (omega arith)

      pub right_no_high : size t ≤ at₂ → false ≡ is_right t p
      unfolding is_right
      right_no_high le = simp (var_right, low_right, le-ltb (high_of t p) (size t) (omega arith))

      module _ (in-high : at₂ < size t) where
        high_right : ltb (high_of t p) (size t) ≡ true
        high_right = lt-ltb (high_of t p) (size t) (omega arith)

        pub right_not_lean : low ≡ high → false ≡ is_right t p
        unfolding is_right
        right_not_lean e = simp (var_right, low_right, high_right, eq-eqb (low_of t p) (high_of t p) (cc), and-false)

        pub right_by_above : low ≢ high → {above : Bool} → above ≡ is_above t p → above ≡ is_right t p
        unfolding is_right
        right_by_above ne e = simp (var_right, low_right, high_right, ne_eqb (low_of t p) (high_of t p) (λ x. ne (cc)), and-true, ← e)

-- ---- lengths, terminals, and the whole

module _ (table slots : ℕ) where
  pub measured_not_whole : table % 3 ≢ 0 → false ≡ is_measured table slots
  unfolding is_measured
  measured_not_whole a = simp (ne_eqb (table % 3) 0 a)

  module _ (a : table % 3 ≡ 0) where
    pub measured_short : table < terminal_words → false ≡ is_measured table slots
    unfolding is_measured
    measured_short b = simp (eq-eqb (table % 3) 0 a, lt-leb terminal_words table b)

    module _ (b : terminal_words ≤ table) where
      pub measured_long : 3 * max_nodes < table → false ≡ is_measured table slots
      unfolding is_measured
      measured_long c = simp (eq-eqb (table % 3) 0 a, le-leb terminal_words table b, lt-leb table (3 * max_nodes) c)

      pub measured_by : table ≤ 3 * max_nodes → eqb slots slot_count ≡ is_measured table slots
      unfolding is_measured
      measured_by c = simp (eq-eqb (table % 3) 0 a, le-leb terminal_words table b, le-leb table (3 * max_nodes) c)

module _ (t : List ℕ) {zero_ok : Bool} (e₀ : zero_ok ≡ is_terminal t 0) where
  pub ended_not_zero : not zero_ok ≡ true → false ≡ is_ended t
  unfolding is_ended
  ended_not_zero a = simp (← e₀, not-true zero_ok a)

  module _ (a : not zero_ok ≡ false) {one_ok : Bool} (e₁ : one_ok ≡ is_terminal t 1) where
    pub ended_not_one : not one_ok ≡ true → false ≡ is_ended t
    unfolding is_ended
    ended_not_one b = simp (← e₀, not-false zero_ok a, ← e₁, not-true one_ok b)

    pub ended_by : not one_ok ≡ false → {v : ℕ} → v ≡ vars t → leb v max_variables ≡ is_ended t
    unfolding is_ended
    ended_by b e = simp (← e₀, not-false zero_ok a, ← e₁, not-false one_ok b, ← e)

pub measured_few : (t s : List ℕ) {measured : Bool} → measured ≡ is_measured (length t) (length s) → not measured ≡ false → size t ≤ max_nodes
measured_few t s {measured} e a = (measured_told t s (sym e ∙ not-false measured a)).few

module _ (t s : List ℕ) {measured : Bool} (e₁ : measured ≡ is_measured (length t) (length s)) where
  pub pool_1 : not measured ≡ true → false ≡ is_pool t s
  unfolding is_pool
  pool_1 a = simp (← e₁, not-true measured a)

  module _ (a₁ : not measured ≡ false) {ended : Bool} (e₂ : ended ≡ is_ended t) where
    pub pool_2 : not ended ≡ true → false ≡ is_pool t s
    unfolding is_pool
    pool_2 a = simp (← e₁, not-false measured a₁, ← e₂, not-true ended a)

    module _ (a₂ : not ended ≡ false) {names : Bool} (e₃ : names ≡ not (any slot_count (λ k. not (is_name t (get_or s k 0))))) where
      pub pool_3 : not names ≡ true → false ≡ is_pool t s
      unfolding is_pool
      pool_3 a = simp (← e₁, not-false measured a₁, ← e₂, not-false ended a₂, ← e₃, not-true names a)

      module _ (a₃ : not names ≡ false) {right : Bool} (e₄ : right ≡ each_node t (is_right t)) where
        pub pool_4 : not right ≡ true → false ≡ is_pool t s
        unfolding is_pool
        pool_4 a = simp (← e₁, not-false measured a₁, ← e₂, not-false ended a₂, ← e₃, not-false names a₃, ← e₄, not-true right a)

        module _ (a₄ : not right ≡ false) {wanted : Bool} (e₅ : wanted ≡ each_node t (is_wanted t s)) where
          pub pool_5 : not wanted ≡ true → false ≡ is_pool t s
          unfolding is_pool
          pool_5 a = simp (← e₁, not-false measured a₁, ← e₂, not-false ended a₂, ← e₃, not-false names a₃, ← e₄, not-false right a₄, ← e₅, not-true wanted a)

          pub pool_6 : not wanted ≡ false → {distinct : Bool} → distinct ≡ each_node t (λ p. not (is_again t p)) → distinct ≡ is_pool t s
          unfolding is_pool
          pool_6 a e₆ = simp (← e₁, not-false measured a₁, ← e₂, not-false ended a₂, ← e₃, not-false names a₃, ← e₄, not-false right a₄, ← e₅, not-false wanted a, ← e₆)
