-- A node's worth from its children's, for valuations and for paths alike, and its bound.
use Prim.Native.Nat.{ℕ, zero, suc, ◌+◌, ◌-◌, ◌*◌, ◌^◌, ◌≤◌, ◌<◌}
use mathlib.Core.Path.{◌≡◌, refl, sym, ap, ◌∙◌}
use mathlib.Core.Bool.{Bool, true, false, cond}
use mathlib.Core.List.{List, ◌∷◌}
use native.Mathlib.Omega.{arith}
use native.Mathlib.Nat.{pow-suc, mul-one, mul_assoc, mul-le-mul, sub-zero, le_trans, lt_of_le_of_lt}
use lib.Pow.{pow_pos, pow-add, pow_mono, pow-lt}
use lib.Dec.{eqb}
use borrow.Author.Tests.{lt-ltb, le-ltb}
use Rattle.naturals.specs.Natural.{limit, limit_in, word_count}
use Rattle.diagram.specs.Limits.{max_variables}
use Rattle.diagram.specs.Diagram.{var_of, low_of, high_of, size, vars, root, holds, Ordered}
use Rattle.diagram.specs.Reading.{eval, pass}
use Rattle.diagram.specs.Valuations.{tally, count_of}
use Rattle.diagram.proofs.Reading.{Layered, layered, root_in, by_two, pass_tests, pass_skips, eval_nil, eval_cons, at_end, var_most, holds_is_eval}
use Rattle.counts.specs.Paths.{paths, path_count_of}
use Rattle.counts.specs.Worth.{worth_of, doublings, part_of, total_of}
use Rattle.diagram.proofs.Tally.{tally_zero, tally_suc, tally_same, tally_most}

-- ---- paths

pub paths_ends : (w : List ℕ) (k p : ℕ) → p < 2 → paths w k p ≡ cond (eqb p 1) 1 0
unfolding paths
paths_ends w zero p h = refl
paths_ends w (suc k) p h = simp (lt-ltb p 2 h)

pub paths_node : (w : List ℕ) (k p : ℕ) → 2 ≤ p → paths w (suc k) p ≡ paths w k (low_of w p) + paths w k (high_of w p)
unfolding paths
paths_node w k p h = simp (le-ltb p 2 h)

one_bit : (b : Bool) → cond b 1 0 ≤ 1
one_bit true = omega arith
one_bit false = omega arith

paths_none : (w : List ℕ) (p : ℕ) → paths w zero p ≡ cond (eqb p 1) 1 0
unfolding paths
paths_none w p = refl

pub paths_most : (w : List ℕ) (k p : ℕ) → paths w k p ≤ 2 ^ k
paths_most w zero p = omega (arith, paths_none w p, one_bit (eqb p 1))
paths_most w (suc k) p = by_two p
    (λ t. omega (arith, paths_ends w (suc k) p t, one_bit (eqb p 1), pow_pos (suc k)))
    (λ two. omega (arith, paths_node w k p two, paths_most w k (low_of w p), paths_most w k (high_of w p), pow-suc 2 k))

module _ (w : List ℕ) (v n : ℕ) (g : Layered w v n) where
  -- as many links as variables are left are enough
  pub paths_enough : (k j p : ℕ) → p < n → v ≤ var_of w p + k → v ≤ var_of w p + j → paths w k p ≡ paths w j p
  paths_enough zero j p h a b =
      let t = at_end w v n g p h (omega arith) in
      paths_ends w zero p t ∙ sym (paths_ends w j p t)
  paths_enough (suc k) zero p h a b =
      let t = at_end w v n g p h (omega arith) in
      paths_ends w (suc k) p t ∙ sym (paths_ends w zero p t)
  paths_enough (suc k) (suc j) p h a b = by_two p
      (λ t. paths_ends w (suc k) p t ∙ sym (paths_ends w (suc j) p t))
      (λ two.
      let l = g.node p two h in
      let x = paths_enough k j (low_of w p) l.low (omega arith) (omega arith) in
      let y = paths_enough k j (high_of w p) l.high (omega arith) (omega arith) in
      omega (arith, paths_node w k p two, paths_node w j p two))

  -- ---- valuations: how many of the variables from i on lead from p to node 1

  abbrev seen : ℕ → ℕ → ℕ
  seen i p = tally (v - i) (eval w i p)

  seen_step : (i p : ℕ) → i < v → seen i p ≡ seen (suc i) (pass w i p false) + seen (suc i) (pass w i p true)
  seen_step i p h =
      let e : v - i ≡ suc (v - suc i) = omega arith in
      ap (λ (k : ℕ). tally k (eval w i p)) e
      ∙ tally_suc (v - suc i) (eval w i p)
      ∙ ap (λ (x : ℕ). x + tally (v - suc i) (λ bs. eval w i p (true ∷ bs))) (half false)
      ∙ ap (λ (x : ℕ). seen (suc i) (pass w i p false) + x) (half true)
    where
      half : (b : Bool) → tally (v - suc i) (λ bs. eval w i p (b ∷ bs)) ≡ seen (suc i) (pass w i p b)
      half b = tally_same (v - suc i) (λ bs. eval w i p (b ∷ bs)) (eval w (suc i) (pass w i p b)) (λ bs l. eval_cons w i p b bs)

  -- each skipped variable doubles
  pub seen_skip : (d i p : ℕ) → i + d ≡ var_of w p → p < n → seen i p ≡ seen (var_of w p) p * 2 ^ d
  seen_skip zero i p e h =
      let same : i ≡ var_of w p = omega arith in
      rw same (omega (arith, mul-one (seen (var_of w p) p)))
  seen_skip (suc d) i p e h =
      let m = var_most w v n g p h in
      let skip : (b : Bool) → pass w i p b ≡ p = λ b. pass_skips w i p b (omega arith) in
      let rest = seen_skip d (suc i) p (omega arith) h in
      seen_step i p (omega arith)
      ∙ rw (skip false, skip true)
      (omega (arith, ap (λ (x : ℕ). seen (var_of w p) p * x) (pow-suc 2 d), mul_assoc (seen (var_of w p) p) (2 ^ d) 2))

  pub seen_node : (p : ℕ) → 2 ≤ p → p < n → seen (var_of w p) p
      ≡ seen (var_of w (low_of w p)) (low_of w p) * 2 ^ (var_of w (low_of w p) - var_of w p - 1)
      + seen (var_of w (high_of w p)) (high_of w p) * 2 ^ (var_of w (high_of w p) - var_of w p - 1)
  seen_node p two h =
      let l = g.node p two h in
      let a = seen_skip (var_of w (low_of w p) - var_of w p - 1) (suc (var_of w p)) (low_of w p) (omega arith) l.low in
      let b = seen_skip (var_of w (high_of w p) - var_of w p - 1) (suc (var_of w p)) (high_of w p) (omega arith) l.high in
      seen_step (var_of w p) p l.var
      ∙ rw (pass_tests w (var_of w p) p false two refl, pass_tests w (var_of w p) p true two refl) (omega arith)

  pub seen_end : (p : ℕ) → p < 2 → p < n → seen (var_of w p) p ≡ cond (eqb p 1) 1 0
  seen_end p t h =
      let e : v - var_of w p ≡ zero = omega (arith, g.terminal p t h) in
      ap (λ (k : ℕ). tally k (eval w (var_of w p) p)) e ∙ tally_zero (eval w (var_of w p) p) ∙ ap (λ (b : Bool). cond b 1 0) (eval_nil w (var_of w p) p)

-- ---- both

module _ (w : List ℕ) (o : Ordered w) where
  abbrev g : Layered w (vars w) (size w)
  g = layered w o

  -- a terminal's worth is its own number
  pub worth_end : (b : Bool) (p : ℕ) → p < 2 → p < size w → worth_of b w p ≡ p
  unfolding worth_of
  worth_end true zero t h = seen_end w (vars w) (size w) g 0 t h
  worth_end true (suc zero) t h = seen_end w (vars w) (size w) g 1 t h
  worth_end true (suc (suc p)) t h = absurd (omega arith)
  worth_end false zero t h = paths_ends w (vars w - var_of w 0) 0 t
  worth_end false (suc zero) t h = paths_ends w (vars w - var_of w 1) 1 t
  worth_end false (suc (suc p)) t h = absurd (omega arith)

  -- any other's is the sum of its children's, doubled for each variable that the link skips
  pub worth_node : (b : Bool) (p : ℕ) → 2 ≤ p → p < size w → worth_of b w p
      ≡ part_of b w p (low_of w p) (worth_of b w (low_of w p)) + part_of b w p (high_of w p) (worth_of b w (high_of w p))
  unfolding worth_of doublings
  worth_node true p two h = seen_node w (vars w) (size w) g p two h
  worth_node false p two h =
      let l = g.node p two h in
      let e : vars w - var_of w p ≡ suc (vars w - var_of w p - 1) = omega (arith, l.var) in
      let a = paths_enough w (vars w) (size w) g (vars w - var_of w p - 1) (vars w - var_of w (low_of w p)) (low_of w p) l.low (omega arith) (omega arith) in
      let c = paths_enough w (vars w) (size w) g (vars w - var_of w p - 1) (vars w - var_of w (high_of w p)) (high_of w p) l.high (omega arith) (omega arith) in
      ap (λ (k : ℕ). paths w k p) e ∙ paths_node w (vars w - var_of w p - 1) p two ∙ omega arith

  pub worth_most : (b : Bool) (p : ℕ) → worth_of b w p ≤ 2 ^ (vars w - var_of w p)
  unfolding worth_of
  worth_most true p = tally_most (vars w - var_of w p) (eval w (var_of w p) p)
  worth_most false p = paths_most w (vars w - var_of w p) p

  -- the count, and the number of paths
  pub total_valuations : total_of true w ≡ count_of w
  unfolding worth_of doublings
  total_valuations =
      sym (tally_same (vars w) (holds w) (eval w 0 (root w)) (λ bs l. holds_is_eval w o bs l)
      ∙ ap (λ (k : ℕ). tally k (eval w 0 (root w))) (sym (sub-zero (vars w)))
      ∙ seen_skip w (vars w) (size w) g (var_of w (root w)) 0 (root w) (omega arith) (root_in w o))

  pub total_paths : total_of false w ≡ path_count_of w
  unfolding worth_of doublings
  total_paths =
      mul-one (paths w (vars w - var_of w (root w)) (root w))
      ∙ paths_enough w (vars w) (size w) g (vars w - var_of w (root w)) (vars w) (root w) (root_in w o) (omega arith) (omega arith)

-- ---- nothing overflows

pub doublings_most : (b : Bool) (d : ℕ) → doublings b d ≤ d
unfolding doublings
doublings_most true d = omega arith
doublings_most false d = omega arith

-- the bound, for any number of words
pub under_words : (n x k : ℕ) → x ≤ 2 ^ k → k < 32 * n → x < limit_in n
unfolding limit_in
under_words n x k a b = lt_of_le_of_lt a (pow-lt {i = k} {j = 32 * n} b)

-- and at the words of a count, which the most variables leave room in
pub under_limit : (x k : ℕ) → x ≤ 2 ^ k → k ≤ max_variables → x < limit
under_limit x k a b = under_words word_count x k a (omega arith)

scaled_most : (x a d e : ℕ) → x ≤ 2 ^ a → d ≤ e → x * 2 ^ d ≤ 2 ^ (a + e)
scaled_most x a d e h l = rw (pow-add 2 a e) (mul-le-mul h (pow_mono l))

module _ (w : List ℕ) (o : Ordered w) (b : Bool) where
  pub total_fits : total_of b w < limit
  total_fits =
      let m = var_most w (vars w) (size w) (layered w o) (root w) (root_in w o) in
      let d = doublings_most b (var_of w (root w)) in
      let u = o.formed.variables in
      under_limit (total_of b w) ((vars w - var_of w (root w)) + var_of w (root w))
      (scaled_most (worth_of b w (root w)) (vars w - var_of w (root w)) (doublings b (var_of w (root w))) (var_of w (root w)) (worth_most w o b (root w)) d)
      (omega arith)
