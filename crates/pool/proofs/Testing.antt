-- The test `is_pool` says exactly what `WellFormed` says. Reached is told by parents: where variables grow along every link, a node that a
-- slot or another node's link names has parents at ever smaller variables, and these end at a slot.
use Prim.Native.Nat.{ℕ, zero, suc, ◌+◌, ◌-◌, ◌*◌, ◌%◌, ◌≤◌, ◌<◌}
use mathlib.Core.Path.{◌≡◌, refl, sym, subst, ◌∙◌, ap}
use mathlib.Core.Bool.{Bool, true, false, not, ◌&&◌, ◌||◌}
use mathlib.Core.List.{List}
use mathlib.Core.Logic.{◌⊎◌, inl, inr, ⊎_elim, ◌≢◌}
use native.Mathlib.Omega.{arith}
use borrow.Author.Tests.{ltb-true, ltb-false, leb-true, eqb-true, eqb-false, not-true, not-false, lt-ltb, le-leb, eq-eqb, ne_eqb}
use lib.ListN.{length, get_or, get_or-eq_default}
use lib.Dec.{leb, ltb, eqb}
use Rattle.diagram.specs.Limits.{max_nodes, max_variables}
use Rattle.diagram.specs.Diagram.{var_of, low_of, high_of, size, vars, Reach, start, by_low, by_high, Terminal, InRange, Above}
use Rattle.diagram.specs.Verdict.{any, is_terminal, is_child, is_above}
use Rattle.diagram.proofs.Tests.{by_test, not_both, or_left, or_right, or_cases, and_both, both_and}
use Rattle.diagram.proofs.Count.{any_intro, any_elim}
use Rattle.diagram.proofs.Meaning.{above_told, above_tells}
use Rattle.pool.specs.Pool.{slot_count, terminal_words, Free, Inner, Live, WellFormed, is_free, is_measured, is_ended, is_name, is_right, is_wanted, is_again, each_node, is_pool}

-- ---- none of the numbers below n passes a test

pub any_none : (n : ℕ) (test : ℕ → Bool) → ((q : ℕ) → q < n → test q ≡ false) → any n test ≡ false
any_none n test none = by_test (any n test)
    (λ e. let a = any_elim n test e in absurd (not_both (test a.0) a.2 (none a.0 a.1)))
    (λ e. e)

pub none_any : (n : ℕ) (test : ℕ → Bool) → any n test ≡ false → (q : ℕ) → q < n → test q ≡ false
none_any n test e q l = by_test (test q) (λ a. absurd (not_both (any n test) (any_intro n test q l a) e)) (λ a. a)

-- ---- every node passes a test

pub free_told : (t : List ℕ) (p : ℕ) → is_free t p ≡ true → Free t p
unfolding is_free
free_told t p e =
    let a = and_both (eqb (var_of t p) 0) (eqb (low_of t p) 0 && eqb (high_of t p) 0) e in
    let b = and_both (eqb (low_of t p) 0) (eqb (high_of t p) 0) a.1 in
    record { var = eqb-true (var_of t p) 0 a.0; low = eqb-true (low_of t p) 0 b.0; high = eqb-true (high_of t p) 0 b.1 }

pub free_tells : (t : List ℕ) (p : ℕ) → Free t p → is_free t p ≡ true
unfolding is_free
free_tells t p f = simp (eq-eqb (var_of t p) 0 f.var, eq-eqb (low_of t p) 0 f.low, eq-eqb (high_of t p) 0 f.high)

pub used_told : (t : List ℕ) (p : ℕ) → is_free t p ≡ false → ¬ Free t p
used_told t p e f = not_both (is_free t p) (free_tells t p f) e

pub used_tells : (t : List ℕ) (p : ℕ) → (¬ Free t p) → is_free t p ≡ false
used_tells t p used = by_test (is_free t p) (λ e. absurd (used (free_told t p e))) (λ e. e)

-- Place p, after the terminals, is a node that fails.
abbrev pub fails : List ℕ → (ℕ → Bool) → ℕ → Bool
fails t test p = leb 2 p && (not (is_free t p) && not (test p))

pub fails_told : (t : List ℕ) (test : ℕ → Bool) (p : ℕ) → p < size t → fails t test p ≡ true → Inner t p × (test p ≡ false)
fails_told t test p l e =
    let a = and_both (leb 2 p) (not (is_free t p) && not (test p)) e in
    let b = and_both (not (is_free t p)) (not (test p)) a.1 in
    (record { after = leb-true 2 p a.0; inside = l; used = used_told t p (not-true (is_free t p) b.0) }, not-true (test p) b.1)

pub fails_tells : (t : List ℕ) (test : ℕ → Bool) (p : ℕ) → Inner t p → test p ≡ false → fails t test p ≡ true
fails_tells t test p i e = simp (le-leb 2 p i.after, used_tells t p i.used, e)

module _ (t : List ℕ) (test : ℕ → Bool) where
  pub each_told : each_node t test ≡ true → (p : ℕ) → Inner t p → test p ≡ true
  unfolding each_node
  each_told e p i = by_test (test p)
      (λ a. a)
      (λ a. absurd (not_both (fails t test p) (fails_tells t test p i a) (none_any (size t) (fails t test) (not-true (any (size t) (fails t test)) e) p i.inside)))

  pub each_tells : ((p : ℕ) → Inner t p → test p ≡ true) → each_node t test ≡ true
  unfolding each_node
  each_tells all = ap not (any_none (size t) (fails t test) (λ p l. by_test (fails t test p)
      (λ e. let a = fails_told t test p l e in absurd (not_both (test p) (all p a.0) a.1))
      (λ e. e)))

-- ---- the parts

terminal_told : (t : List ℕ) (p : ℕ) → is_terminal t p ≡ true → Terminal t p
unfolding is_terminal
terminal_told t p e =
    let a = and_both (eqb (var_of t p) (vars t)) (eqb (low_of t p) p && eqb (high_of t p) p) e in
    let b = and_both (eqb (low_of t p) p) (eqb (high_of t p) p) a.1 in
    record { var = eqb-true (var_of t p) (vars t) a.0; low = eqb-true (low_of t p) p b.0; high = eqb-true (high_of t p) p b.1 }

terminal_tells : (t : List ℕ) (p : ℕ) → Terminal t p → is_terminal t p ≡ true
unfolding is_terminal
terminal_tells t p e = simp (eq-eqb (var_of t p) (vars t) e.var, eq-eqb (low_of t p) p e.low, eq-eqb (high_of t p) p e.high)

pub record Measured (t s : List ℕ) : Type 0 where
  pub whole : length t ≡ 3 * size t
  pub two : 2 ≤ size t
  pub few : size t ≤ max_nodes
  pub slots : length s ≡ slot_count

pub measured_told : (t s : List ℕ) → is_measured (length t) (length s) ≡ true → Measured t s
unfolding is_measured
measured_told t s e =
    let a = and_both (eqb (length t % 3) 0) (leb terminal_words (length t) && (leb (length t) (3 * max_nodes) && eqb (length s) slot_count)) e in
    let b = and_both (leb terminal_words (length t)) (leb (length t) (3 * max_nodes) && eqb (length s) slot_count) a.1 in
    let c = and_both (leb (length t) (3 * max_nodes)) (eqb (length s) slot_count) b.1 in
    let whole = eqb-true (length t % 3) 0 a.0 in
    let two = leb-true terminal_words (length t) b.0 in
    let few = leb-true (length t) (3 * max_nodes) c.0 in
    record { whole = omega arith; two = omega arith; few = omega arith; slots = eqb-true (length s) slot_count c.1 }

measured_tells : (t s : List ℕ) → Measured t s → is_measured (length t) (length s) ≡ true
unfolding is_measured
measured_tells t s m =
    let w = m.whole in
    let two = m.two in
    let few = m.few in
    simp (eq-eqb (length t % 3) 0 (omega arith), le-leb terminal_words (length t) (omega arith), le-leb (length t) (3 * max_nodes) (omega arith), eq-eqb (length s) slot_count m.slots)

pub record Ended (t : List ℕ) : Type 0 where
  pub zero_terminal : Terminal t 0
  pub one_terminal : Terminal t 1
  pub variables : vars t ≤ max_variables

ended_told : (t : List ℕ) → is_ended t ≡ true → Ended t
unfolding is_ended
ended_told t e =
    let a = and_both (is_terminal t 0) (is_terminal t 1 && leb (vars t) max_variables) e in
    let b = and_both (is_terminal t 1) (leb (vars t) max_variables) a.1 in
    record { zero_terminal = terminal_told t 0 a.0; one_terminal = terminal_told t 1 b.0; variables = leb-true (vars t) max_variables b.1 }

ended_tells : (t : List ℕ) → Ended t → is_ended t ≡ true
unfolding is_ended
ended_tells t e = simp (terminal_tells t 0 e.zero_terminal, terminal_tells t 1 e.one_terminal, le-leb (vars t) max_variables e.variables)

-- a slot's word that is the successor of a place
name_told : (t : List ℕ) (x r : ℕ) → x ≡ suc r → is_name t x ≡ true → (r < 2) ⊎ Inner t r
unfolding is_name
name_told t x r is e =
    or_cases (ltb x 3) (leb x (size t) && not (is_free t (x - 1))) e
    (λ a. let l = ltb-true x 3 a in inl (omega arith))
    (λ a.
    let b = and_both (leb x (size t)) (not (is_free t (x - 1))) a in
    let same : x - 1 ≡ r = omega arith in
    let free : is_free t r ≡ false = rw same at (not-true (is_free t (x - 1)) b.1) in
    let inside = leb-true x (size t) b.0 in
    by_test (ltb r 2)
    (λ l. inl (ltb-true r 2 l))
    (λ l. inr (record { after = ltb-false r 2 l; inside = omega arith; used = used_told t r free })))

name_tells : (t : List ℕ) (x : ℕ) → ((r : ℕ) → x ≡ suc r → (r < 2) ⊎ Inner t r) → is_name t x ≡ true
unfolding is_name
name_tells t zero names = refl
name_tells t (suc r) names =
    ⊎_elim
    (λ l. or_left (ltb (suc r) 3) (leb (suc r) (size t) && not (is_free t (suc r - 1))) (lt-ltb (suc r) 3 (omega arith)))
    (λ i.
    let inside = i.inside in
    let same : suc r - 1 ≡ r = omega arith in
    or_right (ltb (suc r) 3) (leb (suc r) (size t) && not (is_free t (suc r - 1)))
    (both_and (leb (suc r) (size t)) (not (is_free t (suc r - 1))) (le-leb (suc r) (size t) (omega arith)) (rw same (ap not (used_tells t r i.used)))))
    (names r refl)

pub record Right (t : List ℕ) (p : ℕ) : Type 0 where
  pub range : InRange t p
  pub above : Above t p
  pub lean : low_of t p ≢ high_of t p

pub right_told : (t : List ℕ) (p : ℕ) → is_right t p ≡ true → Right t p
unfolding is_right
right_told t p e =
    let a = and_both (ltb (var_of t p) (vars t)) (ltb (low_of t p) (size t) && (ltb (high_of t p) (size t) && (is_above t p && not (eqb (low_of t p) (high_of t p))))) e in
    let b = and_both (ltb (low_of t p) (size t)) (ltb (high_of t p) (size t) && (is_above t p && not (eqb (low_of t p) (high_of t p)))) a.1 in
    let c = and_both (ltb (high_of t p) (size t)) (is_above t p && not (eqb (low_of t p) (high_of t p))) b.1 in
    let d = and_both (is_above t p) (not (eqb (low_of t p) (high_of t p))) c.1 in
    record {
      range = record { var = ltb-true (var_of t p) (vars t) a.0; low = ltb-true (low_of t p) (size t) b.0; high = ltb-true (high_of t p) (size t) c.0 };
      above = above_told t p d.0;
      lean = eqb-false (low_of t p) (high_of t p) (not-true (eqb (low_of t p) (high_of t p)) d.1);
    }

right_tells : (t : List ℕ) (p : ℕ) → Right t p → is_right t p ≡ true
unfolding is_right
right_tells t p r =
    simp (
      lt-ltb (var_of t p) (vars t) r.range.var,
      lt-ltb (low_of t p) (size t) r.range.low,
      lt-ltb (high_of t p) (size t) r.range.high,
      above_tells t p r.above,
      ne_eqb (low_of t p) (high_of t p) r.lean,
    )

-- ---- reached

child_told : (t : List ℕ) (q p : ℕ) → is_child t q p ≡ true → (2 ≤ q) × ((low_of t q ≡ p) ⊎ (high_of t q ≡ p))
unfolding is_child
child_told t q p e =
    let a = and_both (leb 2 q) (eqb (low_of t q) p || eqb (high_of t q) p) e in (
      leb-true 2 q a.0,
      or_cases (eqb (low_of t q) p) (eqb (high_of t q) p) a.1 (λ l. inl (eqb-true (low_of t q) p l)) (λ h. inr (eqb-true (high_of t q) p h)),
    )

child_tells : (t : List ℕ) (q p : ℕ) → 2 ≤ q → (low_of t q ≡ p) ⊎ (high_of t q ≡ p) → is_child t q p ≡ true
unfolding is_child
child_tells t q p two o =
    both_and (leb 2 q) (eqb (low_of t q) p || eqb (high_of t q) p) (le-leb 2 q two)
    (⊎_elim
    (λ l. or_left (eqb (low_of t q) p) (eqb (high_of t q) p) (eq-eqb (low_of t q) p l))
    (λ h. or_right (eqb (low_of t q) p) (eqb (high_of t q) p) (eq-eqb (high_of t q) p h))
    o)

-- A slot names the place; a place after the terminals has a link to it.
pub record Named (s : List ℕ) (p : ℕ) : Type 0 where
  pub slot : ℕ
  pub live : Live s slot p

pub record Parent (t : List ℕ) (p : ℕ) : Type 0 where
  pub place : ℕ
  pub after : 2 ≤ place
  pub links : (low_of t place ≡ p) ⊎ (high_of t place ≡ p)

-- a node's parent is a node: free places and places past the end have links to 0
parent_inner : (t : List ℕ) (p : ℕ) → length t ≡ 3 * size t → 2 ≤ p → (o : Parent t p) → Inner t o.place
parent_inner t p whole two o =
    let q = o.place in
    record {
      after = o.after;
      inside =
          by_test (ltb q (size t))
          (λ l. ltb-true q (size t) l)
          (λ l.
          let past = ltb-false q (size t) l in
          let low = get_or-eq_default t 0 {n = 3 * q + 1} (omega arith) in
          let high = get_or-eq_default t 0 {n = 3 * q + 2} (omega arith) in
          absurd (⊎_elim (λ x. omega arith) (λ x. omega arith) o.links));
      used = λ f. let low = f.low in let high = f.high in ⊎_elim (λ x. omega arith) (λ x. omega arith) o.links;
    }

wanted_told : (t s : List ℕ) (p : ℕ) → is_wanted t s p ≡ true → Named s p ⊎ Parent t p
unfolding is_wanted
wanted_told t s p e =
    or_cases (any slot_count (λ k. eqb (get_or s k 0) (suc p))) (any (size t) (λ q. is_child t q p)) e
    (λ a.
    let k = any_elim slot_count (λ k. eqb (get_or s k 0) (suc p)) a in
    inl (record { slot = k.0; live = record { inside = k.1; names = eqb-true (get_or s k.0 0) (suc p) k.2 } }))
    (λ a.
    let o = any_elim (size t) (λ q. is_child t q p) a in
    let c = child_told t o.0 p o.2 in
    inr (record { place = o.0; after = c.0; links = c.1 }))

wanted_named : (t s : List ℕ) (p k : ℕ) → Live s k p → is_wanted t s p ≡ true
unfolding is_wanted
wanted_named t s p k live =
    or_left (any slot_count (λ j. eqb (get_or s j 0) (suc p))) (any (size t) (λ q. is_child t q p))
    (any_intro slot_count (λ j. eqb (get_or s j 0) (suc p)) k live.inside (eq-eqb (get_or s k 0) (suc p) live.names))

wanted_linked : (t s : List ℕ) (p : ℕ) → length t ≡ 3 * size t → 2 ≤ p → Parent t p → is_wanted t s p ≡ true
unfolding is_wanted
wanted_linked t s p whole two o =
    or_right (any slot_count (λ j. eqb (get_or s j 0) (suc p))) (any (size t) (λ q. is_child t q p))
    (any_intro (size t) (λ q. is_child t q p) o.place (parent_inner t p whole two o).inside (child_tells t o.place p o.after o.links))

-- a path ends where it began, or with a link
last_link : (t : List ℕ) {r p : ℕ} → Reach t r p → (r ≡ p) ⊎ Parent t p
last_link t start = inl refl
last_link t (by_low {p = q} x two) = inr (record { place = q; after = two; links = inl refl })
last_link t (by_high {p = q} x two) = inr (record { place = q; after = two; links = inr refl })

wanted_tells : (t s : List ℕ) (p : ℕ) → length t ≡ 3 * size t → 2 ≤ p → (k r : ℕ) → Live s k r → Reach t r p → is_wanted t s p ≡ true
wanted_tells t s p whole two k r live x =
    ⊎_elim (λ e. wanted_named t s p k (subst (λ (y : ℕ). Live s k y) e live)) (wanted_linked t s p whole two) (last_link t x)

-- Reached from a live slot.
abbrev pub FromSlot : List ℕ → List ℕ → ℕ → Type 0
FromSlot t s p = (k : ℕ) × (r : ℕ) × Live s k r × Reach t r p

module _ (t s : List ℕ) (whole : length t ≡ 3 * size t) (above : (p : ℕ) → Inner t p → Above t p)
    (wanted : (p : ℕ) → Inner t p → is_wanted t s p ≡ true) where
  -- by the variable
  reached_below : (m p : ℕ) → var_of t p < m → Inner t p → FromSlot t s p
  reached_below zero p h i = absurd (omega arith)
  reached_below (suc m) p h i =
      ⊎_elim
      (λ n. (n.slot, p, n.live, start))
      (λ o.
      let q = o.place in
      let node = parent_inner t p whole i.after o in
      let a = above q node in
      ⊎_elim
      (λ x.
      let r = reached_below m q (omega (arith, h, rw x at a.low)) node in
      (r.0, r.1, r.2, subst (λ (y : ℕ). Reach t r.1 y) x (by_low r.3 o.after)))
      (λ x.
      let r = reached_below m q (omega (arith, h, rw x at a.high)) node in
      (r.0, r.1, r.2, subst (λ (y : ℕ). Reach t r.1 y) x (by_high r.3 o.after)))
      o.links)
      (wanted_told t s p (wanted p i))

-- ---- distinct

-- Two places have the same words.
pub record Alike (t : List ℕ) (q p : ℕ) : Type 0 where
  pub var : var_of t q ≡ var_of t p
  pub low : low_of t q ≡ low_of t p
  pub high : high_of t q ≡ high_of t p

abbrev is_like : List ℕ → ℕ → ℕ → Bool
is_like t p q = leb 2 q && (eqb (var_of t q) (var_of t p) && (eqb (low_of t q) (low_of t p) && eqb (high_of t q) (high_of t p)))

like_told : (t : List ℕ) (p q : ℕ) → is_like t p q ≡ true → (2 ≤ q) × Alike t q p
like_told t p q e =
    let a = and_both (leb 2 q) (eqb (var_of t q) (var_of t p) && (eqb (low_of t q) (low_of t p) && eqb (high_of t q) (high_of t p))) e in
    let b = and_both (eqb (var_of t q) (var_of t p)) (eqb (low_of t q) (low_of t p) && eqb (high_of t q) (high_of t p)) a.1 in
    let c = and_both (eqb (low_of t q) (low_of t p)) (eqb (high_of t q) (high_of t p)) b.1 in (
      leb-true 2 q a.0,
      record {
        var = eqb-true (var_of t q) (var_of t p) b.0;
        low = eqb-true (low_of t q) (low_of t p) c.0;
        high = eqb-true (high_of t q) (high_of t p) c.1;
      },
    )

like_tells : (t : List ℕ) (p q : ℕ) → 2 ≤ q → Alike t q p → is_like t p q ≡ true
like_tells t p q two a = simp (le-leb 2 q two, eq-eqb (var_of t q) (var_of t p) a.var, eq-eqb (low_of t q) (low_of t p) a.low, eq-eqb (high_of t q) (high_of t p) a.high)

-- what the test for an equal one before it says
pub again_told : (t : List ℕ) (p : ℕ) → is_again t p ≡ true → (q : ℕ) × (q < p) × (2 ≤ q) × Alike t q p
unfolding is_again
again_told t p e =
    let a = any_elim p (is_like t p) e in
    let b = like_told t p a.0 a.2 in
    (a.0, a.1, b.0, b.1)

pub again_tells : (t : List ℕ) (p q : ℕ) → q < p → 2 ≤ q → Alike t q p → is_again t p ≡ true
unfolding is_again
again_tells t p q l two a = any_intro p (is_like t p) q l (like_tells t p q two a)

pub never_again : (t : List ℕ) (p : ℕ) → ((q : ℕ) → q < p → 2 ≤ q → Alike t q p → ⊥) → is_again t p ≡ false
never_again t p none = by_test (is_again t p) (λ e. let a = again_told t p e in absurd (none a.0 a.1 a.2 a.3)) (λ e. e)

module _ (t : List ℕ) (once : (p : ℕ) → Inner t p → not (is_again t p) ≡ true) where
  later_apart : (p q : ℕ) → Inner t p → 2 ≤ q → Alike t q p → q < p → ⊥
  later_apart p q i two a l = not_both (is_again t p) (again_tells t p q l two a) (not-true (is_again t p) (once p i))

  apart : (p q : ℕ) → Inner t p → Inner t q → Alike t q p → p ≡ q
  apart p q i j a =
      by_test (ltb q p)
      (λ l. absurd (later_apart p q i j.after a (ltb-true q p l)))
      (λ l.
      by_test (ltb p q)
      (λ m. absurd (later_apart q p j i.after (record { var = sym a.var; low = sym a.low; high = sym a.high }) (ltb-true p q m)))
      (λ m. let x = ltb-false q p l in let y = ltb-false p q m in omega arith))

-- a place with a node's words is a node too
pub alike_used : (t : List ℕ) (q p : ℕ) → Alike t q p → (¬ Free t p) → ¬ Free t q
alike_used t q p a used f = used (record { var = sym a.var ∙ f.var; low = sym a.low ∙ f.low; high = sym a.high ∙ f.high })

-- ---- the whole

-- The parts of `is_pool`, as it joins them.
pub record Passed (t s : List ℕ) : Type 0 where
  pub measured : is_measured (length t) (length s) ≡ true
  pub ended : is_ended t ≡ true
  pub names : any slot_count (λ k. not (is_name t (get_or s k 0))) ≡ false
  pub right : each_node t (is_right t) ≡ true
  pub wanted : each_node t (is_wanted t s) ≡ true
  pub distinct : each_node t (λ p. not (is_again t p)) ≡ true

pub passed_told : (t s : List ℕ) → is_pool t s ≡ true → Passed t s
unfolding is_pool
passed_told t s e =
    let a = and_both (is_measured (length t) (length s)) _ e in
    let b = and_both (is_ended t) _ a.1 in
    let c = and_both (not (any slot_count (λ k. not (is_name t (get_or s k 0))))) _ b.1 in
    let d = and_both (each_node t (is_right t)) _ c.1 in
    let f = and_both (each_node t (is_wanted t s)) _ d.1 in
    record {
      measured = a.0;
      ended = b.0;
      names = not-true (any slot_count (λ k. not (is_name t (get_or s k 0)))) c.0;
      right = d.0;
      wanted = f.0;
      distinct = f.1;
    }

pub passed_tells : (t s : List ℕ) → Passed t s → is_pool t s ≡ true
unfolding is_pool
passed_tells t s p = simp (p.measured, p.ended, p.names, p.right, p.wanted, p.distinct)

pub pool_told : (t s : List ℕ) → is_pool t s ≡ true → WellFormed t s
pool_told t s e =
    let p = passed_told t s e in
    let m = measured_told t s p.measured in
    let n = ended_told t p.ended in
    let right : (q : ℕ) → Inner t q → Right t q = λ q i. right_told t q (each_told t (is_right t) p.right q i) in
    record {
      whole = m.whole;
      two = m.two;
      few = m.few;
      slots = m.slots;
      zero_terminal = n.zero_terminal;
      one_terminal = n.one_terminal;
      variables = n.variables;
      named = λ k r live.
          name_told t (get_or s k 0) r live.names
          (not-false (is_name t (get_or s k 0)) (none_any slot_count (λ j. not (is_name t (get_or s j 0))) p.names k live.inside));
      ranges = λ q i. (right q i).range;
      ordered = λ q i. (right q i).above;
      lean = λ q i. (right q i).lean;
      distinct = λ q r i j var low high.
          apart t (each_told t (λ x. not (is_again t x)) p.distinct) q r i j (record { var = sym var; low = sym low; high = sym high });
      reached = λ q i.
          reached_below t s m.whole (λ x j. (right x j).above) (each_told t (is_wanted t s) p.wanted) (suc (var_of t q)) q (omega arith) i;
    }

pub pool_tells : (t s : List ℕ) → WellFormed t s → is_pool t s ≡ true
pool_tells t s w =
    passed_tells t s
    (record {
      measured = measured_tells t s (record { whole = w.whole; two = w.two; few = w.few; slots = w.slots });
      ended = ended_tells t (record { zero_terminal = w.zero_terminal; one_terminal = w.one_terminal; variables = w.variables });
      names =
          any_none slot_count (λ k. not (is_name t (get_or s k 0)))
          (λ k l. ap not (name_tells t (get_or s k 0) (λ r e. w.named k r (record { inside = l; names = e }))));
      right = each_tells t (is_right t) (λ p i. right_tells t p (record { range = w.ranges p i; above = w.ordered p i; lean = w.lean p i }));
      wanted =
          each_tells t (is_wanted t s)
          (λ p i. let r = w.reached p i in wanted_tells t s p w.whole i.after r.0 r.1 r.2 r.3);
      distinct =
          each_tells t (λ p. not (is_again t p))
          (λ p i.
          ap not
          (never_again t p
          (λ q l two a.
          let j : Inner t q = record { after = two; inside = let h = i.inside in omega arith; used = alike_used t q p a i.used } in
          let same = w.distinct q p j i a.var a.low a.high in
          omega arith)));
    })
