-- How many numbers pass a test is a number of things; so are the nodes at a variable.
use Prim.Native.Nat.{ℕ, zero, suc, ◌<◌}
use mathlib.Core.Path.{◌≡◌, refl, sym, ap, ◌∙◌, subst}
use mathlib.Core.Logic.{◌⊎◌, inl, inr, ⊎_elim}
use mathlib.Core.Bool.{Bool, true, not, ◌&&◌}
use mathlib.Core.List.{List, [], ◌∷◌}
use native.Mathlib.Omega.{arith}
use lib.Dec.{leb, eqb}
use borrow.Author.Tests.{leb-true, le-leb, eqb-true, eq-eqb, not-true}
use Rattle.diagram.specs.Diagram.{var_of, size}
use Rattle.diagram.proofs.Tests.{by_test, by-eq, not_both, and_both, both_and}
use Rattle.counts.specs.Counting.{In, here, there, none, more, Number}
use Rattle.counts.proofs.Turns.{not_in}
use Rattle.pool.specs.Pool.{Inner, is_free}
use Rattle.pool.proofs.Testing.{used_told, used_tells}
use Rattle.summary.specs.Summary.{how_many, is_node_at, nodes_at}
use Rattle.summary.proofs.Counting.{many_none, many_yes, many_no, nodes_all}

-- ---- numbers of things: the same ones, none, one more

pub number_as : {A : Type 0} {P Q : A → Type 0} {m n : ℕ} → ((x : A) → P x → Q x) → ((x : A) → Q x → P x) → m ≡ n → Number P m → Number Q n
number_as f g e number = record {
  list = number.list;
  count = number.count ∙ e;
  once = number.once;
  right = λ x i. f x (number.right x i);
  all = λ x q. number.all x (g x q);
}

number_none : {A : Type 0} {P : A → Type 0} → ((x : A) → P x → ⊥) → Number P 0
number_none never = record { list = []; count = refl; once = none; right = λ x i. absurd (not_in i); all = λ x p. absurd (never x p) }

in_split : {A : Type 0} {x y : A} {l : List A} → In x (y ∷ l) → (x ≡ y) ⊎ In x l
in_split here = inl refl
in_split (there i) = inr i

in_first : {A : Type 0} {x y : A} {l : List A} → x ≡ y → In x (y ∷ l)
in_first {A} {x} {y} {l} e = subst (λ (z : A). In x (z ∷ l)) e here

number_more : {A : Type 0} {P : A → Type 0} {n : ℕ} (y : A) → (P y → ⊥) → Number P n → Number (λ x. (x ≡ y) ⊎ P x) (suc n)
number_more y fresh number = record {
  list = y ∷ number.list;
  count = ap suc number.count;
  once = more (λ i. fresh (number.right y i)) number.once;
  right = λ x i. ⊎_elim inl (λ j. inr (number.right x j)) (in_split i);
  all = λ x p. ⊎_elim in_first (λ q. there (number.all x q)) p;
}

-- ---- how many numbers below n pass a test

pub many_number : (n : ℕ) (test : ℕ → Bool) → Number (λ k. (k < n) × (test k ≡ true)) (how_many n test)
many_number zero test = number_as (λ k p. p) (λ k p. p) (sym (many_none test)) (number_none (λ k p. omega (arith, p.0)))
many_number (suc n) test = by_test (test n)
    (λ e. number_as
    (λ k p. ⊎_elim (λ last. (omega arith, ap test last ∙ e)) (λ b. (omega (arith, b.0), b.1)) p)
    (λ k p. by-eq k n (λ last. inl last) (λ ne. inr (omega (arith, p.0), p.1)))
    (sym (many_yes n test e)) (number_more n (λ p. omega (arith, p.0)) (many_number n test)))
    (λ e. number_as
    (λ k p. (omega (arith, p.0), p.1))
    (λ k p. by-eq k n (λ last. absurd (not_both (test k) p.1 (ap test last ∙ e))) (λ ne. (omega (arith, p.0), p.1)))
    (sym (many_no n test e)) (many_number n test))

-- ---- the nodes at a variable

module _ (t : List ℕ) (i p : ℕ) where
  node_told : p < size t → is_node_at t i p ≡ true → Inner t p × (var_of t p ≡ i)
  unfolding is_node_at
  node_told inside e =
      let a = and_both (leb 2 p) (not (is_free t p) && eqb (var_of t p) i) e in
      let b = and_both (not (is_free t p)) (eqb (var_of t p) i) a.1 in (
        record { after = leb-true 2 p a.0; inside = inside; used = used_told t p (not-true (is_free t p) b.0) },
        eqb-true (var_of t p) i b.1,
      )

  node_tells : Inner t p → var_of t p ≡ i → is_node_at t i p ≡ true
  unfolding is_node_at
  node_tells node e =
      both_and (leb 2 p) (not (is_free t p) && eqb (var_of t p) i) (le-leb 2 p node.after)
      (both_and (not (is_free t p)) (eqb (var_of t p) i) (ap not (used_tells t p node.used)) (eq-eqb (var_of t p) i e))

pub nodes_number : (t : List ℕ) (i : ℕ) → Number (λ p. Inner t p × (var_of t p ≡ i)) (nodes_at t i)
nodes_number t i = number_as
    (λ p b. node_told t i p b.0 b.1)
    (λ p b. (b.0.inside, node_tells t i p b.0 b.1))
    (sym (nodes_all t i)) (many_number (size t) (is_node_at t i))
