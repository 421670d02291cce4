-- The counts are numbers of valuations and of paths: there is a list of all of them, each once, of that length.
use Prim.Native.Nat.{ℕ, zero, suc, ◌+◌, ◌*◌, ◌≤◌, ◌<◌}
use mathlib.Core.Path.{◌≡◌, refl, sym, ap, ◌∙◌, subst}
use mathlib.Core.Logic.{◌⊎◌, inl, inr, ⊎_elim}
use mathlib.Core.Bool.{Bool, true, false, cond, ◌&&◌}
use mathlib.Core.List.{List, [], ◌∷◌, ◌++◌, map}
use native.Mathlib.Omega.{arith}
use lib.ListN.{length, length-append, length-map}
use lib.Dec.{eqb}
use Rattle.diagram.specs.Diagram.{var_of, low_of, high_of, size, vars, root, holds, Ordered}
use Rattle.naturals.specs.Natural.{word_count}
use Rattle.diagram.specs.Valuations.{tally, meets}
use Rattle.diagram.proofs.Tests.{by_test, not_both, cond-true, cond-false}
use Rattle.diagram.proofs.Tally.{tally_most}
use Rattle.diagram.proofs.Reading.{layered, root_in, by_two, at_end}
use Rattle.counts.specs.Paths.{paths, Path, arrived, turn}
use Rattle.counts.specs.Counting.{In, here, there, Once, none, more, Number, Within, Counting}
use Rattle.counts.proofs.Nodes.{paths_ends, paths_node, paths_most, under_words}

-- ---- entries

-- nothing is in the empty list
pub not_in : {A : Type 0} {x : A} → In x [] → ⊥
not_in i = omega (arith, length_in i)
  where
    length_in : {A : Type 0} {x : A} {l : List A} → In x l → 0 < length l
    length_in here = omega arith
    length_in (there i) = omega arith

pub in_one : {A : Type 0} {x y : A} → In x (y ∷ []) → x ≡ y
in_one here = refl
in_one (there i) = absurd (not_in i)

pub in_append : {A : Type 0} {x : A} (l m : List A) → In x (l ++ m) → In x l ⊎ In x m
in_append [] m i = inr i
in_append (y ∷ l) m here = inl here
in_append (y ∷ l) m (there i) = ⊎_elim (λ a. inl (there a)) (λ a. inr a) (in_append l m i)

pub in_left : {A : Type 0} {x : A} (l m : List A) → In x l → In x (l ++ m)
in_left {A = A} [] m x' = elim x' [ ]
in_left (y ∷ l) m here = here
in_left (y ∷ l) m (there i) = there (in_left l m i)

pub in_right : {A : Type 0} {x : A} (l m : List A) → In x m → In x (l ++ m)
in_right [] m i = i
in_right (y ∷ l) m i = there (in_right l m i)

pub once_append : {A : Type 0} (l m : List A) → Once l → Once m → ((x : A) → In x l → In x m → ⊥) → Once (l ++ m)
once_append [] m a b apart = b
once_append (y ∷ l) m (more n a) b apart =
    more (λ i. ⊎_elim n (apart y here) (in_append l m i)) (once_append l m a b (λ x i j. apart x (there i) j))

-- the same first bit before each
abbrev after : Bool → List (List Bool) → List (List Bool)
after b l = map (λ bs. b ∷ bs) l

in_after : (b : Bool) {x : List Bool} (l : List (List Bool)) → In x (after b l) → (bs : List Bool) × (x ≡ b ∷ bs) × In bs l
in_after b [] x' = elim x' [ ]
in_after b (y ∷ l) here = (y, refl, here)
in_after b (y ∷ l) (there i) = let r = in_after b l i in (r.0, r.1, there r.2)

after_in : (b : Bool) {bs : List Bool} (l : List (List Bool)) → In bs l → In (b ∷ bs) (after b l)
after_in b {bs = bs} [] x' = elim x' [ ]
after_in b (y ∷ l) here = here
after_in b (y ∷ l) (there i) = there (after_in b l i)

same_tail : (b : Bool) (l : List (List Bool)) {x y : List Bool} → (b ∷ x) ≡ (b ∷ y) → In y l → In x l
same_tail b l {x} {y} e i = let t : y ≡ x = cc in subst (λ (z : List Bool). In z l) t i

once_after : (b : Bool) (l : List (List Bool)) → Once l → Once (after b l)
once_after b [] o = none
once_after b (y ∷ l) (more n o) = more (λ i. let r = in_after b l i in n (same_tail b l r.1 r.2)) (once_after b l o)

-- ---- numbers: none, one, and by the first bit

number_as : {P Q : List Bool → Type 0} {m n : ℕ} → ((bs : List Bool) → P bs → Q bs) → ((bs : List Bool) → Q bs → P bs) → m ≡ n → Number P m → Number Q n
number_as f g e x = record {
  list = x.list;
  count = x.count ∙ e;
  once = x.once;
  right = λ bs i. f bs (x.right bs i);
  all = λ bs q. x.all bs (g bs q);
}

number_none : {P : List Bool → Type 0} → ((bs : List Bool) → P bs → ⊥) → Number P 0
number_none never = record { list = []; count = refl; once = none; right = λ bs i. absurd (not_in i); all = λ bs p. absurd (never bs p) }

number_one : {P : List Bool → Type 0} → P [] → ((b : Bool) (bs : List Bool) → P (b ∷ bs) → ⊥) → Number P 1
number_one {P} empty never = record {
  list = [] ∷ [];
  count = refl;
  once = more not_in none;
  right = λ bs i. subst P (sym (in_one i)) empty;
  all = only;
}
  where
    only : (bs : List Bool) → P bs → In bs ([] ∷ [])
    only [] p = here
    only (b ∷ bs) p = absurd (never b bs p)

number_first : {P : List Bool → Type 0} {a b : ℕ} → (P [] → ⊥) → Number (λ bs. P (false ∷ bs)) a → Number (λ bs. P (true ∷ bs)) b → Number P (a + b)
number_first {P} {a} {b} never x y = record {
  list = low ++ high;
  count = length-append low high ∙ omega (arith, length-map x.list (λ bs. false ∷ bs), length-map y.list (λ bs. true ∷ bs), x.count, y.count);
  once = once_append low high (once_after false x.list x.once) (once_after true y.list y.once) apart;
  right = λ bs i. ⊎_elim
      (λ j. let r = in_after false x.list j in subst P (sym r.1) (x.right r.0 r.2))
      (λ j. let r = in_after true y.list j in subst P (sym r.1) (y.right r.0 r.2))
      (in_append low high i);
  all = found;
}
  where
    low : List (List Bool)
    low = after false x.list

    high : List (List Bool)
    high = after true y.list

    apart : (z : List Bool) → In z (after false x.list) → In z (after true y.list) → ⊥
    apart z i j =
        let r = in_after false x.list i in
        let s = in_after true y.list j in
        let e : false ≡ true = cc in
        not_both false e refl

    found : (bs : List Bool) → P bs → In bs (after false x.list ++ after true y.list)
    found [] p = absurd (never p)
    found (false ∷ bs) p = in_left (after false x.list) (after true y.list) (after_in false x.list (x.all bs p))
    found (true ∷ bs) p = in_right (after false x.list) (after true y.list) (after_in true y.list (y.all bs p))

-- ---- valuations

tally_number : (k : ℕ) (test : List Bool → Bool) → Number (λ bs. (length bs ≡ k) × (test bs ≡ true)) (tally k test)
unfolding tally
tally_number zero test = by_test (test [])
    (λ e. number_as (λ bs p. p) (λ bs p. p) (sym (cond-true (test []) 1 0 e)) (number_one (refl, e) (λ b bs p. omega (arith, p.0))))
    (λ e. number_as (λ bs p. p) (λ bs p. p) (sym (cond-false (test []) 1 0 e)) (number_none (fails e)))
  where
    fails : test [] ≡ false → (bs : List Bool) → (length bs ≡ 0) × (test bs ≡ true) → ⊥
    fails e [] p = not_both (test []) p.1 e
    fails e (b ∷ bs) p = omega (arith, p.0)
tally_number (suc k) test = number_first (λ p. omega (arith, p.0))
    (number_as (λ bs p. (ap suc p.0, p.1)) (λ bs p. (omega (arith, p.0), p.1)) refl (tally_number k (λ bs. test (false ∷ bs))))
    (number_as (λ bs p. (ap suc p.0, p.1)) (λ bs p. (omega (arith, p.0), p.1)) refl (tally_number k (λ bs. test (true ∷ bs))))

-- ---- paths

no_path : (w : List ℕ) (bs : List Bool) → Path w 0 bs → ⊥
no_path w bs (turn two b r) = omega arith

no_turn : (w : List ℕ) (p : ℕ) → p < 2 → (b : Bool) (bs : List Bool) → Path w p (b ∷ bs) → ⊥
no_turn w p t b bs (turn two c r) = omega arith

no_end : (w : List ℕ) (p : ℕ) → 2 ≤ p → Path w p [] → ⊥
no_end w p two arrived = omega arith

after_turn : (w : List ℕ) (p : ℕ) (b : Bool) (bs : List Bool) → Path w p (b ∷ bs) → Path w (cond b (high_of w p) (low_of w p)) bs
after_turn w p b bs (turn two c r) = r

end_number : (w : List ℕ) (p : ℕ) → p < 2 → Number (Path w p) (cond (eqb p 1) 1 0)
end_number w zero t = number_none (no_path w)
end_number w (suc zero) t = number_one arrived (no_turn w 1 t)
end_number w (suc (suc p)) t = absurd (omega arith)

path_number : (w : List ℕ) → Ordered w → (k p : ℕ) → p < size w → vars w ≤ var_of w p + k → Number (Path w p) (paths w k p)
path_number w o zero p h f =
    let t = at_end w (vars w) (size w) (layered w o) p h (omega arith) in
    rw (paths_ends w zero p t) (end_number w p t)
path_number w o (suc k) p h f = by_two p
    (λ t. rw (paths_ends w (suc k) p t) (end_number w p t))
    (λ two.
    let g = (layered w o).node p two h in
    rw (paths_node w k p two) (number_first (no_end w p two)
    (number_as (λ bs r. turn two false r) (after_turn w p false) refl (path_number w o k (low_of w p) g.low (omega (arith, g.above_low))))
    (number_as (λ bs r. turn two true r) (after_turn w p true) refl (path_number w o k (high_of w p) g.high (omega (arith, g.above_high))))))

-- none of them is above 2 to the number of variables
within : (n : ℕ) (w : List ℕ) → vars w < 32 * n → Within n w
within n w h = record {
  count = under_words n _ (vars w) (tally_most (vars w) (holds w)) h;
  path_count_lem = under_words n _ (vars w) (paths_most w (vars w) (root w)) h;
  weight = λ p. under_words n _ (vars w) (tally_most (vars w) (λ bs. holds w bs && meets w bs (eqb p))) h;
}

pub counting : Counting
counting = record {
  tallies = tally_number;
  valuations = λ w. tally_number (vars w) (holds w);
  paths = λ w o. path_number w o (vars w) (root w) (root_in w o) (omega arith);
  bound = within;
  fits = λ w o. within word_count w (omega (arith, o.formed.variables));
}
