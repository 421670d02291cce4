-- The words of a diagram with its links sent elsewhere: variables and terminals stay, and links are what f makes of them.
use Prim.Native.Nat.{ℕ, zero, suc, ◌+◌, ◌*◌, ◌%◌, ◌≤◌, ◌<◌}
use mathlib.Core.Path.{◌≡◌, refl, sym, ap, ◌∙◌}
use mathlib.Core.Bool.{true, cond, ◌||◌}
use mathlib.Core.List.{List}
use native.Mathlib.Omega.{arith}
use native.Mathlib.Decide.{dec_lt}
use lib.ListN.{length, get_or, get_or-eq_default}
use lib.Dec.{ltb, eqb}
use borrow.Author.Tests.{lt-ltb, le-ltb, eq-eqb, ne_eqb}
use Rattle.diagram.specs.Diagram.{var_of, low_of, high_of, size, root, Terminal, Formed, Ordered}
use Rattle.diagram.proofs.Tests.{cond-true, or_right}
use Rattle.approximation.specs.Links.{table, relinked}

pub table_length : (f : ℕ → ℕ) (a k : ℕ) → length (table f a k) ≡ k
unfolding table
table_length f a zero = refl
table_length f a (suc k) = ap suc (table_length f (suc a) k)

pub table_at : (f : ℕ → ℕ) (a k j d : ℕ) → j < k → get_or (table f a k) j d ≡ f (a + j)
unfolding table
table_at f a zero j d h = absurd (omega arith)
table_at f a (suc k) zero d h = ap f (omega arith)
table_at f a (suc k) (suc j) d h = table_at f (suc a) k j d (omega arith) ∙ ap f (omega arith)

abbrev word : (ℕ → ℕ) → List ℕ → ℕ → ℕ
word f w j = cond (ltb j 6 || eqb (j % 3) 0) (get_or w j 0) (f (get_or w j 0))

module _ (f : ℕ → ℕ) (w : List ℕ) where
  pub relinked_length : length (relinked f w) ≡ length w
  unfolding relinked
  relinked_length = table_length (word f w) 0 (length w)

  pub relinked_size : size (relinked f w) ≡ size w
  relinked_size = let l = relinked_length in omega arith

  pub relinked_root : root (relinked f w) ≡ root w
  relinked_root = let l = relinked_length in omega arith

  at : (j : ℕ) → j < length w → get_or (relinked f w) j 0 ≡ word f w j
  unfolding relinked
  at j h =
      let here : 0 + j ≡ j = omega arith in
      table_at (word f w) 0 (length w) j 0 h ∙ ap (word f w) here

  -- The first six words, and every third.
  kept : (j : ℕ) → (ltb j 6 || eqb (j % 3) 0) ≡ true → get_or (relinked f w) j 0 ≡ get_or w j 0
  kept j e = elim (dec_lt j (length w)) [
    | yes h ↦ at j h ∙ cond-true (ltb j 6 || eqb (j % 3) 0) (get_or w j 0) (f (get_or w j 0)) e
    | no h ↦
        let l = relinked_length in
        get_or-eq_default (relinked f w) 0 (omega arith) ∙ sym (get_or-eq_default w 0 (omega arith))
  ]

  sent : (j : ℕ) → j < length w → 6 ≤ j → (j % 3 ≡ 0 → ⊥) → get_or (relinked f w) j 0 ≡ f (get_or w j 0)
  sent j h six ne = at j h ∙ simp (le-ltb j 6 six, ne_eqb (j % 3) 0 ne)

  pub relinked_var : (p : ℕ) → var_of (relinked f w) p ≡ var_of w p
  relinked_var p = kept (3 * p) (or_right (ltb (3 * p) 6) (eqb ((3 * p) % 3) 0) (eq-eqb ((3 * p) % 3) 0 (omega arith)))

  pub relinked_low : (p : ℕ) → 2 ≤ p → 3 * p + 2 < length w → low_of (relinked f w) p ≡ f (low_of w p)
  relinked_low p two h = sent (3 * p + 1) (omega arith) (omega arith) (omega arith)

  pub relinked_high : (p : ℕ) → 2 ≤ p → 3 * p + 2 < length w → high_of (relinked f w) p ≡ f (high_of w p)
  relinked_high p two h = sent (3 * p + 2) (omega arith) (omega arith) (omega arith)

  -- The terminals' links stay.
  pub relinked_ends : (p : ℕ) → p < 2 → (low_of (relinked f w) p ≡ low_of w p) × (high_of (relinked f w) p ≡ high_of w p)
  relinked_ends p h = (kept (3 * p + 1) (simp (lt-ltb (3 * p + 1) 6 (omega arith))), kept (3 * p + 2) (simp (lt-ltb (3 * p + 2) 6 (omega arith))))

  relinked_terminal : (p : ℕ) → p < 2 → Terminal w p → Terminal (relinked f w) p
  relinked_terminal p t e = record {
    var = rw (relinked_var p, relinked_var 0) e.var;
    low = rw (relinked_ends p t).0 e.low;
    high = rw (relinked_ends p t).1 e.high;
  }

  relinked_formed : Formed w → (2 < size w → (q : ℕ) → q < size w → f q < size w) → Formed (relinked f w)
  relinked_formed o inside =
      let l = relinked_length in
      let n = relinked_size in
      let v = relinked_var 0 in
      let whole = o.whole in
      record {
        whole = omega arith;
        some = let some = o.some in omega arith;
        few = let few = o.few in omega arith;
        zero_terminal = relinked_terminal 0 (omega arith) o.zero_terminal;
        one_terminal = λ h. relinked_terminal 1 (omega arith) (o.one_terminal (omega arith));
        variables = let most = o.variables in omega arith;
        ranges = λ p two h.
            let r = o.ranges p two (omega arith) in
            record {
              var = rw (relinked_var p, v) r.var;
              low = rw (n, relinked_low p two (omega arith)) (inside (omega arith) (low_of w p) r.low);
              high = rw (n, relinked_high p two (omega arith)) (inside (omega arith) (high_of w p) r.high);
            };
      }

  -- Links of an ordered array sent to nodes at the same variables or larger ones give an ordered array.
  pub relinked_ordered : Ordered w → (2 < size w → (q : ℕ) → q < size w → (f q < size w) × (var_of w q ≤ var_of w (f q)))
      → Ordered (relinked f w)
  relinked_ordered o lowers = record {
    formed = relinked_formed o.formed (λ many q h. (lowers many q h).0);
    ordered = λ p two h.
        let n = relinked_size in
        let whole = o.formed.whole in
        let r = o.formed.ranges p two (omega arith) in
        let a = o.ordered p two (omega arith) in
        record {
          low = rw (relinked_low p two (omega arith), relinked_var p, relinked_var (f (low_of w p)))
              (let up = (lowers (omega arith) (low_of w p) r.low).1 in let b = a.low in omega arith);
          high = rw (relinked_high p two (omega arith), relinked_var p, relinked_var (f (high_of w p)))
              (let up = (lowers (omega arith) (high_of w p) r.high).1 in let b = a.high in omega arith);
        };
  }
