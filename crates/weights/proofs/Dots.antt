-- Sums of products, and what moving an amount from one place to two others does to them.
use Prim.Native.Nat.{ℕ, zero, suc, ◌+◌, ◌*◌, ◌≤◌, ◌<◌}
use mathlib.Core.Path.{◌≡◌, refl, sym, ap, ◌∙◌}
use mathlib.Core.Logic.{◌≢◌}
use mathlib.Core.Bool.{cond}
use native.Mathlib.Omega.{arith}
use native.Mathlib.Nat.{add-mul, mul-add, mul_assoc, mul_comm, zero-mul}
use lib.Dec.{eqb}
use borrow.Author.Tests.{eq-eqb, ne_eqb}
use Rattle.diagram.proofs.Tests.{by-eq}
use Rattle.weights.specs.Passes.{dot}

dot_zero : (a f : ℕ → ℕ) → dot zero a f ≡ 0
unfolding dot
dot_zero a f = refl

dot_suc : (n : ℕ) (a f : ℕ → ℕ) → dot (suc n) a f ≡ dot n a f + a n * f n
unfolding dot
dot_suc n a f = refl

-- x more at q
unfoldable pub bump : (ℕ → ℕ) → ℕ → ℕ → ℕ → ℕ
bump a q x r = cond (eqb r q) (a r + x) (a r)

pub bump_here : (a : ℕ → ℕ) (q x : ℕ) → bump a q x q ≡ a q + x
unfolding bump
bump_here a q x = rw (eq-eqb q q refl)

pub bump_other : (a : ℕ → ℕ) (q x r : ℕ) → r ≢ q → bump a q x r ≡ a r
unfolding bump
bump_other a q x r ne = rw (ne_eqb r q ne)

pub bump_least : (a : ℕ → ℕ) (q x r : ℕ) → a r ≤ bump a q x r
bump_least a q x r = by-eq r q
    (λ e. rw e (omega (arith, bump_here a q x)))
    (λ ne. omega (arith, bump_other a q x r ne))

-- nothing at p
unfoldable pub without : (ℕ → ℕ) → ℕ → ℕ → ℕ
without a p r = cond (eqb r p) 0 (a r)

pub without_here : (a : ℕ → ℕ) (p : ℕ) → without a p p ≡ 0
unfolding without
without_here a p = rw (eq-eqb p p refl)

pub without_other : (a : ℕ → ℕ) (p r : ℕ) → r ≢ p → without a p r ≡ a r
unfolding without
without_other a p r ne = rw (ne_eqb r p ne)

dot_same : (n : ℕ) (a b f : ℕ → ℕ) → ((r : ℕ) → r < n → a r ≡ b r) → dot n a f ≡ dot n b f
dot_same zero a b f h = dot_zero a f ∙ sym (dot_zero b f)
dot_same (suc n) a b f h =
    dot_suc n a f ∙ rw (dot_same n a b f (λ r l. h r (omega arith)), h n (omega arith)) (sym (dot_suc n b f))

dot_bump : (n : ℕ) (a f : ℕ → ℕ) (q x : ℕ) → q < n → dot n (bump a q x) f ≡ dot n a f + x * f q
dot_bump zero a f q x l = absurd (omega arith)
dot_bump (suc n) a f q x l = by-eq q n
    (λ e.
    let below : dot n (bump a q x) f ≡ dot n a f = dot_same n (bump a q x) a f (λ r m. bump_other a q x r (λ z. omega arith)) in
    let here : bump a q x n ≡ a n + x = rw e (bump_here a n x) in
    let value : bump a q x n * f n ≡ a n * f n + x * f n = rw here (add-mul (a n) x (f n)) in
    let at-q : x * f q ≡ x * f n = ap (λ (y : ℕ). x * f y) e in
    omega (arith, dot_suc n (bump a q x) f, dot_suc n a f))
    (λ ne.
    let rest = dot_bump n a f q x (omega arith) in
    let value : bump a q x n * f n ≡ a n * f n = ap (λ (y : ℕ). y * f n) (bump_other a q x n (λ z. ne (sym z))) in
    omega (arith, dot_suc n (bump a q x) f, dot_suc n a f))

-- p's part and the others'
dot_apart : (n : ℕ) (a f : ℕ → ℕ) (p : ℕ) → p < n → dot n a f ≡ dot n (without a p) f + a p * f p
dot_apart n a f p l =
    dot_same n a (bump (without a p) p (a p)) f
    (λ r m. by-eq r p
    (λ e. rw e (sym (bump_here (without a p) p (a p) ∙ omega (arith, without_here a p))))
    (λ ne. sym (bump_other (without a p) p (a p) r ne ∙ without_other a p r ne)))
    ∙ dot_bump n (without a p) f p (a p) l

pub dot_least : (n : ℕ) (a f : ℕ → ℕ) (p : ℕ) → p < n → a p * f p ≤ dot n a f
dot_least n a f p l = omega (arith, dot_apart n a f p l)

dot_none : (n : ℕ) (a f : ℕ → ℕ) → ((r : ℕ) → r < n → a r * f r ≡ 0) → dot n a f ≡ 0
dot_none zero a f h = dot_zero a f
dot_none (suc n) a f h =
    let rest = dot_none n a f (λ r l. h r (omega arith)) in
    omega (arith, dot_suc n a f, h n (omega arith))

-- only p's part is there
pub dot_only : (n : ℕ) (a f : ℕ → ℕ) (p : ℕ) → p < n → ((r : ℕ) → r < n → r ≢ p → a r * f r ≡ 0) → dot n a f ≡ a p * f p
dot_only n a f p l h =
    let rest = dot_none n (without a p) f (λ r m. by-eq r p
    (λ e. rw (e, without_here a p) (zero-mul (f p)))
    (λ ne. rw (without_other a p r ne) (h r m ne)))
    in
    omega (arith, dot_apart n a f p l)

-- all that p has, scaled, moved to two others: nothing is lost where p's value is shared out so

pub dot_moved : (n : ℕ) (a f : ℕ → ℕ) (p low scale-low high scale-high : ℕ) → p < n → low < n → high < n
    → f p ≡ f low * scale-low + f high * scale-high
    → dot n (bump (bump (without a p) low (a p * scale-low)) high (a p * scale-high)) f ≡ dot n a f
dot_moved n a f p low sl high sh hp hl hh e =
    let whole : a p * f p ≡ a p * (f low * sl) + a p * (f high * sh) = rw e (mul-add (a p) (f low * sl) (f high * sh)) in
    let x : a p * sl * f low ≡ a p * (f low * sl) = mul_assoc (a p) sl (f low) ∙ ap (λ (y : ℕ). a p * y) (mul_comm sl (f low)) in
    let y : a p * sh * f high ≡ a p * (f high * sh) = mul_assoc (a p) sh (f high) ∙ ap (λ (z : ℕ). a p * z) (mul_comm sh (f high)) in
    omega (
      arith,
      dot_bump n (bump (without a p) low (a p * sl)) f high (a p * sh) hh,
      dot_bump n (without a p) f low (a p * sl) hl,
      dot_apart n a f p hp,
    )
