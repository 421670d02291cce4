-- An outcome is one: it has one number and place, or one pair of counts, and never both.
use Prim.Native.Nat.{ℕ}
use mathlib.Core.Path.{◌≡◌, sym, ◌∙◌}
use native.Mathlib.Omega.{arith}
use Rattle.diagram.specs.Verdict.{Outcome, accepted, refused}

module _ {o : Outcome} where
  pub same_refusal : {k p j q : ℕ} → o ≡ refused k p → o ≡ refused j q → (k ≡ j) × (p ≡ q)
  same_refusal {k} {p} {j} {q} a b = let c : refused k p ≡ refused j q = sym a ∙ b in (cc, cc)

  pub same_counts : {n v m u : ℕ} → o ≡ accepted n v → o ≡ accepted m u → (n ≡ m) × (v ≡ u)
  same_counts {n} {v} {m} {u} a b = let c : accepted n v ≡ accepted m u = sym a ∙ b in (cc, cc)

  pub never_both : {k p n v : ℕ} → o ≡ refused k p → o ≡ accepted n v → ⊥
  never_both {k} {p} {n} {v} a b =
      let c : refused k p ≡ accepted n v = sym a ∙ b in
      let z : ◌≡◌ {A = ℕ} 0 1 = cc in
      omega arith
