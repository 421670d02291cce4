-- The negation of a reduced array is reduced: every node keeps its place, and with it its number.
use Prim.Native.Nat.{ℕ, zero, suc, ◌≤◌, ◌<◌}
use mathlib.Core.Path.{◌≡◌, sym, ap, ◌∙◌, subst}
use mathlib.Core.List.{List}
use native.Mathlib.Omega.{arith}
use Rattle.diagram.specs.Diagram.{var_of, low_of, high_of, size, vars, root, Formed, Accepted}
use Rattle.diagram.proofs.Reading.{by_two, accepted_ordered}
use Rattle.reduction.specs.Reduce.{reduce}
use Rattle.reduction.specs.Demand3.{Lean, Distinct, Numbering, there, after}
use Rattle.reduction.proofs.Numbering.{numbers_grow}
use Rattle.reduction.proofs.Canonical.{demand3}
use Rattle.negation.specs.Negation.{exchanged, negated}
use Rattle.negation.proofs.Words.{exchanged_low, exchanged_high, negated_false, negated_true, by_size}
use Rattle.negation.proofs.Meaning.{exchanged_twice, negated_size, negated_var, negated_low, negated_high, negated_accepted}
use Rattle.approximation.specs.Constants.{false_of, true_of}
use Rattle.approximation.proofs.Constants.{true_holds, false_holds}

pub false_reduced : (v : ℕ) → reduce (false_of v) ≡ false_of v
false_reduced v = demand3.false_one (false_of v) (λ bs l. false_holds v bs)

pub true_reduced : (v : ℕ) → reduce (true_of v) ≡ true_of v
true_reduced v = demand3.true_two (true_of v) (λ bs l. true_holds v bs)

-- What a terminal's words are.
end_var : (w : List ℕ) → Formed w → (p : ℕ) → p < 2 → p < size w → var_of w p ≡ vars w
end_var w f zero t h = f.zero_terminal.var
end_var w f (suc zero) t h = (f.one_terminal (omega arith)).var
end_var w f (suc (suc p)) t h = absurd (omega arith)

end_low : (w : List ℕ) → Formed w → (p : ℕ) → p < 2 → p < size w → low_of w p ≡ p
end_low w f zero t h = f.zero_terminal.low
end_low w f (suc zero) t h = (f.one_terminal (omega arith)).low
end_low w f (suc (suc p)) t h = absurd (omega arith)

-- A terminal is no other node.
apart : (w : List ℕ) → Formed w → (p q : ℕ) → p < 2 → 2 ≤ q → p < size w → q < size w → var_of w p ≡ var_of w q → ⊥
apart w f p q t two h g e =
    let last = end_var w f p t h in
    let less = (f.ranges q two g).var in
    omega arith

-- The exchange tells links apart.
exchanged_apart : (x y : ℕ) → exchanged x ≡ exchanged y → x ≡ y
exchanged_apart x y e = sym (exchanged_twice x) ∙ ap exchanged e ∙ exchanged_twice y

module _ (w : List ℕ) (a : Accepted w) (m : 2 < size w) where
  abbrev f : Formed w
  f = a.formed

  same : size (negated w) ≡ size w
  same = negated_size w f m

  low_back : (p : ℕ) → 2 ≤ p → p < size w → low_of (negated w) p ≡ exchanged (low_of w p)
  low_back = negated_low w f m

  high_back : (p : ℕ) → 2 ≤ p → p < size w → high_of (negated w) p ≡ exchanged (high_of w p)
  high_back = negated_high w f m

  mirrored_lean : Lean w → Lean (negated w)
  mirrored_lean lean p two h e =
      let i : p < size w = rw same at h in
      lean p two i (exchanged_apart (low_of w p) (high_of w p) (sym (low_back p two i) ∙ e ∙ high_back p two i))

  mirrored_distinct : Distinct w → Distinct (negated w)
  mirrored_distinct distinct p q h g var low high =
      let i : p < size w = rw same at h in
      let j : q < size w = rw same at g in
      let n = (negated_accepted w a).formed in
      by_two p
      (λ t. by_two q
      (λ u. sym (end_low (negated w) n p t h) ∙ low ∙ end_low (negated w) n q u g)
      (λ two. absurd (apart (negated w) n p q t two h g var)))
      (λ two. by_two q
      (λ u. absurd (apart (negated w) n q p u two g h (sym var)))
      (λ two'. distinct p q i j
      (sym (negated_var w f m p) ∙ var ∙ negated_var w f m q)
      (exchanged_apart (low_of w p) (low_of w q) (sym (low_back p two i) ∙ low ∙ low_back q two' j))
      (exchanged_apart (high_of w p) (high_of w q) (sym (high_back p two i) ∙ high ∙ high_back q two' j))))

  mirrored_numbers : {k p b : ℕ} → 2 ≤ k → b ≤ size w → Numbering w k p b → Numbering (negated w) k (exchanged p) b
  mirrored_numbers {k} {p} two most (there h) =
      there {a = k} {p = exchanged p} (by_two p (λ t. rw (exchanged_low p t) (omega arith)) (λ high. rw (exchanged_high p high) h))
  mirrored_numbers {k} {p} two most (after {b = b} l h) =
      let first = numbers_grow l in
      let second = numbers_grow h in
      let low : Numbering (negated w) k (low_of (negated w) p) b = rw (low_back p (omega arith) (omega arith)) (mirrored_numbers two (omega arith) l) in
      let high : Numbering (negated w) b (high_of (negated w) p) p = rw (high_back p (omega arith) (omega arith)) (mirrored_numbers (omega arith) (omega arith) h) in
      rw (exchanged_high p (omega arith)) (after low high)

  mirrored_more : reduce w ≡ w → reduce (negated w) ≡ negated w
  mirrored_more e =
      let o = accepted_ordered w a in
      let last : root (negated w) ≡ exchanged (root w) = omega (arith, same, exchanged_high (root w) (omega arith)) in
      let numbers = subst (λ (x : List ℕ). 2 ≤ size x → Numbering x 2 (root x) (size x)) e (demand3.numbered w o) (omega arith) in
      demand3.only (negated w) (accepted_ordered (negated w) (negated_accepted w a))
      (mirrored_lean (subst Lean e (demand3.lean w o)))
      (mirrored_distinct (subst Distinct e (demand3.distinct w o)))
      (omega (arith, same))
      (rw (last, same) (mirrored_numbers (omega arith) (omega arith) numbers))

pub mirrored : (w : List ℕ) → Accepted w → reduce w ≡ w → reduce (negated w) ≡ negated w
mirrored w a e = by_size w a.formed
    (λ one. rw (negated_false w one) (true_reduced (vars w)))
    (λ two. rw (negated_true w two) (false_reduced (vars w)))
    (λ more. mirrored_more w a more e)
