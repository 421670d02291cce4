-- The copy of a diagram's words with sent links.
use Prim.Native.Nat.{ℕ, suc, ◌+◌, ◌*◌, ◌≤◌, ◌<◌}
use mathlib.Core.Path.{◌≡◌, refl, sym, ap, ◌∙◌}
use mathlib.Core.Bool.{Bool, cond}
use mathlib.Core.List.{List}
use native.Mathlib.Omega.{arith}
use native.Mathlib.Decide.{dec_lt}
use lib.ListN.{length, get_or, set, take, length-set}
use lib.Seq.{get_or-set_same, get_or-set_other, get_or-take, ext_get_or, length-take-le}
use borrow.Author.Tests.{lt-ltb, le-ltb}
use Rattle.diagram.specs.Diagram.{var_of, low_of, high_of, size, Formed}
use Rattle.diagram.proofs.Tests.{by-eq}
use Rattle.diagram.proofs.Reading.{by_two}
use Rattle.approximation.specs.Cut.{send}
use Rattle.approximation.proofs.Relink.{relinked_ends}
use Rattle.approximation.proofs.Send.{sent_to, send_length, send_var, send_low, send_high}
use Rattle.cuts.specs.Marks.{link_from, node_at, Sending, Sent}

module _ (marked : ℕ → Bool) (t p : ℕ) where
  pub link_stays : (q : ℕ) → p < 2 → link_from marked t p q ≡ q
  unfolding link_from
  link_stays q h = rw (lt-ltb p 2 h) refl

  pub link_sent : (q : ℕ) → 2 ≤ p → link_from marked t p q ≡ cond (marked q) t q
  unfolding link_from
  link_sent q h = rw (le-ltb p 2 h) refl

module _ (w : List ℕ) (f : Formed w) (marked : ℕ → Bool) (t : ℕ) where
  low_is : (p : ℕ) → p < size w → low_of (send marked t w) p ≡ link_from marked t p (low_of w p)
  low_is p h = by_two p
      (λ end. (relinked_ends (sent_to marked t) w p end).0 ∙ sym (link_stays marked t p (low_of w p) end))
      (λ two. send_low marked t w f p two h ∙ sym (link_sent marked t p (low_of w p) two))

  high_is : (p : ℕ) → p < size w → high_of (send marked t w) p ≡ link_from marked t p (high_of w p)
  high_is p h = by_two p
      (λ end. (relinked_ends (sent_to marked t) w p end).1 ∙ sym (link_stays marked t p (high_of w p) end))
      (λ two. send_high marked t w f p two h ∙ sym (link_sent marked t p (high_of w p) two))

  -- The first p nodes are written.
  abbrev pub Sofar : ℕ → List ℕ → Type 0
  Sofar p s = (j : ℕ) → j < 3 * p → get_or s j 0 ≡ get_or (send marked t w) j 0

  module _ (p : ℕ) (s : List ℕ) (before : Sofar p s) (inside : p < size w) (long : length w ≤ length s) (var low high : ℕ)
      (is-var : var ≡ var_of w p) (is-low : low ≡ link_from marked t p (low_of w p)) (is-high : high ≡ link_from marked t p (high_of w p)) where
    place_in : 3 * p + 2 < length s
    place_in = let whole = f.whole in omega arith

    new_high : get_or (node_at s p var low high) (3 * p + 2) 0 ≡ high
    unfolding node_at
    new_high = get_or-set_same (set (set s (3 * p) var) (3 * p + 1) low) (3 * p + 2) high 0 (simp length-set place_in)

    new_low : get_or (node_at s p var low high) (3 * p + 1) 0 ≡ low
    unfolding node_at
    new_low =
        let place = place_in in
        get_or-set_other (set (set s (3 * p) var) (3 * p + 1) low) (3 * p + 2) (3 * p + 1) high 0 (λ e. omega arith)
        ∙ get_or-set_same (set s (3 * p) var) (3 * p + 1) low 0 (simp length-set (omega arith))

    new_var : get_or (node_at s p var low high) (3 * p) 0 ≡ var
    unfolding node_at
    new_var =
        let place = place_in in
        get_or-set_other (set (set s (3 * p) var) (3 * p + 1) low) (3 * p + 2) (3 * p) high 0 (λ e. omega arith)
        ∙ get_or-set_other (set s (3 * p) var) (3 * p + 1) (3 * p) low 0 (λ e. omega arith)
        ∙ get_or-set_same s (3 * p) var 0 (omega arith)

    old : (j : ℕ) → j < 3 * p → get_or (node_at s p var low high) j 0 ≡ get_or s j 0
    unfolding node_at
    old j h =
        get_or-set_other (set (set s (3 * p) var) (3 * p + 1) low) (3 * p + 2) j high 0 (λ e. omega arith)
        ∙ get_or-set_other (set s (3 * p) var) (3 * p + 1) j low 0 (λ e. omega arith)
        ∙ get_or-set_other s (3 * p) j var 0 (λ e. omega arith)

    pub node_length : length (node_at s p var low high) ≡ length s
    unfolding node_at
    node_length = simp length-set

    pub sent_on : Sofar (p + 1) (node_at s p var low high)
    sent_on j h = elim (dec_lt j (3 * p)) [
      | yes l ↦ old j l ∙ before j l
      | no l ↦ by-eq j (3 * p)
          (λ e. rw e (new_var ∙ is-var ∙ sym (send_var marked t w p)))
          (λ a. by-eq j (3 * p + 1)
          (λ e. rw e (new_low ∙ is-low ∙ sym (low_is p inside)))
          (λ b.
          let e : j ≡ 3 * p + 2 = omega arith in
          rw e (new_high ∙ is-high ∙ sym (high_is p inside))))
    ]

  pub sent_ends : (p : ℕ) (s before : List ℕ) → Sofar p s → p ≡ size w → length s ≡ length before → length w ≤ length before → Sent w marked t before s
  sent_ends p s before all e same long = record {
    kept = same;
    words =
        let whole = f.whole in
        let sizes = send_length marked t w in
        let fits : length w ≤ length s = omega arith in
        ext_get_or 0 (take (length w) s) (send marked t w) (length-take-le (length w) s fits ∙ sym sizes)
        (λ j h.
        let inside : j < length w = rw (length-take-le (length w) s fits) at h in
        get_or-take (length w) s j 0 inside ∙ all j (omega arith));
  }
