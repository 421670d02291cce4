-- What the check that every operation begins with tells: of a refusal, and of an acceptance.
use Prim.Native.Nat.{ℕ, ◌+◌, ◌-◌, ◌*◌, ◌≤◌, ◌<◌}
use mathlib.Core.Path.{◌≡◌, refl, sym, ap, ◌∙◌}
use mathlib.Core.Bool.{false}
use mathlib.Core.List.{List, ◌++◌, append_assoc}
use native.Mathlib.Omega.{arith}
use lib.ListN.{length, get_or, take, drop, replicate, get_or-replicate, length-replicate, replicate-append-replicate, take-append-drop, length-append, length-drop}
use lib.Seq.{get_or-take, length-take-le, take_at}
use borrow.Author.Tests.{ltb-false}
use Rattle.diagram.specs.Diagram.{size, Ordered}
use Rattle.diagram.specs.Verdict.{Verdict, Outcome, accepted, refused, said, and_then, if_accepted, most, room_of, short, cleared, room_after, lengths_of, contents_of, verdict_of, Checked, Answers, Builds}
use Rattle.diagram.specs.declared.verdict.Extent.{Extent}
use Rattle.diagram.specs.declared.verdict.Refused.{Refused}
use Rattle.diagram.specs.Refusal.{number_of}
use Rattle.std.specs.Prelude.{Ok, Err}
use Rattle.diagram.specs.declared.verdict.Output.{Output}
use Rattle.diagram.specs.declared.verdict.Output.TheVariants.{Diagram}
use Rattle.diagram.proofs.Meaning.{Admitted, verdict_accepted}
use Rattle.diagram.proofs.Reading.{accepted_ordered}

-- a first part of the room, cleared, is zeros, and given back as zeros leaves the room cleared
zeros_front : (k all : ℕ) (rest : List ℕ) → k ≤ all → take k (replicate all 0 ++ rest) ≡ replicate k 0
zeros_front k all rest l =
    let e : k + (all - k) ≡ all = omega arith in
    let s : replicate {A = ℕ} all 0 ≡ replicate k 0 ++ replicate (all - k) 0 = sym (replicate-append-replicate {A = ℕ} k (all - k) 0 ∙ ap (λ (n : ℕ). replicate n 0) e) in
    rw (s, append_assoc) (take_at (replicate k 0) (replicate (all - k) 0 ++ rest) k (length-replicate {A = ℕ} k 0))

lengths_first : (a b : Outcome) (n v : ℕ) → and_then a b ≡ accepted n v → (x y : List ℕ) → if_accepted a x y ≡ x
lengths_first (accepted m u) b n v e x y = refl
lengths_first (refused k p) b n v e x y = let z : ◌≡◌ {A = ℕ} 0 1 = cc in absurd (omega arith)

module _ {w : List ℕ} {output : Output} {before after : List ℕ} {v : Verdict} (c : Checked w output before after v) where
  pub refusal_is : {e : Refused} → v ≡ Err e → verdict_of w output (length before) ≡ said (Err e)
  refusal_is e = sym c.verdict ∙ ap said e

  -- a refusal: what is asked of an acceptance doesn't matter
  pub when_refused : {r : Refused} → v ≡ Err r → {A : Type 0} (x y : A) → if_accepted (verdict_of w output (length before)) x y ≡ y
  when_refused e x y = rw (refusal_is e)

  module _ {a : Extent} (e : v ≡ Ok a) where
    pub verdict_is : verdict_of w output (length before) ≡ accepted a.nodes a.vars
    verdict_is = sym c.verdict ∙ ap said e

    pub when_accepted : {A : Type 0} (x y : A) → if_accepted (verdict_of w output (length before)) x y ≡ x
    when_accepted x y = rw verdict_is

    pub admitted : Admitted w output (length before) a.nodes a.vars
    admitted = verdict_accepted w output (length before) a.nodes a.vars verdict_is

    pub ordered : Ordered w
    ordered = accepted_ordered w admitted.accepted

    pub still_checked : Checked w output before after (Ok a)
    still_checked = rw e at c

    pub room_cleared : after ≡ cleared w before
    unfolding verdict_of
    room_cleared =
        c.left ∙ lengths_first (lengths_of w output (length before)) (contents_of w) a.nodes a.vars verdict_is (cleared w before) before

    room_length_lem : length after ≡ length before
    room_length_lem =
        ap length room_cleared ∙ length-append (replicate (room_of w) 0) (drop (room_of w) before)
        ∙ omega (arith, length-replicate {A = ℕ} (room_of w) 0, length-drop (room_of w) before, admitted.fits)

    -- the first k words of the room are lent
    module _ (k : ℕ) (l : k ≤ room_of w) where
      pub lent_fits : k ≤ length after
      lent_fits = omega (arith, room_length_lem, admitted.fits)

      pub lent_zero : take k after ≡ replicate k 0
      lent_zero = rw room_cleared (zeros_front k (room_of w) (drop (room_of w) before) l)

      pub lent_word : (j : ℕ) → j < k → get_or after j 0 ≡ 0
      lent_word j h = sym (get_or-take k after j 0 h) ∙ ap (λ (l : List ℕ). get_or l j 0) lent_zero ∙ get_or-replicate k j 0 0 h

      pub lent_back : (part : List ℕ) → part ≡ replicate (length (take k after)) 0 → part ++ drop k after ≡ after
      lent_back part g =
          let same : part ≡ take k after = g ∙ ap (λ (n' : ℕ). replicate n' 0) (length-take-le k after lent_fits) ∙ sym lent_zero in
          rw same (take-append-drop k after)

-- the room afterwards, under another name
pub checked_as : {w : List ℕ} {output : Output} {before after after' : List ℕ} {v : Verdict} → Checked w output before after v → after' ≡ after
    → Checked w output before after' v
checked_as c e = record { verdict = c.verdict; left = e ∙ c.left }

-- an output for a diagram is long enough
pub lent_enough : (w : List ℕ) (lent : ℕ) → short w (Diagram lent) ≡ false → 3 * most w ≤ lent
unfolding short
lent_enough w lent e = ltb-false lent (3 * most w) e

-- ---- what an operation with an output answers

module _ (outcome : ℕ → ℕ → Outcome) (kind : ℕ → Output) (answer : List ℕ) {w room room' : List ℕ} (out : List ℕ)
    (left : room' ≡ room_after w (kind (length out)) room) {r : Verdict} where
  pub answers_refused : {x : Refused} → r ≡ Err x → outcome (length room) (length out) ≡ said (Err x) → Answers outcome kind answer w room room' out out r
  answers_refused e is = record { verdict = ap said e ∙ sym is; left = left; output = rw is refl }

  pub answers_accepted : {a : Extent} → r ≡ Ok a → outcome (length room) (length out) ≡ said (Ok a) → {out' : List ℕ}
      → out' ≡ answer ++ drop (length answer) out → Answers outcome kind answer w room room' out out' r
  answers_accepted e is written = record { verdict = ap said e ∙ sym is; left = left; output = rw is written }

module _ (outcome : ℕ → ℕ → Outcome) (answer : List ℕ) {w room room' : List ℕ} (out : List ℕ)
    (left : room' ≡ room_after w (Diagram (length out)) room) {r : Verdict} where
  pub builds_refused : {x : Refused} → r ≡ Err x → outcome (length room) (length out) ≡ said (Err x) → Builds outcome answer w room room' out out r 0
  builds_refused e is = record { answers = answers_refused outcome Diagram answer out left e is; nodes = rw is refl }

  pub builds_accepted : {a : Extent} → r ≡ Ok a → outcome (length room) (length out) ≡ said (Ok a) → {out' : List ℕ} {count : ℕ} → count ≡ size answer
      → out' ≡ answer ++ drop (length answer) out → Builds outcome answer w room room' out out' r count
  builds_accepted e is counted written =
      record { answers = answers_accepted outcome Diagram answer out left e is written; nodes = rw is counted }
