-- What the public functions answer.
use Prim.Native.Nat.{ℕ, zero, suc, ◌+◌, ◌*◌, ◌^◌, ◌≤◌, ◌<◌, min}
use mathlib.Core.Path.{◌≡◌, refl, sym, ap, ◌∙◌}
use mathlib.Core.Bool.{Bool, ◌&&◌}
use mathlib.Core.List.{List, [], ◌++◌, append_assoc}
use native.Mathlib.Omega.{arith}
use lib.ListN.{length, drop, take, replicate, length-append, length-drop, take-append-drop}
use lib.Seq.{length-take-le, length_front, take_at, drop_at, take-add}
use lib.Pow.{pow-lt}
use lib.Dec.{eqb}
use borrow.Author.Tests.{ltb-false}
use Rattle.naturals.specs.Natural.{value, word_count, Holds}
use Rattle.naturals.specs.Spelling.{words_of}
use Rattle.naturals.proofs.Answer.{holds_as, holds_zero}
use Rattle.naturals.proofs.Spelling.{words_length, words_of_lem, words_value}
use Rattle.diagram.specs.Limits.{max_nodes}
use Rattle.diagram.specs.Diagram.{size, vars, holds}
use Rattle.diagram.specs.Valuations.{count_of, meets, weight_of}
use Rattle.diagram.specs.Verdict.{Verdict, accepted, room_of, short, verdict_for, Checked}
use Rattle.std.specs.Prelude.{Ok, Err}
use Rattle.diagram.specs.declared.verdict.Extent.{Extent}
use Rattle.diagram.specs.declared.verdict.Refused.{Refused}
use Rattle.diagram.specs.declared.verdict.Output.TheVariants.{Weights}
use Rattle.diagram.proofs.Tests.{by-eq}
use Rattle.diagram.proofs.Tally.{tally_most}
use Rattle.diagram.proofs.Meaning.{Admitted, verdict_accepted}
use Rattle.diagram.proofs.Entering.{refusal_is, verdict_is, when_refused, when_accepted, admitted, ordered, lent_fits, lent_back, answers_refused, answers_accepted}
use Rattle.weights.specs.Weighed.{weight_words, Weighs, CountsAndWeighs}
use Rattle.counts.specs.Table.{entry}
use Rattle.weights.specs.Passes.{weights_from, weights_to, Weighable, Standing, Handed}

-- ---- the words of the weights

words_long : (w : List ℕ) (n : ℕ) → length (weight_words w n) ≡ word_count * n
unfolding weight_words
words_long w zero = refl
words_long w (suc n) =
    length-append (weight_words w n) (words_of word_count (weight_of w n)) ∙ omega (arith, words_long w n, words_length word_count (weight_of w n))

-- as they stand in the output
words_stand : (w s : List ℕ) (n : ℕ) → ((p : ℕ) → p < n → Holds (weight_of w p) (take word_count (drop (word_count * p) s))) → take (word_count * n) s ≡ weight_words w n
unfolding weight_words
words_stand w s zero h = refl
words_stand w s (suc n) h =
    let last = h n (omega arith) in
    let here : take word_count (drop (word_count * n) s) ≡ words_of word_count (weight_of w n) =
    sym (words_of_lem word_count (take word_count (drop (word_count * n) s)) last.count last.small) ∙ ap (words_of word_count) last.worth in
    let next : word_count * suc n ≡ word_count * n + word_count = omega arith in
    rw (next, take-add (word_count * n) word_count s, here, words_stand w s n (λ p l. h p (omega arith))) refl

-- and as they are read from it
words_at_lem : (w : List ℕ) (n q : ℕ) (rest : List ℕ) → q < n → take word_count (drop (word_count * q) (weight_words w n ++ rest)) ≡ words_of word_count (weight_of w q)
unfolding weight_words
words_at_lem w zero q rest h = absurd (omega arith)
words_at_lem w (suc n) q rest h =
    let here : List ℕ = words_of word_count (weight_of w n) in
    ap (λ (l : List ℕ). take word_count (drop (word_count * q) l)) (append_assoc (weight_words w n) here rest)
    ∙ by-eq q n
    (λ e.
    rw (e, drop_at (weight_words w n) (here ++ rest) (word_count * n) (words_long w n))
    (take_at here rest word_count (words_length word_count (weight_of w n))))
    (λ ne. words_at_lem w n q (here ++ rest) (omega arith))

below : (a b c : ℕ) → a ≤ b → b < c → a < c
below a b c h k = omega arith

-- ---- the answers

-- an entry of a table that begins at 0
plain : {x : ℕ} (s : List ℕ) (q : ℕ) → Holds x (entry 0 s q) → Holds x (take word_count (drop (word_count * q) s))
plain s q h = let e : 0 + word_count * q ≡ word_count * q = omega arith in rw e at h

module _ {w : List ℕ} (out : List ℕ) {room after : List ℕ} {r : Verdict} (c : Checked w (Weights (length out)) room after r) where
  abbrev all : List ℕ
  all = weight_words w (size w)

  pub both_refused : {refusal : Refused} → r ≡ Err refusal → CountsAndWeighs w room after out out (Err refusal) (replicate word_count 0)
  both_refused e = record {
    weighs = answers_refused (verdict_for Weights w) Weights all out c.left refl (refusal_is c e);
    counted = holds_as (sym (when_refused c e (count_of w) 0)) holds_zero;
  }

  module _ {extent : Extent} (e : r ≡ Ok extent) where
    pub both_few : extent.nodes ≤ max_nodes
    both_few = omega (arith, (admitted c e).nodes, (admitted c e).accepted.formed.few)

    used_fits : weights_to extent.nodes ≤ room_of w
    used_fits = omega (arith, (admitted c e).nodes)

    both_fits : weights_to extent.nodes ≤ length after
    both_fits = lent_fits c e (weights_to extent.nodes) used_fits

    both_long : word_count * extent.nodes ≤ length out
    unfolding short
    both_long = omega (arith, (admitted c e).nodes, ltb-false (length out) (word_count * size w) (admitted c e).lent)

    pub both_asks : Weighable w after extent.nodes extent.vars
    both_asks = record { ordered = ordered c e; nodes = (admitted c e).nodes; variables = (admitted c e).variables; long = both_fits }

    module _ {stand count : List ℕ} (s : Standing w after extent.nodes stand × Holds (count_of w) count) where
      pub both_hand : (extent.nodes ≤ max_nodes) × (weights_to extent.nodes ≤ length stand) × (word_count * extent.nodes ≤ length out)
      both_hand = (both_few, omega (arith, s.0.kept, both_fits), both_long)

      weights_out : {out' : List ℕ} → Handed (weights_from extent.nodes) stand out extent.nodes out' → out' ≡ all ++ drop (length all) out
      weights_out {out'} h =
          let front = words_stand w out' extent.nodes (λ p l. plain out' p (holds_as (s.0.weight p l).worth (h.number p l))) in
          rw (words_long w (size w), ← (admitted c e).nodes) (sym (take-append-drop (word_count * extent.nodes) out') ∙ rw (front, h.rest) refl)

      room_back : {room' : List ℕ} → room' ≡ replicate (min (weights_to extent.nodes) (length stand)) 0 ++ drop (weights_to extent.nodes) stand → room' ≡ after
      room_back z =
          let long : min (weights_to extent.nodes) (length stand) ≡ length (take (weights_to extent.nodes) after) =
          omega (arith, s.0.kept, both_fits, length-take-le (weights_to extent.nodes) after both_fits) in
          z
          ∙ rw (long, s.0.rest) (lent_back c e (weights_to extent.nodes) used_fits (replicate (length (take (weights_to extent.nodes) after)) 0) refl)

      pub both_accepted : {out' room' : List ℕ} → Handed (weights_from extent.nodes) stand out extent.nodes out'
          → room' ≡ replicate (min (weights_to extent.nodes) (length stand)) 0 ++ drop (weights_to extent.nodes) stand → CountsAndWeighs w room room' out out' (Ok extent) count
      both_accepted h z = record {
        weighs = answers_accepted (verdict_for Weights w) Weights all out (room_back z ∙ c.left) refl (verdict_is c e) (weights_out h);
        counted = holds_as (sym (when_accepted c e (count_of w) 0)) s.1;
      }

-- ---- what a caller reads: where the words are accepted, each node's weight stands in its place

module _ {w room room' out out' : List ℕ} {r : Verdict} (a : Weighs w room room' out out' r) {n v : ℕ}
    (yes-case : verdict_for Weights w (length room) (length out) ≡ accepted n v) where
  words_are : out' ≡ weight_words w (size w) ++ drop (word_count * size w) out
  words_are = rw (words_long w (size w)) at (rw yes-case at a.output)

  abbrev d : Admitted w (Weights (length out)) (length room) n v
  d = verdict_accepted w (Weights (length out)) (length room) n v yes-case

  pub weighed_long : length out' ≡ length out
  unfolding short
  weighed_long =
      let fits : word_count * size w ≤ length out = ltb-false (length out) (word_count * size w) d.lent in
      ap length words_are ∙ length-append (weight_words w (size w)) (drop (word_count * size w) out)
      ∙ omega (arith, words_long w (size w), length-drop (word_count * size w) out)

  pub weighed_at : (q : ℕ) → q < size w → value (take word_count (drop (word_count * q) out')) ≡ weight_of w q
  weighed_at q h =
      let few : vars w < 32 * word_count = omega (arith, d.accepted.formed.variables) in
      let small = below (weight_of w q) (2 ^ vars w) (2 ^ (32 * word_count)) (tally_most (vars w) (λ bs. holds w bs && meets w bs (eqb q))) (pow-lt few) in
      ap (λ (l : List ℕ). value (take word_count (drop (word_count * q) l))) words_are
      ∙ ap value (words_at_lem w (size w) q (drop (word_count * size w) out) h)
      ∙ words_value word_count (weight_of w q) small
