-- The answer of a search, given.
use Prim.Native.Nat.{ℕ, ◌+◌, ◌-◌, ◌*◌, ◌≤◌, min}
use mathlib.Core.Path.{◌≡◌, refl, sym, ap, ◌∙◌}
use mathlib.Core.List.{List, ◌++◌}
use native.Mathlib.Omega.{arith}
use lib.ListN.{length, take, drop, replicate, take-append-drop}
use Rattle.diagram.specs.Diagram.{size}
use Rattle.room_map.specs.Map.{answer_from, search_to}
use Rattle.reduction.specs.Room.{Copied}
use Rattle.reduction.proofs.Answering.{copied_front}
use Rattle.negation.specs.Negation.{negated, over, Ready}
use Rattle.trials.specs.Answers.{answer_in, Giving, Given, Returning, Returned}

module _ {r out : List ℕ} {m k : ℕ} (a : Giving r out m k) where
  cleared_room : {u : List ℕ} → u ≡ replicate (min (search_to m) (length r)) 0 ++ drop (search_to m) r → u ≡ replicate (search_to m) 0 ++ drop (search_to m) r
  cleared_room e =
      let long = a.long in
      let all : min (search_to m) (length r) ≡ search_to m = omega arith in
      e ∙ ap (λ (i : ℕ). replicate i 0 ++ drop (search_to m) r) all

  pub given : {u out' : List ℕ} → length out' ≡ length out → Copied r (answer_from m) out out' (3 * k)
      → u ≡ replicate (min (search_to m) (length r)) 0 ++ drop (search_to m) r → Given m k r out u out'
  given {u} {out'} same copied e =
      let long = a.long in
      let nodes = a.nodes in
      let room = a.output in
      record {
        room = cleared_room e;
        written =
            sym (take-append-drop (3 * k) out') ∙ (rw (copied_front copied (omega arith) (omega arith), copied.rest) refl);
      }

-- The part of the room that is lent.
lent_is : (m k : ℕ) (r : List ℕ) → take (answer_from m + 3 * k - answer_from m) (drop (answer_from m) r) ≡ answer_in m r k
lent_is m k r = let e : answer_from m + 3 * k - answer_from m ≡ 3 * k = omega arith in ap (λ (i : ℕ). take i (drop (answer_from m) r)) e

module _ {r out : List ℕ} {m k v : ℕ} (a : Returning r out m k v) where
  abbrev lent : List ℕ
  lent = take (answer_from m + 3 * k - answer_from m) (drop (answer_from m) r)

  pub returning_asks : (k ≡ size lent) × Ready lent v × (length (negated lent) ≤ length out)
  returning_asks = rw (lent_is m k r) (a.is_size, a.ready, a.fits)

  pub returned : {made : ℕ} {u out' : List ℕ} → (made ≡ size (negated lent)) × (out' ≡ over (negated lent) out)
      → u ≡ replicate (min (search_to m) (length r)) 0 ++ drop (search_to m) r → Returned m k r out u out' made
  returned (count, written) e = record {
    room = cleared_room a.giving e;
    count = rw (lent_is m k r) at count;
    written = rw (lent_is m k r) at written;
  }
