-- The answer of a search that takes no cut: false.
use Prim.Native.Nat.{ℕ, ◌≤◌, max}
use mathlib.Core.Path.{◌≡◌, refl, sym, ap, ◌∙◌}
use mathlib.Core.List.{List}
use native.Mathlib.Omega.{arith}
use lib.ListN.{take, drop}
use Rattle.diagram.specs.Limits.{max_nodes}
use Rattle.diagram.specs.Diagram.{vars, Ordered}
use Rattle.diagram.specs.Verdict.{most}
use Rattle.diagram.proofs.Reading.{accepted_ordered}
use Rattle.room_map.specs.Map.{answer_from, search_to}
use Rattle.approximation.specs.Constants.{false_of}
use Rattle.approximation.specs.Search.{Answer, answer}
use Rattle.cuts.proofs.Cutting.{false_words, constant_false, none, none_length, none_beyond}
use Rattle.trials.specs.Trials.{Searching, Found}
use Rattle.trials.specs.Answers.{Constant}

module _ {w r : List ℕ} {n v : ℕ} (a : Searching w r n v) where
  pub searching_ordered : Ordered w
  searching_ordered = accepted_ordered w a.accepted

  pub searching_few : n ≤ max_nodes
  searching_few = let few = searching_ordered.formed.few in let is = a.is_size in omega arith

  pub searching_most : max n 2 ≡ most w
  searching_most = ap (λ (k : ℕ). max k 2) a.is_size

  -- ---- a constant

  found_false : {b : Answer} → b ≡ answer (false_of (vars w)) 0 → Found w b r (none r (answer_from (max n 2)) v) 1 0
  found_false e =
      let m = searching_most in
      let long = a.long in
      rw e (record {
        trials = refl;
        count = refl;
        words = refl;
        fits = omega arith;
        kept = none_length r (answer_from (max n 2)) v;
        made = ap (λ (k : ℕ). take 3 (drop (answer_from k) (none r (answer_from (max n 2)) v))) (sym m) ∙ false_words r (answer_from (max n 2)) v (omega arith) ∙ ap false_of a.is_vars;
        beyond = none_beyond r (answer_from (max n 2)) v (search_to (most w)) (omega arith);
      })

  module _ {after : List ℕ} {k trials : ℕ} where
    pub falsely : {b : Answer} → Constant (max n 2) 0 v r after k trials → b ≡ answer (false_of (vars w)) 0 → Found w b r after k trials
    falsely c e =
        let count : k ≡ 1 = c.count in
        rw (c.room ∙ constant_false r (answer_from (max n 2)) v 0 refl, count, c.trials) (found_false e)
