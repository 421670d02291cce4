-- What is counted, and whether two diagrams differ, from what the pair of their roots is worth.
use Prim.Native.Nat.{ℕ, ◌*◌, ◌^◌}
use mathlib.Core.Path.{◌≡◌, refl, ap, ◌∙◌}
use mathlib.Core.Bool.{◌&&◌}
use mathlib.Core.List.{List}
use lib.Dec.{ltb}
use Rattle.diagram.specs.Diagram.{vars, holds}
use Rattle.diagram.specs.Valuations.{tally}
use Rattle.pairs.specs.Pairs.{level_of, roots}
use Rattle.pairs.specs.Table.{Alike}
use Rattle.worths.specs.Worth.{unlike, worth_from, worth, unlike_at}
use Rattle.worths.proofs.Beside.{worth_all, worth_roots, scaled_sign, unlike_is}
use Rattle.comparison.specs.Comparison.{differ, in_both, any_differ}

module _ {a b : List ℕ} (k : Alike a b) where
  pub both_roots : in_both a b ≡ worth ◌&&◌ a b (roots a b) * 2 ^ level_of a b (roots a b)
  both_roots = worth_roots ◌&&◌ k (λ bs. holds a bs && holds b bs) (λ bs. refl)

  pub all_unlike : tally (vars a) (differ a b) ≡ worth_from unlike a b 0 (roots a b)
  all_unlike = worth_all unlike k (differ a b) (λ bs. unlike_is (holds a bs) (holds b bs))

  pub unlike_roots : any_differ a b ≡ unlike_at a b (roots a b)
  unlike_roots =
      ap (ltb 0) (worth_roots unlike k (differ a b) (λ bs. unlike_is (holds a bs) (holds b bs)))
      ∙ scaled_sign (worth unlike a b (roots a b)) (level_of a b (roots a b))
