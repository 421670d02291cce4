use mathlib.Core.Path.{◌∙◌, ap}
use Prim.Native.Nat.{ℕ}
use Rattle.counts.specs.Worth.{doublings}
use Rattle.counts.proofs.links.part.Goals as goal

pub place-requires : goal.place-requires
place-requires c = c.requires.1

pub skipped-requires : goal.skipped-requires
skipped-requires c = c.requires.0

pub returns : goal.returns
returns c = (c.place.ensures, c.doublings.ensures ∙ ap (λ (n : ℕ). doublings c.args.valuations n) c.skipped.ensures)
