use mathlib.Core.Path.{refl, sym}
use Rattle.converting.proofs.words.are_words.Goals as goal

pub returns-then-same : goal.returns-then-same
returns-then-same c = rw (sym c.same.ensures, c.if-same.true) c.same-then-same.ensures

pub returns : goal.returns
returns c = rw (sym c.same.ensures, c.if-same.false) refl
