use mathlib.Core.Path.{refl}
use Rattle.writing.proofs.Laws.{wrote_then}
use Rattle.evening.specs.Evening.{blamed_text}
use Rattle.evening.proofs.answer.blame.Goals as goal

pub returns : goal.returns
unfolding blamed_text
returns c = (refl, wrote_then c.write-named.ensures c.write_settings_refusal-end.ensures)
