use mathlib.Core.Path.{◌∙◌}
use Rattle.evening.proofs.Calls.{is_kept_lem}
use Rattle.evening.proofs.answer.is_kept.Goals as goal

pub returns : goal.returns
returns c = c.is_ok.ensures.value ∙ is_kept_lem c.args.settings.now _ c.kept_in.ensures
