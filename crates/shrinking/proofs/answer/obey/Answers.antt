use Rattle.shrinking.proofs.Answering.{helped, not_known, not_named, is_done}
use Rattle.request.specs.Request.{meant}
use mathlib.Core.Path.{refl, ap}
use Rattle.shrinking.proofs.answer.obey.Goals as goal

pub returns-in-Help : goal.returns-in-Help
returns-in-Help c = helped c.args.form c.args.bytes.now c.args.file.now _ _ refl (ap meant c.in-Help.is) c.write_help-end.ensures

pub returns-in-Unknown : goal.returns-in-Unknown
returns-in-Unknown c = not_known c.args.form c.args.bytes.now c.args.file.now _ _ refl (ap meant c.in-Unknown.is) c.write_unknown-end.ensures

pub returns-in-Which : goal.returns-in-Which
returns-in-Which c = not_named c.args.form c.args.bytes.now c.args.file.now _ _ refl (ap meant c.in-Which.is) c.write_which-end.ensures

pub returns-in-Cut : goal.returns-in-Cut
returns-in-Cut c = is_done _ _ refl (ap meant c.in-Cut.is) c.shrink.ensures
