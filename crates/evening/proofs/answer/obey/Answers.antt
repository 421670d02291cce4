use Rattle.evening.proofs.Calls.{blamed, may_aim, obeyed}
use Rattle.evening.proofs.answer.obey.Goals as goal

pub target_of-requires : goal.target_of-requires
target_of-requires c = may_aim c.args.settings.now _ _ c.in-Ok.ensures

pub returns-in-Ok : goal.returns-in-Ok
returns-in-Ok c = obeyed c.args.form c.args.bytes.now c.args.settings.now c.in-Ok.ensures c.target_of.ensures c.shrink.ensures

pub returns-in-Err : goal.returns-in-Err
returns-in-Err c = blamed c.args.form c.args.bytes.now c.args.settings.now _ c.in-Err.ensures c.blame.ensures
