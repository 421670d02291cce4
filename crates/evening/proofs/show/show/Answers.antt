use Rattle.evening.proofs.Calls.{may_aim}
use Rattle.evening.proofs.Filing.{shows_refused, shows_kept}
use Rattle.evening.proofs.show.show.Goals as goal

pub target_of-requires : goal.target_of-requires
target_of-requires c = may_aim c.args.settings.now _ _ c.in-Ok.ensures

pub returns-in-Ok : goal.returns-in-Ok
returns-in-Ok c = shows_kept c.args.settings.now c.in-Ok.ensures c.target_of.ensures c.write_cut.ensures c.write_version.ensures

pub returns-in-Err : goal.returns-in-Err
returns-in-Err c = shows_refused c.args.settings.now _ c.in-Err.ensures c.write_settings_refusal-end.ensures
