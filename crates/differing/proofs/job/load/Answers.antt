use Rattle.std.proofs.lemmas.Result.{err_from_is_err_and}
use mathlib.Core.Path.{ap}
use Rattle.std.specs.Option.{option_copied}
use Rattle.differing.proofs.Answering.{not_found, file_loaded, file_refused}
use Rattle.differing.proofs.job.load.Goals as goal

pub returns-in-None : goal.returns-in-None
returns-in-None c = not_found c.args.form _ _ (ap option_copied c.in-None.is)

pub returns-in_err-nodes-in-Some : goal.returns-in_err-nodes-in-Some
returns-in_err-nodes-in-Some c =
    let e = err_from_is_err_and c.from_residual.result c.from_residual.ensures.1 in
    rw (e.1, e.2) (file_refused c.args.form _ _ _ _ c.requires (ap option_copied c.in-Some.is) c.read_form.ensures c.in_err-nodes-in-Some.was)

pub returns-in_ok-nodes-in-Some : goal.returns-in_ok-nodes-in-Some
returns-in_ok-nodes-in-Some c = file_loaded c.args.form _ _ _ _ c.requires (ap option_copied c.in-Some.is) c.read_form.ensures c.in_ok-nodes-in-Some.was
