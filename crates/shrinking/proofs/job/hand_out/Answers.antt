use Rattle.request.specs.Request.{aim_of}
use Rattle.shrinking.proofs.Answering.{store_few, store_done, store_refused}
use Rattle.shrinking.proofs.job.hand_out.Goals as goal

pub file_bytes-length-requires : goal.file_bytes-length-requires
file_bytes-length-requires c = store_few c.args.form c.args.target.keep (aim_of c.args.target) c.args.words.now c.args.answer.now c.args.trials c.args.file.now _ c.write_form.ensures c.in-Ok.is

pub write_summary-end-requires : goal.write_summary-end-requires
write_summary-end-requires c = c.requires

pub returns-in-Ok : goal.returns-in-Ok
returns-in-Ok c = store_done c.args.form c.args.target.keep (aim_of c.args.target) c.args.words.now c.args.answer.now c.args.trials c.args.file.now _ c.write_form.ensures c.in-Ok.is c.file_bytes-length.ensures c.write_summary-end.ensures

pub returns-in-Err : goal.returns-in-Err
returns-in-Err c = store_refused c.args.form c.args.target.keep (aim_of c.args.target) c.args.words.now c.args.answer.now c.args.trials c.args.file.now _ c.write_form.ensures c.in-Err.is c.refuse.ensures
