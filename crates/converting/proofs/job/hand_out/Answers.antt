use Rattle.converting.proofs.Answering.{store_few, store_done, store_refused}
use Rattle.converting.proofs.job.hand_out.Goals as goal

pub file_bytes-requires : goal.file_bytes-requires
file_bytes-requires c = store_few c.args.to c.args.words.now c.args.file.now _ c.write_form.ensures c.in-Ok.is

pub returns-in-Ok : goal.returns-in-Ok
returns-in-Ok c = store_done c.args.to c.args.words.now c.args.file.now _ c.write_form.ensures c.in-Ok.is c.file_bytes.ensures c.write_nodes-end.ensures

pub returns-in-Err : goal.returns-in-Err
returns-in-Err c = store_refused c.args.to c.args.words.now c.args.file.now _ c.write_form.ensures c.in-Err.is c.refuse.ensures
