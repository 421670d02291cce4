use mathlib.Core.Path.{refl}
use Rattle.converting.proofs.Answering.{helped, not_known, is_converted}
use Rattle.converting.proofs.answer.answer.Goals as goal

pub returns-in-Help : goal.returns-in-Help
returns-in-Help c = helped c.args.bytes.now c.args.file.now c.conversion_of-conversion.ensures refl c.in-Help.is c.write_help-end.ensures

pub returns-in-Unknown : goal.returns-in-Unknown
returns-in-Unknown c = not_known c.args.bytes.now c.args.file.now c.conversion_of-conversion.ensures refl c.in-Unknown.is c.write_unknown-end.ensures

pub returns-in-Convert : goal.returns-in-Convert
returns-in-Convert c = is_converted c.args.bytes.now c.args.file.now c.conversion_of-conversion.ensures c.in-Convert.is c.convert.ensures
