use Rattle.shrinking.proofs.Answering.{is_done}
use mathlib.Core.Path.{sym}
use Rattle.shrinking.proofs.answer.answer.Goals as goal

pub returns : goal.returns
returns c = is_done _ _ (sym c.form_of-form.ensures) (sym c.ask_words-request.ensures) c.obey.ensures
