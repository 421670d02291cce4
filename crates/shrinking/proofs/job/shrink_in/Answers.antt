use mathlib.Core.Path.{sym, ◌∙◌}
use lib.Seq.{length-take-le}
use Rattle.request.specs.Request.{aim_of}
use Rattle.shrinking.proofs.Answering.{diagram_refused, diagram_done_lem, answer_long, answer_ready}
use native.Mathlib.Omega.{arith}
use Rattle.shrinking.proofs.job.shrink_in.Goals as goal

pub overflow_mul-found : goal.overflow_mul-found
overflow_mul-found c = omega (arith, answer_long c.args.form c.args.target.keep c.args.target.as_is (aim_of c.args.target) c.args.words.now _ _ _ _ c.shrink_words.result c.shrink_words.ensures c.requires.1 c.requires.0 c.in-Ok.is (c.shrink_words.auto.output ∙ c.requires.1))

pub slice_bounds-hand_out-end : goal.slice_bounds-hand_out-end
slice_bounds-hand_out-end c = omega (arith, answer_long c.args.form c.args.target.keep c.args.target.as_is (aim_of c.args.target) c.args.words.now _ _ _ _ c.shrink_words.result c.shrink_words.ensures c.requires.1 c.requires.0 c.in-Ok.is (c.shrink_words.auto.output ∙ c.requires.1), (c.shrink_words.auto.output ∙ c.requires.1))

pub slice_bounds-hand_out-end-in-Ok : goal.slice_bounds-hand_out-end-in-Ok
slice_bounds-hand_out-end-in-Ok c = sym (length-take-le _ _ (omega (arith, answer_long c.args.form c.args.target.keep c.args.target.as_is (aim_of c.args.target) c.args.words.now _ _ _ _ c.shrink_words.result c.shrink_words.ensures c.requires.1 c.requires.0 c.in-Ok.is (c.shrink_words.auto.output ∙ c.requires.1), (c.shrink_words.auto.output ∙ c.requires.1))))

pub hand_out-requires : goal.hand_out-requires
hand_out-requires c = answer_ready c.args.form c.args.target.keep c.args.target.as_is (aim_of c.args.target) c.args.words.now _ _ _ _ c.shrink_words.result c.shrink_words.ensures c.requires.1 c.requires.0 c.in-Ok.is (c.shrink_words.auto.output ∙ c.requires.1) c.shrink_words.new.room (c.shrink_words.auto.room ∙ c.requires.0)

pub returns-in-Ok : goal.returns-in-Ok
returns-in-Ok c = diagram_done_lem c.args.form c.args.target.keep c.args.target.as_is (aim_of c.args.target) c.args.words.now _ _ _ _ c.shrink_words.result c.shrink_words.ensures c.requires.1 c.requires.0 c.in-Ok.is (c.shrink_words.auto.output ∙ c.requires.1) c.hand_out.ensures

pub returns-in-Err : goal.returns-in-Err
returns-in-Err c = diagram_refused c.args.form c.args.target.keep c.args.target.as_is (aim_of c.args.target) c.args.words.now _ _ _ _ c.shrink_words.result c.shrink_words.ensures c.requires.1 c.requires.0 c.in-Err.is c.refuse.ensures
