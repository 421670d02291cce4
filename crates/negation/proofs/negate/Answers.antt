use Rattle.negation.proofs.Words.{written_starts, written_on, written_ends}
use Rattle.negation.proofs.Answers.{end_is, made_is}
use native.Mathlib.Omega.{arith}
use Rattle.negation.proofs.negate.Goals as goal

pub overflow_mul-end : goal.overflow_mul-end
overflow_mul-end c =
    omega (arith, end_is c.requires.1 c.args.nodes c.requires.0 c.nodes_of-made.result c.nodes_of-made.ensures, c.requires.2)

pub loop-i-init : goal.loop-i-init
loop-i-init c = written_starts _ _

pub word_of-requires : goal.word_of-requires
word_of-requires c =
    (c.requires.1, omega (arith, end_is c.requires.1 c.args.nodes c.requires.0 c.nodes_of-made.result c.nodes_of-made.ensures))

pub bounds-output-i : goal.bounds-output-i
bounds-output-i c =
    omega (arith, end_is c.requires.1 c.args.nodes c.requires.0 c.nodes_of-made.result c.nodes_of-made.ensures, c.requires.2, c.loop-i.invariant.size)

pub loop-i-preserved : goal.loop-i-preserved
loop-i-preserved c =
    written_on c.loop-i.invariant (omega (arith, end_is c.requires.1 c.args.nodes c.requires.0 c.nodes_of-made.result c.nodes_of-made.ensures)) c.requires.2 c.word_of.result c.word_of.ensures

pub shape_of-output : goal.shape_of-output
shape_of-output c = c.loop-i.invariant.size

pub returns : goal.returns
returns c =
    (made_is c.requires.1 c.args.nodes c.requires.0 c.nodes_of-made.result c.nodes_of-made.ensures, written_ends c.loop-i.invariant (omega (arith, end_is c.requires.1 c.args.nodes c.requires.0 c.nodes_of-made.result c.nodes_of-made.ensures)))
