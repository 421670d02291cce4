use Rattle.block_file.proofs.Storing.{refused_1, refused_2, refused_25, refused_4, refused_26, storable}
use native.Mathlib.Omega.{arith}
use Rattle.block_file.proofs.write.test_words.Goals as goal

pub returns-then-words-eq0 : goal.returns-then-words-eq0
returns-then-words-eq0 c = refused_1 c.args.words.now c.args.lent c.if-words-eq0.true

pub returns-then-words-ne0 : goal.returns-then-words-ne0
returns-then-words-ne0 c = refused_2 c.args.words.now c.args.lent c.if-words-eq0.false c.if-words-ne0.true

pub returns-then-nodes-gt-MOST : goal.returns-then-nodes-gt-MOST
returns-then-nodes-gt-MOST c = refused_25 c.args.words.now c.args.lent c.if-words-eq0.false c.if-words-ne0.false c.if-nodes-gt-MOST.true

pub returns-then-lent-div_ceil : goal.returns-then-lent-div_ceil
returns-then-lent-div_ceil c = refused_4 c.args.words.now c.args.lent c.if-words-eq0.false c.if-words-ne0.false c.if-nodes-gt-MOST.false (omega (arith, c.if-lent-div_ceil.true, c.div_ceil.ensures))

pub returns-then-wide-nodes : goal.returns-then-wide-nodes
returns-then-wide-nodes c = refused_26 c.args.words.now c.args.lent c.if-words-eq0.false c.if-words-ne0.false c.if-nodes-gt-MOST.false (omega (arith, c.if-lent-div_ceil.false, c.div_ceil.ensures)) c.first_wide-wide.ensures c.if-wide-nodes.true

pub returns : goal.returns
returns c = storable c.args.words.now c.args.lent c.if-words-eq0.false c.if-words-ne0.false c.if-nodes-gt-MOST.false (omega (arith, c.if-lent-div_ceil.false, c.div_ceil.ensures)) c.first_wide-wide.ensures c.if-wide-nodes.false
