use Rattle.diagram.proofs.Rows.{refuse_1, refuse_2, refuse_3, refuse_4, refuse_5, pass_5}
use Rattle.diagram_form.proofs.lengths.lengths.Goals as goal

pub returns-then-words-eq0 : goal.returns-then-words-eq0
returns-then-words-eq0 c =
    refuse_1 c.args.words.now c.args.output c.args.room c.if-words-eq0.true

pub returns-then-words-ne0 : goal.returns-then-words-ne0
returns-then-words-ne0 c =
    refuse_2 c.args.words.now c.args.output c.args.room c.if-words-eq0.false c.if-words-ne0.true

pub returns-then-nodes-gt-MAX_NODES : goal.returns-then-nodes-gt-MAX_NODES
returns-then-nodes-gt-MAX_NODES c =
    refuse_3 c.args.words.now c.args.output c.args.room c.if-words-eq0.false c.if-words-ne0.false c.if-nodes-gt-MAX_NODES.true

pub returns-then-is_short : goal.returns-then-is_short
returns-then-is_short c =
    refuse_4 c.args.words.now c.args.output c.args.room c.if-words-eq0.false c.if-words-ne0.false c.if-nodes-gt-MAX_NODES.false
    c.is_short.result c.is_short.ensures c.if-is_short.true

pub returns-then-room-most : goal.returns-then-room-most
returns-then-room-most c =
    refuse_5 c.args.words.now c.args.output c.args.room c.if-words-eq0.false c.if-words-ne0.false c.if-nodes-gt-MAX_NODES.false
    c.is_short.result c.is_short.ensures c.if-is_short.false c.most.result c.most.ensures c.if-room-most.true

pub returns : goal.returns
returns c =
    pass_5 c.args.words.now c.args.output c.args.room c.if-words-eq0.false c.if-words-ne0.false c.if-nodes-gt-MAX_NODES.false
    c.is_short.result c.is_short.ensures c.if-is_short.false c.most.result c.most.ensures c.if-room-most.false c.word.result c.word.ensures
