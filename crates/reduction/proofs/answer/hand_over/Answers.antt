use Rattle.reduction.proofs.answer.hand_over.Goals as goal

pub returns : goal.returns
returns c = rw c.most-memo.ensures at c.copy.ensures
