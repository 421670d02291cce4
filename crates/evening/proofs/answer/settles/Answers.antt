use Rattle.evening.proofs.answer.settles.Goals as goal

pub returns-in-Some : goal.returns-in-Some
returns-in-Some c = rw c.in-Some.is c.is_kept.ensures

pub returns-in-None : goal.returns-in-None
returns-in-None c = rw c.in-None.is
