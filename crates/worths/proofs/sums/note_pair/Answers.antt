use Rattle.worths.proofs.Places.{pair_ends, pair_goes}
use Rattle.worths.proofs.sums.note_pair.Goals as goal

pub note_end-requires : goal.note_end-requires
note_end-requires c = (c.requires, pair_ends c.requires c.first_at-p.ensures c.second_at-q.ensures c.is_ended.ensures c.if-is_ended.true)

pub returns-then-is_ended : goal.returns-then-is_ended
returns-then-is_ended c = c.note_end.ensures

pub note_sum-requires : goal.note_sum-requires
note_sum-requires c = (c.requires, pair_goes c.requires c.first_at-p.ensures c.second_at-q.ensures c.is_ended.ensures c.if-is_ended.false)

pub note_either-requires : goal.note_either-requires
note_either-requires c = (c.note_sum.ensures, pair_goes c.requires c.first_at-p.ensures c.second_at-q.ensures c.is_ended.ensures c.if-is_ended.false)

pub returns : goal.returns
returns c = c.note_either.ensures
