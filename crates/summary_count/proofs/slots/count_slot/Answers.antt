use Rattle.summary_count.proofs.Turns.{slot_skipped, slot_root, slot_ready, slot_done}
use Rattle.summary_count.proofs.slots.count_slot.Goals as goal

pub returns-then-name-eq0 : goal.returns-then-name-eq0
returns-then-name-eq0 c = slot_skipped c.requires c.word-name.ensures c.if-name-eq0.true

pub stamp-requires : goal.stamp-requires
stamp-requires c = slot_root c.requires c.word-name.ensures c.if-name-eq0.false

pub count_stamped-requires : goal.count_stamped-requires
count_stamped-requires c = slot_ready c.requires c.word-name.ensures c.if-name-eq0.false c.word.ensures

pub returns : goal.returns
returns c = slot_done c.requires c.word-name.ensures c.if-name-eq0.false c.word.ensures c.stamp.ensures c.count_stamped.ensures
