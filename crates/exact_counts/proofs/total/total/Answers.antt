use Rattle.exact_counts.proofs.Answers.{total_alone, total_asks, total_rooted, total_done}
use Rattle.exact_counts.proofs.total.total.Goals as goal

pub returns-then-nodes-eq1 : goal.returns-then-nodes-eq1
returns-then-nodes-eq1 c = total_alone c.requires c.if-nodes-eq1.true c.zero.ensures

pub link_and_count-requires : goal.link_and_count-requires
link_and_count-requires c = total_asks c.requires c.if-nodes-eq1.false

pub root_worth-requires : goal.root_worth-requires
root_worth-requires c = total_rooted c.requires c.if-nodes-eq1.false c.link_and_count.new.heads c.link_and_count.ensures

pub returns : goal.returns
returns c = total_done c.requires c.if-nodes-eq1.false c.link_and_count.new.heads c.link_and_count.ensures c.root_worth.ensures
