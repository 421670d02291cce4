use Rattle.writing.proofs.Laws.{wrote_then}
use Rattle.messages.specs.Texts.{twice}
use Rattle.messages.proofs.summary.write_twice.Goals as goal

pub returns : goal.returns
unfolding twice
returns c = wrote_then (wrote_then (wrote_then (wrote_then c.write-named.ensures c.write_natural-counted.ensures) c.write-begun.ensures) c.write_hexadecimal-repeated.ensures) c.put.ensures
