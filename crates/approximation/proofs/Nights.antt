-- The examples, by computation.
use mathlib.Core.Path.{refl}
use Rattle.approximation.specs.Nights.{Nights}
use Rattle.diagram.specs.Diagram.{step, walk, holds}
use Rattle.diagram.specs.Verdict.{row, short, lengths_of, is_terminal, terminals_of, first, ranges_from, ranges_of, any, is_child, reached_in, reaches, is_above, is_broken, graph_of, contents_of, verdict_of}
use Rattle.diagram.specs.Valuations.{tally, meets}
use Rattle.counts.specs.Paths.{paths}
use Rattle.store.specs.Store.{words, same, find, join, canon}
use Rattle.reduction.specs.Reduce.{reduced, reduce}
use Rattle.approximation.specs.Links.{table}
use Rattle.negation.specs.Negation.{exchanged, exchanged_links, negated}
use Rattle.approximation.specs.Cut.{cut_holds, cut, listed, list_of, between, under_count_of, over_count_of}
use Rattle.approximation.specs.Search.{goes_first, insert, sort, order, cut_first, size_search, under_to_size, back, over_to_size, covering, count_search, under_to_count, over_to_count}
use Rattle.approximation.specs.Met.{met, under_size_answer, over_size_answer, under_count_answer, over_count_answer}

pub nights : Nights
unfolding row short lengths_of is_terminal terminals_of first ranges_from ranges_of any is_child reached_in reaches is_above is_broken graph_of contents_of verdict_of paths step walk holds tally meets words same find join canon reduced reduce exchanged exchanged_links negated table cut_holds cut listed list_of between under_count_of over_count_of goes_first insert sort order cut_first size_search under_to_size back over_to_size covering count_search under_to_count over_to_count met under_size_answer over_size_answer under_count_answer over_count_answer
nights = refl
