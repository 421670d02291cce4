-- The words of the room of a case: two numbers, a place for their sum, and as many words behind it.
use Rattle.std.specs.Prelude.{ℕ, ◌*◌}
use Rattle.naturals.specs.Natural.{word_count}

abbrev pub room_length : ℕ
room_length = 4 * word_count
