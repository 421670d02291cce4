-- What the code of cutting by a list asks and promises inside. No promise to a caller rests on this file.
use Rattle.std.specs.Prelude.{ℕ, ◌*◌, ◌≤◌, ◌<◌, ◌≡◌, List, ◌++◌, length, get_or, drop}
use Rattle.diagram.specs.Diagram.{size, vars, Accepted}
use Rattle.diagram.specs.Verdict.{most, room_of}
use Rattle.approximation.specs.Cut.{cut, listed}

-- An accepted diagram with a list whose pointers name nodes, in a room that is zero; and what is answered.
pub record Listing (w list : List ℕ) (t : ℕ) (r out : List ℕ) (n v : ℕ) : Type 0 where
  pub accepted : Accepted w
  pub is_size : n ≡ size w
  pub is_vars : v ≡ vars w
  pub terminal : t < 2
  pub inside : (j : ℕ) → j < length list → get_or list j 0 < size w
  pub long : room_of w ≤ length r
  pub zero : (j : ℕ) → j < room_of w → get_or r j 0 ≡ 0
  pub output : 3 * most w ≤ length out

pub record Listed (w list : List ℕ) (t : ℕ) (r after out out' : List ℕ) (k : ℕ) : Type 0 where
  pub count : k ≡ size (cut w (listed list) t)
  pub room : after ≡ r
  pub written : out' ≡ cut w (listed list) t ++ drop (length (cut w (listed list) t)) out
