-- The answer of a search in the working room, and how it is given. No promise to a caller rests on this file.
use Rattle.std.specs.Prelude.{ℕ, ◌*◌, ◌≤◌, ◌≡◌, cond, List, ◌++◌, length, take, drop, replicate, eqb}
use Rattle.diagram.specs.Limits.{max_nodes}
use Rattle.diagram.specs.Diagram.{size}
use Rattle.room_map.specs.Map.{answer_from, search_to}
use Rattle.cuts.specs.Marks.{constant_at}
use Rattle.negation.specs.Negation.{negated, over, Ready}

-- The words of an answer of k nodes.
abbrev pub answer_in : ℕ → List ℕ → ℕ → List ℕ
answer_in m r k = take (3 * k) (drop (answer_from m) r)

-- A constant is the answer.
pub record Constant (m t v : ℕ) (r after : List ℕ) (k made-trials : ℕ) : Type 0 where
  pub room : after ≡ constant_at r (answer_from m) t v
  pub count : k ≡ cond (eqb t 0) 1 2
  pub trials : made-trials ≡ 0

pub record Giving (r out : List ℕ) (m k : ℕ) : Type 0 where
  pub few : m ≤ max_nodes
  pub nodes : k ≤ m
  pub long : search_to m ≤ length r
  pub output : 3 * m ≤ length out

pub record Given (m k : ℕ) (r out r' out' : List ℕ) : Type 0 where
  pub room : r' ≡ replicate (search_to m) 0 ++ drop (search_to m) r
  pub written : out' ≡ answer_in m r k ++ drop (3 * k) out

pub record Returning (r out : List ℕ) (m k v : ℕ) : Type 0 where
  pub giving : Giving r out m k
  pub is_size : k ≡ size (answer_in m r k)
  pub ready : Ready (answer_in m r k) v
  pub fits : length (negated (answer_in m r k)) ≤ length out

pub record Returned (m k : ℕ) (r out r' out' : List ℕ) (made : ℕ) : Type 0 where
  pub room : r' ≡ replicate (search_to m) 0 ++ drop (search_to m) r
  pub count : made ≡ size (negated (answer_in m r k))
  pub written : out' ≡ over (negated (answer_in m r k)) out
