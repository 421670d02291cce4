-- Nodes that are made one after the other, and how a function is built from them (Bryant 1986). A pointer to a function is made
-- from pointers to its two halves, with no node where these are equal and no node twice. Nodes are numbered on the way back,
-- low half first.
use Rattle.std.specs.Prelude.{ℕ, zero, suc, Bool, true, false, cond, ◌&&◌, List, [], ◌∷◌, ◌++◌, length, eqb, ltb}

-- A node: variable, low link, high link.
pub record Node : Type 0 where
  pub var : ℕ
  pub low : ℕ
  pub high : ℕ

abbrev pub node : ℕ → ℕ → ℕ → Node
node v l h = record { var = v; low = l; high = h }

-- The nodes' words, three for a node.
unfoldable pub words : List Node → List ℕ
words [] = []
words (n ∷ o) = n.var ∷ n.low ∷ n.high ∷ words o

-- Two nodes are equal.
unfoldable pub same : Node → Node → Bool
same a b = eqb a.var b.var && (eqb a.low b.low && eqb a.high b.high)

-- The place of a node among the nodes made so far; where it isn't there, how many there are.
unfoldable pub find : Node → List Node → ℕ
find n [] = zero
find n (m ∷ o) = cond (same n m) zero (suc (find n o))

-- What building gives: the nodes made so far, the two terminals included, and a pointer to one of them.
pub record Built : Type 0 where
  pub store : List Node
  pub pointer : ℕ

abbrev pub built : List Node → ℕ → Built
built o p = record { store = o; pointer = p }

-- A pointer to variable i with children l and h: where l = h the child itself, where the node is there already its
-- place, else a new node at the end.
unfoldable pub join : ℕ → ℕ → ℕ → List Node → Built
join i l h o =
    let n = node i l h in
    let p = find n o in
    cond (eqb l h) (built o l) (cond (ltb p (length o)) (built o p) (built (o ++ (n ∷ [])) p))

-- The half of a function in which its first bit is b.
abbrev pub half : Bool → (List Bool → Bool) → List Bool → Bool
half b f bs = f (b ∷ bs)

-- A pointer to the function f of k bits, the first of which is variable i: the terminal that f says where no bit is
-- left; else the low half is built, then the high half, and then, on the way back, the node over them.
unfoldable pub canon : ℕ → ℕ → (List Bool → Bool) → List Node → Built
canon zero i f o = built o (cond (f []) 1 0)
canon (suc k) i f o =
    let low = canon k (suc i) (half false f) o in
    let high = canon k (suc i) (half true f) low.store in
    join i low.pointer high.pointer high.store

-- Node 0, the zero terminal, and node 1, the one terminal: what every store begins with.
abbrev pub terminals : ℕ → List Node
terminals v = node v 0 0 ∷ node v 1 1 ∷ []
