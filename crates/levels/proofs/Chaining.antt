-- The chains of each variable's nodes: how they are made, and how the two passes go along them.
use Prim.Native.Nat.{ℕ, suc, ◌+◌, ◌≤◌, ◌<◌}
use mathlib.Core.Path.{◌≡◌, refl, sym, ap, ◌∙◌}
use mathlib.Core.Logic.{◌≢◌}
use mathlib.Core.List.{List}
use native.Mathlib.Numerals.{add-one}
use native.Mathlib.Omega.{arith}
use native.Mathlib.Decide.{dec_le, dec_lt}
use lib.ListN.{length, get_or, set, replicate, get_or-replicate}
use lib.Seq.{get_or-set_same, get_or-set_other}
use Rattle.diagram.specs.Diagram.{var_of, size, vars, Ordered}
use Rattle.diagram.proofs.Tests.{by-eq}
use Rattle.diagram.proofs.Reading.{layered, by_two}
use Rattle.levels.specs.Chains.{chain_count, Last, Heads, Linked, Given, Node, Known, Todo}

-- ---- how they are made

-- no node but the terminals: every chain is empty
pub linked_start : (w heads nexts : List ℕ) → ((c : ℕ) → c < vars w → get_or heads c 0 ≡ 0) → Linked w heads nexts 2
linked_start w heads nexts z = record {
  head = λ c h. record {
    node = λ ne. absurd (ne (z c h));
    last = λ r two b e. absurd (omega arith);
  };
  next = λ p two b. absurd (omega arith);
}

-- a new node becomes its variable's last, and what was the last comes after it
pub linked_on : (w heads nexts : List ℕ) (p : ℕ) → 2 ≤ p → var_of w p < vars w → vars w ≤ length heads → p < length nexts → Linked w heads nexts p
    → Linked w (set heads (var_of w p) p) (set nexts p (get_or heads (var_of w p) 0)) (suc p)
linked_on w heads nexts p two v long room l = record {
  head = λ c h. by-eq c (var_of w p)
      (λ e. rw (e, get_or-set_same heads (var_of w p) p 0 (omega arith)) (record {
        node = λ ne. (two, omega arith, refl);
        last = λ r t b x. omega arith;
      }))
      (λ ne. rw (get_or-set_other heads (var_of w p) c p 0 ne) (record {
        node = λ z. let k = (l.head c h).node z in (k.0, omega (arith, k.1), k.2);
        last = λ r t b x. (l.head c h).last r t (below r c b x ne) x;
      }));
  next = λ q t b. by-eq q p
      (λ e. rw (e, get_or-set_same nexts p (get_or heads (var_of w p) 0) 0 room) (l.head (var_of w p) v))
      (λ ne. rw (get_or-set_other nexts p q (get_or heads (var_of w p) 0) 0 ne) (l.next q t (omega arith)));
}
  where
    below : (r c : ℕ) → r < suc p → var_of w r ≡ c → c ≢ var_of w p → r < p
    below r c b x ne = by-eq r p (λ e. absurd (ne (sym x ∙ ap (λ (y : ℕ). var_of w y) e))) (λ d. omega arith)

-- ---- how the passes go along them

module _ (w : List ℕ) (o : Ordered w) (c : ℕ) (level : c < vars w) where
  -- only a non-terminal tests c
  node_of : (q : ℕ) → q < size w → var_of w q ≡ c → 2 ≤ q
  node_of q h e = by_two q (λ t. let x = (layered w o).terminal q t h in absurd (omega arith)) (λ two. two)

  module _ {b p : ℕ} (l : Last w c b p) where
    -- the first pass: at the last node all below it are still to do, and all else of c is known
    pub known_from : (q : ℕ) → q < size w → Known w c (suc p) q → Known w c b q
    known_from q h k = record {
      level = k.level;
      turn = λ e. elim (dec_lt q b) [
        | yes s ↦ let m = l.last q (node_of q h e) s e in let t = k.turn e in absurd (omega arith)
        | no s ↦ omega arith
      ];
    }

    -- the second pass, both ways
    pub todo_from : (q : ℕ) → q < size w → Todo w c b q → Todo w c (suc p) q
    todo_from q h k = record { level = k.level; turn = λ e. let m = l.last q (node_of q h e) (k.turn e) e in omega arith }

    pub todo_back : (q : ℕ) → q < size w → Todo w c (suc p) q → Todo w c b q
    todo_back q h k = record {
      level = k.level;
      turn = λ e.
          let two = node_of q h e in
          let t = k.turn e in
          let below = (l.node (λ z. omega arith)).1 in
          omega arith;
    }

  -- where the chain begins
  pub known_begins : (q : ℕ) → q < size w → Known w c (size w) q → Known w (suc c) 0 q
  known_begins q h k =
      by-eq (var_of w q) c
      (λ e. let t = k.turn e in absurd (omega arith))
      (λ ne. record { level = omega (arith, k.level); turn = λ e. omega arith })

  -- and where it ends
  pub known_ends : (q : ℕ) → q < size w → Known w c 0 q → Known w c 1 q
  known_ends q h k = record { level = k.level; turn = λ e. let two = node_of q h e in omega arith }

  pub todo_ends : (q : ℕ) → q < size w → Todo w c 1 q → Todo w (suc c) (size w) q
  todo_ends q h k =
      by-eq (var_of w q) c
      (λ e. let t = k.turn e in let two = node_of q h e in absurd (omega arith))
      (λ ne. record { level = omega (arith, k.level); turn = λ e. h })

  pub todo_begins : (q : ℕ) → q < size w → Todo w (suc c) (size w) q → Todo w c 1 q
  todo_begins q h k = record { level = omega (arith, k.level); turn = λ e. let l = k.level in absurd (omega arith) }

-- still to do, or not
pub by_todo : {P : Type 0} (w : List ℕ) (c b q : ℕ) → (Todo w c b q → P) → ((Todo w c b q → ⊥) → P) → P
by_todo w c b q f g = elim (dec_le c (var_of w q)) [
  | yes l ↦ by-eq (var_of w q) c
      (λ e. elim (dec_lt q b) [
        | yes s ↦ f (record { level = l; turn = λ x. s })
        | no s ↦ g (λ t. s (t.turn e))
      ])
      (λ ne. f (record { level = l; turn = λ e. absurd (ne e) }))
  | no l ↦ g (λ t. l t.level)
]

-- ---- in a chain

pub at_chain : {w : List ℕ} {c b p : ℕ} → b ≤ size w → Last w c b p → p ≢ 0 → Node w p × (var_of w p ≡ c)
at_chain l h ne = let k = h.node ne in (record { two = k.0; inside = omega (arith, k.1) }, k.2)

-- the next in a chain stands before
pub chain_falls : {w : List ℕ} {c p q : ℕ} → 2 ≤ p → Last w c p q → q < p
chain_falls {p = p} {q = q} two l = by-eq q 0 (λ e. omega arith) (λ ne. (l.node ne).1)

pub heads_all : {w heads nexts : List ℕ} {n : ℕ} → Given w n → Linked w heads nexts n → Heads w heads
heads_all given l c h = rw given.nodes at (l.head c h)

-- ---- the loop that makes them

pub link_begins : (w heads nexts : List ℕ) (n : ℕ) → Given w n → heads ≡ replicate chain_count 0 → Linked w heads nexts 2
link_begins w heads nexts n given z =
    linked_start w heads nexts
    (λ c h.
    let few = given.ordered.formed.variables in
    ap (λ (s : List ℕ). get_or s c 0) z ∙ get_or-replicate {A = ℕ} chain_count c 0 0 (omega arith))

pub link_on : {w heads nexts : List ℕ} {n p : ℕ} → Given w n → 2 ≤ p → p < n → length heads ≡ chain_count → n ≤ length nexts → Linked w heads nexts p
    → (v h : ℕ) → v ≡ var_of w p → h ≡ get_or heads v 0 → {heads' nexts' : List ℕ} → nexts' ≡ set nexts p h → heads' ≡ set heads v p
    → Linked w heads' nexts' (p + 1)
link_on {w} {heads} {nexts} {n} {p} given two below long room l v h ev eh {heads'} {nexts'} en eheads =
    let few = given.ordered.formed.variables in
    let r = given.ordered.formed.ranges p two (omega (arith, given.nodes)) in
    let h-is : h ≡ get_or heads (var_of w p) 0 = eh ∙ ap (λ (x : ℕ). get_or heads x 0) ev in
    let nexts-is : nexts' ≡ set nexts p (get_or heads (var_of w p) 0) = en ∙ ap (λ (x : ℕ). set nexts p x) h-is in
    let heads-is : heads' ≡ set heads (var_of w p) p = eheads ∙ ap (λ (x : ℕ). set heads x p) ev in
    rw (add-one, heads-is, nexts-is) (linked_on w heads nexts p two r.var (omega arith) (omega arith) l)
