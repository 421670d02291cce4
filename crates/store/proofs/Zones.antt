-- A store in the working room: keys are in range, and what the terminals' words and a new node write and leave.
use Prim.Native.Nat.{ℕ, ◌+◌, ◌-◌, ◌*◌, ◌/◌, ◌%◌, ◌^◌, ◌≤◌, ◌<◌, min}
use mathlib.Core.Path.{◌≡◌, sym, ap, ◌∙◌}
use mathlib.Core.Logic.{◌≢◌}
use mathlib.Core.List.{List, ◌++◌}
use native.Mathlib.Omega.{arith}
use native.Mathlib.Nat.{mul-lt-mul_of_pos_right, mul-le-mul_left}
use native.Mathlib.Decide.{dec_lt}
use lib.ListN.{length, get_or, set, take, drop, replicate, length-set, length-append, length-drop, length-replicate, get_or-replicate, get_or-append}
use lib.Seq.{get_or-set_same, get_or-set_other, get_or-take, get_or-drop, get_or-append-add, length-take-le}
use borrow.Rule.Slice.PartMut.{put_mid, mid_of, post_of, take_put, drop_put, mid_len}
use Rattle.diagram.specs.Limits.{max_nodes}
use Rattle.store.specs.Store.{Node}
use Rattle.store.specs.Room.{next_from, heads_from, store_to, key_of, Outside, started, written, chained, entered}

-- ---- keys

scaled : (x m : ℕ) → x < 4294967296 → 0 < m → x * m / 4294967296 < m
scaled x m h some = let p = mul-lt-mul_of_pos_right h some in omega arith

pub key_below : (m : ℕ) (n : Node) → 0 < m → key_of m n < m
unfolding key_of
key_below m n some = scaled ((n.var * 608135817 + n.low * 1013904223 + n.high * 736899889) % 4294967296) m (omega arith) some

-- the product fits 64 bits
pub key_fits : (x m : ℕ) → m ≤ max_nodes → x % 4294967296 * m < 2 ^ 64
key_fits x m h = let p = mul-le-mul_left (x % 4294967296) h in omega arith

-- ---- one node more

-- the room after each store
abbrev one : ℕ → List ℕ → ℕ → Node → List ℕ
one b r k n = set r (b + 3 * k) n.var

abbrev two : ℕ → List ℕ → ℕ → Node → List ℕ
two b r k n = set (one b r k n) (b + 3 * k + 1) n.low

module _ (b : ℕ) (r : List ℕ) (k : ℕ) (n : Node) where
  written_other : (j : ℕ) → j ≢ b + 3 * k → j ≢ b + 3 * k + 1 → j ≢ b + 3 * k + 2 → get_or (written b r k n) j 0 ≡ get_or r j 0
  unfolding written
  written_other j x y z =
      get_or-set_other (two b r k n) (b + 3 * k + 2) j n.high 0 z
      ∙ get_or-set_other (one b r k n) (b + 3 * k + 1) j n.low 0 y
      ∙ get_or-set_other r (b + 3 * k) j n.var 0 x

  written_length : length (written b r k n) ≡ length r
  unfolding written
  written_length = simp length-set

  module _ (fits : b + 3 * k + 2 < length r) where
    written_var : get_or (written b r k n) (b + 3 * k) 0 ≡ n.var
    unfolding written
    written_var =
        get_or-set_other (two b r k n) (b + 3 * k + 2) (b + 3 * k) n.high 0 (λ e. omega arith)
        ∙ get_or-set_other (one b r k n) (b + 3 * k + 1) (b + 3 * k) n.low 0 (λ e. omega arith)
        ∙ get_or-set_same r (b + 3 * k) n.var 0 (omega arith)

    written_low : get_or (written b r k n) (b + 3 * k + 1) 0 ≡ n.low
    unfolding written
    written_low =
        get_or-set_other (two b r k n) (b + 3 * k + 2) (b + 3 * k + 1) n.high 0 (λ e. omega arith)
        ∙ get_or-set_same (one b r k n) (b + 3 * k + 1) n.low 0 (simp length-set (omega arith))

    written_high : get_or (written b r k n) (b + 3 * k + 2) 0 ≡ n.high
    unfolding written
    written_high = get_or-set_same (two b r k n) (b + 3 * k + 2) n.high 0 (simp length-set (omega arith))

module _ (b c : ℕ) (r : List ℕ) (k h : ℕ) where
  chained_other : (j : ℕ) → j ≢ next_from b c + k → j ≢ heads_from b c + h → get_or (chained b c r k h) j 0 ≡ get_or r j 0
  unfolding chained
  chained_other j x y =
      get_or-set_other (set r (next_from b c + k) (get_or r (heads_from b c + h) 0)) (heads_from b c + h) j k 0 y
      ∙ get_or-set_other r (next_from b c + k) j (get_or r (heads_from b c + h) 0) 0 x

  chained_length : length (chained b c r k h) ≡ length r
  unfolding chained
  chained_length = simp length-set

  module _ (long : store_to b c ≤ length r) (in-k : k < c) (in-h : h < c) where
    chained_head : get_or (chained b c r k h) (heads_from b c + h) 0 ≡ k
    unfolding chained
    chained_head = get_or-set_same (set r (next_from b c + k) (get_or r (heads_from b c + h) 0)) (heads_from b c + h) k 0 (simp length-set (omega arith))

    chained_next : get_or (chained b c r k h) (next_from b c + k) 0 ≡ get_or r (heads_from b c + h) 0
    unfolding chained
    chained_next =
        get_or-set_other (set r (next_from b c + k) (get_or r (heads_from b c + h) 0)) (heads_from b c + h) (next_from b c + k) k 0 (λ e. omega arith)
        ∙ get_or-set_same r (next_from b c + k) (get_or r (heads_from b c + h) 0) 0 (omega arith)

-- All of it.
module _ (b c : ℕ) (r : List ℕ) (k h : ℕ) (n : Node) where
  pub entered_other : (j : ℕ) → j ≢ b + 3 * k → j ≢ b + 3 * k + 1 → j ≢ b + 3 * k + 2 → j ≢ next_from b c + k → j ≢ heads_from b c + h
      → get_or (entered b c r k h n) j 0 ≡ get_or r j 0
  entered_other j x y z d e = chained_other b c (written b r k n) k h j d e ∙ written_other b r k n j x y z

  pub entered_length : length (entered b c r k h n) ≡ length r
  entered_length = chained_length b c (written b r k n) k h ∙ written_length b r k n

  module _ (long : store_to b c ≤ length r) (in-k : k < c) (in-h : h < c) where
    pub entered_var : get_or (entered b c r k h n) (b + 3 * k) 0 ≡ n.var
    entered_var = chained_other b c (written b r k n) k h (b + 3 * k) (λ e. omega arith) (λ e. omega arith) ∙ written_var b r k n (omega arith)

    pub entered_low : get_or (entered b c r k h n) (b + (3 * k + 1)) 0 ≡ n.low
    entered_low =
        let e : b + (3 * k + 1) ≡ b + 3 * k + 1 = omega arith in
        ap (λ (j : ℕ). get_or (entered b c r k h n) j 0) e
        ∙ chained_other b c (written b r k n) k h (b + 3 * k + 1) (λ e. omega arith) (λ e. omega arith)
        ∙ written_low b r k n (omega arith)

    pub entered_high : get_or (entered b c r k h n) (b + (3 * k + 2)) 0 ≡ n.high
    entered_high =
        let e : b + (3 * k + 2) ≡ b + 3 * k + 2 = omega arith in
        ap (λ (j : ℕ). get_or (entered b c r k h n) j 0) e
        ∙ chained_other b c (written b r k n) k h (b + 3 * k + 2) (λ e. omega arith) (λ e. omega arith)
        ∙ written_high b r k n (omega arith)

    pub entered_head : get_or (entered b c r k h n) (heads_from b c + h) 0 ≡ k
    entered_head = let l = written_length b r k n in chained_head b c (written b r k n) k h (omega arith) in-k in-h

    pub entered_next : get_or (entered b c r k h n) (next_from b c + k) 0 ≡ get_or r (heads_from b c + h) 0
    entered_next =
        let l = written_length b r k n in
        chained_next b c (written b r k n) k h (omega arith) in-k in-h
        ∙ written_other b r k n (heads_from b c + h) (λ e. omega arith) (λ e. omega arith) (λ e. omega arith)

-- The stores of the code, one after the other.
pub entered_is : (b c : ℕ) (r : List ℕ) (k h : ℕ) (n : Node) {r₁ r₂ r₃ r₄ r₅ : List ℕ} {x : ℕ} → r₁ ≡ set r (b + 3 * k) n.var → r₂ ≡ set r₁ (b + 3 * k + 1) n.low
    → r₃ ≡ set r₂ (b + 3 * k + 2) n.high → x ≡ get_or r₃ (heads_from b c + h) 0 → r₄ ≡ set r₃ (next_from b c + k) x → r₅ ≡ set r₄ (heads_from b c + h) k
    → r₅ ≡ entered b c r k h n
unfolding written chained
entered_is b c r k h n p q s t u v = cc

-- ---- the terminals' words

module _ (b : ℕ) (r : List ℕ) (v : ℕ) where
  abbrev s₁ : List ℕ
  s₁ = set r b v

  abbrev s₂ : List ℕ
  s₂ = set s₁ (b + 1) 0

  abbrev s₃ : List ℕ
  s₃ = set s₂ (b + 2) 0

  abbrev s₄ : List ℕ
  s₄ = set s₃ (b + 3) v

  abbrev s₅ : List ℕ
  s₅ = set s₄ (b + 4) 1

  pub started_other : (j : ℕ) → j ≢ b → j ≢ b + 1 → j ≢ b + 2 → j ≢ b + 3 → j ≢ b + 4 → j ≢ b + 5 → get_or (started b r v) j 0 ≡ get_or r j 0
  unfolding started
  started_other j e₀ e₁ e₂ e₃ e₄ e₅ =
      get_or-set_other s₅ (b + 5) j 1 0 e₅ ∙ get_or-set_other s₄ (b + 4) j 1 0 e₄ ∙ get_or-set_other s₃ (b + 3) j v 0 e₃
      ∙ get_or-set_other s₂ (b + 2) j 0 0 e₂ ∙ get_or-set_other s₁ (b + 1) j 0 0 e₁ ∙ get_or-set_other r b j v 0 e₀

  pub started_length : length (started b r v) ≡ length r
  unfolding started
  started_length = simp length-set

  module _ (long : b + 5 < length r) where
    pub started_0 : get_or (started b r v) b 0 ≡ v
    unfolding started
    started_0 =
        get_or-set_other s₅ (b + 5) b 1 0 (λ e. omega arith) ∙ get_or-set_other s₄ (b + 4) b 1 0 (λ e. omega arith)
        ∙ get_or-set_other s₃ (b + 3) b v 0 (λ e. omega arith) ∙ get_or-set_other s₂ (b + 2) b 0 0 (λ e. omega arith)
        ∙ get_or-set_other s₁ (b + 1) b 0 0 (λ e. omega arith) ∙ get_or-set_same r b v 0 (omega arith)

    pub started_1 : get_or (started b r v) (b + 1) 0 ≡ 0
    unfolding started
    started_1 =
        get_or-set_other s₅ (b + 5) (b + 1) 1 0 (λ e. omega arith) ∙ get_or-set_other s₄ (b + 4) (b + 1) 1 0 (λ e. omega arith)
        ∙ get_or-set_other s₃ (b + 3) (b + 1) v 0 (λ e. omega arith) ∙ get_or-set_other s₂ (b + 2) (b + 1) 0 0 (λ e. omega arith)
        ∙ get_or-set_same s₁ (b + 1) 0 0 (simp length-set (omega arith))

    pub started_2 : get_or (started b r v) (b + 2) 0 ≡ 0
    unfolding started
    started_2 =
        get_or-set_other s₅ (b + 5) (b + 2) 1 0 (λ e. omega arith) ∙ get_or-set_other s₄ (b + 4) (b + 2) 1 0 (λ e. omega arith)
        ∙ get_or-set_other s₃ (b + 3) (b + 2) v 0 (λ e. omega arith) ∙ get_or-set_same s₂ (b + 2) 0 0 (simp length-set (omega arith))

    pub started_3 : get_or (started b r v) (b + 3) 0 ≡ v
    unfolding started
    started_3 =
        get_or-set_other s₅ (b + 5) (b + 3) 1 0 (λ e. omega arith) ∙ get_or-set_other s₄ (b + 4) (b + 3) 1 0 (λ e. omega arith)
        ∙ get_or-set_same s₃ (b + 3) v 0 (simp length-set (omega arith))

    pub started_4 : get_or (started b r v) (b + 4) 0 ≡ 1
    unfolding started
    started_4 = get_or-set_other s₅ (b + 5) (b + 4) 1 0 (λ e. omega arith) ∙ get_or-set_same s₄ (b + 4) 1 0 (simp length-set (omega arith))

    pub started_5 : get_or (started b r v) (b + 5) 0 ≡ 1
    unfolding started
    started_5 = get_or-set_same s₅ (b + 5) 1 0 (simp length-set (omega arith))

pub started_is : (b : ℕ) (r : List ℕ) (v : ℕ) {r₁ r₂ r₃ r₄ r₅ r₆ : List ℕ} → r₁ ≡ set r b v → r₂ ≡ set r₁ (b + 1) 0 → r₃ ≡ set r₂ (b + 2) 0
    → r₄ ≡ set r₃ (b + 3) v → r₅ ≡ set r₄ (b + 4) 1 → r₆ ≡ set r₅ (b + 5) 1 → r₆ ≡ started b r v
unfolding started
started_is b r v e₁ e₂ e₃ e₄ e₅ e₆ = cc

-- ---- a stretch that is cleared

-- The words from a on and before e are zero, the others as they were.
module _ (a e : ℕ) (r : List ℕ) (up : a ≤ e) (long : e ≤ length r) {n : ℕ} (is-n : n ≡ e - a) {part : List ℕ}
    (cleared : part ≡ replicate (min n (length (mid_of a (e - a) r))) 0 ++ drop n (mid_of a (e - a) r)) where
  abbrev wiped : List ℕ
  wiped = put_mid a (e - a) r part

  part_is : part ≡ replicate n 0 ++ drop n (mid_of a (e - a) r)
  part_is =
      let mid = mid_len a e r long in
      let all : min n (length (mid_of a (e - a) r)) ≡ n = omega arith in
      cleared ∙ ap (λ (k : ℕ). replicate k 0 ++ drop n (mid_of a (e - a) r)) all

  part_length : length part ≡ e - a
  part_length =
      let mid = mid_len a e r long in
      let rest = length-drop n (mid_of a (e - a) r) in
      let zeros = length-replicate {A = ℕ} n 0 in
      ap (λ (l : List ℕ). length l) part_is ∙ length-append (replicate n 0) (drop n (mid_of a (e - a) r)) ∙ omega arith

  pub wiped_zero : (h : ℕ) → h < n → get_or wiped (a + h) 0 ≡ 0
  wiped_zero h in-n =
      let front : length (take a r) ≡ a = length-take-le a r (omega arith) in
      let zeros = length-replicate {A = ℕ} n 0 in
      let size = part_length in
      let place : a + h ≡ length (take a r) + h = omega arith in
      ap (λ (i : ℕ). get_or wiped i 0) place
      ∙ get_or-append-add (take a r) (part ++ post_of a (e - a) r) h 0
      ∙ get_or-append part (post_of a (e - a) r) 0 h (omega arith)
      ∙ ap (λ (l : List ℕ). get_or l h 0) part_is
      ∙ get_or-append (replicate n 0) (drop n (mid_of a (e - a) r)) 0 h (omega arith)
      ∙ get_or-replicate n h 0 0 in-n

  wiped_before : (j : ℕ) → j < a → get_or wiped j 0 ≡ get_or r j 0
  wiped_before j h =
      sym (get_or-take a wiped j 0 h) ∙ ap (λ (l : List ℕ). get_or l j 0) (take_put a (e - a) r part (omega arith)) ∙ get_or-take a r j 0 h

  wiped_after : (j : ℕ) → e ≤ j → get_or wiped j 0 ≡ get_or r j 0
  wiped_after j h =
      let place : e + (j - e) ≡ j = omega arith in
      ap (λ (i : ℕ). get_or wiped i 0) (sym place) ∙ sym (get_or-drop e wiped (j - e) 0)
      ∙ ap (λ (l : List ℕ). get_or l (j - e) 0) (drop_put a e r part up long part_length)
      ∙ get_or-drop e r (j - e) 0 ∙ ap (λ (i : ℕ). get_or r i 0) place

  pub wiped_other : (j : ℕ) → Outside a n j → get_or wiped j 0 ≡ get_or r j 0
  wiped_other j out = elim (dec_lt j a) [
    | yes before ↦ wiped_before j before
    | no from ↦ elim (dec_lt j e) [
      | yes inside ↦ absurd (out (j - a) (omega arith) (omega arith))
      | no after ↦ wiped_after j (omega arith)
    ]
  ]
