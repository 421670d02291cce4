-- Two nodes beside each other: what a pair is worth from the pairs that it goes to, for any way to take the two sides together.
use Prim.Native.Nat.{ℕ, zero, suc, ◌+◌, ◌-◌, ◌*◌, ◌^◌, ◌≤◌, ◌<◌}
use mathlib.Core.Path.{◌≡◌, refl, sym, ap, ◌∙◌}
use mathlib.Core.Bool.{Bool, true, false, cond, not, ◌&&◌, ◌||◌}
use mathlib.Core.List.{List, ◌∷◌}
use native.Mathlib.Omega.{arith}
use native.Mathlib.Nat.{pow-suc, mul-one, mul_assoc, sub-zero, le-mul_of_pos_right}
use lib.ListN.{length}
use lib.Pow.{pow_pos}
use lib.Dec.{ltb, eqb}
use borrow.Author.Tests.{lt-ltb}
use Rattle.diagram.specs.Diagram.{vars, holds}
use Rattle.diagram.specs.Reading.{pass}
use Rattle.diagram.specs.Valuations.{tally}
use Rattle.diagram.proofs.Reading.{pass_skips, eval_nil, eval_cons, holds_is_eval}
use Rattle.diagram.proofs.Tally.{tally_zero, tally_suc, tally_same, tally_most}
use Rattle.pairs.specs.Pairs.{Pair, pair, level_of, next, ended, roots}
use Rattle.pairs.specs.Table.{Alike}
use Rattle.pairs.proofs.Levels.{Inside, ended_told, roots_in, level_most, level_below, level_end, next_in_lem, next_above}
use Rattle.worths.specs.Worth.{unlike, beside, worth_from, worth, unlike_at}

-- where a pair stands behind a variable
abbrev pub passed : List ℕ → List ℕ → ℕ → Pair → Bool → Pair
passed a b i x bit = pair (pass a i x.first bit) (pass b i x.second bit)

-- ---- worths

module _ (op : Bool → Bool → Bool) {a b : List ℕ} (k : Alike a b) where
  abbrev seen : ℕ → Pair → ℕ
  seen i x = worth_from op a b i x

  pub beside_cons : (i : ℕ) (x : Pair) (bit : Bool) (bs : List Bool) → beside op a b i x (bit ∷ bs) ≡ beside op a b (suc i) (passed a b i x bit) bs
  beside_cons i x bit bs = rw (eval_cons a i x.first bit bs, eval_cons b i x.second bit bs) refl

  pub half : (i : ℕ) (x : Pair) (bit : Bool) → tally (vars a - suc i) (λ bs. beside op a b i x (bit ∷ bs)) ≡ seen (suc i) (passed a b i x bit)
  half i x bit = tally_same (vars a - suc i) (λ bs. beside op a b i x (bit ∷ bs)) (beside op a b (suc i) (passed a b i x bit)) (λ bs l. beside_cons i x bit bs)

  pub worth_step : (i : ℕ) (x : Pair) → i < vars a → seen i x ≡ seen (suc i) (passed a b i x false) + seen (suc i) (passed a b i x true)
  worth_step i x h =
      let e : vars a - i ≡ suc (vars a - suc i) = omega arith in
      ap (λ (n : ℕ). tally n (beside op a b i x)) e
      ∙ tally_suc (vars a - suc i) (beside op a b i x)
      ∙ ap (λ (n : ℕ). n + tally (vars a - suc i) (λ bs. beside op a b i x (true ∷ bs))) (half i x false)
      ∙ ap (λ (n : ℕ). seen (suc i) (passed a b i x false) + n) (half i x true)

  -- a variable that neither side tests
  pub passed_skips : (i : ℕ) (x : Pair) (bit : Bool) → i < level_of a b x → passed a b i x bit ≡ x
  passed_skips i x bit h = rw (pass_skips a i x.first bit (omega arith), pass_skips b i x.second bit (omega arith)) refl

  pub worth_twice : (i : ℕ) (x : Pair) → Inside a b x → i < level_of a b x → seen i x ≡ 2 * seen (suc i) x
  worth_twice i x h less =
      let most = level_most a b k x h in
      worth_step i x (omega arith) ∙ rw (passed_skips i x false less, passed_skips i x true less) (omega arith)

  pub worth_skip : (d i : ℕ) (x : Pair) → i + d ≡ level_of a b x → Inside a b x → seen i x ≡ worth op a b x * 2 ^ d
  worth_skip zero i x e h =
      let same : i ≡ level_of a b x = omega arith in
      rw same (omega (arith, mul-one (worth op a b x)))
  worth_skip (suc d) i x e h =
      let rest = worth_skip d (suc i) x (omega arith) h in
      worth_twice i x h (omega arith)
      ∙ omega (arith, ap (λ (n : ℕ). worth op a b x * n) (pow-suc 2 d), mul_assoc (worth op a b x) (2 ^ d) 2)

  -- what a pair that it goes to counts for
  abbrev pub part : Pair → Bool → ℕ
  part x bit = worth op a b (next a b x bit) * 2 ^ (level_of a b (next a b x bit) - level_of a b x - 1)

  pub part_is : (x : Pair) (bit : Bool) → Inside a b x → ended x ≡ false → seen (suc (level_of a b x)) (next a b x bit) ≡ part x bit
  part_is x bit h e =
      let up = next_above a b k x h e bit in
      worth_skip (level_of a b (next a b x bit) - level_of a b x - 1) (suc (level_of a b x)) (next a b x bit) (omega arith) (next_in_lem a b k x h bit)

  pub worth_node : (x : Pair) → Inside a b x → ended x ≡ false → worth op a b x ≡ part x false + part x true
  worth_node x h e =
      worth_step (level_of a b x) x (level_below a b k x h e)
      ∙ rw (part_is x false h e, part_is x true h e) refl

  pub worth_end : (x : Pair) → Inside a b x → ended x ≡ true → worth op a b x ≡ cond (op (eqb x.first 1) (eqb x.second 1)) 1 0
  worth_end x h e =
      let none : vars a - level_of a b x ≡ zero = omega (arith, level_end a b k x h e) in
      ap (λ (n : ℕ). tally n (beside op a b (level_of a b x) x)) none
      ∙ tally_zero (beside op a b (level_of a b x) x)
      ∙ rw (eval_nil a (level_of a b x) x.first, eval_nil b (level_of a b x) x.second) refl

  pub worth_most : (x : Pair) → worth op a b x ≤ 2 ^ (vars a - level_of a b x)
  worth_most x = tally_most (vars a - level_of a b x) (beside op a b (level_of a b x) x)

  -- all of it, by the two roots
  pub beside_roots : (bs : List Bool) → length bs ≡ vars a → op (holds a bs) (holds b bs) ≡ beside op a b 0 (roots a b) bs
  beside_roots bs l = rw (holds_is_eval a k.first bs l, holds_is_eval b k.second bs (l ∙ k.variables)) refl

  pub worth_all : (test : List Bool → Bool) → ((bs : List Bool) → test bs ≡ op (holds a bs) (holds b bs))
      → tally (vars a) test ≡ worth_from op a b 0 (roots a b)
  worth_all test h =
      tally_same (vars a) test (beside op a b 0 (roots a b))
      (λ bs l. h bs ∙ beside_roots bs l)
      ∙ ap (λ (n : ℕ). tally n (beside op a b 0 (roots a b))) (sym (sub-zero (vars a)))

  pub worth_roots : (test : List Bool → Bool) → ((bs : List Bool) → test bs ≡ op (holds a bs) (holds b bs))
      → tally (vars a) test ≡ worth op a b (roots a b) * 2 ^ level_of a b (roots a b)
  worth_roots test h = worth_all test h ∙ worth_skip (level_of a b (roots a b)) 0 (roots a b) (omega arith) (roots_in a b k)

-- ---- the two that are used

-- a number that is doubled is some where it was
scaled_some : (x d : ℕ) → 0 < x → 0 < x * 2 ^ d
scaled_some x d h = let less = le-mul_of_pos_right x (pow_pos d) in omega arith

pub scaled_sign : (x d : ℕ) → ltb 0 (x * 2 ^ d) ≡ ltb 0 x
scaled_sign zero d = rw (zero_times (2 ^ d)) refl
  where
    zero_times : (n : ℕ) → zero * n ≡ zero
    zero_times n = omega arith
scaled_sign (suc x) d = rw (lt-ltb 0 (suc x * 2 ^ d) (scaled_some (suc x) d (omega arith)), lt-ltb 0 (suc x) (omega arith)) refl

pub sum_sign : (x y : ℕ) → ltb 0 (x + y) ≡ (ltb 0 x || ltb 0 y)
sum_sign zero y = let e : zero + y ≡ y = omega arith in ap (ltb 0) e
sum_sign (suc x) y = rw (lt-ltb 0 (suc x + y) (omega arith), lt-ltb 0 (suc x) (omega arith)) refl

pub unlike_is : (x y : Bool) → ((x && not y) || (y && not x)) ≡ unlike x y
unfolding unlike
unlike_is true true = refl
unlike_is true false = refl
unlike_is false true = refl
unlike_is false false = refl

-- terminals
pub unlike_end : (p q : ℕ) → p < 2 → q < 2 → ltb 0 (cond (unlike (eqb p 1) (eqb q 1)) 1 0) ≡ not (eqb p q)
unfolding unlike
unlike_end zero zero t u = refl
unlike_end zero (suc zero) t u = refl
unlike_end zero (suc (suc q)) t u = absurd (omega arith)
unlike_end (suc zero) zero t u = refl
unlike_end (suc zero) (suc zero) t u = refl
unlike_end (suc zero) (suc (suc q)) t u = absurd (omega arith)
unlike_end (suc (suc p)) q t u = absurd (omega arith)

module _ {a b : List ℕ} (k : Alike a b) where
  pub unlike_ended : (x : Pair) → Inside a b x → ended x ≡ true → unlike_at a b x ≡ not (eqb x.first x.second)
  unlike_ended x h e = ap (ltb 0) (worth_end unlike k x h e) ∙ unlike_end x.first x.second (ended_told x e).0 (ended_told x e).1

  pub unlike_node : (x : Pair) → Inside a b x → ended x ≡ false → unlike_at a b x ≡ (unlike_at a b (next a b x false) || unlike_at a b (next a b x true))
  unlike_node x h e =
      ap (ltb 0) (worth_node unlike k x h e)
      ∙ sum_sign (part unlike k x false) (part unlike k x true)
      ∙ rw (
        scaled_sign (worth unlike a b (next a b x false)) (level_of a b (next a b x false) - level_of a b x - 1),
        scaled_sign (worth unlike a b (next a b x true)) (level_of a b (next a b x true) - level_of a b x - 1),
      ) refl
