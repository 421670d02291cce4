-- The two sums, as a loop over the bytes makes them.
use Prim.Native.Nat.{ℕ, ◌+◌, ◌*◌, ◌≤◌, ◌<◌}
use mathlib.Core.Path.{◌≡◌}
use mathlib.Core.List.{List}
use native.Mathlib.Omega.{arith}
use native.Mathlib.Numerals.{add-one}
use native.Mathlib.Nat.{mul-le-mul}
use lib.ListN.{length, drop, get_or}
use Rattle.writing.proofs.Laws.{drop_next, drop_none}
use Rattle.blocks.specs.Block.{total, weighted, block_bytes, byte_span}

-- The bytes before i are in the sum.
pub record Summed (s : List ℕ) (i sum : ℕ) : Type 0 where
  pub within : i ≤ length s
  pub small : sum ≤ byte_span * i
  pub rest : sum + total (drop i s) ≡ total s

pub summed_begins : (s : List ℕ) → Summed s 0 0
summed_begins s = record { within = omega arith; small = omega arith; rest = omega arith }

total_next : (s : List ℕ) (i : ℕ) → i < length s → total (drop i s) ≡ get_or s i 0 + total (drop (i + 1) s)
unfolding total
total_next s i h = rw (drop_next s i h)

total_none : (s : List ℕ) (i : ℕ) → length s ≤ i → total (drop i s) ≡ 0
unfolding total
total_none s i h = rw (drop_none s i h)

pub summed_goes_on : {s : List ℕ} {i sum : ℕ} → Summed s i sum → i < length s → get_or s i 0 < byte_span → Summed s (i + 1) (sum + get_or s i 0)
summed_goes_on {s} {i} {sum} a h b = record { within = omega arith; small = omega arith; rest = omega (arith, total_next s i h) }

pub summed_ends : {s : List ℕ} {i sum : ℕ} → Summed s i sum → length s ≤ i → sum ≡ total s
summed_ends {s} {i} {sum} a h = omega (arith, total_none s i h)

-- The same with weights.
pub record Weighted (s : List ℕ) (i sum : ℕ) : Type 0 where
  pub within : i ≤ length s
  pub small : sum ≤ block_bytes * byte_span * i
  pub rest : sum + weighted (i + 1) (drop i s) ≡ weighted 1 s

pub product_small : (a b : ℕ) → a ≤ block_bytes → b < byte_span → a * b ≤ block_bytes * byte_span
product_small a b p q = let q' : b ≤ byte_span = omega arith in mul-le-mul p q'

pub weighted_begins : (s : List ℕ) → Weighted s 0 0
weighted_begins s = record { within = omega arith; small = omega arith; rest = omega arith }

weighted_next : (s : List ℕ) (i : ℕ) → i < length s → weighted (i + 1) (drop i s) ≡ (i + 1) * get_or s i 0 + weighted (i + 1 + 1) (drop (i + 1) s)
unfolding weighted
weighted_next s i h = rw (drop_next s i h) (rw (add-one (i + 1)))

weighted_none : (s : List ℕ) (i : ℕ) → length s ≤ i → weighted (i + 1) (drop i s) ≡ 0
unfolding weighted
weighted_none s i h = rw (drop_none s i h)

pub weighted_goes_on : {s : List ℕ} {i sum : ℕ} → Weighted s i sum → length s ≤ block_bytes → i < length s → get_or s i 0 < byte_span
    → Weighted s (i + 1) (sum + (i + 1) * get_or s i 0)
weighted_goes_on {s} {i} {sum} a l h b =
    record {
      within = omega arith;
      small = omega (arith, product_small (i + 1) (get_or s i 0) (omega arith) b);
      rest = omega (arith, weighted_next s i h);
    }

pub weighted_ends : {s : List ℕ} {i sum : ℕ} → Weighted s i sum → length s ≤ i → sum ≡ weighted 1 s
weighted_ends {s} {i} {sum} a h = omega (arith, weighted_none s i h)
