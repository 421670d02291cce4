-- What `add` answers.
use Prim.Native.Nat.{ℕ, ◌+◌}
use mathlib.Core.Path.{◌≡◌, refl, ap, ◌∙◌}
use mathlib.Core.Logic.{◌≢◌}
use mathlib.Core.List.{List}
use native.Mathlib.Omega.{arith}
use Rattle.pairs.specs.Pairs.{Pair}
use Rattle.pairs.specs.Table.{key_of, entered, Adding, Added}

pub add_full : {c : ℕ} {t : List ℕ} {n : ℕ} {x : Pair} {low high : ℕ} → n ≡ c → Added c t n x low high t 0 (c + 1)
add_full e = record { full = λ f. omega arith; stands = λ l. absurd (omega arith) }

pub add_stands : {c : ℕ} {t : List ℕ} {n : ℕ} {x : Pair} {low high : ℕ} → Adding c t n x low high → n ≢ c → {key : ℕ} → key ≡ key_of x → {t' : List ℕ}
    → t' ≡ entered c t n key low high → Added c t n x low high t' n (n + 1)
add_stands {c} {t} {n} {x} {low} {high} a ne {key} e et = record {
  full = λ f. absurd (ne f);
  stands = λ l. (refl, omega arith, et ∙ ap (λ (k : ℕ). entered c t n k low high) e);
}
