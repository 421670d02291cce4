-- The walk begins with no pair in the table.
use Prim.Native.Nat.{ℕ, ◌≤◌, ◌<◌, min}
use mathlib.Core.Path.{◌≡◌, refl, sym, ap, ◌∙◌}
use mathlib.Core.List.{List, [], ◌++◌}
use native.Mathlib.Omega.{arith}
use lib.ListN.{length, get_or, drop, replicate, length-replicate, get_or-replicate, get_or-append}
use Rattle.std.specs.Prelude.{Some, None}
use Rattle.std.proofs.lemmas.Option.{none-some}
use Rattle.pairs.specs.declared.walk.Met.{Met as MetAt}
use Rattle.pairs.specs.Pairs.{roots, all_of}
use Rattle.pairs.specs.Table.{head_in, Space, Tabled, Alike, Walking, Met, Walked, MetAll}
use Rattle.pairs.proofs.Entries.{some_once}
use Rattle.pairs.proofs.Chains.{chains_none}
use Rattle.pairs.proofs.Levels.{roots_in}

front_zero : (n h : ℕ) (rest : List ℕ) → h < n → get_or (replicate n 0 ++ rest) h 0 ≡ 0
front_zero n h rest l =
    let long = length-replicate {A = ℕ} n 0 in
    get_or-append (replicate n 0) rest 0 h (omega arith) ∙ get_or-replicate n h 0 0 l

module _ {a b : List ℕ} (alike : Alike a b) {c : ℕ} {t : List ℕ} (space : Space c t) {t' : List ℕ}
    (clear : t' ≡ replicate (min c (length t)) 0 ++ drop c t) where
  empty : (h : ℕ) → h < c → head_in t' h ≡ 0
  empty h l =
      let long = space.long in
      rw clear (front_zero (min c (length t)) h (drop c t) (omega arith))

  none_tabled : Tabled a b c [] t'
  none_tabled = record {
    standing = record { fits = omega arith; held = λ i l. absurd (omega arith); settled = λ i l. absurd (omega arith) };
    chains = chains_none empty;
  }

  pub walk_begins : length t' ≡ length t → Walking a b c t' 0 (roots a b)
  walk_begins same = record {
    alike = alike;
    space = record { some = space.some; few = space.few; long = omega (arith, space.long) };
    first = (roots_in a b alike).first;
    second = (roots_in a b alike).second;
    pairs = [];
    tabled = none_tabled;
    count = refl;
  }

  module _ {t'' : List ℕ} {m : MetAt} (w : Walked a b c t' 0 (roots a b) t'' m.place m.count) where
    all_met : Met a b c (all_of a b) t'' (roots a b) m.place m.count
    all_met = w.meets [] none_tabled refl

    pub walk_full : c < m.count → MetAll a b c (all_of a b) t'' (roots a b) None
    walk_full over = record {
      full = λ none. omega (arith, all_met.is_count);
      is_count = λ n is. absurd (none-some _ is);
      arrived = λ n is. absurd (none-some _ is);
    }

    pub walk_ends : m.count ≤ c → MetAll a b c (all_of a b) t'' (roots a b) (Some m)
    walk_ends few = record {
      full = λ none. absurd (none-some _ (sym none));
      is_count = λ n is. ap (λ (k : MetAt). k.count) (sym (some_once is)) ∙ omega (arith, all_met.is_count);
      arrived = λ n is. rw (← some_once is) (all_met.arrived few);
    }
