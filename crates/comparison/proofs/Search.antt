-- The search for the smallest valuation in which two diagrams differ, variable by variable.
use Prim.Native.Nat.{ℕ, zero, suc, ◌+◌, ◌-◌, ◌*◌, ◌^◌, ◌≤◌, ◌<◌}
use mathlib.Core.Path.{◌≡◌, refl, sym, ap, ◌∙◌}
use mathlib.Core.Logic.{◌≢◌}
use mathlib.Core.Bool.{Bool, true, false, not}
use mathlib.Core.List.{List}
use native.Mathlib.Omega.{arith}
use native.Mathlib.Nat.{sub-zero, mul-one, mul_assoc, pow-suc, zero-mul, add-mul, le-mul_of_pos_right}
use lib.ListN.{length}
use lib.Pow.{pow_pos}
use lib.Dec.{ltb, eqb}
use borrow.Author.Tests.{ltb-true, ltb-false, lt-ltb}
use Rattle.naturals.specs.Natural.{value, limit, Holds, Fitted, word_count}
use Rattle.naturals.specs.declared.Natural.{Natural}
use Rattle.std.specs.Prelude.{Option, Some, is_some}
use Rattle.naturals.proofs.Answer.{holds_as, answers_said}
use Rattle.diagram.specs.Diagram.{vars, holds}
use Rattle.diagram.specs.Valuations.{tally}
use Rattle.diagram.proofs.Tests.{by_test, cond-true}
use Rattle.counts.proofs.Nodes.{under_words}
use Rattle.pairs.specs.Pairs.{max_pairs, Pair, level_of, next, ended, roots, all_of}
use Rattle.pairs.specs.Table.{low_in, high_in, Alike, Settled}
use Rattle.pairs.proofs.Levels.{Inside, level_end, next_above}
use Rattle.comparison.specs.Comparison.{differ, any_differ, numeral, least, shown}
use Rattle.worths.specs.Worth.{unlike, beside, worth_from, worth, unlike_at, flag_in, pair_at, Placed}
use Rattle.comparison.specs.Work.{Rooted, Searching, Turned}
use Rattle.worths.proofs.Beside.{passed, beside_cons, beside_roots, worth_step, worth_twice, passed_skips, part_is, scaled_sign, unlike_is}
use Rattle.comparison.proofs.Roots.{all_unlike}
use Rattle.comparison.proofs.Least.{numeral_nil, numeral_less, least_nil, least_length, least_same, number_low, number_high}
use Rattle.worths.proofs.Places.{place_small, place_inside, flag_is}

-- the number of the smallest valuation of the variables from i on in which a pair differs
abbrev pub number_from : List ℕ → List ℕ → ℕ → Pair → ℕ
number_from a b i x = numeral (least (vars a - i) (beside unlike a b i x))

module _ {a b : List ℕ} (k : Alike a b) where
  -- its highest bit
  goes_low : (i : ℕ) (x : Pair) → i < vars a → 0 < worth_from unlike a b (suc i) (passed a b i x false)
      → number_from a b i x ≡ number_from a b (suc i) (passed a b i x false)
  goes_low i x h some =
      let e : vars a - i ≡ suc (vars a - suc i) = omega arith in
      ap (λ (m : ℕ). numeral (least m (beside unlike a b i x))) e
      ∙ number_low (vars a - suc i) (beside unlike a b i x) (beside unlike a b (suc i) (passed a b i x false)) (beside_cons unlike k i x false) some

  goes_high : (i : ℕ) (x : Pair) → i < vars a → worth_from unlike a b (suc i) (passed a b i x false) ≡ 0
      → number_from a b i x ≡ 2 ^ (vars a - suc i) + number_from a b (suc i) (passed a b i x true)
  goes_high i x h none =
      let e : vars a - i ≡ suc (vars a - suc i) = omega arith in
      ap (λ (m : ℕ). numeral (least m (beside unlike a b i x))) e
      ∙ number_high (vars a - suc i) (beside unlike a b i x) (beside unlike a b (suc i) (passed a b i x false)) (beside unlike a b (suc i) (passed a b i x true))
      (beside_cons unlike k i x false) (beside_cons unlike k i x true) none

  differ_roots : (bs : List Bool) → length bs ≡ vars a → differ a b bs ≡ beside unlike a b 0 (roots a b) bs
  differ_roots bs l = unlike_is (holds a bs) (holds b bs) ∙ beside_roots unlike k bs l

-- ---- one variable

module _ {a b : List ℕ} {c : ℕ} {t : List ℕ} {place i : ℕ} (s : Searching a b c t place i) (less : i < vars a) where
  pub search_placed : Placed a b c t place
  search_placed = record { listed = s.worths.listed; inside = s.inside }

  abbrev x : Pair
  x = pair_at a b place

  alike : Alike a b
  alike = s.worths.listed.alike

  x_in : Inside a b x
  x_in = place_inside search_placed

  pub turn_skips : {here : ℕ} → here ≡ level_of a b x → here ≢ i → Turned a b c t place i place 0
  turn_skips {here} e ne =
      let below = s.level in
      let skip : i < level_of a b x = omega arith in
      let twice = worth_twice unlike alike i x x_in skip in
      let some = s.unlike_from in
      let mine : 0 < worth_from unlike a b (suc i) (passed a b i x false) = rw (passed_skips unlike alike i x false skip) (omega arith) in
      record {
        searching = record { worths = s.worths; inside = s.inside; level = skip; unlike_from = omega arith };
        small = omega arith;
        number = goes_low alike i x less mine ∙ rw (passed_skips unlike alike i x false skip, zero-mul (2 ^ (vars a - suc i))) (omega arith);
      }

  module _ {here : ℕ} (e : here ≡ level_of a b x) (same : here ≡ i) where
    i_is : i ≡ level_of a b x
    i_is = omega arith

    pub going : ended x ≡ false
    going = by_test (ended x) (λ y. let at_end = level_end a b alike x x_in y in absurd (omega arith)) (λ y. y)

    settled : Settled a b c (all_of a b) t place
    settled = s.worths.listed.standing.settled place s.inside

    pub turn_low_small : {low : ℕ} → low ≡ low_in c t place → (c ≤ max_pairs) × (low < max_pairs)
    turn_low_small el = let before = settled.low_before going in ((place_small search_placed).0, omega (arith, (place_small search_placed).1))

    -- whether the valuations that go on by a bit have a difference
    some_from : (bit : Bool) → ltb 0 (worth_from unlike a b (suc i) (passed a b i x bit)) ≡ unlike_at a b (next a b x bit)
    some_from bit = rw i_is (ap (ltb 0) (part_is unlike alike x bit x_in going)
        ∙ scaled_sign (worth unlike a b (next a b x bit)) (level_of a b (next a b x bit) - level_of a b x - 1))

    there : (bit : Bool) (place' : ℕ) → place' < place → pair_at a b place' ≡ next a b x bit → 0 < worth_from unlike a b (suc i) (passed a b i x bit)
        → Searching a b c t place' (suc i)
    there bit place' before is some =
        let inside = s.inside in
        let up = next_above a b alike x x_in going bit in
        record {
          worths = s.worths;
          inside = omega arith;
          level = rw is (omega (arith, i_is));
          unlike_from = rw is (from_next bit some);
        }
      where
        from_next : (bit : Bool) → 0 < worth_from unlike a b (suc i) (passed a b i x bit) → 0 < worth_from unlike a b (suc i) (next a b x bit)
        from_next bit h = rw (← i_is) h

    passed_next : (bit : Bool) → passed a b i x bit ≡ next a b x bit
    passed_next bit = rw i_is refl

    module _ {low : ℕ} (el : low ≡ low_in c t place) {d : Bool} (ed : d ≡ not (eqb (flag_in c t low) 0)) where
      low_before : low < place
      low_before = omega (arith, settled.low_before going)

      low_is : pair_at a b low ≡ next a b x false
      low_is = rw el (settled.low going)

      sign : ltb 0 (worth_from unlike a b (suc i) (passed a b i x false)) ≡ d
      sign = some_from false ∙ sym (flag_is s.worths (omega (arith, low_before, s.inside)) ed ∙ ap (unlike_at a b) low_is)

      pub turn_low : d ≡ true → Turned a b c t place i low 0
      turn_low yes-d =
          let some = ltb-true 0 (worth_from unlike a b (suc i) (passed a b i x false)) (sign ∙ yes-d) in
          record {
            searching = there false low low_before low_is some;
            small = omega arith;
            number = goes_low alike i x less some ∙ rw (passed_next false, ← low_is, zero-mul (2 ^ (vars a - suc i))) (omega arith);
          }

      pub turn_high : d ≡ false → {high : ℕ} → high ≡ high_in c t place → Turned a b c t place i high 1
      turn_high no-d {high} eh =
          let none = ltb-false 0 (worth_from unlike a b (suc i) (passed a b i x false)) (sign ∙ no-d) in
          let halves = worth_step unlike alike i x less in
          let some : 0 < worth_from unlike a b (suc i) (passed a b i x true) = omega (arith, s.unlike_from) in
          let before = settled.high_before going in
          let high_is : pair_at a b high ≡ next a b x true = rw eh (settled.high going) in
          record {
            searching = there true high (omega arith) high_is some;
            small = omega arith;
            number = goes_high alike i x less (omega arith) ∙ rw (passed_next true, ← high_is) (omega arith);
          }

-- ---- all variables

twice : (m : ℕ) → m * 2 ≡ 2 * m
twice m = omega arith

-- The first i bits are a number, and the rest is still to be found.
pub record Finding (a b : List ℕ) (c : ℕ) (t : List ℕ) (place i : ℕ) (words : List ℕ) : Type 0 where
  pub searching : Searching a b c t place i
  pub within : i ≤ vars a
  pub so_far : ℕ
  pub number : Holds so_far words
  pub whole : numeral (least (vars a) (differ a b)) ≡ so_far * 2 ^ (vars a - i) + number_from a b i (pair_at a b place)

module _ {a b : List ℕ} {c : ℕ} {t : List ℕ} {place v : ℕ} (r : Rooted a b c t place v) (any : any_differ a b ≡ true) where
  alike_of_lem : Alike a b
  alike_of_lem = r.worths.listed.alike

  pub find_begins : {words : List ℕ} → Holds 0 words → Finding a b c t place 0 words
  find_begins h = record {
    searching = record {
      worths = r.worths;
      inside = r.inside;
      level = omega arith;
      unlike_from = rw r.here (let some = ltb-true 0 (tally (vars a) (differ a b)) any in omega (arith, all_unlike alike_of_lem));
    };
    within = omega arith;
    so_far = 0;
    number = h;
    whole = number_roots ∙ rw (r.here, zero-mul (2 ^ (vars a - 0))) (omega arith);
  }
    where
      number_roots : numeral (least (vars a) (differ a b)) ≡ number_from a b 0 (roots a b)
      number_roots =
          ap numeral (least_same (vars a) (differ a b) (beside unlike a b 0 (roots a b)) (differ_roots alike_of_lem))
          ∙ ap (λ (m : ℕ). numeral (least m (beside unlike a b 0 (roots a b)))) (sym (sub-zero (vars a)))

  module _ {at i at' bit : ℕ} {words : List ℕ} (f : Finding a b c t at i words) (less : i < v) (turned : Turned a b c t at i at' bit) where
    abbrev n : ℕ
    n = f.so_far

    number_is : numeral (least (vars a) (differ a b)) ≡ (n * 2 + bit) * 2 ^ (vars a - suc i) + number_from a b (suc i) (pair_at a b at')
    number_is =
        let is-v = r.variables in
        let rest : vars a - i ≡ suc (vars a - suc i) = omega arith in
        let doubled : n * 2 ^ (vars a - i) ≡ (n * 2) * 2 ^ (vars a - suc i) =
        rw rest (ap (λ (m : ℕ). n * m) (pow-suc 2 (vars a - suc i)) ∙ omega (arith, mul_assoc n (2 ^ (vars a - suc i)) 2, mul_assoc n 2 (2 ^ (vars a - suc i)), ap (λ (m : ℕ). n * m) (twice (2 ^ (vars a - suc i))))) in
        f.whole ∙ omega (arith, doubled, turned.number, add-mul (n * 2) bit (2 ^ (vars a - suc i)))

    fits_all : n * 2 + bit < limit
    fits_all =
        let small : numeral (least (vars a) (differ a b)) < 2 ^ vars a =
        rw (← ap (λ (m : ℕ). 2 ^ m) (least_length (vars a) (differ a b))) (numeral_less (least (vars a) (differ a b))) in
        let below = le-mul_of_pos_right (n * 2 + bit) (pow_pos (vars a - suc i)) in
        let variables = alike_of_lem.first.formed.variables in
        under_words word_count (n * 2 + bit) (vars a) (omega (arith, number_is)) (omega arith)

    module _ {longer : Option Natural} (fit : Fitted (value words * 2 + bit) longer) where
      told : Fitted (n * 2 + bit) longer
      told = rw f.number.worth at fit

      pub find_there : is_some longer ≡ true
      find_there = told.said ∙ lt-ltb (n * 2 + bit) limit fits_all

      pub find_goes_on : {next : Natural} → longer ≡ Some next → Finding a b c t at' (i + 1) next.words
      find_goes_on is =
          let is-v = r.variables in
          let one : i + 1 ≡ suc i = omega arith in
          rw one (record {
            searching = turned.searching;
            within = omega arith;
            so_far = n * 2 + bit;
            number = answers_said told is;
            whole = number_is;
          })

  pub find_ends : {at i : ℕ} {words : List ℕ} → Finding a b c t at i words → v ≤ i → Holds (shown a b) words
  find_ends {at} {i} f over =
      let in_all = f.within in
      let is-v = r.variables in
      let none : vars a - i ≡ zero = omega arith in
      holds_as (sym (cond-true (any_differ a b) (numeral (least (vars a) (differ a b))) 0 any ∙ f.whole ∙ rw none (last (beside unlike a b i (pair_at a b at))))) f.number
    where
      last : (test : List Bool → Bool) → f.so_far * 2 ^ zero + numeral (least zero test) ≡ f.so_far
      last test = rw (least_nil test) (omega (arith, numeral_nil, mul-one f.so_far))
