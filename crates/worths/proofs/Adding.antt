-- A pair's count from the counts of the pairs that it goes to, in the table.
use Prim.Native.Nat.{ℕ, ◌+◌, ◌-◌, ◌*◌, ◌^◌, ◌≤◌, ◌<◌}
use mathlib.Core.Path.{◌≡◌, refl, sym, ap, ◌∙◌}
use mathlib.Core.Logic.{inl}
use mathlib.Core.Bool.{Bool, true, false, cond, ◌&&◌}
use mathlib.Core.List.{List}
use native.Mathlib.Omega.{arith}
use native.Mathlib.Nat.{le-mul_of_pos_right}
use lib.ListN.{length}
use lib.Pow.{pow_pos}
use Rattle.naturals.specs.Natural.{word_count}
use Rattle.in_place.specs.InPlace.{words_for, shifted_in, Clear, Adding, Fitting}
use Rattle.in_place.specs.declared.sum.Shifted.{Shifted}
use Rattle.in_place.proofs.Placed.{words_enough}
use Rattle.diagram.specs.Diagram.{vars}
use Rattle.counts.specs.Table.{num, In}
use Rattle.counts.proofs.Entries.{entry_few}
use Rattle.counts.proofs.Shares.{noted_sum}
use Rattle.pairs.specs.Pairs.{Pair, level_of, next, all_of}
use Rattle.pairs.specs.Table.{low_in, high_in, counts_from, Alike, Settled}
use Rattle.pairs.proofs.Levels.{Inside, level_most, next_above}
use Rattle.worths.specs.Worth.{worth, pair_at, Placed, Noting, Stepping, Counted}
use Rattle.worths.proofs.Beside.{part, worth_node, worth_most}
use Rattle.worths.proofs.Places.{place_inside, count_noted}

-- where a pair's child stands, by the bit that leads to it
abbrev pub child_in : ℕ → List ℕ → ℕ → Bool → ℕ
child_in c t i bit = cond bit (high_in c t i) (low_in c t i)

-- what is said of a child's part
pub record PartAt (a b : List ℕ) (c here child : ℕ) (s : Shifted) : Type 0 where
  pub at_is : s.at ≡ counts_from c + word_count * child
  pub bits_is : s.bits ≡ level_of a b (pair_at a b child) - here - 1

pub part_at : {a b : List ℕ} {c here child : ℕ} {s : Shifted} → (s.at ≡ counts_from c + word_count * child) × (s.bits ≡ level_of a b (pair_at a b child) - here - 1)
    → PartAt a b c here child s
part_at e = record { at_is = e.0; bits_is = e.1 }

module _ {a b : List ℕ} {c : ℕ} {t : List ℕ} {place v : ℕ} (n : Noting a b c t place v) (k : Stepping a b place) where
  pub noting_placed : Placed a b c t place
  noting_placed = record { listed = n.worths.listed; inside = n.inside }

  abbrev x : Pair
  x = pair_at a b place

  alike : Alike a b
  alike = n.worths.listed.alike

  x_in : Inside a b x
  x_in = place_inside noting_placed

  settled : Settled a b c (all_of a b) t place
  settled = n.worths.listed.standing.settled place n.inside

  child_before : (bit : Bool) → child_in c t place bit < place
  child_before true = settled.high_before k.going
  child_before false = settled.low_before k.going

  child_is : (bit : Bool) → pair_at a b (child_in c t place bit) ≡ next a b x bit
  child_is true = settled.high k.going
  child_is false = settled.low k.going

  pub child_placed : (bit : Bool) {child : ℕ} → child ≡ child_in c t place bit → Placed a b c t child
  child_placed bit e = record { listed = n.worths.listed; inside = omega (arith, child_before bit, n.inside) }

  pub child_above : (bit : Bool) {here child : ℕ} → here ≡ level_of a b x → child ≡ child_in c t place bit → here < level_of a b (pair_at a b child)
  child_above bit eh ec = rw (ec, child_is bit, eh) (next_above a b alike x x_in k.going bit)

  pub here_fits : {here : ℕ} → here ≡ level_of a b x → here ≤ v
  here_fits e = omega (arith, level_most a b alike x x_in, n.variables)

  abbrev left : ℕ
  left = vars a - level_of a b x

  few : words_for left ≤ word_count
  few = let variables = alike.first.formed.variables in omega arith

  entry_in : (i : ℕ) → i ≤ place → In (counts_from c) t i
  entry_in i l =
      let long = n.worths.listed.space.long in
      let fits = n.worths.listed.standing.fits in
      let inside = n.inside in
      omega arith

  child_worth : (bit : Bool) → num (counts_from c) t (child_in c t place bit) ≡ worth ◌&&◌ a b (next a b x bit)
  child_worth bit = (n.worths.count (child_in c t place bit) (child_before bit)).worth ∙ ap (worth ◌&&◌ a b) (child_is bit)

  all_most : part ◌&&◌ alike x false + part ◌&&◌ alike x true ≤ 2 ^ left
  all_most = let most = worth_most ◌&&◌ alike x in omega (arith, worth_node ◌&&◌ alike x x_in k.going)

  part_most : (bit : Bool) → part ◌&&◌ alike x bit ≤ 2 ^ left
  part_most true = omega (arith, all_most)
  part_most false = omega (arith, all_most)

  module _ (bit : Bool) {here child : ℕ} (eh : here ≡ level_of a b x) (ec : child ≡ child_in c t place bit) {s : Shifted} (p : PartAt a b c here child s) where
    bits_are : s.bits ≡ level_of a b (next a b x bit) - level_of a b x - 1
    bits_are = p.bits_is ∙ rw (ec, child_is bit, eh) refl

    at_are : s.at ≡ counts_from c + word_count * child_in c t place bit
    at_are = p.at_is ∙ rw ec refl

    part_is : shifted_in (words_for left) t s ≡ part ◌&&◌ alike x bit
    part_is =
        let d = level_of a b (next a b x bit) - level_of a b x - 1 in
        let less = le-mul_of_pos_right (worth ◌&&◌ a b (next a b x bit)) (pow_pos d) in
        let most = part_most bit in
        let same = child_worth bit in
        rw (at_are, bits_are)
        (ap (λ (m : ℕ). m * 2 ^ d) (entry_few (counts_from c) t (child_in c t place bit) left (omega arith) few ∙ child_worth bit))

    part_in : s.at + words_for left ≤ length t
    part_in = omega (arith, entry_in (child_in c t place bit) (omega (arith, child_before bit)), at_are, few)

    part_clear : Clear word_count (counts_from c + word_count * place) (words_for left) s
    part_clear =
        let at = at_are in
        let less = few in
        let before = child_before bit in
        inl (inl (omega arith))

  module _ {here : ℕ} (eh : here ≡ level_of a b x) {low : ℕ} (el : low ≡ low_in c t place) {s : Shifted} (ps : PartAt a b c here low s) {high : ℕ} (eg : high ≡ high_in c t place)
      {r : Shifted} (pr : PartAt a b c here high r) {to used : ℕ} (et : to ≡ counts_from c + word_count * place) (eu : used ≡ words_for (v - here)) where
    used_is : used ≡ words_for left
    used_is = eu ∙ rw (eh, n.variables) refl

    pub sum_asks : Adding word_count used t to s r
    sum_asks = rw (et, used_is) (record {
      few = few;
      target = entry_in place (omega arith);
      first = part_in false eh el ps;
      second = part_in true eh eg pr;
      first_clear = part_clear false eh el ps;
      second_clear = part_clear true eh eg pr;
    })

    pub sum_done : {fits : Bool} {after : List ℕ} → Fitting word_count used t to (shifted_in used t s + shifted_in used t r) fits after → Counted a b c after place
    sum_done {fits} {after} f =
        let whole : shifted_in (words_for left) t s + shifted_in (words_for left) t r ≡ worth ◌&&◌ a b x =
        rw (part_is false eh el ps, part_is true eh eg pr) (sym (worth_node ◌&&◌ alike x x_in k.going)) in
        let mine : Fitting word_count (words_for left) t (counts_from c + word_count * place) (shifted_in (words_for left) t s + shifted_in (words_for left) t r) fits after =
        rw (et, used_is) at f in
        count_noted n.worths n.inside
        (noted_sum (counts_from c) t place (words_for left) (entry_in place (omega arith)) mine whole (words_enough (worth ◌&&◌ a b x) left (worth_most ◌&&◌ alike x))) refl
