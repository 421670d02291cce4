-- What is worked out in the table, and what the public function answers.
use Prim.Native.Nat.{ℕ, zero, suc, ◌+◌, ◌*◌, ◌/◌, ◌^◌, ◌≤◌, ◌<◌, min}
use mathlib.Core.Path.{◌≡◌, refl, sym, ap, ◌∙◌}
use mathlib.Core.Logic.{◌≢◌}
use mathlib.Core.Bool.{Bool, true, false, true≢false, cond, not, ◌&&◌}
use mathlib.Core.List.{List, [], ◌∷◌, ◌++◌}
use native.Mathlib.Omega.{arith}
use lib.ListN.{length, take, drop, replicate}
use lib.Seq.{length-take-le}
use lib.Dec.{leb, ltb, eqb}
use borrow.Author.Tests.{lt-ltb, le-ltb, le-leb, eq-eqb, ne_eqb}
use Rattle.std.specs.Prelude.{Option, Some, None, is_some, is_none, Result, Ok, Err, is_ok, IsErrAnd, MatchResult}
use Rattle.naturals.specs.Natural.{value, word_count, limit, Holds, Fitted, Answers as AnswersOf}
use Rattle.naturals.specs.declared.Natural.{Natural}
use Rattle.naturals.proofs.Answer.{holds_as, holds_zero, given, refused as none, answers_said}
use Rattle.diagram.specs.Diagram.{vars, holds}
use Rattle.diagram.specs.Valuations.{tally, count_of}
use Rattle.diagram.specs.Verdict.{Outcome, accepted, refused, said, row, and_then, if_accepted, verdict_of, verdict_in}
use Rattle.diagram.specs.declared.verdict.Finding.{Finding}
use Rattle.diagram.specs.declared.verdict.Refused.{Refused}
use Rattle.diagram.specs.declared.refusal.Refusal.{Refusal}
use Rattle.diagram.specs.declared.refusal.Refusal.TheVariants.{OtherVariables, TooManyPairs}
use Rattle.diagram.specs.Refusal.{number_of}
use Rattle.diagram.specs.declared.verdict.Output.TheVariants.{Nothing as NoOutput}
use Rattle.diagram.proofs.Tests.{cond-true, cond-false}
use Rattle.diagram.proofs.Tally.{tally_zero, tally_suc, tally_same, tally_most}
use Rattle.diagram.proofs.Words.{front_cleared}
use Rattle.diagram.proofs.Entering.{refusal_is, verdict_is, admitted, ordered, when_accepted}
use Rattle.counts.specs.Counted.{Counts, words_in}
use Rattle.counts.proofs.Nodes.{under_words}
use Rattle.pairs.specs.Pairs.{pair_words, max_pairs, start, level_of, roots, all_of, pairs_of}
use Rattle.pairs.specs.Table.{counts_from, Alike, Space, MetAll}
use Rattle.pairs.proofs.Entries.{some_once}
use Rattle.pairs.proofs.Meeting.{in_at}
use Rattle.pairs.specs.declared.walk.Met.{Met as MetAt}
use Rattle.std.proofs.lemmas.Option.{none-some}
use Rattle.pairs.proofs.Numbering.{walks}
use Rattle.comparison.specs.Comparison.{both, first_only, second_only, in_both, any_differ, shown, numeral, least, differ, alike_of, compare_of, room_left, whole_pairs, Compared, which_number, words_of, Tells, Compare}
use Rattle.worths.specs.Worth.{worth, flag_in, unlike_at, pair_at, Worths}
use Rattle.comparison.specs.Work.{Rooted, Arriving, Told, Worked, Differences, Known, beside_of, Besides}
use Rattle.comparison.specs.declared.work.Found.{Found}
use Rattle.comparison.specs.declared.compare.Comparison.{Comparison}
use Rattle.comparison.specs.declared.compare.ComparisonRefused.{ComparisonRefused}
use Rattle.comparison.specs.declared.compare.Which.TheVariants.{First, Second}
use Rattle.comparison.proofs.Roots.{both_roots, unlike_roots}
use Rattle.worths.proofs.Places.{flag_is}

-- ---- parts of a whole

split_bit : (x y : Bool) → cond (x && not y) 1 0 + cond (x && y) 1 0 ≡ cond x 1 0
split_bit true true = refl
split_bit true false = refl
split_bit false y = refl

-- the lists that pass a test: those that don't pass another, and those that do
pub tally_split : (k : ℕ) (f g : List Bool → Bool) → tally k (λ bs. f bs && not (g bs)) + tally k (λ bs. f bs && g bs) ≡ tally k f
tally_split zero f g = omega (arith, tally_zero f, tally_zero (λ bs. f bs && not (g bs)), tally_zero (λ bs. f bs && g bs), split_bit (f []) (g []))
tally_split (suc k) f g =
    let low = tally_split k (λ bs. f (false ∷ bs)) (λ bs. g (false ∷ bs)) in
    let high = tally_split k (λ bs. f (true ∷ bs)) (λ bs. g (true ∷ bs)) in
    omega (arith, tally_suc k f, tally_suc k (λ bs. f bs && not (g bs)), tally_suc k (λ bs. f bs && g bs))

and_turned : (x y : Bool) → (x && y) ≡ (y && x)
and_turned true true = refl
and_turned true false = refl
and_turned false true = refl
and_turned false false = refl

pub first_whole : (a b : List ℕ) → first_only a b + in_both a b ≡ count_of a
first_whole a b = tally_split (vars a) (holds a) (holds b)

pub second_whole : (a b : List ℕ) → vars a ≡ vars b → second_only a b + in_both a b ≡ count_of b
second_whole a b e =
    let turned = tally_same (vars a) (both a b) (both b a) (λ bs l. and_turned (holds a bs) (holds b bs)) in
    let whole = tally_split (vars a) (holds b) (holds a) in
    let same = ap (λ (k : ℕ). tally k (holds b)) e in
    omega arith

-- ---- the two roots

module _ {a b : List ℕ} {c : ℕ} {t : List ℕ} {place v : ℕ} (r : Rooted a b c t place v) where
  module _ {at : ℕ} (ea : at ≡ counts_from c + word_count * place) {read : Option Natural} (h : AnswersOf (leb (at + word_count) (length t)) (value (take word_count (drop at t))) read) where
    pub root_there : is_some read ≡ true
    root_there =
        let long = r.worths.listed.space.long in
        let fits = r.worths.listed.standing.fits in
        let inside = r.inside in
        h.said ∙ le-leb (at + word_count) (length t) (omega arith)

    module _ {below : Natural} (is : read ≡ Some below) {above : ℕ} (el : above ≡ level_of a b (pair_at a b place)) where
      is_both : value below.words * 2 ^ above ≡ in_both a b
      is_both =
          let below-is : value below.words ≡ worth ◌&&◌ a b (roots a b) =
          (answers_said h is).worth ∙ rw ea ((r.worths.count place r.inside).worth ∙ ap (worth ◌&&◌ a b) r.here) in
          let above-is : above ≡ level_of a b (roots a b) = el ∙ ap (level_of a b) r.here in
          rw (below-is, above-is) (sym (both_roots r.worths.listed.alike))

      module _ {shifted : Option Natural} (fit : Fitted (value below.words * 2 ^ above) shifted) where
        told : Fitted (in_both a b) shifted
        told = rw is_both at fit

        pub root_fits : is_some shifted ≡ true
        root_fits =
            let variables = r.worths.listed.alike.first.formed.variables in
            told.said ∙ lt-ltb (in_both a b) limit (under_words word_count (in_both a b) (vars a) (tally_most (vars a) (both a b)) (omega arith))

        pub root_done : {count : Natural} → shifted ≡ Some count → Holds (in_both a b) count.words
        root_done e = answers_said told e

  module _ {d : Bool} (ed : d ≡ not (eqb (flag_in c t place) 0)) where
    pub differ_is : d ≡ any_differ a b
    differ_is = flag_is r.worths r.inside ed ∙ ap (unlike_at a b) r.here ∙ sym (unlike_roots r.worths.listed.alike)

    pub differ_some : d ≡ true → any_differ a b ≡ true
    differ_some e = sym differ_is ∙ e

    pub shown_some : d ≡ true → {number : Natural} → Holds (shown a b) number.words → AnswersOf (any_differ a b) (shown a b) (Some number)
    shown_some e h = given (differ_some e) h

    pub shown_none : d ≡ false → AnswersOf (any_differ a b) (shown a b) None
    shown_none e = none (sym differ_is ∙ e)

pub rooted : {a b : List ℕ} {c : ℕ} {t t' : List ℕ} {count place v : ℕ} → Arriving a b c t count place v → Worths a b c t' count → Rooted a b c t' place v
rooted {a} {b} {c} {t} {t'} k w = record {
  worths = rw k.is_count at w;
  inside = k.inside;
  here = k.here;
  variables = k.variables;
}

-- ---- in a table of any length

module _ {a b : List ℕ} (alike : Alike a b) where
  pairs_some : 0 < pairs_of a b
  pairs_some =
      let n = walks.pairs a b alike.first alike.second alike.variables in
      omega (arith, (in_at (roots a b) n.list (n.all (roots a b) start)).1, n.count)

  pairs_few : pairs_of a b ≤ max_pairs
  pairs_few = walks.few a b alike.first alike.second alike.variables

  worked_full : {places : ℕ} → places < pairs_of a b → Worked a b places None
  worked_full {places} over = record { full = sym (lt-ltb places (pairs_of a b) over); told = λ found e. absurd (none-some _ e) }

  module _ (t : List ℕ) {c : ℕ} (ec : c ≡ min (length t / pair_words) max_pairs) where
    pub work_none : c ≡ 0 → Worked a b (length t / pair_words) None
    work_none e = worked_full (omega (arith, pairs_some))

    pub work_space : c ≢ 0 → Space c t
    work_space some = record { some = omega arith; few = omega arith; long = omega arith }

    module _ {t' : List ℕ} {r : Option MetAt} (m : MetAll a b c (all_of a b) t' (roots a b) r) where
      pub work_over : r ≡ None → Worked a b (length t / pair_words) None
      work_over none = worked_full (omega (arith, m.full none, pairs_few))

      module _ (some : c ≢ 0) {met : MetAt} (there : r ≡ Some met) where
        count_is : met.count ≡ pairs_of a b
        count_is = m.is_count met there

        pub work_arrives : length t' ≡ length t → {v : ℕ} → v ≡ vars a → Arriving a b c t' met.count met.place v
        work_arrives same ev =
            let arrived = m.arrived met there in
            let s = work_space some in
            let long = s.long in
            record {
              listed = record { alike = alike; space = record { some = s.some; few = s.few; long = omega arith }; standing = arrived.tabled.standing };
              is_count = count_is;
              inside = arrived.inside;
              here = arrived.here;
              variables = ev;
            }

        pub work_told : {found : Found} → Told a b found → Worked a b (length t / pair_words) (Some found)
        work_told k = record {
          full = sym (le-ltb (length t / pair_words) (pairs_of a b) (omega (arith, (m.arrived met there).tabled.standing.fits)));
          told = λ found e. let same = some_once e in rw same at k;
        }

-- ---- rows of the verdict

pub row_on : (n p : ℕ) (t : Bool) (o : Outcome) → t ≡ true → row n t p o ≡ refused n p
unfolding row
row_on n p t o e = rw e refl

pub row_off : (n p : ℕ) (t : Bool) (o : Outcome) → t ≡ false → row n t p o ≡ o
unfolding row
row_off n p t o e = rw e refl

-- what comes behind a row
pub split_row : (n : ℕ) (t : Bool) (p m v : ℕ) (o : Outcome) → and_then (row n t p (accepted m v)) o ≡ row n t p o
unfolding row
split_row n true p m v o = refl
split_row n false p m v o = refl

-- ---- the answer

-- what a refusal tells
tells_none : {a b : List ℕ} {e : ComparisonRefused} (o : Outcome) {n p : ℕ} → o ≡ refused n p → Tells a b o (Err e)
tells_none o e = rw e (record { first = holds_zero; second = holds_zero; both = holds_zero; differ = refl; smallest = holds_zero })

-- the words of a number, or of zero where there is none
words_are : {can : Bool} {n : ℕ} (r : Option Natural) → AnswersOf can n r → (can ≡ false → n ≡ 0) → Holds n (words_of r)
words_are (Some x) h z = h.holds x refl
words_are None h z = holds_as (sym (z (sym h.said))) holds_zero

-- the table's whole pairs are in it
pub whole_fits : (table : List ℕ) → whole_pairs table ≤ length table
whole_fits table = omega arith

-- what a refusal of both together says
abbrev pub OfBoth : Refusal → ComparisonRefused → Type 0
OfBoth reason e = (e.refused.reason ≡ reason) × (e.refused.place ≡ 0) × (which_number e.which ≡ 0)

module _ {a b : List ℕ} {x y : Finding Natural} (k : Known a b x y) (table : List ℕ) where
  beside_apart : vars a ≢ vars b → beside_of a b (length table) ≡ refused 31 0
  unfolding beside_of row
  beside_apart ne = simp (ne_eqb (vars a) (vars b) ne)

  beside_alike : vars a ≡ vars b → beside_of a b (length table) ≡ row 32 (ltb (length table / pair_words) (pairs_of a b)) 0 (accepted (pairs_of a b) (vars a))
  unfolding beside_of row
  beside_alike e = simp (eq-eqb (vars a) (vars b) e)

  abbrev left_of : List ℕ
  left_of = cond (eqb (vars a) (vars b)) (replicate (whole_pairs table) 0 ++ drop (whole_pairs table) table) table

  both_refused : {reason : Refusal} → beside_of a b (length table) ≡ refused (number_of reason) 0 → {e : ComparisonRefused} → OfBoth reason e
      → {table' : List ℕ} → table' ≡ left_of → Besides a b table table' (Err e)
  both_refused is h left = record {
    verdict = rw (h.0, h.1) (sym is);
    which = h.2;
    tells = tells_none (beside_of a b (length table)) is;
    table_left_lem = left;
  }

  pub beside_refused : x.extent.vars ≢ y.extent.vars → {e : ComparisonRefused} → OfBoth OtherVariables e → Besides a b table table (Err e)
  beside_refused ne h =
      let apart : vars a ≢ vars b = λ s. ne (k.variables ∙ s ∙ sym k.others) in
      both_refused (beside_apart apart) h
      (sym (cond-false (eqb (vars a) (vars b)) (replicate (whole_pairs table) 0 ++ drop (whole_pairs table) table) table (ne_eqb (vars a) (vars b) apart)))

  module _ (same : x.extent.vars ≡ y.extent.vars) where
    vars_same : vars a ≡ vars b
    vars_same = sym k.variables ∙ same ∙ k.others

    pub beside_asks : Alike a b × (x.extent.vars ≡ vars a)
    beside_asks = (record { first = k.first; second = k.second; variables = vars_same }, k.variables)

    module _ {part : List ℕ} {told : Option Found} (w : Worked a b (length (take (whole_pairs table) table) / pair_words) told × (part ≡ replicate (length (take (whole_pairs table) table)) 0)) where
      long : length (take (whole_pairs table) table) ≡ whole_pairs table
      long = length-take-le (whole_pairs table) table (whole_fits table)

      full_is : is_none told ≡ ltb (length table / pair_words) (pairs_of a b)
      full_is =
          let places : length (take (whole_pairs table) table) / pair_words ≡ length table / pair_words = omega (arith, long) in
          w.0.full ∙ ap (λ (n : ℕ). ltb n (pairs_of a b)) places

      left : part ++ drop (whole_pairs table) table ≡ left_of
      left =
          front_cleared table (whole_pairs table) part (whole_fits table) w.1
          ∙ sym (cond-true (eqb (vars a) (vars b)) (replicate (whole_pairs table) 0 ++ drop (whole_pairs table) table) table (eq-eqb (vars a) (vars b) vars_same))

      pub beside_full : told ≡ None → {e : ComparisonRefused} → OfBoth TooManyPairs e → Besides a b table (part ++ drop (whole_pairs table) table) (Err e)
      beside_full none-told h =
          let is : beside_of a b (length table) ≡ refused 32 0 =
          beside_alike vars_same ∙ row_on 32 0 (ltb (length table / pair_words) (pairs_of a b)) (accepted (pairs_of a b) (vars a)) (sym full_is ∙ ap is_none none-told) in
          both_refused is h left

      module _ {found : Found} (is-told : told ≡ Some found) where
        found_told : Told a b found
        found_told = w.0.told found is-told

        pub beside_shares : (value found.both.words ≤ value x.value.words) × (value found.both.words ≤ value y.value.words)
        beside_shares =
            let both-is = found_told.both.worth in
            let first-is = k.first_count.worth in
            let second-is = k.second_count.worth in
            (omega (arith, first_whole a b), omega (arith, second_whole a b vars_same))

        pub beside_done : {r : Finding Comparison} → Differences x.value.words y.value.words x.extent.vars found r
            → Besides a b table (part ++ drop (whole_pairs table) table) (Ok r)
        beside_done {r} d =
            let is : beside_of a b (length table) ≡ accepted (pairs_of a b) (vars a) =
            beside_alike vars_same ∙ row_off 32 0 (ltb (length table / pair_words) (pairs_of a b)) (accepted (pairs_of a b) (vars a)) (sym full_is ∙ ap is_none is-told) in
            record {
              verdict = rw (d.pairs, d.variables, found_told.pairs, k.variables) (sym is);
              which = refl;
              tells = rw is tells_all;
              table_left_lem = left;
            }
          where
            tells_all : Tells a b (accepted (pairs_of a b) (vars a)) (Ok r)
            tells_all =
                let both-is = found_told.both.worth in
                let first-is = k.first_count.worth in
                let second-is = k.second_count.worth in
                let first = first_whole a b in
                let second = second_whole a b vars_same in
                record {
                  first = holds_as (omega arith) d.first;
                  second = holds_as (omega arith) d.second;
                  both = rw d.both found_told.both;
                  differ = rw d.smallest found_told.smallest.said;
                  smallest = rw d.smallest (words_are found.smallest found_told.smallest (cond-false (any_differ a b) (numeral (least (vars a) (differ a b))) 0));
                }

-- ---- the two checks

ok_once : {A D : Type 0} {x y : A} → ◌≡◌ {A = Result A D} (Ok x) (Ok y) → x ≡ y
ok_once e = cc

-- where another error is made of one: what there is stays, and the error is made of one that was there
pub mapped_ok : {A E D : Type 0} (Q : E → D → Type 0) (r : Result A E) {s : Result A D} → MatchResult r (λ y. s ≡ Ok y) (λ e. IsErrAnd s (Q e)) → {x : A} → s ≡ Ok x
    → r ≡ Ok x
mapped_ok Q (Ok y) m {x} e = let same : y ≡ x = ok_once (sym m ∙ e) in ap Ok same
mapped_ok Q (Err y) m e = absurd (rw e at m)

pub mapped_err : {A E D : Type 0} (Q : E → D → Type 0) (r : Result A E) {s : Result A D} → MatchResult r (λ y. s ≡ Ok y) (λ e. IsErrAnd s (Q e)) → {f : D} → s ≡ Err f
    → (e : E) × (r ≡ Err e) × Q e f
mapped_err Q (Ok y) m e = absurd (true≢false (ap is_ok (sym m ∙ e)))
mapped_err Q (Err y) m e = (y, refl, rw e at m)

sides : (m v : ℕ) (t : Bool) (x y : List ℕ) → cond t x y ≡ if_accepted (row 31 (not t) 0 (accepted m v)) x y
unfolding row
sides m v true x y = refl
sides m v false x y = refl

module _ (a b room table : List ℕ) where
  compare_from : (o : Outcome) → alike_of a b (length room) ≡ o
      → compare_of a b (length room) (length table) ≡ and_then o (row 32 (ltb (length table / pair_words) (pairs_of a b)) 0 (accepted (pairs_of a b) (vars a)))
  unfolding compare_of
  compare_from o e = ap (λ (s : Outcome). and_then s (row 32 (ltb (length table / pair_words) (pairs_of a b)) 0 (accepted (pairs_of a b) (vars a)))) e

  module _ {room' : List ℕ} (r : Result (Finding Natural) Refused) (c : Counts a (count_of a) room room' (verdict_in r) (words_in r)) where
    module _ {x : Refused} (e : r ≡ Err x) where
      first_says : verdict_of a NoOutput (length room) ≡ said (Err x)
      first_says = refusal_is c.checked (ap verdict_in e)

      first_alike : alike_of a b (length room) ≡ said (Err x)
      unfolding alike_of
      first_alike = rw first_says refl

      pub first_refused : {f : ComparisonRefused} → f ≡ record { refused = x; which = First } → Compare a b room room' table table (Err f)
      first_refused {f} k = record {
        verdict = rw k (sym (compare_from (said (Err x)) first_alike));
        which = rw (k, first_says) refl;
        tells = tells_none (compare_of a b (length room) (length table)) (compare_from (said (Err x)) first_alike);
        room_left_lem = c.checked.left ∙ rw first_says refl;
        table_left_lem = rw first_alike refl;
      }

    module _ {x : Finding Natural} (e : r ≡ Ok x) {room'' : List ℕ} (s : Result (Finding Natural) Refused) (d : Counts b (count_of b) room' room'' (verdict_in s) (words_in s)) (kept : length room' ≡ length room) where
      first_accepts : verdict_of a NoOutput (length room) ≡ said (Ok x.extent)
      first_accepts = verdict_is c.checked (ap verdict_in e)

      left_is : room'' ≡ room_left a b room
      left_is = d.checked.left ∙ rw c.checked.left (rw first_accepts refl)

      module _ {y : Refused} (f : s ≡ Err y) where
        second_says : verdict_of b NoOutput (length room) ≡ said (Err y)
        second_says = ap (verdict_of b NoOutput) (sym kept) ∙ refusal_is d.checked (ap verdict_in f)

        second_alike : alike_of a b (length room) ≡ said (Err y)
        unfolding alike_of
        second_alike = rw (first_accepts, second_says) refl

        pub second_refused : {g : ComparisonRefused} → g ≡ record { refused = y; which = Second } → Compare a b room room'' table table (Err g)
        second_refused {g} k = record {
          verdict = rw k (sym (compare_from (said (Err y)) second_alike));
          which = rw (k, first_accepts, second_says) refl;
          tells = tells_none (compare_of a b (length room) (length table)) (compare_from (said (Err y)) second_alike);
          room_left_lem = left_is;
          table_left_lem = rw second_alike refl;
        }

      module _ {y : Finding Natural} (f : s ≡ Ok y) where
        second_accepts : verdict_of b NoOutput (length room) ≡ said (Ok y.extent)
        second_accepts = ap (verdict_of b NoOutput) (sym kept) ∙ verdict_is d.checked (ap verdict_in f)

        both_alike : alike_of a b (length room) ≡ row 31 (not (eqb (vars a) (vars b))) 0 (accepted (pairs_of a b) (vars a))
        unfolding alike_of
        both_alike = rw (first_accepts, second_accepts) refl

        both_verdict : compare_of a b (length room) (length table) ≡ beside_of a b (length table)
        unfolding beside_of
        both_verdict =
            compare_from (row 31 (not (eqb (vars a) (vars b))) 0 (accepted (pairs_of a b) (vars a))) both_alike
            ∙ split_row 31 (not (eqb (vars a) (vars b))) 0 (pairs_of a b) (vars a) (row 32 (ltb (length table / pair_words) (pairs_of a b)) 0 (accepted (pairs_of a b) (vars a)))

        pub both_known : Known a b x y
        both_known =
            let ea = ap verdict_in e in
            let eb = ap verdict_in f in
            record {
              first = ordered c.checked ea;
              second = ordered d.checked eb;
              variables = (admitted c.checked ea).variables;
              others = (admitted d.checked eb).variables;
              first_count = holds_as (when_accepted c.checked ea (count_of a) 0) (rw e at c.counted);
              second_count = holds_as (when_accepted d.checked eb (count_of b) 0) (rw f at d.counted);
            }

        pub compare_done : {table' : List ℕ} {result : Compared} → Besides a b table table' result → Compare a b room room'' table table' result
        compare_done {table'} k = record {
          verdict = k.verdict ∙ sym both_verdict;
          which = k.which ∙ rw (first_accepts, second_accepts) refl;
          tells = rw both_verdict k.tells;
          room_left_lem = left_is;
          table_left_lem = k.table_left_lem ∙ rw both_alike (sides (pairs_of a b) (vars a) (eqb (vars a) (vars b)) (replicate (whole_pairs table) 0 ++ drop (whole_pairs table) table) table);
        }
