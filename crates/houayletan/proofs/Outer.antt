-- What is concluded once the calls have returned, of lists alone: no walk is in it.
--     array_words       the words of the array, those of the longest summary
--     few_rows, few_words, in_array    the records that are copied are in the row, and their words in the array
--     added_few, dropped_few, summed_few       how many records have changed
--     worded           what the inner functions ensure
--     concludes, concludes_drop, concludes_sum     what the exported function ensures, from what `take`, the inner function and `give` ensure, and the lengths
use mathlib.Core.Path.{◌≡◌, refl, sym, ap, ◌∙◌, subst}
use Prim.Native.Nat.{ℕ, min, ◌*◌, ◌≤◌}
use native.Mathlib.Omega.{arith}
use mathlib.Core.List.{List, ◌++◌}
use lib.ListN.{length, take, drop, replicate, length-replicate}
use lib.Seq.{length-take-le, take_at}
use Rattle.diagram.specs.Limits.{max_variables}
use Rattle.diagram.specs.Verdict.{Verdict, Outcome, accepted, refused, said}
use Rattle.summary.specs.Summary.{record_words}
use Rattle.summary.specs.Kept.{AddsBeside, DropsBeside, Summarizes}
use Rattle.summary.proofs.Fronts.{variables_of, few_by_add, few_by_drop, few_by_sum, add_whole, drop_whole, sum_whole}
use Rattle.summary_row.specs.Row.{words_of}
use Rattle.summary_row.specs.declared.Signal.{Signal}
use Rattle.summary_row.proofs.Copied.{length_words}
use Rattle.flat.specs.Flat.{flat_of, Flat}
use Rattle.houayletan.specs.Beside.{Tells, Worded}
use Rattle.flat.specs.declared.HouayletanVerdict.{HouayletanVerdict}
use Rattle.houayletan.specs.declared.pooling.Told.{Told}

abbrev pub array_words : ℕ
array_words = record_words * max_variables

pub few_rows : (l n : ℕ) → n ≡ min l max_variables → n ≤ l
few_rows l n e = omega arith

pub few_words : (l n : ℕ) → n ≡ min l max_variables → record_words * n ≤ array_words
few_words l n e = omega arith

-- the words of no more records than are copied are in the array
pub in_array : (c n l : ℕ) → c ≤ n → record_words * n ≤ array_words → l ≡ array_words → record_words * c ≤ l
in_array c n l few most e = omega arith

-- ---- what all three share

flat_vars : (o : Outcome) → (flat_of o).vars ≡ variables_of o
flat_vars (accepted n v) = refl
flat_vars (refused number place) = refl

-- the records that have changed are those of the variables
told_vars : {n : ℕ} {promise : List ℕ → List ℕ → Verdict → Type 0} {z z' : List ℕ} {r : Told} (i : Worded n promise z z' r)
    → r.records ≡ variables_of (said i.kept.verdict)
told_vars i = i.records ∙ ap (λ (v : HouayletanVerdict). v.vars) i.kept.flat ∙ flat_vars (said i.kept.verdict)

-- what the inner function is given is the words of the first records
taken_front : (xs : List Signal) (n : ℕ) (z₀ z₁ : List ℕ) → n ≡ min (length xs) max_variables
    → z₁ ≡ take (record_words * n) (words_of xs) ++ drop (record_words * n) z₀ → take (record_words * n) z₁ ≡ take (record_words * n) (words_of xs)
taken_front xs n z₀ z₁ en e₁ =
    let long = length_words xs in
    ap (take (record_words * n)) e₁
    ∙ take_at (take (record_words * n) (words_of xs)) (drop (record_words * n) z₀) (record_words * n) (length-take-le (record_words * n) (words_of xs) (omega arith))

-- ---- `houayletan_pool_add_4`
pub added_few : (t s z : List ℕ) (n : ℕ) (w : List ℕ) (k : ℕ) (t' s' z' m m' : List ℕ) (r : Told) → record_words * n ≤ length z
    → Worded n (λ kept kept'. AddsBeside t s kept w k t' s' kept' m m') z z' r → r.records ≤ n
added_few t s z n w k t' s' z' m m' r fits i =
    let l = length-take-le (record_words * n) z fits in
    rw (told_vars i) (few_by_add t s (take (record_words * n) z) n (omega arith) w k t' s' (take (record_words * n) z') m m' i.kept.verdict i.kept.kept)

pub concludes : (t s : List ℕ) (xs : List Signal) (w : List ℕ) (k : ℕ) (m : List ℕ) (z₀ : List ℕ) (n : ℕ) (z₁ : List ℕ) (r : Told) (t' s' z₂ m' : List ℕ) (xs' : List Signal)
    → z₀ ≡ replicate array_words 0 → n ≡ min (length xs) max_variables
    → z₁ ≡ take (record_words * n) (words_of xs) ++ drop (record_words * n) z₀ → length z₁ ≡ length z₀
    → Worded n (λ kept kept'. AddsBeside t s kept w k t' s' kept' m m') z₁ z₂ r → length t' ≡ length t → length s' ≡ length s → length z₂ ≡ length z₁ → length m' ≡ length m
    → words_of xs' ≡ take (record_words * r.records) z₂ ++ drop (record_words * r.records) (words_of xs) → length xs' ≡ length xs
    → Flat (AddsBeside t s (words_of xs) w k t' s' (words_of xs') m m') r.verdict
concludes t s xs w k m z₀ n z₁ r t' s' z₂ m' xs' e₀ en e₁ l₁ i lt ls l₂ lm e₂ lx = record {
  verdict = i.kept.verdict;
  kept = add_whole t s (words_of xs) (take (record_words * n) z₁) (length xs) n (length_words xs) en z₂ r.records (words_of xs') e₂
      i.kept.verdict (told_vars i) (taken_front xs n z₀ z₁ en e₁) w k t' s' m m' i.kept.kept;
  flat = i.kept.flat;
}

-- ---- `houayletan_pool_drop_4`
pub dropped_few : (t s z : List ℕ) (n k : ℕ) (t' s' z' : List ℕ) (r : Told) → record_words * n ≤ length z
    → Worded n (λ kept kept'. DropsBeside t s kept k t' s' kept') z z' r → r.records ≤ n
dropped_few t s z n k t' s' z' r fits i =
    let l = length-take-le (record_words * n) z fits in
    rw (told_vars i) (few_by_drop t s (take (record_words * n) z) n (omega arith) k t' s' (take (record_words * n) z') i.kept.verdict i.kept.kept)

pub concludes_drop : (t s : List ℕ) (xs : List Signal) (k : ℕ) (z₀ : List ℕ) (n : ℕ) (z₁ : List ℕ) (r : Told) (t' s' z₂ : List ℕ) (xs' : List Signal)
    → z₀ ≡ replicate array_words 0 → n ≡ min (length xs) max_variables
    → z₁ ≡ take (record_words * n) (words_of xs) ++ drop (record_words * n) z₀ → length z₁ ≡ length z₀
    → Worded n (λ kept kept'. DropsBeside t s kept k t' s' kept') z₁ z₂ r → length t' ≡ length t → length s' ≡ length s → length z₂ ≡ length z₁
    → words_of xs' ≡ take (record_words * r.records) z₂ ++ drop (record_words * r.records) (words_of xs) → length xs' ≡ length xs
    → Flat (DropsBeside t s (words_of xs) k t' s' (words_of xs')) r.verdict
concludes_drop t s xs k z₀ n z₁ r t' s' z₂ xs' e₀ en e₁ l₁ i lt ls l₂ e₂ lx = record {
  verdict = i.kept.verdict;
  kept = drop_whole t s (words_of xs) (take (record_words * n) z₁) (length xs) n (length_words xs) en z₂ r.records (words_of xs') e₂
      i.kept.verdict (told_vars i) (taken_front xs n z₀ z₁ en e₁) k t' s' i.kept.kept;
  flat = i.kept.flat;
}

-- ---- `houayletan_pool_summarize_3`
pub summed_few : (t s z : List ℕ) (n : ℕ) (z' : List ℕ) (r : Told) → record_words * n ≤ length z → Worded n (Summarizes t s) z z' r → r.records ≤ n
summed_few t s z n z' r fits i =
    let l = length-take-le (record_words * n) z fits in
    rw (told_vars i) (few_by_sum t s (take (record_words * n) z) n (omega arith) (take (record_words * n) z') i.kept.verdict i.kept.kept)

pub concludes_sum : (t s : List ℕ) (xs : List Signal) (z₀ : List ℕ) (n : ℕ) (r : Told) (z₂ : List ℕ) (xs' : List Signal)
    → z₀ ≡ replicate array_words 0 → n ≡ min (length xs) max_variables
    → Worded n (Summarizes t s) z₀ z₂ r → length z₂ ≡ length z₀
    → words_of xs' ≡ take (record_words * r.records) z₂ ++ drop (record_words * r.records) (words_of xs) → length xs' ≡ length xs
    → Flat (Summarizes t s (words_of xs) (words_of xs')) r.verdict
concludes_sum t s xs z₀ n r z₂ xs' e₀ en i l₂ e₂ lx = record {
  verdict = i.kept.verdict;
  kept = sum_whole t s (words_of xs) (take (record_words * n) z₀) (length xs) n (length_words xs) en z₂ r.records (words_of xs') e₂
      i.kept.verdict (told_vars i) (length-take-le (record_words * n) z₀ (in_array n n (length z₀) (omega arith) (few_words (length xs) n en) long)) i.kept.kept;
  flat = i.kept.flat;
}
  where
    long : length z₀ ≡ array_words
    long = ap (λ (l : List ℕ). length l) e₀ ∙ length-replicate {A = ℕ} array_words 0

-- ---- the inner functions: a part of the array is lent, and comes back
pub worded : {promise : List ℕ → List ℕ → Verdict → Type 0} (count : ℕ) (words part : List ℕ) → record_words * count ≤ length words
    → length part ≡ length (take (record_words * count) words) → {v : Verdict} → promise (take (record_words * count) words) part v
    → {r : Told} → Tells v r → Worded count promise words (part ++ drop (record_words * count) words) r
worded {promise} count words part long same {v} kept {r} tells = record {
  kept = record {
    verdict = v;
    kept = subst (λ (l : List ℕ). promise (take (record_words * count) words) l v)
        (sym (take_at part (drop (record_words * count) words) (record_words * count) (same ∙ length-take-le (record_words * count) words long))) kept;
    flat = tells.flat;
  };
  records = tells.records;
}
