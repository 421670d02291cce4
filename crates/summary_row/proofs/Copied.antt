-- The lists that the two loops pass through, with nothing of the logic in it.
--     blank            a record to name where a list is too short
--     taken rs ws i    the words ws once the first i of the records rs stand in them, by the stores that `take` makes
--     given ws rs i    the records rs once the first i are made of the words ws, by the stores that `give` makes
--     length_words                  two words for each record
--     taken_length, given_length    no store changes a length
--     taken_is, given_is            what the contracts say of the list at the end
use mathlib.Core.Path.{◌≡◌, refl, sym, ◌∙◌, ap}
use Prim.Native.Nat.{ℕ, zero, suc, ◌+◌, ◌*◌, ◌≤◌, ◌<◌}
use native.Mathlib.Nat.{not-suc-le-zero, le_of_suc-le-suc}
use native.Mathlib.Numerals.{add-one}
use native.Mathlib.Omega.{arith}
use mathlib.Core.List.{List, [], ◌∷◌, ◌++◌}
use lib.ListN.{length, get_or, set, take, drop, length-set}
use Rattle.summary_row.specs.declared.Signal.{Signal}
use Rattle.summary_row.specs.Row.{words_of}

abbrev pub blank : Signal
blank = record { nodes = 0; slots = 0 }

-- ---- a list whose first k elements are another's
abbrev front : ℕ → List ℕ → List ℕ → List ℕ
front k xs ys = take k xs ++ drop k ys

-- one element more
front_suc : (k : ℕ) (xs ys : List ℕ) → k < length xs → k < length ys → set (front k xs ys) k (get_or xs k 0) ≡ front (suc k) xs ys
front_suc k [] ys l m = absurd (not-suc-le-zero l)
front_suc k (x ∷ xs) [] l m = absurd (not-suc-le-zero m)
front_suc zero (x ∷ xs) (y ∷ ys) l m = refl
front_suc (suc k) (x ∷ xs) (y ∷ ys) l m = ap {B = List ℕ} (λ r. x ∷ r) (front_suc k xs ys (le_of_suc-le-suc l) (le_of_suc-le-suc m))

-- two elements more: what one turn adds
front_two : (i : ℕ) (xs ys : List ℕ) → 2 * i + 1 < length xs → 2 * i + 1 < length ys
    → set (set (front (2 * i) xs ys) (2 * i) (get_or xs (2 * i) 0)) (2 * i + 1) (get_or xs (2 * i + 1) 0) ≡ front (2 * suc i) xs ys
front_two i xs ys l m =
    ap (λ (c : List ℕ). set c (2 * i + 1) (get_or xs (2 * i + 1) 0)) (front_suc (2 * i) xs ys (omega arith) (omega arith) ∙ ap (λ (k : ℕ). front k xs ys) (sym (add-one (2 * i)))) ∙
    front_suc (2 * i + 1) xs ys l m ∙ ap (λ (k : ℕ). front k xs ys) twice
  where
    twice : suc (2 * i + 1) ≡ 2 * suc i
    twice = omega arith

-- ---- the words of a row
pub length_words : (rs : List Signal) → length (words_of rs) ≡ 2 * length rs
unfolding words_of
length_words [] = refl
length_words (r ∷ rs) = ap (λ (k : ℕ). suc (suc k)) (length_words rs) ∙ omega arith

even_suc : (i : ℕ) → 2 * suc i ≡ suc (suc (2 * i))
even_suc i = omega arith

odd_suc : (i : ℕ) → 2 * suc i + 1 ≡ suc (suc (2 * i + 1))
odd_suc i = omega arith

words_nodes : (rs : List Signal) (i : ℕ) → i < length rs → get_or (words_of rs) (2 * i) 0 ≡ (get_or rs i blank).nodes
unfolding words_of
words_nodes [] i l = absurd (not-suc-le-zero l)
words_nodes (r ∷ rs) zero l = refl
words_nodes (r ∷ rs) (suc i) l = ap (λ (k : ℕ). get_or (words_of (r ∷ rs)) k 0) (even_suc i) ∙ words_nodes rs i (le_of_suc-le-suc l)

words_slots : (rs : List Signal) (i : ℕ) → i < length rs → get_or (words_of rs) (2 * i + 1) 0 ≡ (get_or rs i blank).slots
unfolding words_of
words_slots [] i l = absurd (not-suc-le-zero l)
words_slots (r ∷ rs) zero l = refl
words_slots (r ∷ rs) (suc i) l = ap (λ (k : ℕ). get_or (words_of (r ∷ rs)) k 0) (odd_suc i) ∙ words_slots rs i (le_of_suc-le-suc l)

-- a record put into a row is two words put into its words
words_set : (rs : List Signal) (i : ℕ) (s : Signal) → i < length rs → words_of (set rs i s) ≡ set (set (words_of rs) (2 * i) s.nodes) (2 * i + 1) s.slots
unfolding words_of
words_set [] i s l = absurd (not-suc-le-zero l)
words_set (r ∷ rs) zero s l = refl
words_set (r ∷ rs) (suc i) s l =
    ap {B = List ℕ} (λ ws. r.nodes ∷ r.slots ∷ ws) (words_set rs i s (le_of_suc-le-suc l)) ∙
    ap (λ (k : ℕ). set (set (words_of (r ∷ rs)) (suc (suc (2 * i))) s.nodes) k s.slots) (sym (odd_suc i)) ∙
    ap (λ (k : ℕ). set (set (words_of (r ∷ rs)) k s.nodes) (2 * suc i + 1) s.slots) (sym (even_suc i))

-- ---- records to words
abbrev pub taken : List Signal → List ℕ → ℕ → List ℕ
taken rs ws zero = ws
taken rs ws (suc i) = set (set (taken rs ws i) (2 * i) (get_or rs i blank).nodes) (2 * i + 1) (get_or rs i blank).slots

pub taken_length : (rs : List Signal) (ws : List ℕ) (i : ℕ) → length (taken rs ws i) ≡ length ws
taken_length rs ws zero = refl
taken_length rs ws (suc i) =
    length-set (set (taken rs ws i) (2 * i) (get_or rs i blank).nodes) (2 * i + 1) (get_or rs i blank).slots ∙ length-set (taken rs ws i) (2 * i) (get_or rs i blank).nodes ∙ taken_length rs ws i

pub taken_is : (rs : List Signal) (ws : List ℕ) (i : ℕ) → i ≤ length rs → 2 * i ≤ length ws → taken rs ws i ≡ take (2 * i) (words_of rs) ++ drop (2 * i) ws
taken_is rs ws zero l m = refl
taken_is rs ws (suc i) l m =
    ap (λ (c : List ℕ). set (set c (2 * i) (get_or rs i blank).nodes) (2 * i + 1) (get_or rs i blank).slots) (taken_is rs ws i (omega arith) (omega arith)) ∙
    ap (λ (x : ℕ). set (set (front (2 * i) (words_of rs) ws) (2 * i) x) (2 * i + 1) (get_or rs i blank).slots) (sym (words_nodes rs i l)) ∙
    ap (λ (x : ℕ). set (set (front (2 * i) (words_of rs) ws) (2 * i) (get_or (words_of rs) (2 * i) 0)) (2 * i + 1) x) (sym (words_slots rs i l)) ∙
    front_two i (words_of rs) ws (omega (arith, length_words rs)) (omega arith)

-- ---- words to records
abbrev pub made : List ℕ → ℕ → Signal
made ws i = record { nodes = get_or ws (2 * i) 0; slots = get_or ws (2 * i + 1) 0 }

abbrev pub given : List ℕ → List Signal → ℕ → List Signal
given ws rs zero = rs
given ws rs (suc i) = set (given ws rs i) i (made ws i)

pub given_length : (ws : List ℕ) (rs : List Signal) (i : ℕ) → length (given ws rs i) ≡ length rs
given_length ws rs zero = refl
given_length ws rs (suc i) = length-set (given ws rs i) i (made ws i) ∙ given_length ws rs i

pub given_is : (ws : List ℕ) (rs : List Signal) (i : ℕ) → i ≤ length rs → 2 * i ≤ length ws → words_of (given ws rs i) ≡ take (2 * i) ws ++ drop (2 * i) (words_of rs)
given_is ws rs zero l m = refl
given_is ws rs (suc i) l m =
    words_set (given ws rs i) i (made ws i) (omega (arith, given_length ws rs i)) ∙
    ap (λ (c : List ℕ). set (set c (2 * i) (get_or ws (2 * i) 0)) (2 * i + 1) (get_or ws (2 * i + 1) 0)) (given_is ws rs i (omega arith) (omega arith)) ∙
    front_two i ws (words_of rs) (omega arith) (omega (arith, length_words rs))
