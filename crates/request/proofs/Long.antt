-- A word that is longer than the program's buffer for it means what an empty one means.
use Prim.Native.Nat.{ℕ, ◌-◌, ◌≤◌, ◌<◌, ◌^◌}
use mathlib.Core.Path.{◌≡◌, refl, sym}
use mathlib.Core.Bool.{Bool, true, false}
use mathlib.Core.List.{List, []}
use mathlib.Core.Logic.{◌≢◌}
use native.Mathlib.Omega.{arith}
use lib.ListN.{length}
use Rattle.naturals.specs.Natural.{limit}
use Rattle.writing.specs.Writing.{bytes}
use Rattle.text.specs.Digits.{decimal, hexadecimal, Reading, number, none, padded, parsed, Exactly}
use Rattle.text.proofs.Numerals.{decimal_length, hexadecimal_length, decimal_exactly, natural_exactly, hexadecimal_exactly}
use Rattle.request.specs.Request.{alike, unknown, aimed, directed, request_of, form_of, words_of, weighable, word_buffer, Buffered}
use Rattle.request.proofs.Alike.{unlike_lengths}

-- ---- a number

no_number : (r : Reading) → ((n : ℕ) → r ≢ number n) → r ≡ none
no_number (number n) h = absurd (h n refl)
no_number none h = refl

module _ (text : List ℕ) (long : word_buffer < length text) where
  -- Every text that is parsed is one that is printed, and those have few digits.
  none_long : (base bound : ℕ) (printed : ℕ → List ℕ) → Exactly base bound printed → ((n : ℕ) → length (printed n) ≤ word_buffer) → parsed base bound text ≡ none
  none_long base bound printed only short =
      no_number (parsed base bound text)
      (λ n e. (let f : length text ≡ length (printed n) = rw (only.only text n e).0 refl in absurd (omega (arith, short n))))

  no_size : parsed 10 (2 ^ 32) text ≡ none
  no_size = none_long 10 (2 ^ 32) decimal decimal_exactly decimal_length

  no_cases : parsed 10 limit text ≡ none
  no_cases = none_long 10 limit decimal natural_exactly decimal_length

  no_hex : parsed 16 limit text ≡ none
  no_hex = none_long 16 limit hexadecimal hexadecimal_exactly (λ n. omega (arith, hexadecimal_length n))

nothing : (base bound : ℕ) → parsed base bound [] ≡ none
unfolding parsed padded
nothing base bound = refl

aimed_long : (keep as_is : Bool) (kind text : List ℕ) → word_buffer < length text → aimed keep as_is kind text ≡ aimed keep as_is kind []
unfolding aimed
aimed_long keep as_is kind text h = rw (no_size text h, no_cases text h, no_hex text h, nothing 10 (2 ^ 32), nothing 10 limit, nothing 16 limit) refl

-- ---- another word

module _ (word : List ℕ) (long : word_buffer < length word) where
  unlike : (known : List ℕ) → length known ≤ word_buffer → alike word known ≡ false
  unlike known h = sym (unlike_lengths word known (λ e. absurd (omega arith)))

  kind_unknown : (keep as_is : Bool) (text : List ℕ) → aimed keep as_is word text ≡ unknown
  unfolding aimed
  kind_unknown keep as_is text =
      rw (unlike (bytes "size") (omega arith), unlike (bytes "cases") (omega arith), unlike (bytes "hex") (omega arith), unlike (bytes "count") (omega arith)) refl

empty_unknown : (keep as_is : Bool) (text : List ℕ) → aimed keep as_is [] text ≡ unknown
unfolding aimed alike
empty_unknown keep as_is text = refl

module _ (as_is : Bool) where
  direction_same : (direction kind text : List ℕ) → word_buffer < length direction → directed as_is direction kind text ≡ directed as_is [] kind text
  unfolding directed alike
  direction_same direction kind text h = rw (unlike direction h (bytes "keep") (omega arith), unlike direction h (bytes "suppress") (omega arith)) refl

  kind_same : (direction kind text : List ℕ) → word_buffer < length kind → directed as_is direction kind text ≡ directed as_is direction [] text
  unfolding directed
  kind_same direction kind text h =
      rw (kind_unknown kind h true as_is text, kind_unknown kind h false as_is text, empty_unknown true as_is text, empty_unknown false as_is text) refl

  number_same : (direction kind text : List ℕ) → word_buffer < length text → directed as_is direction kind text ≡ directed as_is direction kind []
  unfolding directed
  number_same direction kind text h = rw (aimed_long true as_is kind text h, aimed_long false as_is kind text h) refl

module _ (count : ℕ) (direction kind text flag : List ℕ) where
  direction_long : word_buffer < length direction → request_of count direction kind text flag ≡ request_of count [] kind text flag
  unfolding request_of
  direction_long h = rw (direction_same true direction kind text h, direction_same false direction kind text h) refl

  kind_long : word_buffer < length kind → request_of count direction kind text flag ≡ request_of count direction [] text flag
  unfolding request_of
  kind_long h = rw (kind_same true direction kind text h, kind_same false direction kind text h) refl

  number_long : word_buffer < length text → request_of count direction kind text flag ≡ request_of count direction kind [] flag
  unfolding request_of
  number_long h = rw (number_same true direction kind text h, number_same false direction kind text h) refl

  flag_long : word_buffer < length flag → request_of count direction kind text flag ≡ request_of count direction kind text []
  unfolding request_of alike
  flag_long h = rw (unlike flag h (bytes "as-is") (omega arith)) refl

-- ---- with `nodes` in front, and without

module _ (count : ℕ) (a b c d e : List ℕ) where
  first_long : word_buffer < length a → words_of count a b c d e ≡ words_of count [] b c d e
  unfolding words_of alike
  first_long h = rw (unlike a h (bytes "nodes") (omega arith)) (direction_long count a b c d h)

  second_long : word_buffer < length b → words_of count a b c d e ≡ words_of count a [] c d e
  unfolding words_of
  second_long h = rw (direction_long (count - 1) b c d e h, kind_long count a b c d h) refl

  third_long : word_buffer < length c → words_of count a b c d e ≡ words_of count a b [] d e
  unfolding words_of
  third_long h = rw (kind_long (count - 1) b c d e h, number_long count a b c d h) refl

  fourth_long : word_buffer < length d → words_of count a b c d e ≡ words_of count a b c [] e
  unfolding words_of
  fourth_long h = rw (number_long (count - 1) b c d e h, flag_long count a b c d h) refl

  fifth_long : word_buffer < length e → words_of count a b c d e ≡ words_of count a b c d []
  unfolding words_of
  fifth_long h = rw (flag_long (count - 1) b c d e h) refl

module _ (first : List ℕ) (h : word_buffer < length first) where
  form_long : form_of first ≡ form_of []
  unfolding form_of alike
  form_long = rw (unlike first h (bytes "nodes") (omega arith)) refl

  weigh_long : (count : ℕ) → weighable count first ≡ weighable count []
  unfolding weighable alike
  weigh_long count = rw (unlike first h (bytes "nodes") (omega arith)) refl

pub buffered : Buffered
buffered =
    record {
      first_long = first_long;
      second_long = second_long;
      third_long = third_long;
      fourth_long = fourth_long;
      fifth_long = fifth_long;
      form_long = form_long;
      weigh_long = λ count first h. weigh_long first h count;
    }
