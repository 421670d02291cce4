-- Numbers in lines of text.
use Prim.Native.Nat.{ℕ, zero, suc, ◌+◌, ◌-◌, ◌*◌, ◌%◌, ◌≤◌, ◌<◌}
use mathlib.Core.Path.{◌≡◌, refl, sym, ap, ◌∙◌}
use mathlib.Core.Bool.{true, false}
use mathlib.Core.List.{List, [], ◌∷◌, ◌++◌, append-nil, append_assoc}
use native.Mathlib.Omega.{arith}
use native.Mathlib.Numerals.{add-one}
use native.Mathlib.Nat.{sub-zero}
use lib.ListN.{length, get_or, set, take, drop, length-set, take-append-drop, drop_of_length-le}
use lib.Seq.{drop-cons, drop-drop, take-suc-set, drop-set-lt, length-take-le}
use lib.Dec.{eqb}
use borrow.Author.Tests.{lt-ltb, le-ltb, eq-eqb, ne_eqb}
use Rattle.std.specs.Char.{is_ascii_digit}
use Rattle.cases.specs.Lines.{is_digit, with_digit, number_in, span_of, number_at, after, line_ends, numbers_in, end_of, Reads}

-- ---- one digit

pub digit_same : (byte : ℕ) → is_ascii_digit byte ≡ is_digit byte
unfolding is_digit
digit_same byte = refl

pub digit_added : (value byte : ℕ) → ((value * 10 + byte) % 4294967296 < 4294967296) × ((value * 10 + byte) % 4294967296 ≡ with_digit value byte)
unfolding with_digit
digit_added value byte = (omega arith, refl)

-- ---- one number

module _ (text : List ℕ) where
  digit_more : (at value : ℕ) → at < length text → is_digit (get_or text at 0) ≡ true
      → (number_in (drop at text) value ≡ number_in (drop (suc at) text) (with_digit value (get_or text at 0 % 16))) × (span_of (drop at text) ≡ suc (span_of (drop (suc at) text)))
  unfolding number_in span_of
  digit_more at value h d = (
    ap (λ (l : List ℕ). number_in l value) (drop-cons text at 0 h) ∙ rw d refl,
    ap (λ (l : List ℕ). span_of l) (drop-cons text at 0 h) ∙ rw d refl,
  )

  digit_none : (at value : ℕ) → at < length text → is_digit (get_or text at 0) ≡ false → (number_in (drop at text) value ≡ value) × (span_of (drop at text) ≡ 1)
  unfolding number_in span_of
  digit_none at value h d = (
    ap (λ (l : List ℕ). number_in l value) (drop-cons text at 0 h) ∙ rw d refl,
    ap (λ (l : List ℕ). span_of l) (drop-cons text at 0 h) ∙ rw d refl,
  )

  text_none : (at value : ℕ) → length text ≤ at → (number_in (drop at text) value ≡ value) × (span_of (drop at text) ≡ 0)
  unfolding number_in span_of
  text_none at value h = (
    ap (λ (l : List ℕ). number_in l value) (drop_of_length-le text {i = at} h),
    ap (λ (l : List ℕ). span_of l) (drop_of_length-le text {i = at} h),
  )

  -- so far there were digits
  pub record Digits (from value at : ℕ) : Type 0 where
    pub low : from ≤ at
    pub high : at ≤ length text
    pub small : value < 4294967296
    pub begun : from < length text
    pub number : number_in (drop at text) value ≡ number_at text from
    pub end : at + span_of (drop at text) ≡ after text from

  pub digits_begin : (from : ℕ) → from < length text → Digits from 0 from
  digits_begin from h = record { low = omega arith; high = omega arith; small = omega arith; begun = h; number = refl; end = refl }

  module _ {from value at : ℕ} (d : Digits from value at) where
    pub digits_on : at < length text → is_digit (get_or text at 0) ≡ true → {next : ℕ} → next < 4294967296 → next ≡ with_digit value (get_or text at 0 % 16) → Digits from next (at + 1)
    digits_on h e {next} small is =
        let more = digit_more at value h e in
        let low = d.low in
        let end = d.end in
        let span = more.1 in
        record {
          low = omega arith;
          high = omega arith;
          small = small;
          begun = d.begun;
          number = ap (λ (i : ℕ). number_in (drop i text) next) (add-one at) ∙ ap (λ (v : ℕ). number_in (drop (suc at) text) v) is ∙ sym more.0 ∙ d.number;
          end = rw (add-one at) (omega arith);
        }

    pub digits_stop : at < length text → is_digit (get_or text at 0) ≡ false
        → (from < at + 1) × (at + 1 ≤ length text) × (value ≡ number_at text from) × (at + 1 ≡ after text from)
    digits_stop h e =
        let none = digit_none at value h e in
        let low = d.low in
        let end = d.end in
        let span = none.1 in
        (omega arith, omega arith, sym none.0 ∙ d.number, omega arith)

    pub digits_end : length text ≤ at → (from < length text) × (length text ≤ length text) × (value ≡ number_at text from) × (length text ≡ after text from)
    digits_end h =
        let none = text_none at value h in
        let high = d.high in
        let end = d.end in
        let span = none.1 in
        (d.begun, omega arith, sym none.0 ∙ d.number, omega arith)

-- ---- where a line ends

module _ (text : List ℕ) (at : ℕ) where
  pub ends_first : at ≡ 0 → true ≡ line_ends text at
  unfolding line_ends
  ends_first e = rw (eq-eqb at 0 e) refl

  pub ends_past : (at ≡ 0 → ⊥) → length text < at → true ≡ line_ends text at
  unfolding line_ends
  ends_past ne h = rw (ne_eqb at 0 ne, lt-ltb (length text) at h) refl

  pub ends_by : (at ≡ 0 → ⊥) → at ≤ length text → eqb (get_or text (at - 1) 0) 10 ≡ line_ends text at
  unfolding line_ends
  ends_by ne h = rw (ne_eqb at 0 ne, le-ltb (length text) at h) refl

-- ---- the numbers of a line

module _ (text : List ℕ) where
  none_left : (k at : ℕ) → length text ≤ at → (numbers_in k text at ≡ []) × (end_of k text at ≡ at)
  unfolding numbers_in end_of
  none_left zero at h = (refl, refl)
  none_left (suc k) at h = rw (le-ltb at (length text) h) (refl, refl)

  no_room : (at : ℕ) → (numbers_in 0 text at ≡ []) × (end_of 0 text at ≡ at)
  unfolding numbers_in end_of
  no_room at = (refl, refl)

  line_ends_lem : (k at : ℕ) → at < length text → line_ends text (after text at) ≡ true
      → (numbers_in (suc k) text at ≡ number_at text at ∷ []) × (end_of (suc k) text at ≡ after text at)
  unfolding numbers_in end_of
  line_ends_lem k at h e = rw (lt-ltb at (length text) h, e) (refl, refl)

  line_on : (k at : ℕ) → at < length text → line_ends text (after text at) ≡ false
      → (numbers_in (suc k) text at ≡ number_at text at ∷ numbers_in k text (after text at)) × (end_of (suc k) text at ≡ end_of k text (after text at))
  unfolding numbers_in end_of
  line_on k at h e = rw (lt-ltb at (length text) h, e) (refl, refl)

  -- so far `count` numbers were read, up to a place
  pub record Line (from : ℕ) (words₀ words : List ℕ) (count at : ℕ) : Type 0 where
    pub low : from ≤ at
    pub high : at ≤ length text
    pub fits : count ≤ length words
    pub kept : length words ≡ length words₀
    pub numbers : take count words ++ numbers_in (length words - count) text at ≡ numbers_in (length words₀) text from
    pub end : end_of (length words - count) text at ≡ end_of (length words₀) text from
    pub rest : drop count words ≡ drop count words₀

  pub line_begins : (from : ℕ) (words : List ℕ) → from ≤ length text → Line from words words 0 from
  line_begins from words h = record {
    low = omega arith;
    high = h;
    fits = omega arith;
    kept = refl;
    numbers = ap (λ (k : ℕ). numbers_in k text from) (sub-zero (length words));
    end = ap (λ (k : ℕ). end_of k text from) (sub-zero (length words));
    rest = refl;
  }

  -- what is read in the end
  ends : {from : ℕ} {words₀ words : List ℕ} {count at : ℕ} → Line from words₀ words count at
      → (numbers_in (length words - count) text at ≡ []) × (end_of (length words - count) text at ≡ at)
      → Reads text from words₀ words count at
  ends {from} {words₀} {words} {count} {at} l (none, end) =
      let all : take count words ≡ numbers_in (length words₀) text from =
      sym (append-nil (take count words)) ∙ ap (λ (s : List ℕ). take count words ++ s) (sym none) ∙ l.numbers in
      record {
        words = sym (take-append-drop count words) ∙ ap (λ (s : List ℕ). s ++ drop count words) all ∙ ap (λ (s : List ℕ). numbers_in (length words₀) text from ++ s) l.rest;
        count = sym (length-take-le count words l.fits) ∙ ap (λ (s : List ℕ). length s) all;
        next = sym end ∙ l.end;
      }

  module _ {from : ℕ} {words₀ words : List ℕ} {count at : ℕ} (l : Line from words₀ words count at) where
    pub line_full : length words ≤ count → Reads text from words₀ words count at
    line_full h =
        let e : length words - count ≡ 0 = omega arith in
        ends l (rw e (no_room at))

    pub line_over : length text ≤ at → Reads text from words₀ words count at
    line_over h = ends l (none_left (length words - count) at h)

    module _ (more : at < length text) (room : count < length words) {value next : ℕ} (is : value ≡ number_at text at) (to : next ≡ after text at)
        (bound : (at < next) × (next ≤ length text)) where
      abbrev written : List ℕ
      written = set words count value

      left : ℕ
      left = length words - suc count

      fuel : length words - count ≡ suc left
      unfolding left
      fuel = omega arith

      written_length : length written ≡ length words
      written_length = length-set words count value

      written_front : take (suc count) written ≡ take count words ++ (value ∷ [])
      written_front = take-suc-set words count value room

      written_rest : drop (suc count) written ≡ drop (suc count) words₀
      written_rest =
          let one : count + 1 ≡ suc count = add-one count in
          drop-set-lt (suc count) words count value (omega arith)
          ∙ ap (λ (k : ℕ). drop k words) (sym one) ∙ sym (drop-drop 1 count words) ∙ ap (λ (s : List ℕ). drop 1 s) l.rest ∙ drop-drop 1 count words₀
          ∙ ap (λ (k : ℕ). drop k words₀) one

      -- the numbers from the next place on are what is left
      pub line_again : line_ends text next ≡ false → Line from words₀ written (count + 1) next
      unfolding left
      line_again e =
          let on = line_on left at more (ap (λ (i : ℕ). line_ends text i) (sym to) ∙ e) in
          let low = l.low in
          let same = written_length in
          let fewer : length written - (count + 1) ≡ left = omega arith in
          record {
            low = omega arith;
            high = bound.1;
            fits = omega arith;
            kept = same ∙ l.kept;
            numbers =
                ap (λ (k : ℕ). take k written ++ numbers_in (length written - (count + 1)) text next) (add-one count)
                ∙ ap (λ (k : ℕ). take (suc count) written ++ numbers_in k text next) fewer
                ∙ ap (λ (s : List ℕ). s ++ numbers_in left text next) written_front
                ∙ append_assoc (take count words) (value ∷ []) (numbers_in left text next)
                ∙ ap (λ (v : ℕ). take count words ++ (v ∷ numbers_in left text next)) is
                ∙ ap (λ (i : ℕ). take count words ++ (number_at text at ∷ numbers_in left text i)) to
                ∙ ap (λ (s : List ℕ). take count words ++ s) (sym on.0)
                ∙ ap (λ (k : ℕ). take count words ++ numbers_in k text at) (sym fuel)
                ∙ l.numbers;
            end =
                ap (λ (k : ℕ). end_of k text next) fewer ∙ ap (λ (i : ℕ). end_of left text i) to ∙ sym on.1
                ∙ ap (λ (k : ℕ). end_of k text at) (sym fuel) ∙ l.end;
            rest = ap (λ (k : ℕ). drop k written) (add-one count) ∙ written_rest ∙ ap (λ (k : ℕ). drop k words₀) (sym (add-one count));
          }

      pub line_done : line_ends text next ≡ true → Reads text from words₀ written (count + 1) next
      line_done e =
          let one = line_ends_lem left at more (ap (λ (i : ℕ). line_ends text i) (sym to) ∙ e) in
          let fits : suc count ≤ length written = omega (arith, written_length) in
          let all : take (suc count) written ≡ numbers_in (length words₀) text from =
          written_front
          ∙ ap (λ (v : ℕ). take count words ++ (v ∷ [])) is
          ∙ ap (λ (s : List ℕ). take count words ++ s) (sym one.0)
          ∙ ap (λ (k : ℕ). take count words ++ numbers_in k text at) (sym fuel)
          ∙ l.numbers in
          rw (add-one count) (record {
            words = sym (take-append-drop (suc count) written) ∙ ap (λ (s : List ℕ). s ++ drop (suc count) written) all
                ∙ ap (λ (s : List ℕ). numbers_in (length words₀) text from ++ s) written_rest;
            count = sym (length-take-le (suc count) written fits) ∙ ap (λ (s : List ℕ). length s) all;
            next = to ∙ sym one.1 ∙ ap (λ (k : ℕ). end_of k text at) (sym fuel) ∙ l.end;
          })
