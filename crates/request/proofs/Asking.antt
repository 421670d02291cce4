-- A request from its words.
use Prim.Native.Nat.{ℕ, ◌-◌, ◌^◌}
use mathlib.Core.Path.{◌≡◌, refl, sym}
use mathlib.Core.Bool.{Bool, true, false, true≢false}
use mathlib.Core.List.{List}
use mathlib.Core.Logic.{◌≢◌}
use borrow.Author.Tests.{eq-eqb, ne_eqb}
use Rattle.naturals.specs.Natural.{limit, Answers}
use Rattle.naturals.specs.declared.Natural.{Natural}
use Rattle.std.specs.Prelude.{Option, Some, None}
use Rattle.writing.specs.Writing.{bytes}
use Rattle.text.specs.Digits.{Reading, number, none, parsed, is_number, number_of, Parses}
use Rattle.request.specs.Request.{alike, nodes, cases, Meaning, help, unknown, which, cut, if_number, if_some, counts, aimed, directed, request_of, is_nodes, form_of, words_of}
use Rattle.forms.specs.declared.Form.TheVariants.{Blocks, Nodes}

-- ---- a number that was read, or none

pub if_parsed : (keep as_is : Bool) (r : Reading) {o : Option ℕ} → Parses r o → if_some keep as_is nodes o ≡ if_number keep as_is nodes r
if_parsed keep as_is (number n) p = rw p refl
if_parsed keep as_is none p = rw p refl

pub if_answered : (keep as_is : Bool) (r : Reading) (o : Option Natural) → Answers (is_number r) (number_of r) o
    → if_some keep as_is counts o ≡ if_number keep as_is cases r
if_answered keep as_is (number n) (Some x) a = rw (a.holds x refl).worth
if_answered keep as_is (number n) None a = absurd (true≢false (sym a.said))
if_answered keep as_is none (Some x) a = absurd (true≢false a.said)
if_answered keep as_is none None a = refl

-- ---- the second word

module _ (keep as_is : Bool) (k n : List ℕ) {a : Bool} (ea : a ≡ alike k (bytes "size")) where
  pub aims_size : {m : Meaning} → a ≡ true → m ≡ if_number keep as_is nodes (parsed 10 (2 ^ 32) n) → m ≡ aimed keep as_is k n
  unfolding aimed
  aims_size f e = rw (sym ea, f) e

  module _ (fa : a ≡ false) {b : Bool} (eb : b ≡ alike k (bytes "cases")) where
    pub aims_cases : {m : Meaning} → b ≡ true → m ≡ if_number keep as_is cases (parsed 10 limit n) → m ≡ aimed keep as_is k n
    unfolding aimed
    aims_cases f e = rw (sym ea, fa, sym eb, f) e

    module _ (fb : b ≡ false) {d : Bool} (ed : d ≡ alike k (bytes "hex")) where
      pub aims_hex : {m : Meaning} → d ≡ true → m ≡ if_number keep as_is cases (parsed 16 limit n) → m ≡ aimed keep as_is k n
      unfolding aimed
      aims_hex f e = rw (sym ea, fa, sym eb, fb, sym ed, f) e

      module _ (fd : d ≡ false) {g : Bool} (eg : g ≡ alike k (bytes "count")) {m : Meaning} where
        pub aims_which : g ≡ true → m ≡ which → m ≡ aimed keep as_is k n
        unfolding aimed
        aims_which f e = rw (sym ea, fa, sym eb, fb, sym ed, fd, sym eg, f) e

        pub aims_none : g ≡ false → m ≡ unknown → m ≡ aimed keep as_is k n
        unfolding aimed
        aims_none f e = rw (sym ea, fa, sym eb, fb, sym ed, fd, sym eg, f) e

-- ---- the first word

module _ (as_is : Bool) (d k n : List ℕ) {m : Meaning} {a : Bool} (ea : a ≡ alike d (bytes "keep")) where
  pub directs_keep : a ≡ true → m ≡ aimed true as_is k n → m ≡ directed as_is d k n
  unfolding directed
  directs_keep f e = rw (sym ea, f) e

  module _ (fa : a ≡ false) {b : Bool} (eb : b ≡ alike d (bytes "suppress")) where
    pub directs_suppress : b ≡ true → m ≡ aimed false as_is k n → m ≡ directed as_is d k n
    unfolding directed
    directs_suppress f e = rw (sym ea, fa, sym eb, f) e

    pub directs_none : b ≡ false → m ≡ unknown → m ≡ directed as_is d k n
    unfolding directed
    directs_none f e = rw (sym ea, fa, sym eb, f) e

-- ---- how many words, and the fourth

module _ (count : ℕ) (d k n f : List ℕ) {m : Meaning} where
  pub asks_help : count ≡ 0 → m ≡ help → m ≡ request_of count d k n f
  unfolding request_of
  asks_help h e = rw (eq-eqb count 0 h) e

  module _ (some : count ≢ 0) where
    pub asks_three : count ≡ 3 → m ≡ directed false d k n → m ≡ request_of count d k n f
    unfolding request_of
    asks_three h e = rw (ne_eqb count 0 some, eq-eqb count 3 h) e

    module _ (more : count ≢ 3) where
      pub asks_others : count ≢ 4 → m ≡ unknown → m ≡ request_of count d k n f
      unfolding request_of
      asks_others h e = rw (ne_eqb count 0 some, ne_eqb count 3 more, ne_eqb count 4 h) e

      module _ (four : count ≡ 4) {a : Bool} (ea : a ≡ alike f (bytes "as-is")) where
        pub asks_as_is : a ≡ true → m ≡ directed true d k n → m ≡ request_of count d k n f
        unfolding request_of
        asks_as_is g e = rw (ne_eqb count 0 some, ne_eqb count 3 more, eq-eqb count 4 four, sym ea, g) e

        pub asks_none : a ≡ false → m ≡ unknown → m ≡ request_of count d k n f
        unfolding request_of
        asks_none g e = rw (ne_eqb count 0 some, ne_eqb count 3 more, eq-eqb count 4 four, sym ea, g) e

-- ---- the form

module _ (first : List ℕ) {a : Bool} (ea : a ≡ is_nodes first) where
  pub is_nodes_lem : a ≡ true → Nodes ≡ form_of first
  unfolding form_of
  is_nodes_lem f = rw (sym ea, f) refl

  pub is_blocks : a ≡ false → Blocks ≡ form_of first
  unfolding form_of
  is_blocks f = rw (sym ea, f) refl

  module _ (count : ℕ) (b c d e : List ℕ) {m : Meaning} where
    pub asks_behind : {k : ℕ} → a ≡ true → k ≡ count - 1 → m ≡ request_of k b c d e → m ≡ words_of count first b c d e
    unfolding words_of
    asks_behind f g h = rw (sym ea, f) (rw g at h)

    pub asks_plain : a ≡ false → m ≡ request_of count first b c d → m ≡ words_of count first b c d e
    unfolding words_of
    asks_plain f h = rw (sym ea, f) h
