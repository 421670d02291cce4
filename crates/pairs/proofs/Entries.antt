-- The table of pairs: a search in it, and one pair more.
use Prim.Native.Nat.{ℕ, suc, ◌+◌, ◌-◌, ◌*◌, ◌/◌, ◌%◌, ◌^◌, ◌≤◌, ◌<◌}
use mathlib.Core.Path.{◌≡◌, refl, sym, ap, ◌∙◌}
use mathlib.Core.Logic.{◌≢◌}
use mathlib.Core.Bool.{true, false}
use mathlib.Core.List.{List, [], ◌∷◌, ◌++◌}
use native.Mathlib.Omega.{arith}
use native.Mathlib.Nat.{mul-le-mul_left, mul-lt-mul_of_pos_right}
use lib.ListN.{length, get_or, set, length-set, length-append, get_or-append}
use lib.Seq.{get_or-set_same, get_or-set_other}
use Rattle.std.specs.Prelude.{Option, Some, None}
use Rattle.std.proofs.lemmas.Option.{none-some}
use Rattle.diagram.specs.Diagram.{size}
use Rattle.diagram.proofs.Tests.{by-eq}
use Rattle.pairs.specs.Pairs.{max_pairs, Pair, pair, next, ended}
use Rattle.pairs.specs.Table.{head_in, key_in, before_in, low_in, high_in, key_of, bucket_of, entered, at, Chains, Seeking, Space, Linked, Sought, Settled, Tabled}
use Rattle.pairs.proofs.Chains.{chains_add, seek_begins, seek_falls, seek_goes}

-- ---- buckets

pub bucket_fits : (x c : ℕ) → c ≤ max_pairs → x % 4294967296 * c < 2 ^ 64
bucket_fits x c h = let p = mul-le-mul_left (x % 4294967296) h in omega arith

scaled : (x m : ℕ) → x < 4294967296 → 0 < m → x * m / 4294967296 < m
scaled x m h some = let p = mul-lt-mul_of_pos_right h some in omega arith

pub bucket_small : (c key : ℕ) → 0 < c → bucket_of c key < c
unfolding bucket_of
bucket_small c key some = scaled (key * 2654435761 % 4294967296) c (omega arith) some

-- ---- a search

-- what is there once
pub some_once : {A : Type 0} {x y : A} → ◌≡◌ {A = Option A} (Some x) (Some y) → x ≡ y
some_once e = cc

-- where it stands
abbrev pub SeekIn : ℕ → List ℕ → ℕ → ℕ → ℕ → Type 0
SeekIn c t n k x = Seeking (key_in c t) (λ i. bucket_of c (key_in c t i)) (bucket_of c k) n k x

module _ {c : ℕ} {t : List ℕ} {n : ℕ} (a : Linked c t n) (k : ℕ) where
  pub seek_head : bucket_of c k < length t
  seek_head = let small = bucket_small c k a.space.some in let long = a.space.long in omega arith

  pub seek_start : {h x : ℕ} → h ≡ bucket_of c k → x ≡ get_or t h 0 → SeekIn c t n k x
  seek_start e f = rw (f, e) (seek_begins (key_in c t) (bucket_of c) a.chains (bucket_small c k a.space.some))

  module _ {x : ℕ} (s : SeekIn c t n k x) where
    pub seek_inside : x ≤ max_pairs
    seek_inside = let in-n = s.inside in let fits = a.fits in let few = a.space.few in omega arith

    pub seek_hit : x ≢ 0 → {y : ℕ} → y ≡ key_in c t (x - 1) → y ≡ k → Sought c t n k (Some (x - 1))
    seek_hit some e f =
        let in-n = s.inside in
        record {
          here = λ i is. let same : x - 1 ≡ i = some_once is in rw (← same) (omega arith, sym e ∙ f);
          absent = λ none. absurd (none-some _ (sym none));
        }

    pub seek_next : x ≢ 0 → {y : ℕ} → y ≡ key_in c t (x - 1) → y ≢ k → {z : ℕ} → z ≡ before_in c t (x - 1) → SeekIn c t n k z
    seek_next some e ne ez = rw ez (seek_goes (key_in c t) (bucket_of c) a.chains s some (λ o. ne (e ∙ o)))

    pub seek_less : x ≢ 0 → {z : ℕ} → z ≡ before_in c t (x - 1) → z < x
    seek_less some ez = rw ez (seek_falls (key_in c t) (bucket_of c) a.chains s some)

    pub seek_ends : x ≡ 0 → Sought c t n k None
    seek_ends none = record { here = λ i is. absurd (none-some _ is); absent = λ o i l. s.passed i (omega arith) l }

-- ---- one pair more

-- a place by the pair and the places that stand there
settle : (a b : List ℕ) (c : ℕ) (s : List Pair) (t : List ℕ) (i : ℕ) (x : Pair) (low high : ℕ) → at s i ≡ x → low_in c t i ≡ low → high_in c t i ≡ high
    → x.first < size a → x.second < size b → (ended x ≡ false → low < i) → (ended x ≡ false → at s low ≡ next a b x false)
    → (ended x ≡ false → high < i) → (ended x ≡ false → at s high ≡ next a b x true) → Settled a b c s t i
settle a b c s t i x low high ex el eh first second low_before low_is high_before high_is = record {
  first = rw ex first;
  second = rw ex second;
  low_before = λ e. rw el (low_before (rw ex at e));
  low = λ e. rw (el, ex) (low_is (rw ex at e));
  high_before = λ e. rw eh (high_before (rw ex at e));
  high = λ e. rw (eh, ex) (high_is (rw ex at e));
}

-- the last of a list
pub at_end : (s : List Pair) (x : Pair) → at (s ++ (x ∷ [])) (length s) ≡ x
at_end [] x = refl
at_end (y ∷ s) x = at_end s x

module _ (c : ℕ) (t : List ℕ) (n key low high : ℕ) (space : Space c t) (free : n < c) where
  abbrev h : ℕ
  h = bucket_of c key

  h_small : h < c
  h_small = bucket_small c key space.some

  abbrev t₁ : List ℕ
  t₁ = set t (c + 4 * n) key

  abbrev t₂ : List ℕ
  t₂ = set t₁ (c + 4 * n + 1) (get_or t h 0)

  abbrev t₃ : List ℕ
  t₃ = set t₂ (c + 4 * n + 2) low

  abbrev t₄ : List ℕ
  t₄ = set t₃ (c + 4 * n + 3) high

  abbrev after : List ℕ
  after = entered c t n key low high

  fits : c + 4 * n + 4 ≤ length t
  fits = let long = space.long in omega arith

  -- as the code writes it
  pub entered_is : {g m : ℕ} → g ≡ h → m ≡ suc n
      → set (set (set (set (set t (c + 4 * n) key) (c + 4 * n + 1) (get_or t g 0)) (c + 4 * n + 2) low) (c + 4 * n + 3) high) g m ≡ after
  unfolding entered
  entered_is eg em = rw (eg, em) refl

  pub entered_length : length after ≡ length t
  unfolding entered
  entered_length = simp length-set refl

  -- a word that is none of the five
  entered_other : (j : ℕ) → j ≢ h → ((i : ℕ) → i < 4 → j ≢ c + 4 * n + i) → get_or after j 0 ≡ get_or t j 0
  unfolding entered
  entered_other j ne out =
      get_or-set_other t₄ h j (suc n) 0 ne
      ∙ get_or-set_other t₃ (c + 4 * n + 3) j high 0 (out 3 (omega arith))
      ∙ get_or-set_other t₂ (c + 4 * n + 2) j low 0 (out 2 (omega arith))
      ∙ get_or-set_other t₁ (c + 4 * n + 1) j (get_or t h 0) 0 (out 1 (omega arith))
      ∙ get_or-set_other t (c + 4 * n) j key 0 (λ e. out 0 (omega arith) (omega arith))

  entered_head : head_in after h ≡ suc n
  unfolding entered
  entered_head =
      let small = h_small in
      let long = fits in
      get_or-set_same t₄ h (suc n) 0 (simp length-set (omega arith))

  entered_key : key_in c after n ≡ key
  unfolding entered
  entered_key =
      let small = h_small in
      let long = fits in
      get_or-set_other t₄ h (c + 4 * n) (suc n) 0 (omega arith)
      ∙ get_or-set_other t₃ (c + 4 * n + 3) (c + 4 * n) high 0 (omega arith)
      ∙ get_or-set_other t₂ (c + 4 * n + 2) (c + 4 * n) low 0 (omega arith)
      ∙ get_or-set_other t₁ (c + 4 * n + 1) (c + 4 * n) (get_or t h 0) 0 (omega arith)
      ∙ get_or-set_same t (c + 4 * n) key 0 (omega arith)

  entered_before : before_in c after n ≡ head_in t h
  unfolding entered
  entered_before =
      let small = h_small in
      let long = fits in
      get_or-set_other t₄ h (c + 4 * n + 1) (suc n) 0 (omega arith)
      ∙ get_or-set_other t₃ (c + 4 * n + 3) (c + 4 * n + 1) high 0 (omega arith)
      ∙ get_or-set_other t₂ (c + 4 * n + 2) (c + 4 * n + 1) low 0 (omega arith)
      ∙ get_or-set_same t₁ (c + 4 * n + 1) (get_or t h 0) 0 (simp length-set (omega arith))

  entered_low : low_in c after n ≡ low
  unfolding entered
  entered_low =
      let small = h_small in
      let long = fits in
      get_or-set_other t₄ h (c + 4 * n + 2) (suc n) 0 (omega arith)
      ∙ get_or-set_other t₃ (c + 4 * n + 3) (c + 4 * n + 2) high 0 (omega arith)
      ∙ get_or-set_same t₂ (c + 4 * n + 2) low 0 (simp length-set (omega arith))

  entered_high : high_in c after n ≡ high
  unfolding entered
  entered_high =
      let small = h_small in
      let long = fits in
      get_or-set_other t₄ h (c + 4 * n + 3) (suc n) 0 (omega arith)
      ∙ get_or-set_same t₃ (c + 4 * n + 3) high 0 (simp length-set (omega arith))

  -- the words of an earlier place
  kept : (i k : ℕ) → i < n → k < 4 → get_or after (c + 4 * i + k) 0 ≡ get_or t (c + 4 * i + k) 0
  kept i k l m =
      let small = h_small in
      entered_other (c + 4 * i + k) (omega arith) (λ j less. omega arith)

  key_kept : (i : ℕ) → i < n → key_in c after i ≡ key_in c t i
  key_kept i l =
      let small = h_small in
      entered_other (c + 4 * i) (omega arith) (λ j less. omega arith)

  head_kept : (g : ℕ) → g < c → g ≢ h → head_in after g ≡ head_in t g
  head_kept g l ne = entered_other g ne (λ j less. omega arith)

  -- the chains
  pub entered_chains : Chains (λ i. bucket_of c (key_in c t i)) c n (head_in t) (before_in c t)
      → Chains (λ i. bucket_of c (key_in c after i)) c (suc n) (head_in after) (before_in c after)
  entered_chains chains =
      let mine : bucket_of c (key_in c after n) ≡ h = ap (bucket_of c) entered_key in
      let small = h_small in
      chains_add {bucket = λ i. bucket_of c (key_in c t i)} {bucket' = λ i. bucket_of c (key_in c after i)} {n = n}
      (λ i l. ap (bucket_of c) (key_kept i l)) {head = head_in t} {head' = head_in after} {before = before_in c t} {before' = before_in c after} chains
      (ap (head_in after) mine ∙ entered_head)
      (λ g l ne. head_kept g l (λ e. ne (e ∙ sym mine)))
      (omega arith)
      (entered_before ∙ ap (head_in t) (sym mine))
      (λ i l. kept i 1 l (omega arith))

  module _ {a b : List ℕ} {s : List Pair} {x : Pair} (tabled : Tabled a b c s t) (count : length s ≡ n) (is_key : key ≡ key_of x)
      (first : x.first < size a) (second : x.second < size b)
      (low_before : ended x ≡ false → low < n) (low_is : ended x ≡ false → at s low ≡ next a b x false)
      (high_before : ended x ≡ false → high < n) (high_is : ended x ≡ false → at s high ≡ next a b x true) where
    abbrev more : List Pair
    more = s ++ (x ∷ [])

    more_length : length more ≡ suc n
    more_length = length-append s (x ∷ []) ∙ omega (arith, count)

    old : (i : ℕ) → i < n → at more i ≡ at s i
    old i l = get_or-append s (x ∷ []) (pair 0 0) i (omega arith)

    new : at more n ≡ x
    new = ap (at more) (sym count) ∙ at_end s x

    settled_old : (i : ℕ) → i < n → Settled a b c more after i
    settled_old i l =
        let was = tabled.standing.settled i (omega arith) in
        let same = old i l in
        let low-kept = kept i 2 l (omega arith) in
        let high-kept = kept i 3 l (omega arith) in
        settle a b c more after i (at s i) (low_in c t i) (high_in c t i) same low-kept high-kept was.first was.second
        was.low_before
        (λ e. let m = was.low_before e in old (low_in c t i) (omega arith) ∙ was.low e)
        was.high_before
        (λ e. let m = was.high_before e in old (high_in c t i) (omega arith) ∙ was.high e)

    settled_new : Settled a b c more after n
    settled_new =
        settle a b c more after n x low high new entered_low entered_high first second
        low_before (λ e. old low (low_before e) ∙ low_is e) high_before (λ e. old high (high_before e) ∙ high_is e)

    pub entered_tabled : Tabled a b c more after
    entered_tabled =
        let long = more_length in
        record {
          standing = record {
            fits = omega arith;
            held = λ i l. by-eq i n
                (λ e. rw (e, new) (entered_key ∙ is_key))
                (λ ne. key_kept i (omega arith) ∙ tabled.standing.held i (omega arith) ∙ ap key_of (sym (old i (omega arith))));
            settled = λ i l. by-eq i n (λ e. rw e settled_new) (λ ne. settled_old i (omega arith));
          };
          chains = rw more_length (entered_chains (rw count at tabled.chains));
        }

    pub entered_here : at more n ≡ x
    entered_here = new
