-- The nodes of each variable: after node p the output has how many below p test each.
use Prim.Native.Nat.{ℕ, zero, suc, ◌+◌, ◌≤◌, ◌<◌, min, max}
use mathlib.Core.Path.{◌≡◌, refl, sym, ap, ◌∙◌}
use mathlib.Core.Bool.{Bool, true, false, and-false}
use mathlib.Core.List.{List, [], ◌∷◌, ◌++◌}
use native.Mathlib.Omega.{arith}
use native.Mathlib.Numerals.{add-one}
use native.Mathlib.Decide.{ℕ_discrete}
use lib.ListN.{length, get_or, set, take, drop, replicate, length-set, length-append, length-replicate, get_or-replicate, get_or-append, take-append-drop}
use lib.Seq.{get_or-set_same, get_or-set_other, drop-set-lt, drop_at, get_or_at, get_or-take, ext_get_or, length-take-le}
use borrow.Author.Tests.{le-leb, lt-leb, eq-eqb, ne_eqb}
use Rattle.diagram.specs.Limits.{max_nodes}
use Rattle.diagram.specs.Diagram.{var_of, size, vars, Formed}
use Rattle.diagram.specs.Reading.{tests}
use Rattle.diagram.specs.Marking.{count}
use Rattle.diagram.proofs.Count.{count_hit, count_miss, count_most}
use Rattle.queries.specs.Queries.{testing, nodes_at, table}

-- ---- tables

pub table_length : (k : ℕ) (f : ℕ → ℕ) → length (table k f) ≡ k
unfolding table
table_length zero f = refl
table_length (suc k) f = length-append (table k f) (f k ∷ []) ∙ omega (arith, table_length k f)

table_at : (k : ℕ) (f : ℕ → ℕ) (c : ℕ) → c < k → get_or (table k f) c 0 ≡ f c
unfolding table
table_at zero f c h = absurd (omega arith)
table_at (suc k) f c h = elim (ℕ_discrete c k) [
  | yes e ↦ rw e (get_or_at (table k f) (f k) [] 0 k (table_length k f))
  | no ne ↦ get_or-append (table k f) (f k ∷ []) 0 c (omega (arith, table_length k f)) ∙ table_at k f c (omega arith)
]

-- ---- which nodes test a variable

tests_yes : (w : List ℕ) (c p : ℕ) → 2 ≤ p → var_of w p ≡ c → tests w c p ≡ true
unfolding tests
tests_yes w c p two e = simp (le-leb 2 p two, eq-eqb (var_of w p) c e)

tests_no : (w : List ℕ) (c p : ℕ) → (var_of w p ≡ c → ⊥) → tests w c p ≡ false
unfolding tests
tests_no w c p ne = simp (ne_eqb (var_of w p) c ne, and-false)

tests_end : (w : List ℕ) (c p : ℕ) → p < 2 → tests w c p ≡ false
unfolding tests
tests_end w c p h = simp (lt-leb 2 p h)

count_none : (t : ℕ → Bool) → count zero t ≡ 0
unfolding count
count_none t = refl

count_ends : (w : List ℕ) (c k : ℕ) → k ≤ 2 → count k (tests w c) ≡ 0
count_ends w c zero h = count_none (tests w c)
count_ends w c (suc k) h = count_miss k (tests w c) (tests_end w c k (omega arith)) ∙ count_ends w c k (omega arith)

-- the definition, by the diagram's own test
testing_count : (w : List ℕ) (c n : ℕ) → testing w c n ≡ count n (tests w c)
unfolding testing count tests
testing_count w c zero = refl
testing_count w c (suc n) = rw (testing_count w c n) refl

-- ---- the loop

pub record Listing (w d : List ℕ) (p : ℕ) (out : List ℕ) : Type 0 where
  pub from : 2 ≤ p
  pub upto : p ≤ max (size w) 2
  pub long : length out ≡ length d
  pub rest : drop (vars w) out ≡ drop (vars w) d
  pub counts : (c : ℕ) → c < vars w → get_or out c 0 ≡ count p (tests w c)

-- the first v words have been made zero
abbrev pub Blank : List ℕ → ℕ → List ℕ → Type 0
Blank e v d = d ≡ replicate (min v (length e)) 0 ++ drop v e

module _ (w e d : List ℕ) (v : ℕ) (ev : v ≡ vars w) (fits : v ≤ length e) (b : Blank e v d) where
  blank_is : d ≡ replicate (vars w) 0 ++ drop (vars w) e
  blank_is =
      let m : min v (length e) ≡ vars w = omega arith in
      b ∙ rw (m, ev)

  pub listing_starts : Listing w d 2 d
  listing_starts = record {
    from = omega arith;
    upto = omega arith;
    long = refl;
    rest = refl;
    counts = λ c h.
        ap (λ (x : List ℕ). get_or x c 0) blank_is
        ∙ get_or-append (replicate (vars w) 0) (drop (vars w) e) 0 c (omega (arith, length-replicate {A = ℕ} (vars w) 0))
        ∙ get_or-replicate {A = ℕ} (vars w) c 0 0 h
        ∙ sym (count_ends w c 2 (omega arith));
  }

  blank_length : vars w ≤ length d
  blank_length =
      let l = ap length blank_is ∙ length-append (replicate (vars w) 0) (drop (vars w) e) in
      omega (arith, length-replicate {A = ℕ} (vars w) 0)

  module _ (f : Formed w) (p : ℕ) (out : List ℕ) (s : Listing w d p out) where
    module _ (h : p < size w) (x : ℕ) (ex : x ≡ var_of w p) (n : ℕ) (en : n ≡ get_or out x 0) where
      inside : x < vars w
      inside = rw ex (f.ranges p s.from h).var

      pub listing_small : n ≤ max_nodes
      listing_small = omega (arith, s.counts x inside, count_most p (tests w x), f.few)

      pub listing_on : (out' : List ℕ) → out' ≡ set out x (n + 1) → Listing w d (p + 1) out'
      listing_on out' eo = rw (add-one p, eo) (record {
        from = omega (arith, s.from);
        upto = omega arith;
        long = length-set out x (n + 1) ∙ s.long;
        rest = drop-set-lt (vars w) out x (n + 1) inside ∙ s.rest;
        counts = λ c k. elim (ℕ_discrete c x) [
          | yes e' ↦
              rw e'
              (get_or-set_same out x (n + 1) 0 (omega (arith, inside, blank_length, s.long))
              ∙ omega (arith, s.counts x inside, count_hit p (tests w x) (tests_yes w x p s.from (sym ex))))
          | no ne ↦
              get_or-set_other out x c (n + 1) 0 ne ∙ s.counts c k
              ∙ sym (count_miss p (tests w c) (tests_no w c p (λ y. ne (omega arith))))
        ];
      })

    pub listing_done : size w ≤ p → out ≡ table (vars w) (nodes_at w) ++ drop (vars w) e
    listing_done h =
        sym (take-append-drop (vars w) out)
        ∙ ap (λ (x : List ℕ). x ++ drop (vars w) out) front
        ∙ ap (λ (x : List ℕ). table (vars w) (nodes_at w) ++ x) (s.rest ∙ back)
      where
        front_length : length (take (vars w) out) ≡ vars w
        front_length = length-take-le (vars w) out (omega (arith, blank_length, s.long))

        counted : (c : ℕ) → count p (tests w c) ≡ nodes_at w c
        counted c = elim (ℕ_discrete p (size w)) [
          | yes e' ↦ ap (λ (k : ℕ). count k (tests w c)) e' ∙ sym (testing_count w c (size w))
          | no ne ↦ count_ends w c p (omega (arith, s.upto)) ∙ sym (testing_count w c (size w) ∙ count_ends w c (size w) (omega (arith, s.upto)))
        ]

        front : take (vars w) out ≡ table (vars w) (nodes_at w)
        front = ext_get_or 0 (take (vars w) out) (table (vars w) (nodes_at w)) (front_length ∙ sym (table_length (vars w) (nodes_at w)))
            (λ c k.
            let i : c < vars w = omega (arith, front_length) in
            get_or-take (vars w) out c 0 i ∙ s.counts c i ∙ counted c ∙ sym (table_at (vars w) (nodes_at w) c i))

        back : drop (vars w) d ≡ drop (vars w) e
        back = ap (drop (vars w)) blank_is ∙ drop_at (replicate (vars w) 0) (drop (vars w) e) (vars w) (length-replicate {A = ℕ} (vars w) 0)
