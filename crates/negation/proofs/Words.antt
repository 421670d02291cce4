-- The words of the result, one by one.
use Prim.Native.Nat.{ℕ, zero, suc, ◌+◌, ◌-◌, ◌*◌, ◌/◌, ◌%◌, ◌≤◌, ◌<◌}
use mathlib.Core.Path.{◌≡◌, refl, sym, ap, ◌∙◌}
use mathlib.Core.List.{List, [], ◌∷◌, ◌++◌}
use native.Mathlib.Omega.{arith}
use native.Mathlib.Nat.{zero-add}
use native.Mathlib.Numerals.{add-one}
use lib.ListN.{length, get_or, set, take, drop, length-set, length-append, length-drop, get_or-append}
use lib.Seq.{take-length, paste-suc, length-take-le, get_or-append-add, get_or-take, get_or-drop, ext_get_or}
use borrow.Author.Tests.{lt-ltb, le-ltb, eq-eqb, ne_eqb}
use Rattle.diagram.specs.Diagram.{size, vars, Formed}
use Rattle.diagram.proofs.Tests.{by-eq}
use Rattle.negation.specs.Negation.{exchanged, exchanged_links, negated, nodes_of, Ready}

pub exchanged_low : (x : ℕ) → x < 2 → exchanged x ≡ 1 - x
unfolding exchanged
exchanged_low x h = simp (lt-ltb x 2 h)

pub exchanged_high : (x : ℕ) → 2 ≤ x → exchanged x ≡ x
unfolding exchanged
exchanged_high x h = simp (le-ltb x 2 h)

links_length : (xs : List ℕ) → length (exchanged_links xs) ≡ length xs
unfolding exchanged_links
links_length [] = refl
links_length (v ∷ []) = refl
links_length (v ∷ l ∷ []) = refl
links_length (v ∷ l ∷ h ∷ xs) = ap (λ (n : ℕ). suc (suc (suc n))) (links_length xs)

-- one word: a variable, or a link
links_var : (xs : List ℕ) (i : ℕ) → i % 3 ≡ 0 → get_or (exchanged_links xs) i 0 ≡ get_or xs i 0
unfolding exchanged_links
links_var [] i e = refl
links_var (v ∷ []) i e = refl
links_var (v ∷ l ∷ []) zero e = refl
links_var (v ∷ l ∷ []) (suc zero) e = absurd (omega arith)
links_var (v ∷ l ∷ []) (suc (suc i)) e = refl
links_var (v ∷ l ∷ h ∷ xs) zero e = refl
links_var (v ∷ l ∷ h ∷ xs) (suc zero) e = absurd (omega arith)
links_var (v ∷ l ∷ h ∷ xs) (suc (suc zero)) e = absurd (omega arith)
links_var (v ∷ l ∷ h ∷ xs) (suc (suc (suc i))) e = links_var xs i (omega arith)

links_link : (xs : List ℕ) (i : ℕ) → i < length xs → (i % 3 ≡ 0 → ⊥) → get_or (exchanged_links xs) i 0 ≡ exchanged (get_or xs i 0)
unfolding exchanged_links
links_link [] i h e = absurd (omega arith)
links_link (v ∷ []) i h e = absurd (e (omega arith))
links_link (v ∷ l ∷ []) zero h e = absurd (e (omega arith))
links_link (v ∷ l ∷ []) (suc zero) h e = refl
links_link (v ∷ l ∷ []) (suc (suc i)) h e = absurd (omega arith)
links_link (v ∷ l ∷ k ∷ xs) zero h e = absurd (e (omega arith))
links_link (v ∷ l ∷ k ∷ xs) (suc zero) h e = refl
links_link (v ∷ l ∷ k ∷ xs) (suc (suc zero)) h e = refl
links_link (v ∷ l ∷ k ∷ xs) (suc (suc (suc i))) h e = links_link xs i (omega arith) (λ z. e (omega arith))

-- the terminals' words
abbrev pub ends : ℕ → List ℕ
ends v = v ∷ 0 ∷ 0 ∷ v ∷ 1 ∷ 1 ∷ []

ends_var : (v i : ℕ) → i < 6 → i % 3 ≡ 0 → get_or (ends v) i 0 ≡ v
ends_var v zero h e = refl
ends_var v (suc zero) h e = absurd (omega arith)
ends_var v (suc (suc zero)) h e = absurd (omega arith)
ends_var v (suc (suc (suc zero))) h e = refl
ends_var v (suc (suc (suc (suc zero)))) h e = absurd (omega arith)
ends_var v (suc (suc (suc (suc (suc zero))))) h e = absurd (omega arith)
ends_var v (suc (suc (suc (suc (suc (suc i)))))) h e = absurd (omega arith)

ends_link : (v i : ℕ) → i < 6 → (i % 3 ≡ 0 → ⊥) → get_or (ends v) i 0 ≡ i / 3
ends_link v zero h e = absurd (e (omega arith))
ends_link v (suc zero) h e = refl
ends_link v (suc (suc zero)) h e = refl
ends_link v (suc (suc (suc zero))) h e = absurd (e (omega arith))
ends_link v (suc (suc (suc (suc zero)))) h e = refl
ends_link v (suc (suc (suc (suc (suc zero))))) h e = refl
ends_link v (suc (suc (suc (suc (suc (suc i)))))) h e = absurd (omega arith)

ends_first : (v i : ℕ) → i < 3 → get_or (v ∷ 0 ∷ 0 ∷ []) i 0 ≡ get_or (ends v) i 0
ends_first v zero h = refl
ends_first v (suc zero) h = refl
ends_first v (suc (suc zero)) h = refl
ends_first v (suc (suc (suc i))) h = absurd (omega arith)

module _ (w : List ℕ) where
  pub negated_false : size w ≡ 1 → negated w ≡ ends (vars w)
  unfolding negated
  negated_false e = simp (eq-eqb (size w) 1 e)

  pub negated_true : size w ≡ 2 → negated w ≡ vars w ∷ 0 ∷ 0 ∷ []
  unfolding negated
  negated_true e = simp (ne_eqb (size w) 1 (λ x. omega arith), eq-eqb (size w) 2 e)

  pub negated_more : 2 < size w → negated w ≡ take 6 w ++ exchanged_links (drop 6 w)
  unfolding negated
  negated_more m = simp (ne_eqb (size w) 1 (λ x. omega arith), ne_eqb (size w) 2 (λ x. omega arith))

  module _ (f : Formed w) where
    -- one node, two, or more
    pub by_size : {P : Type 0} → (size w ≡ 1 → P) → (size w ≡ 2 → P) → (2 < size w → P) → P
    by_size a b c = by-eq (size w) 1 a (λ n. by-eq (size w) 2 b (λ m. c (omega (arith, f.some))))

    pub front : 2 < size w → take 6 w ≡ ends (vars w)
    front m =
        let l : length (take 6 w) ≡ 6 = length-take-le 6 w (omega (arith, f.whole)) in
        ext_get_or 0 (take 6 w) (ends (vars w)) l (λ i h. get_or-take 6 w i 0 (omega arith) ∙ at i (omega arith))
      where
        at : (i : ℕ) → i < 6 → get_or w i 0 ≡ get_or (ends (vars w)) i 0
        at zero h = refl
        at (suc zero) h = f.zero_terminal.low
        at (suc (suc zero)) h = f.zero_terminal.high
        at (suc (suc (suc zero))) h = (f.one_terminal (omega arith)).var
        at (suc (suc (suc (suc zero)))) h = (f.one_terminal (omega arith)).low
        at (suc (suc (suc (suc (suc zero))))) h = (f.one_terminal (omega arith)).high
        at (suc (suc (suc (suc (suc (suc i)))))) h = absurd (omega arith)

    more_is : 2 < size w → negated w ≡ ends (vars w) ++ exchanged_links (drop 6 w)
    more_is m = negated_more m ∙ ap (λ (x : List ℕ). x ++ exchanged_links (drop 6 w)) (front m)

    pub negated_length : length (negated w) ≡ 3 * nodes_of (size w)
    unfolding nodes_of
    negated_length = by_size
        (λ e. ap length (negated_false e) ∙ rw (eq-eqb (size w) 1 e))
        (λ e. ap length (negated_true e) ∙ simp (ne_eqb (size w) 1 (λ x. omega arith), eq-eqb (size w) 2 e))
        (λ m.
        simp (ne_eqb (size w) 1 (λ x. omega arith), ne_eqb (size w) 2 (λ x. omega arith))
        (ap length (more_is m) ∙ length-append (ends (vars w)) (exchanged_links (drop 6 w))
        ∙ omega (arith, links_length (drop 6 w), length-drop 6 w, f.whole)))

    -- the first six words
    pub word_end : (i : ℕ) → i < 6 → i < length (negated w) → get_or (negated w) i 0 ≡ get_or (ends (vars w)) i 0
    word_end i h l = by_size
        (λ e. ap (λ (x : List ℕ). get_or x i 0) (negated_false e))
        (λ e. ap (λ (x : List ℕ). get_or x i 0) (negated_true e) ∙ ends_first (vars w) i (rw (negated_true e) at l))
        (λ m. ap (λ (x : List ℕ). get_or x i 0) (more_is m) ∙ get_or-append (ends (vars w)) (exchanged_links (drop 6 w)) 0 i h)

    -- the others
    pub more_nodes : (i : ℕ) → 6 ≤ i → i < length (negated w) → 2 < size w
    more_nodes i h l = by_size
        (λ e. let k = ap length (negated_false e) in absurd (omega arith))
        (λ e. let k = ap length (negated_true e) in absurd (omega arith))
        (λ m. m)

    pub more_length : 2 < size w → length (negated w) ≡ length w
    more_length m =
        ap length (more_is m) ∙ length-append (ends (vars w)) (exchanged_links (drop 6 w))
        ∙ omega (arith, links_length (drop 6 w), length-drop 6 w, f.whole)

    word_later : 2 < size w → (j : ℕ) → get_or (negated w) (6 + j) 0 ≡ get_or (exchanged_links (drop 6 w)) j 0
    word_later m j = ap (λ (x : List ℕ). get_or x (6 + j) 0) (more_is m) ∙ get_or-append-add (ends (vars w)) (exchanged_links (drop 6 w)) j 0

    pub word_var : 2 < size w → (i : ℕ) → 6 ≤ i → i % 3 ≡ 0 → get_or (negated w) i 0 ≡ get_or w i 0
    word_var m i h e =
        let back : 6 + (i - 6) ≡ i = omega arith in
        let a = word_later m (i - 6) ∙ links_var (drop 6 w) (i - 6) (omega arith) ∙ get_or-drop 6 w (i - 6) 0 in
        rw back at a

    pub word_link : 2 < size w → (i : ℕ) → 6 ≤ i → i < length w → (i % 3 ≡ 0 → ⊥) → get_or (negated w) i 0 ≡ exchanged (get_or w i 0)
    word_link m i h l e =
        let back : 6 + (i - 6) ≡ i = omega arith in
        let a = word_later m (i - 6) ∙ links_link (drop 6 w) (i - 6) (omega (arith, length-drop 6 w)) (λ z. e (omega arith)) ∙ ap exchanged (get_or-drop 6 w (i - 6) 0) in
        rw back at a

-- ---- what the code's steps give

module _ {w : List ℕ} {v : ℕ} (r : Ready w v) (i : ℕ) (l : i < length (negated w)) where
  pub end_var : i < 6 → i % 3 ≡ 0 → v ≡ get_or (negated w) i 0
  end_var h e = r.count ∙ sym (word_end w r.formed i h l ∙ ends_var (vars w) i h e)

  pub end_link : i < 6 → (i % 3 ≡ 0 → ⊥) → i / 3 ≡ get_or (negated w) i 0
  end_link h e = sym (word_end w r.formed i h l ∙ ends_link (vars w) i h e)

  module _ (h : 6 ≤ i) (x : ℕ) (ex : x ≡ get_or w i 0) where
    pub later_var : i % 3 ≡ 0 → x ≡ get_or (negated w) i 0
    later_var e = ex ∙ sym (word_var w r.formed (more_nodes w r.formed i h l) i h e)

    pub later_link : (i % 3 ≡ 0 → ⊥) → (y : ℕ) → y ≡ exchanged x → y ≡ get_or (negated w) i 0
    later_link e y ey =
        let m = more_nodes w r.formed i h l in
        let n = more_length w r.formed m in
        ey ∙ ap exchanged ex ∙ sym (word_link w r.formed m i h (omega arith) e)

-- the loop: i words of s stand at the front of d
pub record Written (s d : List ℕ) (i : ℕ) (out : List ℕ) : Type 0 where
  pub reached : i ≤ length s
  pub size : length out ≡ length d
  pub same : out ≡ take i s ++ drop i d

pub written_starts : (s d : List ℕ) → Written s d 0 d
written_starts s d = record { reached = omega arith; size = refl; same = refl }

pub written_on : {s d out : List ℕ} {i : ℕ} → Written s d i out → i < length s → length s ≤ length d → (x : ℕ) → x ≡ get_or s i 0
    → Written s d (i + 1) (set out i x)
written_on {s} {d} {out} {i} h l m x e = record {
  reached = omega arith;
  size = length-set out i x ∙ h.size;
  same = rw (add-one, h.same, e) (simp zero-add at (paste-suc d 0 s i 0 (omega arith) l));
}

pub written_ends : {s d out : List ℕ} {i : ℕ} → Written s d i out → length s ≤ i → out ≡ s ++ drop (length s) d
written_ends {s} {d} {out} {i} h l =
    let e : i ≡ length s = omega (arith, h.reached) in
    h.same ∙ rw (e, take-length s)
