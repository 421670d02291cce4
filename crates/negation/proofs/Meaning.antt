-- What the result means: it holds exactly where the diagram doesn't, is accepted again, and negates to the diagram.
use Prim.Native.Nat.{ℕ, zero, suc, ◌+◌, ◌-◌, ◌*◌, ◌%◌, ◌^◌, ◌≤◌, ◌<◌, max}
use mathlib.Core.Path.{◌≡◌, refl, sym, ap, ◌∙◌, subst}
use mathlib.Core.Bool.{Bool, true, false, cond, not}
use mathlib.Core.List.{List, [], ◌∷◌}
use native.Mathlib.Omega.{arith}
use native.Mathlib.Decide.{dec_lt}
use lib.ListN.{length, get_or}
use lib.Seq.{ext_get_or, get_or-take}
use lib.Dec.{eqb}
use borrow.Author.Tests.{lt-ltb, le-ltb}
use Rattle.diagram.specs.Limits.{max_variables}
use Rattle.diagram.specs.Diagram.{var_of, low_of, high_of, size, vars, root, step, walk, holds, Formed, Ordered, Accepted, Reach, start, by_low, by_high}
use Rattle.diagram.specs.Valuations.{count_of}
use Rattle.diagram.proofs.Tests.{by-eq}
use Rattle.diagram.proofs.Reading.{by_two, accepted_ordered, path_ends, root_in}
use Rattle.diagram.proofs.Tally.{tally_same, tally_not}
use Rattle.negation.specs.Negation.{exchanged, negated, Opposites}
use Rattle.negation.proofs.Words.{exchanged_low, exchanged_high, ends, negated_false, negated_true, front, more_length, word_end, word_var, word_link, by_size}

pub exchanged_twice : (x : ℕ) → exchanged (exchanged x) ≡ x
exchanged_twice x = by_two x
    (λ t. ap exchanged (exchanged_low x t) ∙ exchanged_low (1 - x) (omega arith) ∙ omega arith)
    (λ two. ap exchanged (exchanged_high x two) ∙ exchanged_high x two)

exchanged_one : (x : ℕ) → x < 2 → eqb (exchanged x) 1 ≡ not (eqb x 1)
unfolding exchanged
exchanged_one zero h = refl
exchanged_one (suc zero) h = refl
exchanged_one (suc (suc x)) h = absurd (omega arith)

-- at a terminal the path has ended
step_ends : (w : List ℕ) (bs : List Bool) (p : ℕ) → p < 2 → step w bs p ≡ p
unfolding step
step_ends w bs p h = simp (lt-ltb p 2 h)

step_goes : (w : List ℕ) (bs : List Bool) (p : ℕ) → 2 ≤ p → step w bs p ≡ cond (get_or bs (var_of w p) false) (high_of w p) (low_of w p)
unfolding step
step_goes w bs p h = simp (le-ltb p 2 h)

walk_ends : (w : List ℕ) (bs : List Bool) (k p : ℕ) → p < 2 → walk w bs k p ≡ p
unfolding walk
walk_ends w bs zero p h = refl
walk_ends w bs (suc k) p h = ap (walk w bs k) (step_ends w bs p h) ∙ walk_ends w bs k p h

exchanged_cond : (b : Bool) (x y : ℕ) → cond b (exchanged x) (exchanged y) ≡ exchanged (cond b x y)
exchanged_cond true x y = refl
exchanged_cond false x y = refl

-- ---- more than two nodes

module _ (w : List ℕ) (f : Formed w) (m : 2 < size w) where
  pub negated_size : size (negated w) ≡ size w
  negated_size = omega (arith, more_length w f m)

  var_end : (p : ℕ) → p < 2 → var_of (negated w) p ≡ var_of w p
  var_end zero h = word_end w f 0 (omega arith) (omega (arith, more_length w f m))
  var_end (suc zero) h = word_end w f 3 (omega arith) (omega (arith, more_length w f m)) ∙ sym (f.one_terminal (omega arith)).var
  var_end (suc (suc p)) h = absurd (omega arith)

  pub negated_var : (p : ℕ) → var_of (negated w) p ≡ var_of w p
  negated_var p = by_two p (var_end p) (λ two. word_var w f m (3 * p) (omega arith) (omega arith))

  pub negated_low : (p : ℕ) → 2 ≤ p → p < size w → low_of (negated w) p ≡ exchanged (low_of w p)
  negated_low p two h = word_link w f m (3 * p + 1) (omega arith) (omega (arith, f.whole)) (λ z. omega arith)

  pub negated_high : (p : ℕ) → 2 ≤ p → p < size w → high_of (negated w) p ≡ exchanged (high_of w p)
  negated_high p two h = word_link w f m (3 * p + 2) (omega arith) (omega (arith, f.whole)) (λ z. omega arith)

  exchanged_in : (x : ℕ) → x < size w → exchanged x < size w
  exchanged_in x h = by_two x (λ t. rw (exchanged_low x t) (omega arith)) (λ two. rw (exchanged_high x two) h)

  -- a terminal's variable is the same as the other's
  exchanged_var : (x : ℕ) → var_of w (exchanged x) ≡ var_of w x
  exchanged_var x = by_two x (λ t. rw (exchanged_low x t) (ends_same x t)) (λ two. rw (exchanged_high x two) refl)
    where
      ends_same : (x : ℕ) → x < 2 → var_of w (1 - x) ≡ var_of w x
      ends_same zero t = (f.one_terminal (omega arith)).var
      ends_same (suc zero) t = sym (f.one_terminal (omega arith)).var
      ends_same (suc (suc x)) t = absurd (omega arith)

  root_same : root (negated w) ≡ exchanged (root w)
  root_same = ap (λ (n : ℕ). n - 1) negated_size ∙ sym (exchanged_high (root w) (omega arith))

  step_mirror : (bs : List Bool) (p : ℕ) → p < size w → step (negated w) bs (exchanged p) ≡ exchanged (step w bs p)
  step_mirror bs p h = by_two p
      (λ t. step_ends (negated w) bs (exchanged p) (rw (exchanged_low p t) (omega arith)) ∙ sym (ap exchanged (step_ends w bs p t)))
      (λ two.
      rw (exchanged_high p two, step_goes (negated w) bs p two, step_goes w bs p two, negated_var p, negated_low p two h, negated_high p two h)
      (exchanged_cond (get_or bs (var_of w p) false) (high_of w p) (low_of w p)))

  step_in : (bs : List Bool) (p : ℕ) → p < size w → step w bs p < size w
  step_in bs p h = by_two p
      (λ t. rw (step_ends w bs p t) h)
      (λ two. rw (step_goes w bs p two) (child (get_or bs (var_of w p) false) two))
    where
      child : (b : Bool) → 2 ≤ p → cond b (high_of w p) (low_of w p) < size w
      child true two = (f.ranges p two h).high
      child false two = (f.ranges p two h).low

  walk_mirror : (bs : List Bool) (k p : ℕ) → p < size w → walk (negated w) bs k (exchanged p) ≡ exchanged (walk w bs k p)
  unfolding walk
  walk_mirror bs zero p h = refl
  walk_mirror bs (suc k) p h = ap (walk (negated w) bs k) (step_mirror bs p h) ∙ walk_mirror bs k (step w bs p) (step_in bs p h)

  holds_more : Ordered w → (bs : List Bool) → holds (negated w) bs ≡ not (holds w bs)
  unfolding holds
  holds_more o bs =
      rw (negated_var 0, root_same, walk_mirror bs (vars w) (root w) (root_in w o)) (exchanged_one (walk w bs (vars w) (root w)) (path_ends w o bs))

  mirror_reach : (p : ℕ) → Reach w (root w) p → (p < size w) × Reach (negated w) (root (negated w)) (exchanged p)
  mirror_reach p start = (omega (arith, f.some), subst (λ (x : ℕ). Reach (negated w) (root (negated w)) x) root_same start)
  mirror_reach p (by_low {p = q} r two) =
      let i = mirror_reach q r in
      let g = f.ranges q two i.0 in
      let s : Reach (negated w) (root (negated w)) q = rw (exchanged_high q two) at i.1 in
      (g.low, subst (λ (x : ℕ). Reach (negated w) (root (negated w)) x) (negated_low q two i.0) (by_low s two))
  mirror_reach p (by_high {p = q} r two) =
      let i = mirror_reach q r in
      let g = f.ranges q two i.0 in
      let s : Reach (negated w) (root (negated w)) q = rw (exchanged_high q two) at i.1 in
      (g.high, subst (λ (x : ℕ). Reach (negated w) (root (negated w)) x) (negated_high q two i.0) (by_high s two))

  formed_more : Formed (negated w)
  formed_more = record {
    whole = omega (arith, more_length w f m, f.whole);
    some = omega (arith, negated_size);
    few = rw negated_size f.few;
    zero_terminal = record { var = refl; low = word_end w f 1 (omega arith) (omega (arith, more_length w f m)); high = word_end w f 2 (omega arith) (omega (arith, more_length w f m)) };
    one_terminal = λ l. record {
      var = negated_var 1 ∙ (f.one_terminal (omega arith)).var ∙ sym (negated_var 0);
      low = word_end w f 4 (omega arith) (omega (arith, more_length w f m));
      high = word_end w f 5 (omega arith) (omega (arith, more_length w f m));
    };
    variables = rw (negated_var 0) f.variables;
    ranges = λ p two h.
        let i : p < size w = rw negated_size at h in
        let g = f.ranges p two i in
        record {
          var = rw (negated_var p, negated_var 0) g.var;
          low = rw (negated_low p two i, negated_size) (exchanged_in (low_of w p) g.low);
          high = rw (negated_high p two i, negated_size) (exchanged_in (high_of w p) g.high);
        };
  }

  accepted_more : Accepted w → Accepted (negated w)
  accepted_more a = record {
    formed = formed_more;
    ordered = λ p two h r.
        let i : p < size w = rw negated_size at h in
        let g = (accepted_ordered w a).ordered p two i in
        record {
          low = rw (negated_low p two i, negated_var p, negated_var (exchanged (low_of w p)), exchanged_var (low_of w p)) g.low;
          high = rw (negated_high p two i, negated_var p, negated_var (exchanged (high_of w p)), exchanged_var (high_of w p)) g.high;
        };
    reached = λ p two h.
        let i : p < size w = rw negated_size at h in
        rw (exchanged_high p two) at (mirror_reach p (a.reached p two i)).1;
  }

  back : (i : ℕ) → i < length w → get_or (negated (negated w)) i 0 ≡ get_or w i 0
  back i h =
      let n : 2 < size (negated w) = omega (arith, negated_size) in
      let l = more_length w f m in
      let l' = more_length (negated w) formed_more n in
      elim (dec_lt i 6) [
        | yes early ↦
            let at : get_or w i 0 ≡ get_or (ends (vars w)) i 0 = sym (get_or-take 6 w i 0 early) ∙ ap (λ (x : List ℕ). get_or x i 0) (front w f m) in
            word_end (negated w) formed_more i early (omega arith) ∙ ap (λ (v : ℕ). get_or (ends v) i 0) (negated_var 0) ∙ sym at
        | no later ↦ by-eq (i % 3) 0
            (λ e. word_var (negated w) formed_more n i (omega arith) e ∙ word_var w f m i (omega arith) e)
            (λ e.
            word_link (negated w) formed_more n i (omega arith) (omega arith) e
            ∙ ap exchanged (word_link w f m i (omega arith) h e)
            ∙ exchanged_twice (get_or w i 0))
      ]

  twice_more : negated (negated w) ≡ w
  twice_more =
      let n : 2 < size (negated w) = omega (arith, negated_size) in
      let l = more_length (negated w) formed_more n ∙ more_length w f m in
      ext_get_or 0 (negated (negated w)) w l (λ i h. back i (omega arith))

-- ---- the constants

holds_at : (w : List ℕ) (bs : List Bool) → root w < 2 → holds w bs ≡ eqb (root w) 1
unfolding holds
holds_at w bs h = ap (λ (x : ℕ). eqb x 1) (walk_ends w bs (vars w) (root w) h)

pub false_words : (w : List ℕ) → Formed w → size w ≡ 1 → w ≡ vars w ∷ 0 ∷ 0 ∷ []
false_words w f e = ext_get_or 0 w (vars w ∷ 0 ∷ 0 ∷ []) (omega (arith, f.whole)) (λ i h. at i (omega (arith, f.whole)))
  where
    at : (i : ℕ) → i < 3 → get_or w i 0 ≡ get_or (vars w ∷ 0 ∷ 0 ∷ []) i 0
    at zero h = refl
    at (suc zero) h = f.zero_terminal.low
    at (suc (suc zero)) h = f.zero_terminal.high
    at (suc (suc (suc i))) h = absurd (omega arith)

pub true_words : (w : List ℕ) → Formed w → size w ≡ 2 → w ≡ ends (vars w)
true_words w f e = ext_get_or 0 w (ends (vars w)) (omega (arith, f.whole)) (λ i h. at i (omega (arith, f.whole)))
  where
    at : (i : ℕ) → i < 6 → get_or w i 0 ≡ get_or (ends (vars w)) i 0
    at zero h = refl
    at (suc zero) h = f.zero_terminal.low
    at (suc (suc zero)) h = f.zero_terminal.high
    at (suc (suc (suc zero))) h = (f.one_terminal (omega arith)).var
    at (suc (suc (suc (suc zero)))) h = (f.one_terminal (omega arith)).low
    at (suc (suc (suc (suc (suc zero))))) h = (f.one_terminal (omega arith)).high
    at (suc (suc (suc (suc (suc (suc i)))))) h = absurd (omega arith)

true_accepted : (v : ℕ) → v ≤ max_variables → Accepted (ends v)
true_accepted v h = record {
  formed = record {
    whole = refl;
    some = omega arith;
    few = omega arith;
    zero_terminal = record { var = refl; low = refl; high = refl };
    one_terminal = λ l. record { var = refl; low = refl; high = refl };
    variables = h;
    ranges = λ p two l. absurd (omega arith);
  };
  ordered = λ p two l. absurd (omega arith);
  reached = λ p two l. absurd (omega arith);
}

false_accepted : (v : ℕ) → v ≤ max_variables → Accepted (v ∷ 0 ∷ 0 ∷ [])
false_accepted v h = record {
  formed = record {
    whole = refl;
    some = omega arith;
    few = omega arith;
    zero_terminal = record { var = refl; low = refl; high = refl };
    one_terminal = λ l. absurd (omega arith);
    variables = h;
    ranges = λ p two l. absurd (omega arith);
  };
  ordered = λ p two l. absurd (omega arith);
  reached = λ p two l. absurd (omega arith);
}

-- ---- any accepted diagram

module _ (w : List ℕ) (a : Accepted w) where
  abbrev f : Formed w
  f = a.formed

  pub negated_vars : vars (negated w) ≡ vars w
  negated_vars = by_size w f
      (λ e. ap (λ (x : List ℕ). vars x) (negated_false w e))
      (λ e. ap (λ (x : List ℕ). vars x) (negated_true w e))
      (λ m. negated_var w f m 0)

  pub negated_accepted : Accepted (negated w)
  negated_accepted = by_size w f
      (λ e. rw (negated_false w e) (true_accepted (vars w) f.variables))
      (λ e. rw (negated_true w e) (false_accepted (vars w) f.variables))
      (λ m. accepted_more w f m a)

  pub negated_holds : (bs : List Bool) → holds (negated w) bs ≡ not (holds w bs)
  negated_holds bs = by_size w f
      (λ e.
      let r : root w ≡ 0 = omega arith in
      rw (negated_false w e, holds_at (ends (vars w)) bs (omega arith), holds_at w bs (omega arith), r) refl)
      (λ e.
      let r : root w ≡ 1 = omega arith in
      rw (negated_true w e, holds_at (vars w ∷ 0 ∷ 0 ∷ []) bs (omega arith), holds_at w bs (omega arith), r) refl)
      (λ m. holds_more w f m (accepted_ordered w a) bs)

  pub negated_twice : negated (negated w) ≡ w
  negated_twice = by_size w f
      (λ e. ap negated (negated_false w e) ∙ negated_true (ends (vars w)) refl ∙ sym (false_words w f e))
      (λ e. ap negated (negated_true w e) ∙ negated_false (vars w ∷ 0 ∷ 0 ∷ []) refl ∙ sym (true_words w f e))
      (λ m. twice_more w f m)

  -- a diagram and its negation share out all valuations
  pub negated_count : count_of (negated w) + count_of w ≡ 2 ^ vars w
  negated_count =
      rw (negated_vars, tally_same (vars w) (holds (negated w)) (λ bs. not (holds w bs)) (λ bs l. negated_holds bs))
      (tally_not (vars w) (holds w))

  -- how many nodes there are
  pub negated_most : size (negated w) ≤ max (size w) 2
  negated_most = by_size w f
      (λ e. rw (negated_false w e) (omega arith))
      (λ e. rw (negated_true w e) (omega arith))
      (λ m. omega (arith, negated_size w f m))

  pub negated_is_two : size (negated w) ≡ 2 → size w ≡ 1
  negated_is_two h = by_size w f
      (λ e. e)
      (λ e. let x : size (vars w ∷ 0 ∷ 0 ∷ []) ≡ 2 = rw (negated_true w e) at h in absurd (omega arith))
      (λ m. omega (arith, negated_size w f m))

pub opposites : Opposites
opposites = record { variables = negated_vars; opposite = negated_holds; accepted = negated_accepted; twice = negated_twice }
