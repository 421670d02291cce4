-- The cut by marks: of a marked root a constant, else the reduced copy with sent links.
use Prim.Native.Nat.{ℕ, zero, suc, ◌+◌, ◌-◌, ◌*◌, ◌≤◌, ◌<◌, max, min}
use mathlib.Core.Path.{◌≡◌, refl, sym, ap, ◌∙◌}
use mathlib.Core.Bool.{Bool, true, false, cond}
use mathlib.Core.List.{List, [], ◌∷◌, ◌++◌}
use native.Mathlib.Omega.{arith}
use lib.ListN.{length, get_or, set, take, drop, replicate, length-set, length-drop, length-append, length-replicate, get_or-append}
use lib.Seq.{get_or-set_same, get_or-set_other, take-set-le, drop-set-lt, drop-cons, drop-append-add, drop-append-le, take-append-le, length-take-le, drop-length, take-take}
use lib.Dec.{eqb}
use borrow.Author.Tests.{eq-eqb, ne_eqb}
use borrow.Rule.Slice.PartMut.{put_mid, post_of, mid_of, take_put, drop_put, same_len_mid}
use Rattle.diagram.specs.Limits.{max_nodes}
use Rattle.diagram.specs.Diagram.{size, vars, root, Ordered}
use Rattle.diagram.specs.Verdict.{most}
use Rattle.diagram.proofs.Tests.{by-eq}
use Rattle.room_map.specs.Map.{tables_from, answer_from, tables_to}
use Rattle.reduction.specs.Reduce.{reduce}
use Rattle.store.specs.Room.{store_to, Space, Forgotten}
use Rattle.reduction.specs.Room.{memo_from, Asked, Placed, Shelved}
use Rattle.approximation.specs.Constants.{false_of, true_of}
use Rattle.approximation.specs.Cut.{cut, send}
use Rattle.approximation.proofs.Send.{send_size, send_var, send_ordered, send_is_cut}
use Rattle.approximation.proofs.Cut.{cut_root_under, cut_root_over, cut_most}
use Rattle.cuts.specs.Marks.{marked_in, constant_at, Sent, Building, Built, Cutting, CutIn, CutWithin}

-- ---- building on a shelf

zeros_at : (k : ℕ) (s : List ℕ) (j : ℕ) → j < k → get_or (replicate k 0 ++ s) j 0 ≡ 0
zeros_at zero s j h = absurd (omega arith)
zeros_at (suc k) s zero h = refl
zeros_at (suc k) s (suc j) h = zeros_at k s j (omega arith)

module _ {w shelf : List ℕ} {c n v : ℕ} (b : Building w shelf c n v) {m : ℕ} (is_m : m ≡ max n 2) where
  shelf_most : m ≡ most w
  shelf_most = is_m ∙ ap (λ (k : ℕ). max k 2) b.is_size

  pub shelf_space : {cleared : List ℕ} → length cleared ≡ length shelf → Space m c cleared
  shelf_space same =
      let is_most = shelf_most in
      let few = b.ordered.formed.few in
      let within = b.within in
      let long = b.long in
      record { near = omega arith; few = omega arith; long = omega arith }

  -- memo and keys are cleared
  pub shelf_asked : {cleared : List ℕ} → cleared ≡ replicate (min m (length shelf)) 0 ++ drop m shelf → {after : List ℕ} → length after ≡ length shelf
      → Forgotten m c cleared after → Asked w after c n v
  shelf_asked {cleared} e {after} same forgotten =
      let is_most = shelf_most in
      let few = b.ordered.formed.few in
      let within = b.within in
      let long = b.long in
      let all : min m (length shelf) ≡ m = omega arith in
      let is : cleared ≡ replicate m 0 ++ drop m shelf = e ∙ ap (λ (k : ℕ). replicate k 0 ++ drop m shelf) all in
      record {
        ordered = b.ordered;
        is_size = b.is_size;
        is_vars = b.is_vars;
        two = b.two;
        few = omega arith;
        long = omega arith;
        memo = λ p h.
            forgotten.beyond (memo_from + p) (λ i in-i e. omega arith) ∙ ap (λ (l : List ℕ). get_or l (memo_from + p) 0) is
            ∙ zeros_at m (drop m shelf) (memo_from + p) (omega arith);
        heads = rw (sym is_most) forgotten.heads;
      }

pub shelf_built : {w shelf cleared after : List ℕ} {c k : ℕ} → Shelved w cleared after c k → length after ≡ length shelf → Built w shelf after c k
shelf_built s same = record { count = s.count; placed = s.placed; kept = same }

-- ---- a marked root

-- Three words in a row, and six.
three : (s : List ℕ) (at : ℕ) → at + 2 < length s → take 3 (drop at s) ≡ get_or s at 0 ∷ get_or s (at + 1) 0 ∷ get_or s (at + 2) 0 ∷ []
three s at h =
    let one : suc at ≡ at + 1 = omega arith in
    let two : suc (at + 1) ≡ at + 2 = omega arith in
    ap (λ (l : List ℕ). take 3 l)
    (drop-cons s at 0 (omega arith) ∙ ap (λ (l : List ℕ). get_or s at 0 ∷ l)
    (ap (λ (i : ℕ). drop i s) one ∙ drop-cons s (at + 1) 0 (omega arith) ∙ ap (λ (l : List ℕ). get_or s (at + 1) 0 ∷ l)
    (ap (λ (i : ℕ). drop i s) two ∙ drop-cons s (at + 2) 0 h)))

six : (s : List ℕ) (at : ℕ) → at + 5 < length s
    → take 6 (drop at s) ≡ get_or s at 0 ∷ get_or s (at + 1) 0 ∷ get_or s (at + 2) 0 ∷ get_or s (at + 3) 0 ∷ get_or s (at + 4) 0 ∷ get_or s (at + 5) 0 ∷ []
six s at h =
    let one : suc at ≡ at + 1 = omega arith in
    let two : suc (at + 1) ≡ at + 2 = omega arith in
    let four : suc (at + 2) ≡ at + 3 = omega arith in
    let five : suc (at + 3) ≡ at + 4 = omega arith in
    let last : suc (at + 4) ≡ at + 5 = omega arith in
    ap (λ (l : List ℕ). take 6 l)
    (drop-cons s at 0 (omega arith) ∙ ap (λ (l : List ℕ). get_or s at 0 ∷ l)
    (ap (λ (i : ℕ). drop i s) one ∙ drop-cons s (at + 1) 0 (omega arith) ∙ ap (λ (l : List ℕ). get_or s (at + 1) 0 ∷ l)
    (ap (λ (i : ℕ). drop i s) two ∙ drop-cons s (at + 2) 0 (omega arith) ∙ ap (λ (l : List ℕ). get_or s (at + 2) 0 ∷ l)
    (ap (λ (i : ℕ). drop i s) four ∙ drop-cons s (at + 3) 0 (omega arith) ∙ ap (λ (l : List ℕ). get_or s (at + 3) 0 ∷ l)
    (ap (λ (i : ℕ). drop i s) five ∙ drop-cons s (at + 4) 0 (omega arith) ∙ ap (λ (l : List ℕ). get_or s (at + 4) 0 ∷ l)
    (ap (λ (i : ℕ). drop i s) last ∙ drop-cons s (at + 5) 0 h))))))

-- The words of false, written at a place; then those of true.
module _ (r : List ℕ) (at v : ℕ) where
  abbrev pub none : List ℕ
  none = set (set (set r at v) (at + 1) 0) (at + 2) 0

  abbrev pub all : List ℕ
  all = set (set (set none (at + 3) v) (at + 4) 1) (at + 5) 1

  pub none_length : length none ≡ length r
  none_length = simp length-set

  pub all_length : length all ≡ length r
  all_length = simp length-set

  module _ (h : at + 2 < length r) where
    none_0 : get_or none at 0 ≡ v
    none_0 =
        get_or-set_other (set (set r at v) (at + 1) 0) (at + 2) at 0 0 (λ e. omega arith)
        ∙ get_or-set_other (set r at v) (at + 1) at 0 0 (λ e. omega arith)
        ∙ get_or-set_same r at v 0 (omega arith)

    none_1 : get_or none (at + 1) 0 ≡ 0
    none_1 =
        get_or-set_other (set (set r at v) (at + 1) 0) (at + 2) (at + 1) 0 0 (λ e. omega arith)
        ∙ get_or-set_same (set r at v) (at + 1) 0 0 (simp length-set (omega arith))

    none_2 : get_or none (at + 2) 0 ≡ 0
    none_2 = get_or-set_same (set (set r at v) (at + 1) 0) (at + 2) 0 0 (simp length-set h)

    pub false_words : take 3 (drop at none) ≡ false_of v
    false_words = three none at (simp length-set h) ∙ (rw (none_0, none_1, none_2) refl)

  module _ (h : at + 5 < length r) where
    all_low : (j : ℕ) → j < at + 3 → get_or all j 0 ≡ get_or none j 0
    all_low j l =
        get_or-set_other (set (set none (at + 3) v) (at + 4) 1) (at + 5) j 1 0 (λ e. omega arith)
        ∙ get_or-set_other (set none (at + 3) v) (at + 4) j 1 0 (λ e. omega arith)
        ∙ get_or-set_other none (at + 3) j v 0 (λ e. omega arith)

    all_3 : get_or all (at + 3) 0 ≡ v
    all_3 =
        let l = none_length in
        get_or-set_other (set (set none (at + 3) v) (at + 4) 1) (at + 5) (at + 3) 1 0 (λ e. omega arith)
        ∙ get_or-set_other (set none (at + 3) v) (at + 4) (at + 3) 1 0 (λ e. omega arith)
        ∙ get_or-set_same none (at + 3) v 0 (omega arith)

    all_4 : get_or all (at + 4) 0 ≡ 1
    all_4 =
        get_or-set_other (set (set none (at + 3) v) (at + 4) 1) (at + 5) (at + 4) 1 0 (λ e. omega arith)
        ∙ get_or-set_same (set none (at + 3) v) (at + 4) 1 0 (simp length-set (omega arith))

    all_5 : get_or all (at + 5) 0 ≡ 1
    all_5 = get_or-set_same (set (set none (at + 3) v) (at + 4) 1) (at + 5) 1 0 (simp length-set h)

    pub true_words : take 6 (drop at all) ≡ true_of v
    true_words =
        let short : at + 2 < length r = omega arith in
        six all at (simp length-set h)
        ∙ (rw (all_low at (omega arith), all_low (at + 1) (omega arith), all_low (at + 2) (omega arith), none_0 short, none_1 short, none_2 short, all_3, all_4, all_5) refl)

  none_before : (k : ℕ) → k ≤ at → take k none ≡ take k r
  none_before k h =
      take-set-le k (set (set r at v) (at + 1) 0) (at + 2) 0 (omega arith)
      ∙ take-set-le k (set r at v) (at + 1) 0 (omega arith) ∙ take-set-le k r at v h

  pub none_beyond : (k : ℕ) → at + 2 < k → drop k none ≡ drop k r
  none_beyond k h =
      drop-set-lt k (set (set r at v) (at + 1) 0) (at + 2) 0 h
      ∙ drop-set-lt k (set r at v) (at + 1) 0 (omega arith) ∙ drop-set-lt k r at v (omega arith)

  all_before : (k : ℕ) → k ≤ at → take k all ≡ take k r
  all_before k h =
      take-set-le k (set (set none (at + 3) v) (at + 4) 1) (at + 5) 1 (omega arith)
      ∙ take-set-le k (set none (at + 3) v) (at + 4) 1 (omega arith) ∙ take-set-le k none (at + 3) v (omega arith) ∙ none_before k h

  pub all_beyond : (k : ℕ) → at + 5 < k → drop k all ≡ drop k r
  all_beyond k h =
      drop-set-lt k (set (set none (at + 3) v) (at + 4) 1) (at + 5) 1 h
      ∙ drop-set-lt k (set none (at + 3) v) (at + 4) 1 (omega arith) ∙ drop-set-lt k none (at + 3) v (omega arith) ∙ none_beyond k (omega arith)

  pub constant_false : (t : ℕ) → t ≡ 0 → constant_at r at t v ≡ none
  unfolding constant_at
  constant_false t e = rw (eq-eqb t 0 e) refl

  pub constant_true : (t : ℕ) → (t ≡ 0 → ⊥) → constant_at r at t v ≡ all
  unfolding constant_at
  constant_true t ne = rw (ne_eqb t 0 ne) refl

-- A cut that stands in the room is one within the limit.
in_within : {w : List ℕ} {c t : ℕ} {r after : List ℕ} {k : ℕ} → k ≤ c → CutIn w t r after k → CutWithin w c t r after k
in_within h x = record { count = let e = x.count in omega arith; cut_in = λ l. x; kept = x.kept; before = x.before; beyond = x.beyond }

-- Where there are as many places as the array has nodes, no cut has more.
pub within_most : {w : List ℕ} → Ordered w → {c t : ℕ} → t < 2 → most w ≤ c → {r after : List ℕ} {k : ℕ} → CutWithin w c t r after k → CutIn w t r after k
within_most {w} o {c} {t} terminal wide {r} x =
    x.cut_in (let e = x.count in let least = cut_most w o (marked_in (most w) r) t terminal in omega arith)

module _ {w sent r : List ℕ} {c t n v : ℕ} (a : Cutting w sent r c t n v) {m : ℕ} (is_m : m ≡ max n 2) where
  pub cutting_most : m ≡ most w
  cutting_most = is_m ∙ ap (λ (k : ℕ). max k 2) a.is_size

  pub cutting_few : m ≤ max_nodes
  cutting_few = let e = cutting_most in let few = a.ordered.formed.few in omega arith

  pub cutting_some : 0 < n
  cutting_some = let e = a.is_size in let some = a.ordered.formed.some in omega arith

  at_root : {p : ℕ} → p ≡ n - 1 → p ≡ root w
  at_root e = e ∙ ap (λ (k : ℕ). k - 1) a.is_size

  module _ {p : ℕ} (is-p : p ≡ n - 1) {x : Bool} (is_x : x ≡ marked_in m r p) where
    root_is : (b : Bool) → x ≡ b → marked_in (most w) r (root w) ≡ b
    root_is b e = ap (λ (i : ℕ). marked_in i r (root w)) (sym cutting_most) ∙ ap (λ (q : ℕ). marked_in m r q) (sym (at_root is-p)) ∙ sym is_x ∙ e

    module _ (yes-case : x ≡ true) where
      rooted_false : t ≡ 0 → CutIn w t r (none r (answer_from m) v) 1
      rooted_false e =
          let is : cut w (marked_in (most w) r) t ≡ false_of (vars w) = ap (λ (t : ℕ). cut w (marked_in (most w) r) t) e ∙ cut_root_under w a.ordered (marked_in (most w) r) (root_is true yes-case) in
          let is_most = cutting_most in
          let long = a.long in
          record {
            count = sym (ap (λ (l : List ℕ). size l) is);
            words = ap (λ (l : List ℕ). length l) is;
            fits = omega arith;
            kept = none_length r (answer_from m) v;
            made = ap (λ (k : ℕ). take 3 (drop (answer_from k) (none r (answer_from m) v))) (sym is_most) ∙ false_words r (answer_from m) v (omega arith) ∙ ap false_of a.is_vars ∙ sym is;
            before = none_before r (answer_from m) v (tables_from (most w)) (omega arith);
            beyond = none_beyond r (answer_from m) v (tables_to (most w)) (omega arith);
          }

      rooted_true : (t ≡ 0 → ⊥) → CutIn w t r (all r (answer_from m) v) 2
      rooted_true ne =
          let one : t ≡ 1 = let h = a.terminal in omega arith in
          let is : cut w (marked_in (most w) r) t ≡ true_of (vars w) = ap (λ (t : ℕ). cut w (marked_in (most w) r) t) one ∙ cut_root_over w a.ordered (marked_in (most w) r) (root_is true yes-case) in
          let is_most = cutting_most in
          let long = a.long in
          record {
            count = sym (ap (λ (l : List ℕ). size l) is);
            words = ap (λ (l : List ℕ). length l) is;
            fits = omega arith;
            kept = all_length r (answer_from m) v;
            made = ap (λ (k : ℕ). take 6 (drop (answer_from k) (all r (answer_from m) v))) (sym is_most) ∙ true_words r (answer_from m) v (omega arith) ∙ ap true_of a.is_vars ∙ sym is;
            before = all_before r (answer_from m) v (tables_from (most w)) (omega arith);
            beyond = all_beyond r (answer_from m) v (tables_to (most w)) (omega arith);
          }

      pub cut_rooted : {after : List ℕ} {k : ℕ} → (after ≡ constant_at r (answer_from m) t v) × (k ≡ cond (eqb t 0) 1 2) → CutWithin w c t r after k
      cut_rooted {after} {k} (e, f) = by-eq t 0
          (λ z.
          let k-is : k ≡ 1 = f ∙ (rw (eq-eqb t 0 z) refl) in
          rw (e ∙ constant_false r (answer_from m) v t z, k-is) (in_within (let two = a.two in omega arith) (rooted_false z)))
          (λ z.
          let k-is : k ≡ 2 = f ∙ (rw (ne_eqb t 0 z) refl) in
          rw (e ∙ constant_true r (answer_from m) v t z, k-is) (in_within a.two (rooted_true z)))

    -- ---- a root that isn't marked
    module _ (no-case : x ≡ false) {copy : List ℕ} (s : Sent w (marked_in m r) t sent copy) where
      sent_words : take (3 * n) copy ≡ send (marked_in m r) t w
      sent_words = let e : 3 * n ≡ length w = let f = a.ordered.formed.whole in let g = a.is_size in omega arith in ap (λ (k : ℕ). take k copy) e ∙ s.words

      sent_most : most (take (3 * n) copy) ≡ most w
      sent_most = ap (λ (l : List ℕ). most l) sent_words ∙ ap (λ (k : ℕ). max k 2) (send_size (marked_in m r) t w)

      pub sent_fits : 3 * n ≤ length copy
      sent_fits = let f = a.ordered.formed.whole in let g = a.is_size in let l = a.copy in let k = s.kept in omega arith

      sent_size : size (take (3 * n) copy) ≡ size w
      sent_size = ap (λ (l : List ℕ). size l) sent_words ∙ send_size (marked_in m r) t w

      sent_vars : vars (take (3 * n) copy) ≡ vars w
      sent_vars = ap (λ (l : List ℕ). vars l) sent_words ∙ send_var (marked_in m r) t w 0

      sent_is_ordered : Ordered (take (3 * n) copy)
      sent_is_ordered = rw sent_words (send_ordered w a.ordered (marked_in m r) t a.terminal)

      pub sent_building : Building (take (3 * n) copy) (mid_of (tables_from m) (tables_to m - tables_from m) r) c n v
      sent_building = record {
        ordered = sent_is_ordered;
        is_size = a.is_size ∙ sym sent_size;
        is_vars = a.is_vars ∙ sym sent_vars;
        two = a.two;
        within = let e = sent_most in let within = a.within in omega arith;
        long =
            let e = sent_most in
            let f = cutting_most in
            let long = a.long in
            let rest = length-drop (tables_from m) r in
            length-take-le (tables_to m - tables_from m) (drop (tables_from m) r) (omega arith) ∙ omega arith;
      }

      sent_cut : reduce (take (3 * n) copy) ≡ cut w (marked_in (most w) r) t
      sent_cut =
          ap reduce sent_words ∙ send_is_cut w a.ordered (marked_in m r) t a.terminal (ap (λ (k : ℕ). marked_in k r (root w)) cutting_most ∙ root_is false no-case)
          ∙ ap (λ (k : ℕ). cut w (marked_in k r) t) cutting_most

      module _ {shelf : List ℕ} {k : ℕ} (b : Built (take (3 * n) copy) (mid_of (tables_from m) (tables_to m - tables_from m) r) shelf c k) where
        abbrev after : List ℕ
        after = put_mid (tables_from m) (tables_to m - tables_from m) r shelf

        shelf_long : length shelf ≡ store_to m m
        shelf_long = let e = b.kept in let f = sent_building.long in let g = sent_most in let h = cutting_most in omega arith

        after_kept : length after ≡ length r
        after_kept = same_len_mid (tables_from m) (tables_to m - tables_from m) r shelf b.kept

        after_before : take (tables_from (most w)) after ≡ take (tables_from (most w)) r
        after_before =
            let long = a.long in
            let is_most = cutting_most in
            ap (λ (i : ℕ). take (tables_from i) after) (sym is_most)
            ∙ take_put (tables_from m) (tables_to m - tables_from m) r shelf (omega arith) ∙ ap (λ (i : ℕ). take (tables_from i) r) is_most

        after_beyond : drop (tables_to (most w)) after ≡ drop (tables_to (most w)) r
        after_beyond =
            let long = a.long in
            let is_most = cutting_most in
            ap (λ (i : ℕ). drop (tables_to i) after) (sym is_most)
            ∙ drop_put (tables_from m) (tables_to m) r shelf (omega arith) (omega arith) (let l = shelf_long in omega arith) ∙ ap (λ (i : ℕ). drop (tables_to i) r) is_most

        nodes_are : k ≡ min (size (cut w (marked_in (most w) r) t)) (suc c)
        nodes_are = b.count ∙ ap (λ (l : List ℕ). min (size l) (suc c)) sent_cut

        -- not more nodes than places
        module _ (few : k ≤ c) where
          shelf_store : take (3 * k) (drop (answer_from m) after) ≡ cut w (marked_in (most w) r) t
          shelf_store =
              let long = a.long in
              let is_most = cutting_most in
              let l = shelf_long in
              let fits = (b.placed few).fits in
              let same = sent_most in
              let front : length (take (tables_from m) r) ≡ tables_from m = length-take-le (tables_from m) r (omega arith) in
              let place : answer_from m ≡ length (take (tables_from m) r) + m = omega arith in
              let rest = length-drop m shelf in
              ap (λ (i : ℕ). take (3 * k) (drop i after)) place
              ∙ ap (λ (s : List ℕ). take (3 * k) s) (drop-append-add (take (tables_from m) r) (shelf ++ post_of (tables_from m) (tables_to m - tables_from m) r) m
              ∙ drop-append-le m shelf (post_of (tables_from m) (tables_to m - tables_from m) r) (omega arith))
              ∙ take-append-le (3 * k) (drop m shelf) (post_of (tables_from m) (tables_to m - tables_from m) r) (omega arith)
              ∙ ap (λ (i : ℕ). take (3 * k) (drop i shelf)) (is_most ∙ sym same)
              ∙ (b.placed few).store ∙ sent_cut

          shelf_in : CutIn w t r after k
          shelf_in = record {
            count = let e = nodes_are in omega arith;
            words = ap (λ (l : List ℕ). length l) (sym sent_cut) ∙ (b.placed few).words;
            fits = let same = sent_most in let fits = (b.placed few).fits in omega arith;
            kept = after_kept;
            made = ap (λ (i : ℕ). take (3 * k) (drop (answer_from i) after)) (sym cutting_most) ∙ shelf_store;
            before = after_before;
            beyond = after_beyond;
          }

        pub cut_built : CutWithin w c t r after k
        cut_built = record { count = nodes_are; cut_in = shelf_in; kept = after_kept; before = after_before; beyond = after_beyond }
