-- Every file that is read is the file of its nodes; the output beyond them is as it was.
use Prim.Native.Nat.{ℕ, zero, suc, ◌+◌, ◌-◌, ◌*◌, ◌≤◌, ◌<◌}
use mathlib.Core.Path.{◌≡◌, refl, sym, ap, ◌∙◌}
use mathlib.Core.Bool.{Bool, true, false, ◌||◌}
use mathlib.Core.List.{List, ◌++◌, append_assoc, append-nil}
use native.Mathlib.Omega.{arith}
use lib.ListN.{length, get_or, take, drop, length-append, length-take, length-drop, take-append-drop, get_or-eq_default}
use lib.Seq.{get_or-drop, get_or-take, take-take, take-add, take_at, drop_at, drop-drop, take_all, length-take-le}
use lib.Dec.{eqb}
use borrow.Author.Tests.{eqb-true, ne_eqb, lt-ltb, le-ltb, ltb-false}
use Rattle.diagram.specs.Diagram.{var_of, size}
use Rattle.writing.proofs.Laws.{by_le}
use Rattle.blocks.specs.Block.{Bytes, Outcome, nodes, refused, row, two, four, here, nodes_in, block_of, block_outcome, block_output, block_bytes, block_nodes, block_words, pair_span}
use Rattle.blocks.proofs.Testing.{Taken, is_taken, counted}
use Rattle.blocks.proofs.Meaning.{block_is, nodes_in_lem, nodes_narrow}
use Rattle.block_file.specs.File.{Reading, reading, end_of, after, read_on, read_file, blocks_from, file_of, part, block_count}

-- ---- words put in the middle of a list

module _ (out mid : List ℕ) (a h : ℕ) (fits : a + h ≤ length out) (len : length mid ≡ h) where
  abbrev pub put : List ℕ
  put = take a out ++ mid ++ drop (a + h) out

  front_len : length (take a out) ≡ a
  front_len = length-take-le a out (omega arith)

  pub both_len : length (take a out ++ mid) ≡ a + h
  both_len = length-append (take a out) mid ∙ omega (arith, front_len)

  pub put_length : length put ≡ length out
  put_length = length-append (take a out ++ mid) (drop (a + h) out) ∙ omega (arith, both_len, length-drop (a + h) out)

  pub put_before : take a put ≡ take a out
  put_before = rw (append_assoc (take a out) mid (drop (a + h) out)) (take_at (take a out) (mid ++ drop (a + h) out) a front_len)

  pub put_here : take h (drop a put) ≡ mid
  put_here =
      rw (append_assoc (take a out) mid (drop (a + h) out))
      (ap (take h) (drop_at (take a out) (mid ++ drop (a + h) out) a front_len) ∙ take_at mid (drop (a + h) out) h len)

  pub put_after : (k : ℕ) → a + h ≤ k → drop k put ≡ drop k out
  put_after k l =
      let e : a + h + (k - (a + h)) ≡ k = omega arith in
      let d : drop (a + h) put ≡ drop (a + h) out = drop_at (take a out ++ mid) (drop (a + h) out) (a + h) both_len in
      ap (λ (m : ℕ). drop m put) (sym e) ∙ sym (drop-drop (k - (a + h)) (a + h) put) ∙ ap (drop (k - (a + h))) d
      ∙ drop-drop (k - (a + h)) (a + h) out ∙ ap (λ (m : ℕ). drop m out) e

-- What reading on from a block tells, where it ends with n nodes: w is the words of all nodes.
pub record Told (number stated : ℕ) (s out left : List ℕ) (n : ℕ) : Type 0 where
  pub some : 0 < n
  pub stated_is : 0 < number → n ≡ stated
  pub whole : 3 * n ≤ length out
  pub same : length left ≡ length out
  pub kept : take (block_words * number) left ≡ take (block_words * number) out
  pub beyond : drop (3 * n) left ≡ drop (3 * n) out
  pub narrow : (p : ℕ) → block_nodes * number ≤ p → var_of (take (3 * n) left) p < pair_span
  pub file : drop (block_bytes * number) s ≡ blocks_from (take (3 * n) left) number (block_count n - number)

bytes_drop : (s : List ℕ) (k : ℕ) → Bytes s → Bytes (drop k s)
bytes_drop s k b i = rw (get_or-drop k s i 0) (b (k + i))

same_of : (a : Bool) (x y : ℕ) → (a || eqb x y) ≡ true → a ≡ false → x ≡ y
same_of false x y e f = eqb-true x y e
same_of true x y e f = let z : ◌≡◌ {A = ℕ} 0 1 = cc in absurd (omega arith)

drop_take : (l : List ℕ) (a k : ℕ) → a ≤ length l → drop a (take (a + k) l) ≡ take k (drop a l)
drop_take l a k h = ap (drop a) (take-add a k l) ∙ drop_at (take a l) (take k (drop a l)) a (length-take-le a l h)

-- the part of the words that a block holds, taken from the whole output
part_of : (left : List ℕ) (n number : ℕ) (m : ℕ) → block_words * number + m ≤ 3 * n → 3 * n ≤ length left → m ≤ block_words → (m < block_words → block_words * number + m ≡ 3 * n)
    → part (take (3 * n) left) number ≡ take m (drop (block_words * number) left)
part_of left n number m h l q z =
    let e : block_words * number + (3 * n - block_words * number) ≡ 3 * n = omega arith in
    let d : drop (block_words * number) (take (3 * n) left) ≡ take (3 * n - block_words * number) (drop (block_words * number) left) =
    ap (λ (k : ℕ). drop (block_words * number) (take k left)) (sym e) ∙ drop_take left (block_words * number) (3 * n - block_words * number) (omega arith) in
    ap (take block_words) d
    ∙ by_le block_words m
    (λ b. let g : m ≡ block_words = omega arith in rw g (take-take block_words (3 * n - block_words * number) (drop (block_words * number) left) (omega arith)))
    (λ b.
    let g : 3 * n - block_words * number ≡ m = omega (arith, z b) in
    rw g (take_all block_words (take m (drop (block_words * number) left)) (simp length-take (omega arith))))

-- the variables of a block's words, and past the end
beyond_narrow : (w : List ℕ) (p : ℕ) → length w ≤ 3 * p → var_of w p < pair_span
beyond_narrow w p h = let z : var_of w p ≡ 0 = get_or-eq_default w 0 h in omega arith

block_narrow : (w mid : List ℕ) (number : ℕ) → part w number ≡ mid → ((p : ℕ) → var_of mid p < pair_span) → (p : ℕ) → block_nodes * number ≤ p → p < block_nodes * suc number
    → var_of w p < pair_span
block_narrow w mid number e small p h l =
    let k : block_words * number + 3 * (p - block_nodes * number) ≡ 3 * p = omega arith in
    let v : get_or (part w number) (3 * (p - block_nodes * number)) 0 ≡ get_or w (block_words * number + 3 * (p - block_nodes * number)) 0 =
    get_or-take block_words (drop (block_words * number) w) (3 * (p - block_nodes * number)) 0 (omega arith) ∙ get_or-drop (block_words * number) w (3 * (p - block_nodes * number)) 0 in
    rw (sym k, sym v, e) (small (p - block_nodes * number))

module _ (s out : List ℕ) (small : Bytes s) {number stated n : ℕ} (t : Taken (drop (block_bytes * number) s) number stated (length out) n) where
  held_is : two (drop (block_bytes * number) s) 2 ≡ here n number
  held_is = (counted (drop (block_bytes * number) s) number stated t.counts).held ∙ ap (λ (k : ℕ). here k number) t.count

  some_held : 0 < two (drop (block_bytes * number) s) 2
  some_held = (counted (drop (block_bytes * number) s) number stated t.counts).some

  stated_now : 0 < number → n ≡ stated
  stated_now h = sym t.count ∙ same_of (eqb number 0) (four (drop (block_bytes * number) s) 504) stated (counted (drop (block_bytes * number) s) number stated t.counts).same (ne_eqb number 0 (omega arith))

  words_in : length (nodes_in (drop (block_bytes * number) s)) ≡ 3 * two (drop (block_bytes * number) s) 2
  words_in = nodes_in_lem (drop (block_bytes * number) s) (bytes_drop s (block_bytes * number) small) t

  this_block : take block_bytes (drop (block_bytes * number) s) ≡ block_of n number (nodes_in (drop (block_bytes * number) s))
  this_block = block_is (drop (block_bytes * number) s) (bytes_drop s (block_bytes * number) small) t

  told_last : n ≤ block_nodes * suc number → length s ≤ block_bytes * suc number
      → Told number stated s out (block_output number (drop (block_bytes * number) s) out (nodes n)) n
  unfolding block_output blocks_from
  told_last l e =
      let mid = nodes_in (drop (block_bytes * number) s) in
      let q : block_words * number + 3 * two (drop (block_bytes * number) s) 2 ≡ 3 * n = omega (arith, held_is, some_held) in
      let c : block_count n - number ≡ 1 = omega (arith, held_is, some_held) in
      let w : 3 * n ≤ length out = omega (arith, t.fits) in
      let p = put_length out mid (block_words * number) (3 * two (drop (block_bytes * number) s) 2) t.fits words_in in
      let z : size (take (3 * n) (put out mid (block_words * number) (3 * two (drop (block_bytes * number) s) 2) t.fits words_in)) ≡ n = simp length-take (omega arith) in
      let u : part (take (3 * n) (put out mid (block_words * number) (3 * two (drop (block_bytes * number) s) 2) t.fits words_in)) number ≡ mid =
      part_of (put out mid (block_words * number) (3 * two (drop (block_bytes * number) s) 2) t.fits words_in) n number (3 * two (drop (block_bytes * number) s) 2) (omega arith) (omega arith) (omega (arith, held_is)) (λ b. q)
      ∙ put_here out mid (block_words * number) (3 * two (drop (block_bytes * number) s) 2) t.fits words_in in
      let all_of : drop (block_bytes * number) s ≡ take block_bytes (drop (block_bytes * number) s) = sym (take_all block_bytes (drop (block_bytes * number) s) (simp length-drop (omega arith))) in
      record {
        some = omega (arith, held_is, some_held);
        narrow = λ g h. by_le (block_nodes * suc number) g
            (λ b. beyond_narrow (take (3 * n) (put out mid (block_words * number) (3 * two (drop (block_bytes * number) s) 2) t.fits words_in)) g (simp length-take (omega arith)))
            (λ b. block_narrow _ mid number u (nodes_narrow (drop (block_bytes * number) s) (bytes_drop s (block_bytes * number) small) 4 (two (drop (block_bytes * number) s) 2)) g h b);
        stated_is = stated_now;
        whole = w;
        same = p;
        kept = put_before out mid (block_words * number) (3 * two (drop (block_bytes * number) s) 2) t.fits words_in;
        beyond = put_after out mid (block_words * number) (3 * two (drop (block_bytes * number) s) 2) t.fits words_in (3 * n) (omega arith);
        file = rw (c, z, u) (all_of ∙ this_block ∙ sym (append-nil (block_of n number mid)));
      }

  told_more : {left : List ℕ} {m : ℕ} → block_nodes * suc number < n → Told (suc number) n s (block_output number (drop (block_bytes * number) s) out (nodes n)) left m
      → Told number stated s out left m
  unfolding block_output blocks_from
  told_more {left} {m} l a =
      let mid = nodes_in (drop (block_bytes * number) s) in
      let fifty : 3 * two (drop (block_bytes * number) s) 2 ≡ block_words = omega (arith, held_is) in
      let e : m ≡ n = a.stated_is (omega arith) in
      let p = put_length out mid (block_words * number) (3 * two (drop (block_bytes * number) s) 2) t.fits words_in in
      let after-it : block_words * suc number ≡ block_words * number + block_words = omega arith in
      let c : block_count m - number ≡ suc (block_count m - suc number) = omega arith in
      let long : length left ≡ length out = a.same ∙ p in
      let z : size (take (3 * m) left) ≡ m = simp length-take (omega (arith, a.whole)) in
      let here-left : take block_words (drop (block_words * number) left) ≡ mid =
      sym (drop_take left (block_words * number) block_words (omega (arith, t.fits)))
      ∙ ap (drop (block_words * number)) (rw after-it at a.kept)
      ∙ drop_take (put out mid (block_words * number) (3 * two (drop (block_bytes * number) s) 2) t.fits words_in) (block_words * number) block_words (omega (arith, t.fits))
      ∙ ap (λ (k : ℕ). take k (drop (block_words * number) (put out mid (block_words * number) (3 * two (drop (block_bytes * number) s) 2) t.fits words_in))) (sym fifty)
      ∙ put_here out mid (block_words * number) (3 * two (drop (block_bytes * number) s) 2) t.fits words_in in
      let u : part (take (3 * m) left) number ≡ mid =
      part_of left m number block_words (omega arith) (omega (arith, a.whole)) (omega arith) (λ b. absurd (omega arith)) ∙ here-left in
      let next : drop block_bytes (drop (block_bytes * number) s) ≡ drop (block_bytes * suc number) s =
      drop-drop block_bytes (block_bytes * number) s ∙ (let k : block_bytes * number + block_bytes ≡ block_bytes * suc number = omega arith in rw k) in
      let this-m : take block_bytes (drop (block_bytes * number) s) ≡ block_of m number mid = this_block ∙ ap (λ (k : ℕ). block_of k number mid) (sym e) in
      record {
        some = omega arith;
        narrow = λ g h. by_le (block_nodes * suc number) g
            (λ b. a.narrow g b)
            (λ b. block_narrow _ mid number u (nodes_narrow (drop (block_bytes * number) s) (bytes_drop s (block_bytes * number) small) 4 (two (drop (block_bytes * number) s) 2)) g h b);
        stated_is = λ h. e ∙ stated_now h;
        whole = omega (arith, a.whole);
        same = long;
        kept =
            sym (take-take (block_words * number) (block_words * suc number) left (omega arith)) ∙ ap (take (block_words * number)) a.kept
            ∙ take-take (block_words * number) (block_words * suc number) (put out mid (block_words * number) (3 * two (drop (block_bytes * number) s) 2) t.fits words_in) (omega arith)
            ∙ put_before out mid (block_words * number) (3 * two (drop (block_bytes * number) s) 2) t.fits words_in;
        beyond = a.beyond ∙ put_after out mid (block_words * number) (3 * two (drop (block_bytes * number) s) 2) t.fits words_in (3 * m) (omega arith);
        file =
            rw (c, z, u)
            (sym (take-append-drop block_bytes (drop (block_bytes * number) s)) ∙ rw (next, a.file) (ap (λ (b : List ℕ). b ++ blocks_from (take (3 * m) left) (suc number) (block_count m - suc number)) this-m));
      }

-- ---- the whole file

ends_there : (k : ℕ) (t : Bool) (p m n : ℕ) → row k t p (nodes m) ≡ nodes n → (t ≡ false) × (m ≡ n)
unfolding row
ends_there k true p m n e = let z : ◌≡◌ {A = ℕ} 0 1 = cc in absurd (omega arith)
ends_there k false p m n e = (refl, cc)

module _ (s : List ℕ) (small : Bytes s) {n : ℕ} {left : List ℕ} where
  told_after : (number stated : ℕ) (out : List ℕ) (o : Outcome) (next : ℕ → List ℕ → Reading)
      → block_outcome number stated (drop (block_bytes * number) s) (length out) ≡ o
      → ((m : ℕ) (l : List ℕ) → next m l ≡ reading (nodes n) left → Told (suc number) m s l left n)
      → after o number s (block_output number (drop (block_bytes * number) s) out o) next ≡ reading (nodes n) left → Told number stated s out left n
  unfolding end_of
  told_after number stated out (refused k p) next h f e = let z : ◌≡◌ {A = ℕ} 0 1 = cc in absurd (omega arith)
  told_after number stated out (nodes m) next h f e =
      let t = is_taken (drop (block_bytes * number) s) number stated (length out) m h in
      by_le m (block_nodes * suc number)
      (λ q.
      let e' : reading (end_of (length s) (suc number) m) (block_output number (drop (block_bytes * number) s) out (nodes m)) ≡ reading (nodes n) left =
      sym (simp (le-ltb (block_nodes * suc number) m q)) ∙ e in
      let g : end_of (length s) (suc number) m ≡ nodes n = cc in
      let d : block_output number (drop (block_bytes * number) s) out (nodes m) ≡ left = cc in
      let b = ends_there 21 _ (suc number) m n g in
      let r = told_last s out small t q (ltb-false (block_bytes * suc number) (length s) b.0) in
      rw (d, b.1) at r)
      (λ q. told_more s out small t q (f m _ (sym (simp (lt-ltb (block_nodes * suc number) m q)) ∙ e)))

  told : (c number stated : ℕ) (out : List ℕ) → read_on c number stated s out ≡ reading (nodes n) left → Told number stated s out left n
  unfolding read_on
  told zero number stated out e = let z : ◌≡◌ {A = ℕ} 0 1 = cc in absurd (omega arith)
  told (suc c) number stated out e =
      told_after number stated out (block_outcome number stated (drop (block_bytes * number) s) (length out)) _ refl (λ m l h. told c (suc number) m l h) e

-- Every file that is read is the file of its nodes, and the output beyond them is as it was.
pub record Stands (s out left : List ℕ) (n : ℕ) : Type 0 where
  pub file : s ≡ file_of (take (3 * n) left)
  pub beyond : drop (3 * n) left ≡ drop (3 * n) out
  pub same : length left ≡ length out
  pub some : 0 < n
  pub count : size (take (3 * n) left) ≡ n
  pub narrow : (p : ℕ) → var_of (take (3 * n) left) p < pair_span

pub read_is_file : (s out : List ℕ) → Bytes s → {n : ℕ} {left : List ℕ} → read_file s out ≡ reading (nodes n) left → Stands s out left n
unfolding read_file file_of
read_is_file s out small {n} {left} e =
    let a = told s small 3 0 0 out e in
    let z : size (take (3 * n) left) ≡ n = simp length-take (omega (arith, a.whole, a.same)) in
    let c : block_count n - 0 ≡ block_count n = omega arith in
    record { file = rw z (rw c at a.file); beyond = a.beyond; same = a.same; some = a.some; count = z; narrow = λ p. a.narrow p (omega arith) }
