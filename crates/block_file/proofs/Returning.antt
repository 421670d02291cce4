-- What is written reads back to the same nodes; the output beyond them is as it was.
use Prim.Native.Nat.{ℕ, zero, suc, ◌+◌, ◌-◌, ◌*◌, ◌≤◌, ◌<◌, ◌^◌}
use mathlib.Core.Path.{◌≡◌, refl, sym, ap, ◌∙◌}
use mathlib.Core.List.{List, ◌++◌, append_assoc}
use native.Mathlib.Omega.{arith}
use lib.ListN.{length, get_or, take, drop, length-take, length-drop, take-append-drop}
use lib.Seq.{take_at, drop_at, drop-drop, take_all}
use borrow.Author.Tests.{lt-ltb, le-ltb}
use Rattle.diagram.specs.Diagram.{size}
use Rattle.writing.proofs.Laws.{by_le}
use Rattle.blocks.specs.Block.{Stored, Outcome, nodes, said, here, block_of, block_outcome, block_output, two, block_bytes, block_nodes, block_words}
use Rattle.std.specs.Prelude.{Ok}
use Rattle.blocks.proofs.Front.{block_length}
use Rattle.blocks.proofs.Written.{Fits, held_back, words_back, taken_back}
use Rattle.block_file.specs.File.{reading, after, read_on, read_file, blocks_from, file_of, part, block_count, write_outcome, written, ReadsFile, WritesFile, Storable}
use Rattle.block_file.proofs.Steps.{end_right}
use Rattle.block_file.proofs.Storing.{part_few, part_small, part_narrow, file_length, is_written}
use Rattle.block_file.proofs.Reading.{put_length, both_len, put_after}

-- One step of the reader, where the block due answers and leaves what is given.
step : (c number stated : ℕ) (s out : List ℕ) {o : Outcome} {left : List ℕ} → block_outcome number stated (drop (block_bytes * number) s) (length out) ≡ o
    → block_output number (drop (block_bytes * number) s) out o ≡ left
    → read_on (suc c) number stated s out ≡ after o number s left (λ n l. read_on c (suc number) n s l)
unfolding read_on
step c number stated s out e f = rw (e, f)

module _ (w : List ℕ) (a : Storable w) (fits : Fits w) where
  part_fits : (number : ℕ) → Fits (part w number)
  part_fits number = record { small = part_small w number (2 ^ 32) (omega arith) fits.small; narrow = part_narrow w number fits.narrow }

  -- A block of the file, where it is due.
  module _ (number stated : ℕ) (s out : List ℕ) (more : block_nodes * number < size w) (same : 0 < number → stated ≡ size w) (room : length w ≤ length out)
      (stands : drop (block_bytes * number) s ≡ blocks_from w number (block_count (size w) - number)) where
    abbrev rest : List ℕ
    rest = blocks_from w (suc number) (block_count (size w) - suc number)

    abbrev held : ℕ
    held = here (size w) number

    part_length : length (part w number) ≡ 3 * held
    part_length = simp (length-take, length-drop) (omega (arith, a.whole))

    block_due : drop (block_bytes * number) s ≡ block_of (size w) number (part w number) ++ rest
    unfolding blocks_from
    block_due =
        let e : block_count (size w) - number ≡ suc (block_count (size w) - suc number) = omega arith in
        stands ∙ rw e

    answers : block_outcome number stated (drop (block_bytes * number) s) (length out) ≡ nodes (size w)
    answers =
        ap (λ (l : List ℕ). block_outcome number stated l (length out)) block_due
        ∙ taken_back (size w) number (part w number) rest held part_length (omega arith) a.few refl (part_fits number) stated same (length out) (omega (arith, a.whole))

    abbrev left : List ℕ
    left = take (block_words * number) out ++ part w number ++ drop (block_words * number + 3 * held) out

    leaves : block_output number (drop (block_bytes * number) s) out (nodes (size w)) ≡ left
    unfolding block_output
    leaves =
        ap (λ (l : List ℕ). block_output number l out (nodes (size w))) block_due
        ∙ ap (λ (m : List ℕ). take (block_words * number) out ++ m ++ drop (block_words * number + 3 * two (block_of (size w) number (part w number) ++ rest) 2) out)
        (words_back (size w) number (part w number) rest held part_length (omega arith) a.few refl (part_fits number))
        ∙ ap (λ (k : ℕ). take (block_words * number) out ++ part w number ++ drop (block_words * number + 3 * k) out)
        (held_back (size w) number (part w number) rest held part_length (omega arith) a.few refl (part_fits number))

    stands_next : drop (block_bytes * suc number) s ≡ rest
    stands_next =
        let e : block_bytes * number + block_bytes ≡ block_bytes * suc number = omega arith in
        rw e at (sym (drop-drop block_bytes (block_bytes * number) s) ∙ ap (drop block_bytes) block_due
        ∙ drop_at (block_of (size w) number (part w number)) rest block_bytes (block_length (size w) number (part w number) (part_few w number)))

    left_length : length left ≡ length out
    left_length = put_length out (part w number) (block_words * number) (3 * held) (omega (arith, a.whole)) part_length

    -- the last block
    left_last : size w ≤ block_nodes * suc number → left ≡ take (block_words * number) out ++ drop (block_words * number) w ++ drop (length w) out
    left_last h =
        let e : block_words * number + 3 * held ≡ length w = omega (arith, a.whole) in
        let p : part w number ≡ drop (block_words * number) w = take_all block_words (drop (block_words * number) w) (simp length-drop (omega (arith, a.whole))) in
        rw (e, p)

    -- a block before it
    left_more : block_nodes * suc number < size w → take (block_words * suc number) left ++ drop (block_words * suc number) w ++ drop (length w) left
        ≡ take (block_words * number) out ++ drop (block_words * number) w ++ drop (length w) out
    left_more h =
        let fit : block_words * number + 3 * held ≤ length out = omega (arith, a.whole) in
        let e : block_words * number + 3 * held ≡ block_words * suc number = omega arith in
        let t : take (block_words * suc number) left ≡ take (block_words * number) out ++ part w number =
        ap (λ (k : ℕ). take k left) (sym e)
        ∙ take_at (take (block_words * number) out ++ part w number) (drop (block_words * number + 3 * held) out) (block_words * number + 3 * held) (both_len out (part w number) (block_words * number) (3 * held) fit part_length) in
        let d : drop (length w) left ≡ drop (length w) out = put_after out (part w number) (block_words * number) (3 * held) fit part_length (length w) (omega (arith, a.whole)) in
        let n : drop block_words (drop (block_words * number) w) ≡ drop (block_words * suc number) w =
        drop-drop block_words (block_words * number) w ∙ (let k : block_words * number + block_words ≡ block_words * suc number = omega arith in rw k) in
        let j : part w number ++ drop (block_words * suc number) w ≡ drop (block_words * number) w = ap (λ (l : List ℕ). part w number ++ l) (sym n) ∙ take-append-drop block_words (drop (block_words * number) w) in
        ap (λ (l : List ℕ). l ++ drop (block_words * suc number) w ++ drop (length w) left) t
        ∙ ap (λ (l : List ℕ). take (block_words * number) out ++ part w number ++ drop (block_words * suc number) w ++ l) d
        ∙ ap (λ (l : List ℕ). l ++ drop (length w) out) (append_assoc (take (block_words * number) out) (part w number) (drop (block_words * suc number) w) ∙ ap (λ (l : List ℕ). take (block_words * number) out ++ l) j)

  reads_back : (c number stated : ℕ) (s out : List ℕ) → block_count (size w) ≤ c + number → block_nodes * number < size w → (0 < number → stated ≡ size w)
      → length w ≤ length out → length s ≡ block_bytes * block_count (size w) → drop (block_bytes * number) s ≡ blocks_from w number (block_count (size w) - number)
      → read_on c number stated s out ≡ reading (nodes (size w)) (take (block_words * number) out ++ drop (block_words * number) w ++ drop (length w) out)
  reads_back zero number stated s out fuel more same room len stands = absurd (omega arith)
  reads_back (suc c) number stated s out fuel more same room len stands =
      step c number stated s out (answers number stated s out more same room stands) (leaves number stated s out more same room stands)
      ∙ by_le (size w) (block_nodes * suc number)
      (λ h.
      simp (le-ltb (block_nodes * suc number) (size w) h)
      (ap (λ (o : Outcome). reading o (left number stated s out more same room stands)) (sym (end_right (length s) (suc number) (size w) (omega arith)))
      ∙ ap (reading (nodes (size w))) (left_last number stated s out more same room stands h)))
      (λ h.
      simp (lt-ltb (block_nodes * suc number) (size w) h)
      (reads_back c (suc number) (size w) s (left number stated s out more same room stands) (omega arith) h (λ z. refl) (omega (arith, left_length number stated s out more same room stands)) len
      (stands_next number stated s out more same room stands)
      ∙ ap (reading (nodes (size w))) (left_more number stated s out more same room stands h)))

-- Words that the writer does not refuse are words that fit.
fits_of : (w : List ℕ) (lent n : ℕ) → ((k : ℕ) → get_or w k 0 < 2 ^ 32) → write_outcome w lent ≡ nodes n → Fits w
fits_of w lent n small e = record { small = small; narrow = (is_written w lent n e).lengths.narrow }

-- What is written reads back: where the writer answers n nodes, its file is read as n nodes, into any output that they
-- fit; the output then begins with the words that were written, and beyond them it is as it was.
pub written_reads : (w out : List ℕ) (lent : ℕ) {n : ℕ} → ((k : ℕ) → get_or w k 0 < 2 ^ 32) → write_outcome w lent ≡ nodes n → length w ≤ length out
    → read_file (file_of w) out ≡ reading (nodes n) (w ++ drop (length w) out)
unfolding read_file file_of
written_reads w out lent {n} small e room =
    let a = is_written w lent n e in
    let z : block_count (size w) - 0 ≡ block_count (size w) = omega arith in
    reads_back w a.lengths (fits_of w lent n small e) 3 0 0 (file_of w) out (omega (arith, a.lengths.few)) (omega (arith, a.lengths.some)) (λ h. absurd (omega arith)) room (file_length w) (rw z)
    ∙ ap (λ (k : ℕ). reading (nodes k) (w ++ drop (length w) out)) a.count

-- The same of the two functions: n nodes were written into `file`, and its blocks are read into `out`.
pub written_then_read : {w before file out left : List ℕ} {n : ℕ} {r : Stored} → ((k : ℕ) → get_or w k 0 < 2 ^ 32)
    → WritesFile w before file (Ok n) → ReadsFile (take (block_bytes * block_count n) file) out left r → length w ≤ length out
    → (said r ≡ nodes n) × (left ≡ w ++ drop (length w) out)
unfolding written
written_then_read {w} {before} {file} {out} {left} {n} {r} small a b room =
    let e : write_outcome w (length before) ≡ nodes n = sym a.answer in
    let f : file ≡ file_of w ++ drop (length (file_of w)) before = a.leaves ∙ rw e in
    let l : length (file_of w) ≡ block_bytes * block_count n = file_length w ∙ rw (is_written w (length before) n e).count in
    let t : take (block_bytes * block_count n) file ≡ file_of w = ap (take (block_bytes * block_count n)) f ∙ take_at (file_of w) (drop (length (file_of w)) before) (block_bytes * block_count n) l in
    let g : reading (said r) left ≡ reading (nodes n) (w ++ drop (length w) out) = b.is ∙ ap (λ (s : List ℕ). read_file s out) t ∙ written_reads w out (length before) small e room in
    (cc, cc)
