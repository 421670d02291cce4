-- What is read, the writer accepts; and what is promised of block files.
use Prim.Native.Nat.{ℕ, ◌*◌, ◌%◌, ◌≤◌}
use mathlib.Core.Path.{◌≡◌, sym, ap, ◌∙◌}
use mathlib.Core.Logic.{◌≢◌}
use mathlib.Core.List.{List, ◌++◌}
use native.Mathlib.Omega.{arith}
use lib.ListN.{length, take, drop, length-take}
use Rattle.diagram.specs.Diagram.{size}
use Rattle.blocks.specs.Block.{Bytes, nodes, block_bytes, max_stored}
use Rattle.block_file.specs.File.{block_count, reading, read_file, first_wide, write_outcome, written}
use Rattle.block_file.specs.Files.{Files}
use Rattle.block_file.proofs.Steps.{read_few}
use Rattle.block_file.proofs.Storing.{storable, file_length, narrow_all, narrow_end}
use Rattle.block_file.proofs.Reading.{read_is_file}
use Rattle.block_file.proofs.Returning.{written_reads}
use Rattle.block_file.proofs.Enough.{front_enough}

module _ (s out left : List ℕ) (n : ℕ) (small : Bytes s) (e : read_file s out ≡ reading (nodes n) left) where
  abbrev words : List ℕ
  words = take (3 * n) left

  pub accepted_back : (lent : ℕ) → length s ≤ lent → write_outcome words lent ≡ nodes n
  unfolding read_file
  accepted_back lent h =
      let a = read_is_file s out small e in
      let few : n ≤ max_stored = read_few 3 0 0 s out e in
      let long : length words ≡ 3 * n = simp length-take (omega (arith, a.count, simp length-take at a.count)) in
      let wide : size words ≡ first_wide words = narrow_end (narrow_all words a.narrow (size words) (omega arith)) (omega arith) in
      let file : length s ≡ block_bytes * block_count n = ap length a.file ∙ file_length words ∙ rw a.count in
      let some : length words ≢ 0 = λ z. omega (arith, a.some) in
      let whole : length words % 3 ≡ 0 = omega arith in
      let fit : block_bytes * block_count (size words) ≤ lent = rw a.count (omega arith) in
      sym (storable words lent some whole (omega (arith, a.count)) fit wide (omega arith)) ∙ ap nodes a.count

  pub read_then_written : (file : List ℕ) → length s ≤ length file
      → (write_outcome words (length file) ≡ nodes n) × (written words file (nodes n) ≡ s ++ drop (length s) file)
  unfolding written
  read_then_written file h = (accepted_back (length file) h, rw (sym (read_is_file s out small e).file))

pub files : Files
files =
    record {
      written_reads = λ w out lent n small e room. written_reads w out lent small e room;
      read_is_file = λ s out left n small e. (let a = read_is_file s out small e in (a.file, a.beyond));
      read_then_written = λ s out left file n small e h. read_then_written s out left n small e file h;
      front_enough = front_enough;
    }
