-- The buffers hold the whole of both answers.
use Prim.Native.Nat.{ℕ}
use mathlib.Core.Path.{◌≡◌}
use Rattle.std.specs.Prelude.{Option}
use mathlib.Core.List.{List}
use native.Mathlib.Omega.{arith}
use lib.ListN.{length}
use Rattle.differ_texts.specs.Texts.{lines_buffer, text_buffer}
use Rattle.differing.specs.Differing.{asked_of, Differs}
use Rattle.differing.proofs.Promised.{differed, ends_whole}
use Rattle.differ.specs.Program.{Words, outcome, Answered, Ran}

module _ (count : ℕ) (first second third : List ℕ) (old new : Option (List ℕ)) where
  pub answered : Words first second third → {lines lines' text text' : List ℕ} {end text-end : ℕ}
      → Differs (outcome count first second third old new) lines lines' text text' end text-end
      → length lines ≡ lines_buffer → length text ≡ text_buffer → Answered count first second third old new end text-end
  answered w h l t =
      let fits = differed.lines_fit (asked_of count first) first second third old new in
      let also = differed.text_fits (asked_of count first) first second third old new w.first_fits w.second_fits w.third_fits in
      let e = ends_whole (outcome count first second third old new) h (omega (arith, fits)) (omega (arith, also)) in
      record { printed = e.0; said = e.1 }

  pub ran : {end text-end : ℕ} → Answered count first second third old new end text-end → Ran end text-end
  ran a =
      record {
        count = count;
        first = first;
        second = second;
        third = third;
        old = old;
        new = new;
        answered = a;
      }
