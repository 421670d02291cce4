-- What is promised of comparing files, from bytes to bytes.
use Prim.Native.Nat.{ℕ, ◌+◌, ◌*◌, ◌≤◌}
use mathlib.Core.Path.{◌≡◌, refl, sym, ap, ◌∙◌}
use mathlib.Core.Bool.{false}
use Rattle.std.specs.Prelude.{Option, Some, None, option_map}
use mathlib.Core.Logic.{◌⊎◌, inl, inr}
use mathlib.Core.List.{List, []}
use native.Mathlib.Omega.{arith}
use lib.ListN.{length, take, drop}
use Rattle.diagram.specs.Limits.{max_variables}
use Rattle.diagram.specs.Diagram.{size, vars, Accepted}
use Rattle.diagram.proofs.Reading.{accepted_ordered}
use Rattle.pairs.specs.Pairs.{pairs_of}
use Rattle.pairs.proofs.Meeting.{pair_ext}
use Rattle.pairs.proofs.Numbering.{few_by}
use Rattle.blocks.specs.Block.{max_stored}
use Rattle.messages.specs.Texts.{lent_pairs}
use Rattle.diagram.specs.Verdict.{Outcome, accepted, refused as rejected}
use Rattle.block_file.specs.File.{Reading}
use Rattle.node_file.specs.NodeFile.{node_input_bytes}
use Rattle.forms.specs.declared.Form.{Form}
use Rattle.forms.specs.declared.Form.TheVariants.{Blocks as InBlocks, Nodes as InNodes}
use Rattle.forms.proofs.Promised.{front_enough}
use Rattle.writing.proofs.Laws.{wrote_place}
use Rattle.report.specs.Report.{room_lent, blank}
use Rattle.differ_texts.specs.Texts.{name_buffer, lines_buffer, text_buffer, blamed}
use Rattle.differ_texts.proofs.Fitting.{lines_fit, missing_fits, named_fits, blamed_fits}
use Rattle.comparison.specs.Comparison.{differ, first_only, second_only, in_both, any_differ, least, compare_of, which_of}
use Rattle.comparison.proofs.Least.{least_length}
use Rattle.differing.specs.Differing.{looks, old_name, new_name, File, missing, refused, holding, file_read, file_of, row, answer_text, Done, told, shown, table_lent, if_compared, words_done, if_new, if_old, files_done, done, line_bytes, text_bytes, Differs}
use Rattle.differing.specs.Differed.{Differed}
use Rattle.differing.specs.declared.words.Asked.{Asked}
use Rattle.differing.specs.declared.words.Asked.TheVariants.{Help, Unknown, Compare}
use Rattle.differing.proofs.Rows.{row_length}
use Rattle.differing.proofs.Answering.{vars_are, vars_few}

one_channel : (d : Done) → (line_bytes d ≡ []) ⊎ (text_bytes d ≡ [])
one_channel (told x) = inl refl
one_channel (shown x) = inr refl

no_files : (m : Asked) (a b c : List ℕ) (s t x y : Option (List ℕ)) → looks m ≡ false → done m a b c s t ≡ done m a b c x y
unfolding done
no_files Help a b c s t x y e = refl
no_files Unknown a b c s t x y e = refl
no_files (Compare form) a b c s t x y e = let z : ◌≡◌ {A = ℕ} 0 1 = cc in absurd (omega arith)

-- ---- the lines

module _ (old new a b : List ℕ) where
  compared_fits : (o : Outcome) → compare_of a b room_lent table_lent ≡ o → length (line_bytes (if_compared old new a b o)) ≤ lines_buffer
  unfolding answer_text
  compared_fits (accepted n v) e =
      let bs = least (vars a) (differ a b) in
      let long : length (row bs) ≤ max_variables
      = omega (arith, row_length bs, least_length (vars a) (differ a b), vars_are a b room_lent table_lent e, vars_few a b room_lent table_lent e) in
      lines_fit (vars a) (first_only a b) (second_only a b) (in_both a b) (any_differ a b) (row bs) long
  compared_fits (rejected k p) e = omega arith

  words_fit : length (line_bytes (words_done old new a b)) ≤ lines_buffer
  unfolding words_done
  words_fit = compared_fits (compare_of a b room_lent table_lent) refl

new_fits : (old new a : List ℕ) (f : File) → length (line_bytes (if_new old new a f)) ≤ lines_buffer
new_fits old new a missing = omega arith
new_fits old new a (refused k p) = omega arith
new_fits old new a (holding b) = words_fit old new a b

old_fits : (old new : List ℕ) (e f : File) → length (line_bytes (if_old old new e f)) ≤ lines_buffer
old_fits old new missing f = omega arith
old_fits old new (refused k p) f = omega arith
old_fits old new (holding a) f = new_fits old new a f

lines_fit_all : (m : Asked) (a b c : List ℕ) (s t : Option (List ℕ)) → length (line_bytes (done m a b c s t)) ≤ lines_buffer
unfolding done files_done
lines_fit_all Help a b c s t = omega arith
lines_fit_all Unknown a b c s t = omega arith
lines_fit_all (Compare form) a b c s t = old_fits (old_name form a b) (new_name form b c) (file_of form s) (file_of form t)

-- ---- the text

module _ (old new : List ℕ) (h : length old ≤ name_buffer) (g : length new ≤ name_buffer) where
  compared_text_lem : (a b : List ℕ) (o : Outcome) → length (text_bytes (if_compared old new a b o)) ≤ text_buffer
  compared_text_lem a b (accepted n v) = omega arith
  compared_text_lem a b (rejected k p) = named_fits (blamed old new k (which_of a b room_lent)) (blamed_fits old new k (which_of a b room_lent) h g) k p

  new_text : (a : List ℕ) (f : File) → length (text_bytes (if_new old new a f)) ≤ text_buffer
  unfolding words_done
  new_text a missing = missing_fits new g
  new_text a (refused k p) = named_fits new g k p
  new_text a (holding b) = compared_text_lem a b (compare_of a b room_lent table_lent)

  old_text : (e f : File) → length (text_bytes (if_old old new e f)) ≤ text_buffer
  old_text missing f = missing_fits old h
  old_text (refused k p) f = named_fits old h k p
  old_text (holding a) f = new_text a f

text_fits_all : (m : Asked) (a b c : List ℕ) (s t : Option (List ℕ)) → length a ≤ name_buffer → length b ≤ name_buffer → length c ≤ name_buffer
    → length (text_bytes (done m a b c s t)) ≤ text_buffer
unfolding done files_done
text_fits_all Help a b c s t x y z = omega arith
text_fits_all Unknown a b c s t x y z = omega arith
text_fits_all (Compare InBlocks) a b c s t x y z = old_text a b x y (file_of InBlocks s) (file_of InBlocks t)
text_fits_all (Compare InNodes) a b c s t x y z = old_text b c y z (file_of InNodes s) (file_of InNodes t)

-- ---- the files

file_front : (form : Form) (s : Option (List ℕ)) (k : ℕ) → node_input_bytes ≤ k → file_of form (option_map (take k) s) ≡ file_of form s
unfolding file_of
file_front form (Some s) k h = ap file_read (front_enough form s blank k h)
file_front form None k h = refl

front_is_enough : (m : Asked) (a b c : List ℕ) (s t : Option (List ℕ)) (k : ℕ) → node_input_bytes ≤ k → done m a b c (option_map (take k) s) (option_map (take k) t) ≡ done m a b c s t
unfolding done files_done
front_is_enough Help a b c s t k h = refl
front_is_enough Unknown a b c s t k h = refl
front_is_enough (Compare form) a b c s t k h = rw (file_front form s k h, file_front form t k h) refl

-- ---- the table: the places of a block file's nodes number the pairs

blocks_enough : (a b : List ℕ) → Accepted a → Accepted b → vars a ≡ vars b → size a ≤ max_stored → size b ≤ max_stored → pairs_of a b ≤ lent_pairs
blocks_enough a b first second same small narrow =
    few_by (λ x. x.first * max_stored + x.second) lent_pairs a b
    (record { first = accepted_ordered a first; second = accepted_ordered b second; variables = same })
    (λ x h. omega (arith, h.first, h.second))
    (λ x y h g e. pair_ext x y (omega (arith, h.second, g.second)) (omega (arith, h.second, g.second)))

pub differed : Differed
differed =
    record {
      one_channel = one_channel;
      no_files = no_files;
      lines_fit = lines_fit_all;
      text_fits = text_fits_all;
      front_enough = front_is_enough;
      blocks_enough = blocks_enough;
    }

-- ---- what stands in the buffers up to the ends is the whole of both answers

pub ends_whole : (d : Done) {lines lines' text text' : List ℕ} {end text-end : ℕ} → Differs d lines lines' text text' end text-end
    → length (line_bytes d) ≤ length lines → length (text_bytes d) ≤ length text → (end ≡ length (line_bytes d)) × (text-end ≡ length (text_bytes d))
ends_whole d h l t = (omega (arith, wrote_place h.printed (omega arith)), omega (arith, wrote_place h.said (omega arith)))
