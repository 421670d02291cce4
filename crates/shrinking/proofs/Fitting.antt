-- Both answers fit the buffers of the program, and one byte more than a file may have is enough of the input.
use Prim.Native.Nat.{ℕ, ◌+◌, ◌*◌, ◌≤◌, ◌<◌}
use mathlib.Core.Path.{◌≡◌, refl, sym, ap, ◌∙◌}
use mathlib.Core.Bool.{Bool, true, false}
use mathlib.Core.List.{List, [], ◌++◌}
use mathlib.Core.Logic.{◌≢◌}
use native.Mathlib.Omega.{arith}
use lib.ListN.{length, take, drop, length-append}
use lib.Seq.{take_at}
use lib.Dec.{ltb}
use borrow.Author.Tests.{ltb-true, ltb-false}
use Rattle.diagram.specs.Diagram.{size}
use Rattle.diagram.specs.Valuations.{count_of}
use Rattle.diagram.specs.Verdict.{Outcome, accepted, refused as rejected}
use Rattle.diagram.specs.Limits.{max_words}
use Rattle.blocks.specs.Block.{Outcome as Stored, nodes as stored, refused as unread}
use Rattle.block_file.specs.File.{Reading, reading}
use Rattle.node_file.specs.NodeFile.{node_input_bytes}
use Rattle.forms.specs.Form.{read_as, write_as, file_as}
use Rattle.forms.specs.declared.Form.{Form}
use Rattle.forms.proofs.Laws.{is_stored}
use Rattle.forms.proofs.Promised.{front_enough}
use Rattle.writing.specs.Writing.{Wrote}
use Rattle.writing.proofs.Laws.{wrote_length, wrote_fits, wrote_place}
use Rattle.messages.proofs.Fitting.{refusal_length, target_length, sizes_length, counts_length, change_length, trials_length}
use Rattle.request.specs.Request.{Aim, Meaning, help, unknown, which, cut}
use Rattle.shrinking.specs.Shrinking.{Done, told, refused, shrunk, if_stored, storing, wanted, wanted_verdict, if_cut, diagram_done, if_read, looks, done, summary, file_bytes, text_bytes, file_buffer, text_buffer, Shrinks}
use Rattle.report.specs.Report.{room_lent, blank}

summary_length : (keep : Bool) (aim : Aim) (w a : List ℕ) (trials : ℕ) → length (summary keep aim w a trials) ≤ text_buffer
unfolding summary
summary_length keep aim w a trials =
    simp length-append
    (omega (
      arith,
      target_length keep aim,
      sizes_length (size w) (size a),
      counts_length (count_of w) (count_of a),
      change_length keep (count_of w) (count_of a),
      trials_length trials,
    ))

-- What is true of every refusal and of every cut that is stored is true of all that a cut can come to.
module _ (form : Form) (P : Done → Type 0) (lent : ℕ) (no : (number place : ℕ) → P (refused number place))
    (yes : (keep : Bool) (aim : Aim) (w a : List ℕ) (trials n : ℕ) → write_as form a lent ≡ stored n → P (shrunk form keep aim w a trials)) where
  if_stored_lem : (keep : Bool) (aim : Aim) (w a : List ℕ) (trials : ℕ) (o : Stored) → write_as form a lent ≡ o → P (if_stored form keep aim w a trials o)
  if_stored_lem keep aim w a trials (stored n) e = yes keep aim w a trials n e
  if_stored_lem keep aim w a trials (unread number place) e = no number place

  storing_all : (keep : Bool) (aim : Aim) (w a : List ℕ) (trials : ℕ) → P (storing form keep aim w a trials lent)
  unfolding storing
  storing_all keep aim w a trials = if_stored_lem keep aim w a trials (write_as form a lent) refl

  if_cut_lem : (keep as_is : Bool) (aim : Aim) (w : List ℕ) (o : Outcome) → P (if_cut form keep as_is aim w lent o)
  if_cut_lem keep as_is aim w (accepted n v) = storing_all keep aim w (wanted keep as_is aim w).words (wanted keep as_is aim w).trials
  if_cut_lem keep as_is aim w (rejected number place) = no number place

  diagram_all : (keep as_is : Bool) (aim : Aim) (w : List ℕ) → P (diagram_done form keep as_is aim w lent)
  unfolding diagram_done
  diagram_all keep as_is aim w = if_cut_lem keep as_is aim w (wanted_verdict keep aim w room_lent max_words)

  read_all : (keep as_is : Bool) (aim : Aim) (r : Reading) → P (if_read form keep as_is aim lent r)
  read_all keep as_is aim (reading (stored n) left) = diagram_all keep as_is aim (take (3 * n) left)
  read_all keep as_is aim (reading (unread number place) left) = no number place

pub file_fits : (form : Form) (m : Meaning) (s : List ℕ) (lent : ℕ) → length (file_bytes (done form m s lent)) ≤ file_buffer
unfolding done
file_fits form help s lent = omega arith
file_fits form unknown s lent = omega arith
file_fits form which s lent = omega arith
file_fits form (cut keep as_is aim) s lent =
    read_all form (λ d. length (file_bytes d) ≤ file_buffer) lent (λ number place. omega arith)
    (λ k b w a trials n e. (let i = is_stored form a lent n e in omega (arith, i.long, i.within)))
    keep as_is aim (read_as form s blank)

pub text_fits : (form : Form) (m : Meaning) (s : List ℕ) (lent : ℕ) → length (text_bytes (done form m s lent)) ≤ text_buffer
unfolding done
text_fits form help s lent = omega arith
text_fits form unknown s lent = omega arith
text_fits form which s lent = omega arith
text_fits form (cut keep as_is aim) s lent =
    read_all form (λ d. length (text_bytes d) ≤ text_buffer) lent (λ number place. omega (arith, refusal_length number place))
    (λ k b w a trials n e. summary_length k b w a trials)
    keep as_is aim (read_as form s blank)

-- ---- the input

pub front_is_enough : (form : Form) (m : Meaning) (s : List ℕ) (k lent : ℕ) → node_input_bytes ≤ k → done form m (take k s) lent ≡ done form m s lent
unfolding done
front_is_enough form help s k lent h = refl
front_is_enough form unknown s k lent h = refl
front_is_enough form which s k lent h = refl
front_is_enough form (cut keep as_is aim) s k lent h = ap (if_read form keep as_is aim lent) (front_enough form s blank k h)

pub no_file : (form : Form) (m : Meaning) (s : List ℕ) (lent : ℕ) → looks m ≡ false → file_bytes (done form m s lent) ≡ []
unfolding done
no_file form help s lent e = refl
no_file form unknown s lent e = refl
no_file form which s lent e = refl
no_file form (cut keep as_is aim) s lent e = let z : ◌≡◌ {A = ℕ} 0 1 = cc in absurd (omega arith)

pub no_input : (form : Form) (m : Meaning) (s t : List ℕ) (lent : ℕ) → looks m ≡ false → done form m s lent ≡ done form m t lent
unfolding done
no_input form help s t lent e = refl
no_input form unknown s t lent e = refl
no_input form which s t lent e = refl
no_input form (cut keep as_is aim) s t lent e = let z : ◌≡◌ {A = ℕ} 0 1 = cc in absurd (omega arith)

-- ---- what stands in the buffers up to the ends is the whole of both answers

pub ends_are_whole : (d : Done) {file left text text' : List ℕ} {end text-end : ℕ} → length (text_bytes d) ≤ length text → Shrinks d file left text text' end text-end
    → (end ≡ length (file_bytes d)) × (text-end ≡ length (text_bytes d)) × (take end left ≡ file_bytes d) × (take text-end text' ≡ text_bytes d)
ends_are_whole d {file} {left} {text} {text'} {end} {text-end} roomy g =
    let l : 0 + length (text_bytes d) ≤ length text = omega arith in
    let e : length (text_bytes d) ≡ text-end = omega (arith, wrote_place g.told l) in
    let f : text' ≡ text_bytes d ++ drop (0 + length (text_bytes d)) text = wrote_fits g.told l in (
      g.stored_end,
      sym e,
      ap (take end) g.stored ∙ take_at (file_bytes d) (drop (length (file_bytes d)) file) end (sym g.stored_end),
      ap (take text-end) f ∙ take_at (text_bytes d) (drop (0 + length (text_bytes d)) text) text-end e,
    )

pub ends_whole : (form : Form) (m : Meaning) (s : List ℕ) {file left text text' : List ℕ} {end text-end : ℕ} → length file ≡ file_buffer → text_buffer ≤ length text
    → Shrinks (done form m s (length file)) file left text text' end text-end
    → (end ≡ length (file_bytes (done form m s file_buffer))) × (text-end ≡ length (text_bytes (done form m s file_buffer)))
    × (take end left ≡ file_bytes (done form m s file_buffer)) × (take text-end text' ≡ text_bytes (done form m s file_buffer))
ends_whole form m s {file} {left} {text} {text'} {end} {text-end} lent roomy h =
    let d = done form m s file_buffer in
    let g : Shrinks d file left text text' end text-end = rw lent at h in
    let l : length (text_bytes d) ≤ length text = omega (arith, text_fits form m s file_buffer) in ends_are_whole d l g
