-- Both answers fit the buffers of the program, and so do the words.
use Prim.Native.Nat.{ℕ, ◌+◌, ◌*◌, ◌≤◌, ◌<◌}
use mathlib.Core.Path.{◌≡◌, refl, sym, ap, ◌∙◌}
use mathlib.Core.Bool.{false}
use mathlib.Core.List.{List, [], ◌++◌}
use native.Mathlib.Omega.{arith}
use lib.ListN.{length, take, drop, length-append}
use lib.Seq.{take_at}
use Rattle.diagram.specs.Diagram.{size}
use Rattle.blocks.specs.Block.{Outcome as Stores, nodes as stored, refused as unread}
use Rattle.block_file.specs.File.{Reading, reading}
use Rattle.node_file.specs.NodeFile.{node_input_bytes}
use Rattle.forms.specs.Form.{read_as, write_as}
use Rattle.forms.specs.declared.Form.{Form}
use Rattle.forms.proofs.Laws.{is_stored}
use Rattle.forms.proofs.Promised.{front_enough}
use Rattle.text.specs.Digits.{decimal_digits}
use Rattle.text.proofs.Numerals.{decimal_length}
use Rattle.writing.specs.Writing.{bytes}
use Rattle.writing.proofs.Laws.{wrote_fits, wrote_place}
use Rattle.request.specs.Request.{alike}
use Rattle.request.proofs.Alike.{unlike_lengths}
use Rattle.messages.proofs.Fitting.{refusal_length}
use Rattle.report.specs.Report.{blank}
use Rattle.converting.specs.Converting.{other, conversion_of, word_buffer, looks, Done, refused, written, checked, if_stored, storing, if_found, file_done, nodes_text, done, file_bytes, text_bytes, file_buffer, text_buffer, Converts}
use Rattle.converting.specs.declared.words.Conversion.{Conversion}
use Rattle.converting.specs.declared.words.Conversion.TheVariants.{Help, Unknown, Convert}

-- What is true of every refusal and of all words that are stored is true of all that a conversion can come to.
module _ (P : Done → Type 0) (lent : ℕ) (no : (number place : ℕ) → P (refused number place))
    (yes : (to : Form) (w : List ℕ) (n : ℕ) → write_as to w lent ≡ stored n → P (written to w)) where
  if_stored_lem : (to : Form) (w : List ℕ) (o : Stores) → write_as to w lent ≡ o → P (if_stored to w o)
  if_stored_lem to w (stored n) e = yes to w n e
  if_stored_lem to w (unread number place) e = no number place

  found_all : (to : Form) (x : Reading) → P (if_found to lent x)
  unfolding storing
  found_all to (reading (stored n) left) = if_stored_lem to (take (3 * n) left) (write_as to (take (3 * n) left) lent) refl
  found_all to (reading (unread number place) left) = no number place

pub file_fits : (m : Conversion) (s : List ℕ) (lent : ℕ) → length (file_bytes (done m s lent)) ≤ file_buffer
unfolding done file_done
file_fits Help s lent = omega arith
file_fits Unknown s lent = omega arith
file_fits (Convert from) s lent =
    found_all (λ d. length (file_bytes d) ≤ file_buffer) lent (λ number place. omega arith)
    (λ to w n e. (let a = is_stored to w lent n e in omega (arith, a.long, a.within)))
    (other from) (checked (read_as from s blank))

nodes_length : (n : ℕ) → length (nodes_text n) ≤ 7 + decimal_digits
unfolding nodes_text
nodes_length n = simp length-append (omega (arith, decimal_length n))

pub text_fits : (m : Conversion) (s : List ℕ) (lent : ℕ) → length (text_bytes (done m s lent)) ≤ text_buffer
unfolding done file_done
text_fits Help s lent = omega arith
text_fits Unknown s lent = omega arith
text_fits (Convert from) s lent =
    found_all (λ d. length (text_bytes d) ≤ text_buffer) lent (λ number place. omega (arith, refusal_length number place))
    (λ to w n e. omega (arith, nodes_length (size w)))
    (other from) (checked (read_as from s blank))

-- ---- the input

pub front_is_enough : (m : Conversion) (s : List ℕ) (k lent : ℕ) → node_input_bytes ≤ k → done m (take k s) lent ≡ done m s lent
unfolding done file_done
front_is_enough Help s k lent h = refl
front_is_enough Unknown s k lent h = refl
front_is_enough (Convert from) s k lent h = ap (λ (x : Reading). if_found (other from) lent (checked x)) (front_enough from s blank k h)

pub no_file : (m : Conversion) (s : List ℕ) (lent : ℕ) → looks m ≡ false → file_bytes (done m s lent) ≡ []
unfolding done
no_file Help s lent e = refl
no_file Unknown s lent e = refl
no_file (Convert from) s lent e = let z : ◌≡◌ {A = ℕ} 0 1 = cc in absurd (omega arith)

pub no_input : (m : Conversion) (s t : List ℕ) (lent : ℕ) → looks m ≡ false → done m s lent ≡ done m t lent
unfolding done
no_input Help s t lent e = refl
no_input Unknown s t lent e = refl
no_input (Convert from) s t lent e = let z : ◌≡◌ {A = ℕ} 0 1 = cc in absurd (omega arith)

-- ---- the words

unlike : (word known : List ℕ) → word_buffer < length word → length known ≤ word_buffer → alike word known ≡ false
unlike word known long h = sym (unlike_lengths word known (λ e. absurd (omega arith)))

module _ (count : ℕ) (a b c : List ℕ) where
  pub first_long : word_buffer < length a → conversion_of count a b c ≡ conversion_of count [] b c
  unfolding conversion_of alike
  first_long h = rw (unlike a (bytes "blocks") h (omega arith), unlike a (bytes "nodes") h (omega arith)) refl

  pub second_long : word_buffer < length b → conversion_of count a b c ≡ conversion_of count a [] c
  unfolding conversion_of alike
  second_long h = rw (unlike b (bytes "to") h (omega arith)) refl

  pub third_long : word_buffer < length c → conversion_of count a b c ≡ conversion_of count a b []
  unfolding conversion_of alike
  third_long h = rw (unlike c (bytes "blocks") h (omega arith), unlike c (bytes "nodes") h (omega arith)) refl

-- ---- what stands in the buffers up to the ends is the whole of both answers

pub ends_whole : (m : Conversion) (s : List ℕ) {file left text text' : List ℕ} {end text-end : ℕ} → length file ≡ file_buffer → text_buffer ≤ length text
    → Converts (done m s (length file)) file left text text' end text-end
    → (end ≡ length (file_bytes (done m s file_buffer))) × (text-end ≡ length (text_bytes (done m s file_buffer)))
    × (take end left ≡ file_bytes (done m s file_buffer)) × (take text-end text' ≡ text_bytes (done m s file_buffer))
ends_whole m s {file} {left} {text} {text'} {end} {text-end} lent roomy h =
    let d = done m s file_buffer in
    let g : Converts d file left text text' end text-end = rw lent at h in
    let l : 0 + length (text_bytes d) ≤ length text = omega (arith, text_fits m s file_buffer) in
    let e : length (text_bytes d) ≡ text-end = omega (arith, wrote_place g.told l) in
    let f : text' ≡ text_bytes d ++ drop (0 + length (text_bytes d)) text = wrote_fits g.told l in (
      g.stored_end,
      sym e,
      ap (take end) g.stored ∙ take_at (file_bytes d) (drop (length (file_bytes d)) file) end (sym g.stored_end),
      ap (take text-end) f ∙ take_at (text_bytes d) (drop (0 + length (text_bytes d)) text) text-end e,
    )
