-- What is promised of converting, from bytes to bytes.
use Prim.Native.Nat.{ℕ, ◌*◌, ◌≤◌}
use mathlib.Core.Path.{◌≡◌, refl, sym, ap, ◌∙◌}
use mathlib.Core.List.{List, [], ◌++◌}
use mathlib.Core.Logic.{◌≢◌}
use native.Mathlib.Omega.{arith}
use lib.ListN.{length, take, drop, replicate, length-replicate, take-append-drop}
use Rattle.diagram.specs.Limits.{max_words}
use Rattle.diagram.specs.Diagram.{Accepted}
use Rattle.diagram.specs.Verdict.{accepted, verdict_of}
use Rattle.diagram.specs.declared.verdict.Output.TheVariants.{Nothing}
use Rattle.diagram.proofs.Meaning.{verdict_accepted}
use Rattle.blocks.specs.Block.{Bytes, Outcome as Stores, nodes as stored, refused as unread}
use Rattle.block_file.specs.File.{Reading, reading}
use Rattle.block_file.proofs.Promised.{files}
use Rattle.node_file.proofs.Promised.{node_files}
use Rattle.forms.specs.Form.{read_as, write_as, file_as}
use Rattle.forms.specs.declared.Form.{Form}
use Rattle.forms.specs.declared.Form.TheVariants.{Blocks, Nodes}
use Rattle.forms.proofs.Laws.{Stands, is_stored}
use Rattle.forms.proofs.Promised.{forms}
use Rattle.report.specs.Report.{room_lent, blank}
use Rattle.converting.specs.Converting.{other, checked, if_stored, storing, if_found, file_done, done, file_bytes, file_buffer}
use Rattle.converting.specs.Converted.{output, Converted}
use Rattle.forms.proofs.Small.{words_small}
use Rattle.converting.proofs.Answering.{Found, found_of}
use Rattle.converting.proofs.Fitting.{file_fits, text_fits, front_is_enough, no_file, no_input, first_long, second_long, third_long}

-- ---- of either form

read_rest : (form : Form) (s out left : List ℕ) (n : ℕ) → Bytes s → read_as form s out ≡ reading (stored n) left → drop (3 * n) left ≡ drop (3 * n) out
read_rest Blocks s out left n small e = (files.read_is_file s out left n small e).1
read_rest Nodes s out left n small e = (node_files.read_is_file s out left n small e).1

read_written : (form : Form) (s out left file : List ℕ) (n : ℕ) → Bytes s → read_as form s out ≡ reading (stored n) left → length s ≤ length file
    → write_as form (take (3 * n) left) (length file) ≡ stored n
read_written Blocks s out left file n small e h = (files.read_then_written s out left file n small e h).0
read_written Nodes s out left file n small e h = (node_files.read_then_written s out left file n small e h).0

other_twice : (form : Form) → other (other form) ≡ form
other_twice Blocks = refl
other_twice Nodes = refl

-- ---- where something is written

-- The words were read, they are a diagram, and the other form takes them.
record Went (from : Form) (s : List ℕ) : Type 0 where
  nodes : ℕ
  left : List ℕ
  found : Found (read_as from s blank) nodes left
  count : ℕ
  taken : write_as (other from) (take (3 * nodes) left) file_buffer ≡ stored count

module _ (from : Form) (s : List ℕ) where
  if_taken : (n : ℕ) (left : List ℕ) (o : Stores) → Found (read_as from s blank) n left → write_as (other from) (take (3 * n) left) file_buffer ≡ o
      → file_bytes (if_stored (other from) (take (3 * n) left) o) ≢ [] → Went from s
  if_taken n left (stored m) f e h = record { nodes = n; left = left; found = f; count = m; taken = e }
  if_taken n left (unread k p) f e h = absurd (h refl)

  if_found_lem : (x : Reading) → checked (read_as from s blank) ≡ x → file_bytes (if_found (other from) file_buffer x) ≢ [] → Went from s
  unfolding storing
  if_found_lem (reading (stored n) left) e h =
      if_taken n left (write_as (other from) (take (3 * n) left) file_buffer) (found_of (read_as from s blank) e) refl h
  if_found_lem (reading (unread k p) left) e h = absurd (h refl)

  went : output from s ≢ [] → Went from s
  unfolding done file_done
  went h = if_found_lem (checked (read_as from s blank)) refl h

-- What is done with words that were read, are a diagram and are taken.
output_is : (from : Form) (s left : List ℕ) (n m k v : ℕ) → read_as from s blank ≡ reading (stored n) left → verdict_of (take (3 * n) left) Nothing room_lent ≡ accepted k v
    → write_as (other from) (take (3 * n) left) file_buffer ≡ stored m → output from s ≡ file_as (other from) (take (3 * n) left)
unfolding done file_done storing
output_is from s left n m k v r a e = rw (r, a, e) refl

module _ (from : Form) (s : List ℕ) (small : Bytes s) (g : Went from s) where
  abbrev w : List ℕ
  w = take (3 * g.nodes) g.left

  read_is : read_as from s blank ≡ reading (stored g.nodes) g.left
  read_is = g.found.reads

  is_diagram : Accepted w
  is_diagram = (verdict_accepted w Nothing room_lent g.found.nodes g.found.vars g.found.accepts).accepted

  -- The input is the file of its words, and the form that it has takes them.
  is_file : s ≡ file_as from w
  is_file = forms.read_is_file from s blank g.left g.nodes small read_is

  stands : Stands from w g.nodes
  stands = is_stored from w (length s) g.nodes (read_written from s blank g.left s g.nodes small read_is (omega arith))

  short : length s ≤ file_buffer
  short = let e : length s ≡ length (file_as from w) = ap length is_file in omega (arith, stands.long, stands.within)

  taken_back : write_as from w file_buffer ≡ stored g.nodes
  taken_back =
      let file : List ℕ = replicate file_buffer 0 in
      let l : length file ≡ file_buffer = length-replicate {A = ℕ} file_buffer 0 in
      rw l at (read_written from s blank g.left file g.nodes small read_is (omega (arith, short)))

  out_is : output from s ≡ file_as (other from) w
  out_is = output_is from s g.left g.nodes g.count g.found.nodes g.found.vars read_is g.found.accepts g.taken

  same_count : g.count ≡ g.nodes
  same_count = omega (arith, (is_stored (other from) w file_buffer g.count g.taken).whole, stands.whole)

  left_is : w ++ drop (length w) blank ≡ g.left
  left_is =
      let e : length w ≡ 3 * g.nodes = stands.whole in
      rw (e, sym (read_rest from s blank g.left g.nodes small read_is)) (take-append-drop (3 * g.nodes) g.left)

  reads_same : read_as (other from) (output from s) blank ≡ read_as from s blank
  reads_same =
      let l : length blank ≡ max_words = length-replicate {A = ℕ} max_words 0 in
      let r : read_as (other from) (file_as (other from) w) blank ≡ reading (stored g.count) (w ++ drop (length w) blank) =
      forms.written_reads (other from) w blank file_buffer g.count (words_small w is_diagram.formed) g.taken (omega (arith, stands.whole, stands.few)) in
      rw (out_is, read_is) (r ∙ rw (same_count, left_is) refl)

  goes_back : output (other from) (output from s) ≡ s
  goes_back =
      let t : write_as (other (other from)) w file_buffer ≡ stored g.nodes = rw (other_twice from) taken_back in
      let o : output (other from) (output from s) ≡ file_as (other (other from)) w =
      output_is (other from) (output from s) g.left g.nodes g.nodes g.found.nodes g.found.vars (reads_same ∙ read_is) g.found.accepts t in
      o ∙ rw (other_twice from) (sym is_file)

only_diagrams : (from : Form) (s left : List ℕ) (n : ℕ) → output from s ≢ [] → read_as from s blank ≡ reading (stored n) left → Accepted (take (3 * n) left)
only_diagrams from s left n h e =
    let g = went from s h in
    let f : reading (stored g.nodes) g.left ≡ reading (stored n) left = sym g.found.reads ∙ e in
    let a : g.nodes ≡ n = cc in
    let b : g.left ≡ left = cc in
    (verdict_accepted (take (3 * n) left) Nothing room_lent g.found.nodes g.found.vars (rw (a, b) at g.found.accepts)).accepted

pub converted : Converted
converted =
    record {
      same_words = λ from s small h. reads_same from s small (went from s h);
      there_and_back = λ from s small h. goes_back from s small (went from s h);
      only_diagrams = only_diagrams;
      no_file = no_file;
      no_input = no_input;
      file_fits = file_fits;
      text_fits = text_fits;
      front_enough = front_is_enough;
      first_long = first_long;
      second_long = second_long;
      third_long = third_long;
    }
