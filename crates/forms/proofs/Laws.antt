-- What a file that is written or read has passed, whichever its form; and the records of the two forms as one.
use Prim.Native.Nat.{ℕ, ◌*◌, ◌≤◌, ◌<◌}
use mathlib.Core.Path.{◌≡◌, refl, ap, ◌∙◌}
use mathlib.Core.List.{List}
use native.Mathlib.Omega.{arith}
use lib.ListN.{length}
use Rattle.diagram.specs.Limits.{max_nodes}
use Rattle.diagram.specs.Diagram.{size}
use Rattle.blocks.specs.Block.{Stored, Outcome, nodes, refused}
use Rattle.block_file.specs.File.{reading, read_file, ReadsFile, WritesFile, written as writtenBlocks}
use Rattle.block_file.proofs.Steps.{read_few}
use Rattle.block_file.proofs.Storing.{file_length, is_written}
use Rattle.node_file.specs.NodeFile.{node_file_bytes, ReadsNodes, WritesNodes, written as writtenNodes}
use Rattle.node_file.proofs.Answering.{is_readable, is_writable, bytes_length}
use Rattle.node_file.proofs.Promised.{outcome_of}
use Rattle.forms.specs.Form.{read_as, write_as, file_as, bytes_as, left_as, FormReads, FormWrites}
use Rattle.forms.specs.declared.Form.{Form}
use Rattle.forms.specs.declared.Form.TheVariants.{Blocks, Nodes}

-- ---- what has passed

pub record Stands (form : Form) (w : List ℕ) (n : ℕ) : Type 0 where
  pub whole : length w ≡ 3 * n
  pub some : 0 < n
  pub few : n ≤ max_nodes
  pub long : length (file_as form w) ≡ bytes_as form n
  pub within : bytes_as form n ≤ node_file_bytes

pub is_stored : (form : Form) (w : List ℕ) (lent n : ℕ) → write_as form w lent ≡ nodes n → Stands form w n
is_stored Blocks w lent n e =
    let i = is_written w lent n e in
    let c : size w ≡ n = i.count in
    record {
      whole = i.lengths.whole ∙ ap (λ (k : ℕ). 3 * k) c;
      some = omega (arith, i.lengths.some);
      few = omega (arith, i.lengths.few);
      long = file_length w ∙ rw c;
      within = omega (arith, i.lengths.few);
    }
is_stored Nodes w lent n e =
    let i = is_writable w lent n e in
    record { whole = i.whole; some = i.some; few = i.few; long = bytes_length w n i.whole; within = omega (arith, i.few) }

pub form_few : (form : Form) (s out : List ℕ) {n : ℕ} {left : List ℕ} → read_as form s out ≡ reading (nodes n) left → n ≤ max_nodes
unfolding read_file
form_few Blocks s out e = omega (arith, read_few 3 0 0 s out e)
form_few Nodes s out {n} {left} e = (is_readable (length s) (length out) n (outcome_of s out left n e)).few

-- ---- the records

pub reads_blocks : {s before left : List ℕ} {r : Stored} {form : Form} → form ≡ Blocks → ReadsFile s before left r → FormReads form s before left r
reads_blocks f a = rw f (record { is = a.is })

pub reads_nodes : {s before left : List ℕ} {r : Stored} {form : Form} → form ≡ Nodes → ReadsNodes s before left r → FormReads form s before left r
reads_nodes f a = rw f (record { is = a.is })

left_blocks : (w file : List ℕ) (o : Outcome) → writtenBlocks w file o ≡ left_as Blocks w file o
unfolding writtenBlocks left_as
left_blocks w file (nodes n) = refl
left_blocks w file (refused k p) = refl

left_nodes : (w file : List ℕ) (o : Outcome) → writtenNodes w file o ≡ left_as Nodes w file o
unfolding writtenNodes left_as
left_nodes w file (nodes n) = refl
left_nodes w file (refused k p) = refl

pub writes_blocks : {w before left : List ℕ} {r : Stored} {form : Form} → form ≡ Blocks → WritesFile w before left r → FormWrites form w before left r
writes_blocks {w} {before} f a = rw f (record { answer = a.answer; leaves = a.leaves ∙ left_blocks w before _ })

pub writes_nodes : {w before left : List ℕ} {r : Stored} {form : Form} → form ≡ Nodes → WritesNodes w before left r → FormWrites form w before left r
writes_nodes {w} {before} f a = rw f (record { answer = a.answer; leaves = a.leaves ∙ left_nodes w before _ })
