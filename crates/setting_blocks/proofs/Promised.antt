-- What is promised of evening settings.
use Prim.Native.Nat.{ℕ, ◌≤◌, ◌<◌}
use mathlib.Core.Path.{◌≡◌, refl, sym, ap, ◌∙◌}
use mathlib.Core.List.{List}
use mathlib.Core.Logic.{◌≢◌}
use native.Mathlib.Omega.{arith}
use lib.ListN.{length, get_or, take, set, length-set, length-take}
use lib.Seq.{take_all}
use Rattle.naturals.specs.Natural.{value, limit, Holds}
use Rattle.naturals.proofs.Answer.{holds_less}
use Rattle.writing.proofs.Laws.{by_le}
use Rattle.blocks.specs.Block.{Bytes, block_bytes, byte_span}
use Rattle.setting_blocks.specs.Settings.{newest, known, block_of, version_in, kept, refused, read_by, write_by}
use Rattle.setting_blocks.specs.Outlives.{Whole, Outlives}
use Rattle.setting_blocks.specs.declared.setting.Setting.{Setting}
use Rattle.setting_blocks.proofs.Fields.{block_length}
use Rattle.setting_blocks.proofs.Testing.{is_known, knows, knows_not, flag_off, Passed, is_read, reads, refused_21, refused_22, refused_38, Storable, is_stored, stores}
use Rattle.setting_blocks.proofs.Returning.{right_sums, version_back, passes_back}
use Rattle.setting_blocks.proofs.Meaning.{whole_is, block_is}
use Rattle.setting_blocks.proofs.Damage.{damaged}

written_reads : (version reader lent : ℕ) (x : Setting) → Whole x → version ≤ reader → write_by version x lent ≡ kept version x → read_by reader (block_of version x) ≡ kept version x
written_reads version reader lent x whole most e =
    let p = is_stored version lent x e in
    let k = is_known newest version p.known_version in
    reads (passes_back version x whole p.in_range reader (knows reader version k.some most))

read_is_block : (reader version : ℕ) (x : Setting) (s : List ℕ) → reader ≤ newest → Bytes s → read_by reader s ≡ kept version x
    → (s ≡ block_of version x) × Whole x × (write_by version x block_bytes ≡ kept version x)
read_is_block reader version x s old small e =
    let p = is_read reader version x s e in
    let k = is_known reader version p.taken in
    let w : Storable version x = record { known_version = knows newest version k.some (omega (arith, k.most)); in_range = p.in_range } in
    (block_is s small p, whole_is s small p, stores block_bytes w (omega arith))

-- The reader of its own version tells what a block was written for.
one_setting : (version lent : ℕ) (x y : Setting) → Whole x → Whole y → write_by version x lent ≡ kept version x → write_by version y lent ≡ kept version y
    → block_of version x ≡ block_of version y → x ≡ y
one_setting version lent x y wx wy ex ey same =
    let same_kept : kept version x ≡ kept version y =
    sym (written_reads version version lent x wx (omega arith) ex) ∙ ap (read_by version) same ∙ written_reads version version lent y wy (omega arith) ey in
    cc

never_shown : (s : List ℕ) (version : ℕ) (x : Setting) → version_in s ≡ 2 → read_by 1 s ≢ kept version x
never_shown s version x two e =
    let p = is_read 1 version x s e in
    omega (arith, p.version_is, (is_known 1 version p.taken).most)

newer_refused : (x : Setting) (lent : ℕ) → Whole x → write_by 2 x lent ≡ kept 2 x → read_by 1 (block_of 2 x) ≡ refused 38 0
newer_refused x lent whole e =
    refused_38 1 (block_of 2 x) (block_length 2 x whole.count) (right_sums 2 x whole) (ap (known 1) (version_back 2 x whole) ∙ knows_not 1 2 (omega arith))

older_taken : (s : List ℕ) (version : ℕ) (x : Setting) → read_by 1 s ≡ kept version x → (read_by 2 s ≡ kept version x) × (version ≡ 1) × (x.as_is ≡ 0)
older_taken s version x e =
    let p = is_read 1 version x s e in
    let k = is_known 1 version p.taken in
    let one : version ≡ 1 = omega (arith, k.some, k.most) in
    let p' : Passed 2 version x s =
    record {
      long = p.long;
      sums = p.sums;
      version_is = p.version_is;
      setting_is = p.setting_is;
      taken = knows 2 version k.some (omega arith);
      in_range = p.in_range;
      rest = p.rest;
    } in
    (reads p', one, flag_off x (rw one at p.in_range))

counts_fit : (x : Setting) → Whole x → value x.target < limit
counts_fit x whole = let h : Holds (value x.target) x.target = record { count = whole.count; small = whole.small; worth = refl } in holds_less h

damage_seen : (reader version k b : ℕ) (x : Setting) (s : List ℕ) → Bytes s → read_by reader s ≡ kept version x → k < block_bytes → b < byte_span → b ≢ get_or s k 0
    → read_by reader (set s k b) ≡ refused 22 0
damage_seen reader version k b x s small e within byte other =
    let p = is_read reader version x s e in
    refused_22 reader (set s k b) (length-set s k b ∙ p.long) (damaged s small p.long k b within byte other p.sums)

-- More bytes than a block has are refused however many they are.
front_enough : (reader k : ℕ) (s : List ℕ) → block_bytes < k → read_by reader (take k s) ≡ read_by reader s
front_enough reader k s more =
    by_le (length s) k
    (λ h. ap (read_by reader) (take_all k s h))
    (λ h. refused_21 reader (take k s) (λ e. omega (arith, length-take k s)) ∙ sym (refused_21 reader s (λ e. omega arith)))

pub outlives : Outlives
outlives =
    record {
      written_reads = written_reads;
      read_is_block = read_is_block;
      one_setting = one_setting;
      never_shown = never_shown;
      newer_refused = newer_refused;
      older_taken = older_taken;
      counts_fit = counts_fit;
      damage_seen = damage_seen;
      front_enough = front_enough;
    }
