-- What is promised of evening settings (proofs/Promised.antt): no reader of any version reads them wrongly.
use Rattle.std.specs.Prelude.{ℕ, ◌≤◌, ◌<◌, ◌^◌, ◌≡◌, ◌≢◌, List, length, get_or, take, set}
use Rattle.naturals.specs.Natural.{value, limit}
use Rattle.blocks.specs.Block.{block_bytes, byte_span, Bytes}
use Rattle.setting_blocks.specs.Settings.{target_words, newest, block_of, version_in, kept, refused, read_by, write_by}
use Rattle.setting_blocks.specs.declared.setting.Setting.{Setting}

-- The target of a setting is as many words as it has bytes for.
pub record Whole (x : Setting) : Type 0 where
  pub count : length x.target ≡ target_words
  pub small : (k : ℕ) → get_or x.target k 0 < 2 ^ 32

pub record Outlives : Type 0 where
  -- what is written reads back, by every reader that knows its version
  pub written_reads : (version reader lent : ℕ) (x : Setting) → Whole x → version ≤ reader → write_by version x lent ≡ kept version x → read_by reader (block_of version x) ≡ kept version x
  -- every block that is read is the one that would be written, and the writer takes what was read
  pub read_is_block : (reader version : ℕ) (x : Setting) (s : List ℕ) → reader ≤ newest → Bytes s → read_by reader s ≡ kept version x
      → (s ≡ block_of version x) × Whole x × (write_by version x block_bytes ≡ kept version x)
  -- equal settings of one version have equal blocks, by `block_of`; and different ones different blocks
  pub one_setting : (version lent : ℕ) (x y : Setting) → Whole x → Whole y → write_by version x lent ≡ kept version x → write_by version y lent ≡ kept version y
      → block_of version x ≡ block_of version y → x ≡ y
  -- the reader of version 1 shows no setting of version 2, whatever else is in the block, and refuses those that the writer writes by their version
  pub never_shown : (s : List ℕ) (version : ℕ) (x : Setting) → version_in s ≡ 2 → read_by 1 s ≢ kept version x
  pub newer_refused : (x : Setting) (lent : ℕ) → Whole x → write_by 2 x lent ≡ kept 2 x → read_by 1 (block_of 2 x) ≡ refused 38 0
  -- the reader of version 2 takes version 1 as the reader of version 1 does, with the flag off
  pub older_taken : (s : List ℕ) (version : ℕ) (x : Setting) → read_by 1 s ≡ kept version x → (read_by 2 s ≡ kept version x) × (version ≡ 1) × (x.as_is ≡ 0)
  -- no count of sixty-four bytes is out of its range
  pub counts_fit : (x : Setting) → Whole x → value x.target < limit
  -- a right block with one byte changed is refused for its sums
  pub damage_seen : (reader version k b : ℕ) (x : Setting) (s : List ℕ) → Bytes s → read_by reader s ≡ kept version x → k < block_bytes → b < byte_span → b ≢ get_or s k 0
      → read_by reader (set s k b) ≡ refused 22 0
  -- one byte more than a block has is enough: what follows it is not looked at
  pub front_enough : (reader k : ℕ) (s : List ℕ) → block_bytes < k → read_by reader (take k s) ≡ read_by reader s
