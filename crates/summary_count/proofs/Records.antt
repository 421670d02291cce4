-- A number of a record is changed: the others are as they were, and so are the words behind the records.
use Prim.Native.Nat.{ℕ, ◌+◌, ◌*◌, ◌≤◌, ◌<◌}
use mathlib.Core.Path.{◌≡◌}
use mathlib.Core.Logic.{◌≢◌}
use mathlib.Core.List.{List}
use native.Mathlib.Omega.{arith}
use lib.ListN.{length, set, drop}
use lib.Seq.{get_or-set_same, get_or-set_other, drop-set-lt}
use Rattle.summary.specs.Summary.{record_words}
use Rattle.summary_count.specs.Counting.{nodes_in, slots_in}

module _ (v : ℕ) (kept : List ℕ) (long : record_words * v ≤ length kept) (j : ℕ) (inside : j < v) (x : ℕ) where
  abbrev with-nodes : List ℕ
  with-nodes = set kept (record_words * j) x

  abbrev with-slots : List ℕ
  with-slots = set kept (record_words * j + 1) x

  pub nodes_set : nodes_in with-nodes j ≡ x
  nodes_set = get_or-set_same kept (record_words * j) x 0 (omega arith)

  pub nodes_stay : (i : ℕ) → i ≢ j → nodes_in with-nodes i ≡ nodes_in kept i
  nodes_stay i other = get_or-set_other kept (record_words * j) (record_words * i) x 0 (λ e. other (omega arith))

  pub slots_by_nodes : (i : ℕ) → slots_in with-nodes i ≡ slots_in kept i
  slots_by_nodes i = get_or-set_other kept (record_words * j) (record_words * i + 1) x 0 (λ e. absurd (omega arith))

  pub rest_by_nodes : drop (record_words * v) with-nodes ≡ drop (record_words * v) kept
  rest_by_nodes = drop-set-lt (record_words * v) kept (record_words * j) x (omega arith)

  pub slots_set : slots_in with-slots j ≡ x
  slots_set = get_or-set_same kept (record_words * j + 1) x 0 (omega arith)

  pub slots_stay : (i : ℕ) → i ≢ j → slots_in with-slots i ≡ slots_in kept i
  slots_stay i other = get_or-set_other kept (record_words * j + 1) (record_words * i + 1) x 0 (λ e. other (omega arith))

  pub nodes_by_slots : (i : ℕ) → nodes_in with-slots i ≡ nodes_in kept i
  nodes_by_slots i = get_or-set_other kept (record_words * j + 1) (record_words * i) x 0 (λ e. absurd (omega arith))

  pub rest_by_slots : drop (record_words * v) with-slots ≡ drop (record_words * v) kept
  rest_by_slots = drop-set-lt (record_words * v) kept (record_words * j + 1) x (omega arith)
