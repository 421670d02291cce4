-- A part of a room that is lent, [at, e): what stands in it, read in the whole, and what stands in the whole, read in it.
use Prim.Native.Nat.{ℕ, ◌+◌, ◌-◌, ◌*◌, ◌≤◌, ◌<◌}
use mathlib.Core.Path.{◌≡◌, refl, sym, ap, ◌∙◌}
use mathlib.Core.List.{List, ◌++◌}
use native.Mathlib.Omega.{arith}
use lib.ListN.{length, get_or, take, drop, length-drop, get_or-append}
use lib.Seq.{drop-drop, drop_at, drop-append-le, take-append-le, length-take-le, get_or-take, get_or-drop}
use borrow.Rule.Slice.PartMut.{put_mid, mid_of, post_of, put_same, take_put, drop_put, same_len_mid, mid_len}
use Rattle.naturals.specs.Natural.{word_count}
use Rattle.counts.specs.Table.{entry, In}

module _ (at e : ℕ) (r part : List ℕ) (order : at ≤ e) (inside : e ≤ length r) (same : length part ≡ length (mid_of at (e - at) r)) where
  abbrev pub whole : List ℕ
  whole = put_mid at (e - at) r part

  from_part : drop at whole ≡ part ++ post_of at (e - at) r
  from_part = drop_at (take at r) (part ++ post_of at (e - at) r) at (length-take-le at r (omega arith))

  pub part_word : (i : ℕ) → i < length part → get_or whole (at + i) 0 ≡ get_or part i 0
  part_word i h =
      sym (get_or-drop at whole i 0)
      ∙ ap (λ (l : List ℕ). get_or l i 0) from_part
      ∙ get_or-append part (post_of at (e - at) r) 0 i h

  -- an entry of a table that begins at a base of the part
  pub part_entry : (base q : ℕ) → In base part q → {place : ℕ} → place ≡ at + base → entry place whole q ≡ entry base part q
  part_entry base q fits {place} is =
      let i = base + word_count * q in
      let rest = length-drop i part in
      let from : place + word_count * q ≡ at + i = omega arith in
      ap (λ (j : ℕ). take word_count (drop j whole)) from
      ∙ ap (λ (l : List ℕ). take word_count l) (sym (drop-drop i at whole))
      ∙ ap (λ (l : List ℕ). take word_count (drop i l)) from_part
      ∙ ap (λ (l : List ℕ). take word_count l) (drop-append-le i part (post_of at (e - at) r) (omega arith))
      ∙ take-append-le word_count (drop i part) (post_of at (e - at) r) (omega arith)

  pub part_kept : length whole ≡ length r
  part_kept = same_len_mid at (e - at) r part same

  -- all else is as it was
  pub part_before : (k : ℕ) → k < at → get_or whole k 0 ≡ get_or r k 0
  part_before k h =
      sym (get_or-take at whole k 0 h) ∙ ap (λ (l : List ℕ). get_or l k 0) (take_put at (e - at) r part (omega arith)) ∙ get_or-take at r k 0 h

  pub part_beyond : drop e whole ≡ drop e r
  part_beyond = drop_put at e r part order inside (same ∙ mid_len at e r inside)

-- The part as it is lent.
module _ (at e : ℕ) (r : List ℕ) (order : at ≤ e) (inside : e ≤ length r) where
  pub lent_long : length (mid_of at (e - at) r) ≡ e - at
  lent_long = mid_len at e r inside

  pub lent_word : (i : ℕ) → at + i < e → get_or (mid_of at (e - at) r) i 0 ≡ get_or r (at + i) 0
  lent_word i h =
      let long = lent_long in
      sym (part_word at e r (mid_of at (e - at) r) order inside refl i (omega arith))
      ∙ ap (λ (l : List ℕ). get_or l (at + i) 0) (put_same at (e - at) r)

  pub lent_entry : (base q : ℕ) → at + base + word_count * q + word_count ≤ e → {place : ℕ} → place ≡ at + base → entry base (mid_of at (e - at) r) q ≡ entry place r q
  lent_entry base q h {place} is =
      let long = lent_long in
      sym (part_entry at e r (mid_of at (e - at) r) order inside refl base q (omega arith) is)
      ∙ ap (λ (l : List ℕ). entry place l q) (put_same at (e - at) r)
