-- Priorities and weights in the working room.
use Prim.Native.Nat.{ℕ, ◌+◌, ◌-◌, ◌*◌, ◌≤◌, ◌<◌}
use mathlib.Core.Path.{◌≡◌, sym, ap, ◌∙◌}
use mathlib.Core.List.{List}
use native.Mathlib.Omega.{arith}
use lib.ListN.{length, get_or, take, drop, length-drop}
use lib.Seq.{get_or-take, get_or-drop, ext_get_or, take-take, length-take-le}
use borrow.Rule.Slice.PartMut.{put_mid, mid_of}
use Rattle.naturals.specs.Natural.{word_count, Holds}
use Rattle.diagram.specs.Limits.{max_nodes}
use Rattle.diagram.specs.Diagram.{size}
use Rattle.diagram.specs.Valuations.{weight_of}
use Rattle.room_map.specs.Map.{marks_to, links_from, weights_from, weights_to, tables_from}
use Rattle.counts.specs.Table.{entry}
use Rattle.counts.proofs.Parts.{part_entry, part_kept, part_beyond, lent_long}
use Rattle.weights.specs.Passes.{weights_from as weightsInFrom, Weighable, Standing}
use Rattle.priorities.specs.Prioritised.{Topped, Prioritised}
use Rattle.priorities.proofs.Ordering.{weights_topped, prioritised_order, prioritised_entry}
use Rattle.cuts.proofs.Rooms.{drop_more}
use Rattle.trials.specs.Trials.{Ready, Preparing, Prepared}

-- ---- they are made

-- By a table of weights the non-terminals are ordered, and the table stays.
pub ready_ordered : {w s t : List ℕ} {n : ℕ} → n ≡ size w → Prioritised n s t
    → ((p : ℕ) → p < n → Holds (weight_of w p) (entry (weights_from n) s p)) → Ready w t
ready_ordered {w} {s} {t} {n} is p weight = record {
  order = ap (λ (k : ℕ). take (k - 2) t) (sym is) ∙ prioritised_order w is p weight;
  weight = λ q h. rw (sym is, prioritised_entry p (weights_from n) q (omega arith)) (weight q (omega arith));
}

module _ {w r : List ℕ} {n v : ℕ} (a : Preparing w r n v) where
  pub preparing_few : n ≤ max_nodes
  preparing_few = let few = a.ordered.formed.few in let is = a.is_size in omega arith

  -- the part that is lent
  abbrev lent : List ℕ
  lent = mid_of (links_from n) (weights_to n - links_from n) r

  pub preparing_asks : Weighable w lent n v
  preparing_asks =
      let long = lent_long (links_from n) (weights_to n) r (omega arith) a.long in
      record { ordered = a.ordered; nodes = a.is_size; variables = a.is_vars; long = omega arith }

  module _ {part : List ℕ} (weighed : Standing w lent n part) where
    abbrev weighted : List ℕ
    weighted = put_mid (links_from n) (weights_to n - links_from n) r part

    same_long : length weighted ≡ length r
    same_long = part_kept (links_from n) (weights_to n) r part (omega arith) a.long weighed.kept

    weights_stand : (p : ℕ) → p < n → Holds (weight_of w p) (entry (weights_from n) weighted p)
    weights_stand p h =
        let long = lent_long (links_from n) (weights_to n) r (omega arith) a.long in
        let kept = weighed.kept in
        rw (part_entry (links_from n) (weights_to n) r part (omega arith) a.long weighed.kept (weightsInFrom n) p (omega arith) {place = weights_from n} (omega arith))
        (weighed.weight p h)

    pub preparing_fits : Topped n weighted
    preparing_fits =
        let many = a.many in
        let few = preparing_few in
        let long = a.long in
        let kept = same_long in
        weights_topped w (record { least = omega arith; most = omega arith; long = omega arith }) weights_stand

    pub prepared : {t : List ℕ} → Prioritised n weighted t → Prepared w r t
    prepared {t} p =
        let is = a.is_size in
        record {
          ready = ready_ordered is p weights_stand;
          kept = p.size ∙ same_long;
          beyond = rw (sym is)
              (drop_more (marks_to n) (weights_to n) t weighted (omega arith) p.beyond
              ∙ part_beyond (links_from n) (weights_to n) r part (omega arith) a.long weighed.kept);
        }

-- ---- they are kept

-- A table within the first k words.
entry_within : (k base q : ℕ) (s r : List ℕ) → k ≤ length s → k ≤ length r → take k s ≡ take k r → base + word_count * q + word_count ≤ k
    → entry base s q ≡ entry base r q
entry_within k base q s r ls lr same h =
    let rest-s = length-drop (base + word_count * q) s in
    let rest-r = length-drop (base + word_count * q) r in
    let in-s : word_count ≤ length (drop (base + word_count * q) s) = omega arith in
    let in-r : word_count ≤ length (drop (base + word_count * q) r) = omega arith in
    ext_get_or 0 (entry base s q) (entry base r q) (length-take-le word_count (drop (base + word_count * q) s) in-s ∙ sym (length-take-le word_count (drop (base + word_count * q) r) in-r))
    (λ j l.
    let inside : j < word_count = rw (length-take-le word_count (drop (base + word_count * q) s) in-s) at l in
    let within : base + word_count * q + j < k = omega arith in
    get_or-take word_count (drop (base + word_count * q) s) j 0 inside ∙ get_or-drop (base + word_count * q) s j 0
    ∙ sym (get_or-take k s (base + word_count * q + j) 0 within) ∙ ap (λ (l : List ℕ). get_or l (base + word_count * q + j) 0) same
    ∙ get_or-take k r (base + word_count * q + j) 0 within
    ∙ sym (get_or-take word_count (drop (base + word_count * q) r) j 0 inside ∙ get_or-drop (base + word_count * q) r j 0))

module _ {w r s : List ℕ} (a : Ready w r) (same : length s ≡ length r) where
  -- What comes behind them doesn't matter.
  pub ready_front : tables_from (size w) ≤ length r → take (tables_from (size w)) s ≡ take (tables_from (size w)) r → Ready w s
  ready_front long front =
      record {
        order =
            sym (take-take (size w - 2) (tables_from (size w)) s (omega arith)) ∙ ap (λ (l : List ℕ). take (size w - 2) l) front
            ∙ take-take (size w - 2) (tables_from (size w)) r (omega arith) ∙ a.order;
        weight = λ p h. rw (entry_within (tables_from (size w)) (weights_from (size w)) p s r (omega arith) long front (omega arith)) (a.weight p h);
      }

  -- Nor do the marks.
  pub ready_marks : take (size w) s ≡ take (size w) r → drop (2 * size w) s ≡ drop (2 * size w) r → Ready w s
  ready_marks front rest =
      record {
        order =
            sym (take-take (size w - 2) (size w) s (omega arith)) ∙ ap (λ (l : List ℕ). take (size w - 2) l) front
            ∙ take-take (size w - 2) (size w) r (omega arith) ∙ a.order;
        weight = λ p h.
            rw (drop_more (2 * size w) (weights_from (size w) + word_count * p) s r (omega arith) rest) (a.weight p h);
      }
