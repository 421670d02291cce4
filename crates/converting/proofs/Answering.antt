-- What is done with a file.
use Prim.Native.Nat.{ℕ, ◌*◌, ◌≤◌}
use mathlib.Core.Path.{◌≡◌, refl, sym, ap, ◌∙◌}
use mathlib.Core.List.{List, ◌++◌}
use native.Mathlib.Omega.{arith}
use lib.ListN.{length, take, drop}
use Rattle.diagram.specs.Limits.{max_nodes, max_words}
use Rattle.diagram.specs.Diagram.{size}
use Rattle.diagram.specs.Verdict.{Verdict, Outcome, accepted, refused as rejected, said as judged, verdict_of}
use Rattle.diagram.specs.declared.verdict.Output.TheVariants.{Nothing}
use Rattle.std.specs.Prelude.{Ok, Err}
use Rattle.diagram.specs.Refusal.{number_of}
use Rattle.diagram.specs.declared.verdict.Refused.{Refused}
use Rattle.blocks.specs.Block.{Stored, nodes as stored, refused as unread, said}
use Rattle.block_file.specs.File.{Reading, reading}
use Rattle.forms.specs.Form.{read_as, write_as, file_as, bytes_as, left_as, FormReads, FormWrites}
use Rattle.forms.specs.declared.Form.{Form}
use Rattle.forms.proofs.Laws.{is_stored, form_few}
use Rattle.writing.specs.Writing.{Wrote}
use Rattle.report.specs.Report.{room_lent, blank}
use Rattle.messages.specs.Texts.{refusal_text}
use Rattle.converting.specs.Converting.{other, if_diagram, checked, storing, file_done, help_text, unknown_text, nodes_text, done, Finds, Converts}
use Rattle.converting.specs.declared.words.Conversion.{Conversion}
use Rattle.converting.specs.declared.words.Conversion.TheVariants.{Help, Unknown, Convert}

-- ---- what is read is a diagram

pub record Found (x : Reading) (n : ℕ) (left : List ℕ) : Type 0 where
  pub reads : x ≡ reading (stored n) left
  pub nodes : ℕ
  pub vars : ℕ
  pub accepts : verdict_of (take (3 * n) left) Nothing room_lent ≡ accepted nodes vars

if_found_lem : (m : ℕ) (l : List ℕ) (o : Outcome) {n : ℕ} {left : List ℕ} → verdict_of (take (3 * m) l) Nothing room_lent ≡ o → reading (if_diagram m o) l ≡ reading (stored n) left
    → Found (reading (stored m) l) n left
if_found_lem m l (accepted k v) {n} {left} f e =
    let a : m ≡ n = cc in
    let b : l ≡ left = cc in
    record { reads = e; nodes = k; vars = v; accepts = rw (a, b) at f }
if_found_lem m l (rejected k p) f e = let z : ◌≡◌ {A = ℕ} 0 1 = cc in absurd (omega arith)

pub found_of : (x : Reading) {n : ℕ} {left : List ℕ} → checked x ≡ reading (stored n) left → Found x n left
found_of (reading (stored m) l) e = if_found_lem m l (verdict_of (take (3 * m) l) Nothing room_lent) refl e
found_of (reading (unread k p) l) e = let z : ◌≡◌ {A = ℕ} 0 1 = cc in absurd (omega arith)

module _ (form : Form) (s before left : List ℕ) {r : Stored} (a : FormReads form s before left r) where
  pub read_few : {n : ℕ} → r ≡ Ok n → 3 * n ≤ max_words
  read_few e = omega (arith, form_few form s before (sym (rw e at a.is)))

  pub finds_none : {x : Refused} → r ≡ Err x → Finds form s before left (Err x)
  finds_none e = record { is = rw (sym a.is, e) refl }

  pub finds : {n : ℕ} (v : Verdict) (q : Stored) → r ≡ Ok n → judged v ≡ verdict_of (take (3 * n) left) Nothing room_lent → said q ≡ if_diagram n (judged v) → Finds form s before left q
  finds v q e f g = record { is = rw (sym a.is, e, g, f) refl }

-- ---- the file

module _ (from : Form) (s before left : List ℕ) {r : Stored} (a : Finds from s before left r) where
  pub found_few : {n : ℕ} → r ≡ Ok n → 3 * n ≤ max_words
  found_few e = omega (arith, form_few from s before (found_of (read_as from s before) (sym (rw e at a.is))).reads)

  module _ (is-blank : before ≡ blank) {file text text' : List ℕ} {end text-end : ℕ} where
    pub file_refused : {x : Refused} → r ≡ Err x → (end ≡ 0) × Wrote (refusal_text (number_of x.reason) x.place) text 0 text' text-end
        → Converts (file_done from s (length file)) file file text text' end text-end
    unfolding file_done
    file_refused e t = rw (sym is-blank, sym a.is, e) (record { stored = refl; stored_end = t.0; told = t.1 })

    pub file_done_lem : {n : ℕ} {to : Form} {file' : List ℕ} → to ≡ other from → r ≡ Ok n
        → Converts (storing to (take (3 * n) left) (length file)) file file' text text' end text-end
        → Converts (file_done from s (length file)) file file' text text' end text-end
    unfolding file_done
    file_done_lem f e t = rw (sym is-blank, sym a.is, e, sym f) t

-- ---- the other form

module _ (to : Form) (w file left : List ℕ) {r : Stored} (h : FormWrites to w file left r) where
  outcome_is : {n : ℕ} → r ≡ Ok n → write_as to w (length file) ≡ stored n
  outcome_is e = sym h.answer ∙ ap said e

  pub store_few : {n : ℕ} → r ≡ Ok n → n ≤ max_nodes
  store_few {n} e = (is_stored to w (length file) n (outcome_is e)).few

  module _ {text text' : List ℕ} {end text-end : ℕ} where
    pub store_refused : {x : Refused} → r ≡ Err x → (end ≡ 0) × Wrote (refusal_text (number_of x.reason) x.place) text 0 text' text-end
        → Converts (storing to w (length file)) file left text text' end text-end
    unfolding storing left_as
    store_refused {x = x} e t =
        let o : write_as to w (length file) ≡ unread (number_of x.reason) x.place = sym h.answer ∙ ap said e in
        let l : left ≡ file = rw o at h.leaves in
        rw (l, o) (record { stored = refl; stored_end = t.0; told = t.1 })

    pub store_done : {n : ℕ} → r ≡ Ok n → end ≡ bytes_as to n → Wrote (nodes_text n) text 0 text' text-end
        → Converts (storing to w (length file)) file left text text' end text-end
    unfolding storing left_as
    store_done {n = n} e f t =
        let o : write_as to w (length file) ≡ stored n = outcome_is e in
        let a = is_stored to w (length file) n o in
        let l : left ≡ file_as to w ++ drop (length (file_as to w)) file = rw o at h.leaves in
        let c : n ≡ size w = omega (arith, a.whole) in
        rw o (record { stored = l; stored_end = f ∙ sym a.long; told = rw c at t })

-- ---- what the words ask for

module _ (s file : List ℕ) {m r : Conversion} (is : r ≡ m) {text text' : List ℕ} {end text-end : ℕ} where
  pub helped : end ≡ 0 → r ≡ Help → Wrote help_text text 0 text' text-end → Converts (done m s (length file)) file file text text' end text-end
  unfolding done
  helped none e t = rw (sym is, e) (record { stored = refl; stored_end = none; told = t })

  pub not_known : end ≡ 0 → r ≡ Unknown → Wrote unknown_text text 0 text' text-end → Converts (done m s (length file)) file file text text' end text-end
  unfolding done
  not_known none e t = rw (sym is, e) (record { stored = refl; stored_end = none; told = t })

  pub is_converted : {from : Form} {file' : List ℕ} → r ≡ Convert from → Converts (file_done from s (length file)) file file' text text' end text-end
      → Converts (done m s (length file)) file file' text text' end text-end
  unfolding done
  is_converted e t = rw (sym is, e) t
