-- What is done with two files.
use Prim.Native.Nat.{ℕ, ◌*◌, ◌/◌, ◌≤◌}
use mathlib.Core.Path.{◌≡◌, refl, sym, ap, ◌∙◌}
use mathlib.Core.Bool.{Bool, true, false, cond, not}
use mathlib.Core.List.{List, [], ◌++◌}
use native.Mathlib.Omega.{arith}
use lib.ListN.{length, take}
use lib.Dec.{eqb, ltb}
use Rattle.pairs.specs.Pairs.{pairs_of}
use Rattle.pairs.specs.Pairs.{pair_words}
use Rattle.naturals.specs.Natural.{word_count, value}
use Rattle.naturals.specs.declared.Natural.{Natural}
use Rattle.naturals.proofs.Words.{value_zeros}
use Rattle.diagram.specs.Limits.{max_variables, max_words}
use Rattle.diagram.specs.Diagram.{vars, Accepted as IsAccepted}
use Rattle.diagram.specs.Verdict.{Verdict, Outcome, accepted, refused as rejected, row as row_of, and_then, if_accepted, said as judged, verdict_of}
use Rattle.diagram.specs.declared.verdict.Output.TheVariants.{Nothing}
use Rattle.std.specs.Prelude.{Option, Some, None, is_some, Result, Ok, Err}
use Rattle.diagram.specs.Refusal.{number_of}
use Rattle.diagram.specs.declared.verdict.Refused.{Refused as Refusing}
use Rattle.diagram.specs.declared.verdict.Finding.{Finding}
use Rattle.diagram.proofs.Meaning.{verdict_accepted}
use Rattle.blocks.specs.Block.{Stored, Outcome as Stores, nodes as stored, refused as unread, said}
use Rattle.block_file.specs.File.{Reading, reading}
use Rattle.forms.specs.Form.{read_as, FormReads}
use Rattle.forms.specs.declared.Form.{Form}
use Rattle.forms.specs.declared.Form.TheVariants.{Blocks as InBlocks, Nodes as InNodes}
use Rattle.forms.proofs.Laws.{form_few}
use Rattle.writing.specs.Writing.{Wrote}
use Rattle.writing.proofs.Laws.{wrote_none}
use Rattle.text.specs.Digits.{spell}
use Rattle.report.specs.Report.{room_lent, blank}
use Rattle.differ_texts.specs.Texts.{difference_text, counts_text, help_text, unknown_text, missing_text, named_text, blamed, shown_number}
use Rattle.comparison.specs.Comparison.{differ, first_only, second_only, in_both, any_differ, numeral, least, shown as shownOf, alike_of, compare_of, which_of, which_number, words_of, Compared, verdict_told, which_told, Tells, Compare as Comparing}
use Rattle.comparison.specs.declared.compare.Comparison.{Comparison}
use Rattle.comparison.specs.declared.compare.ComparisonRefused.{ComparisonRefused}
use Rattle.comparison.proofs.Least.{least_length}
use Rattle.differing.specs.Differing.{asked_of, old_name, new_name, File, missing, refused, holding, file_read, file_of, row, answer_text, Done, told, shown, table_lent, if_compared, words_done, if_new, if_old, files_done, done, line_bytes, text_bytes, Differs, loads, unloaded_text, Loads, compared_text, Says}
use Rattle.differing.specs.declared.words.Asked.{Asked}
use Rattle.differing.specs.declared.words.Asked.TheVariants.{Help, Unknown, Compare}
use Rattle.differing.specs.declared.job.Unloaded.{Unloaded}
use Rattle.differing.specs.declared.job.Unloaded.TheVariants.{Missing, Refused}
use Rattle.differing.proofs.Rows.{row_is}

-- ---- a file

pub not_found : (form : Form) (file : Option (List ℕ)) (left : List ℕ) → file ≡ None → Loads form file left (Err Missing)
unfolding file_of
not_found form file left e = record { is = rw e refl; few = λ n d. let z : ◌≡◌ {A = ℕ} 0 1 = cc in absurd (omega arith) }

module _ (form : Form) (file : Option (List ℕ)) (s before left : List ℕ) (is-blank : before ≡ blank) (yes : file ≡ Some s) {r : Stored} (h : FormReads form s before left r) where
  reads : {o : Stores} → said r ≡ o → read_as form s blank ≡ reading o left
  reads e = rw (sym is-blank, sym h.is, e) refl

  pub file_loaded : {n : ℕ} → r ≡ Ok n → Loads form file left (Ok n)
  unfolding file_of
  file_loaded {n = n} e =
      let w : read_as form s blank ≡ reading (stored n) left = reads (ap said e) in
      record { is = rw (yes, w) refl; few = λ m d. let g : n ≡ m = cc in omega (arith, form_few form s blank w) }

  pub file_refused : {x : Refusing} → r ≡ Err x → Loads form file left (Err (Refused x))
  unfolding file_of
  file_refused {x = x} e =
      let w : read_as form s blank ≡ reading (unread (number_of x.reason) x.place) left = reads (ap said e) in
      record { is = rw (yes, w) refl; few = λ n d. let z : ◌≡◌ {A = ℕ} 0 1 = cc in absurd (omega arith) }

-- ---- two arrays

pub says : (a b : List ℕ) {room room' table table' : List ℕ} {r : Compared} → Comparing a b room room' table table' r
    → length room ≡ room_lent → length table ≡ table_lent → Says a b r
says a b {r = r} h er et =
    record {
      verdict = h.verdict ∙ rw (er, et) refl;
      which = h.which ∙ ap (which_of a b) er;
      tells = rw (er, et) at h.tells;
    }

row_accepted : (k p : ℕ) (t : Bool) (o : Outcome) {n v : ℕ} → row_of k t p o ≡ accepted n v → o ≡ accepted n v
unfolding row_of
row_accepted k p true o e = let z : ◌≡◌ {A = ℕ} 0 1 = cc in absurd (omega arith)
row_accepted k p false o e = e

pub record Both (o next : Outcome) (n v : ℕ) : Type 0 where
  pub nodes : ℕ
  pub vars : ℕ
  pub before : o ≡ accepted nodes vars
  pub after : next ≡ accepted n v

then_accepted : (o next : Outcome) {n v : ℕ} → and_then o next ≡ accepted n v → Both o next n v
then_accepted (accepted m u) next e = record { nodes = m; vars = u; before = refl; after = e }
then_accepted (rejected k p) next e = let z : ◌≡◌ {A = ℕ} 0 1 = cc in absurd (omega arith)

module _ (a b : List ℕ) (room table : ℕ) {n v : ℕ} (e : compare_of a b room table ≡ accepted n v) where
  whole : Both (alike_of a b room) (row_of 32 (ltb (table / pair_words) (pairs_of a b)) 0 (accepted (pairs_of a b) (vars a))) n v
  unfolding compare_of
  whole = then_accepted (alike_of a b room) (row_of 32 (ltb (table / pair_words) (pairs_of a b)) 0 (accepted (pairs_of a b) (vars a))) e

  pub vars_are : v ≡ vars a
  vars_are = let d = row_accepted 32 0 (ltb (table / pair_words) (pairs_of a b)) (accepted (pairs_of a b) (vars a)) whole.after in cc

  pub first_accepted : IsAccepted a
  unfolding alike_of
  first_accepted =
      let w = then_accepted (verdict_of a Nothing room) (and_then (verdict_of b Nothing room) (row_of 31 (not (eqb (vars a) (vars b))) 0 (accepted (pairs_of a b) (vars a)))) whole.before in
      (verdict_accepted a Nothing room w.nodes w.vars w.before).accepted

  pub vars_few : v ≤ max_variables
  vars_few = omega (arith, vars_are, first_accepted.formed.variables)

-- What is told is what the lines say.
difference_is : (a b : List ℕ) (d : Bool) (n : ℕ) → d ≡ any_differ a b → n ≡ shownOf a b
    → difference_text d (spell 2 n (vars a)) ≡ difference_text (any_differ a b) (row (least (vars a) (differ a b)))
unfolding difference_text
difference_is a b true n e f =
    let bs = least (vars a) (differ a b) in
    let g : n ≡ numeral bs = f ∙ rw (sym e) refl in
    let s : spell 2 n (vars a) ≡ row bs = ap (λ (x : ℕ). spell 2 x (vars a)) g ∙ ap (spell 2 (numeral bs)) (sym (least_length (vars a) (differ a b))) ∙ row_is bs in
    rw (sym e, s) refl
difference_is a b false n e f = rw (sym e) refl

-- The number that is shown is that of the words.
shown_is : (x : Option Natural) → value (words_of x) ≡ shown_number x
shown_is (Some a) = refl
shown_is None = value_zeros word_count

module _ (a b : List ℕ) {r : Compared} (s : Says a b r) where
  outcome_is : {q : Compared} {o : Outcome} → r ≡ q → judged (verdict_told q) ≡ o → compare_of a b room_lent table_lent ≡ o
  outcome_is e f = sym s.verdict ∙ ap (λ (x : Compared). judged (verdict_told x)) e ∙ f

  module _ {found : Finding Comparison} (e : r ≡ Ok found) where
    accepts : compare_of a b room_lent table_lent ≡ accepted found.extent.nodes found.extent.vars
    accepts = outcome_is e refl

    pub told_few : found.extent.vars ≤ max_variables
    told_few = vars_few a b room_lent table_lent accepts

    tells : Tells a b (accepted found.extent.nodes found.extent.vars) (Ok found)
    tells = rw (accepts, e) at s.tells

    text_is : compared_text found.value found.extent.vars ≡ answer_text a b
    unfolding answer_text
    text_is =
        let t = tells in
        rw (vars_are a b room_lent table_lent accepts, t.first.worth, t.second.worth, t.both.worth)
        (ap (λ (x : List ℕ). counts_text (vars a) (first_only a b) (second_only a b) (in_both a b) ++ x)
        (difference_is a b (is_some found.value.smallest) (shown_number found.value.smallest) t.differ (sym (shown_is found.value.smallest) ∙ t.smallest.worth)))

    pub told_lines : (old new text : List ℕ) {lines lines' : List ℕ} {end text-end : ℕ} → (text-end ≡ 0) × Wrote (compared_text found.value found.extent.vars) lines 0 lines' end
        → Differs (words_done old new a b) lines lines' text text end text-end
    unfolding words_done
    told_lines old new text t = rw (accepts, t.0) (record { printed = rw text_is at t.1; said = wrote_none text 0 })

  pub told_refusal : (old new lines : List ℕ) {x : ComparisonRefused} → r ≡ Err x → {text text' : List ℕ} {end text-end : ℕ}
      → (end ≡ 0) × Wrote (named_text (blamed old new (number_of x.refused.reason) (which_number x.which)) (number_of x.refused.reason) x.refused.place) text 0 text' text-end
      → Differs (words_done old new a b) lines lines text text' end text-end
  unfolding words_done
  told_refusal old new lines {x} e t =
      let w : which_number x.which ≡ which_of a b room_lent = sym (ap which_told e) ∙ s.which in
      rw (outcome_is e refl, t.0) (record { printed = wrote_none lines 0; said = rw w at t.1 })

-- ---- the new file, and both

-- Only a text.
pub only_said : {x lines text text' : List ℕ} {end text-end : ℕ} → (end ≡ 0) × Wrote x text 0 text' text-end → Differs (told x) lines lines text text' end text-end
only_said t = rw t.0 (record { printed = wrote_none _ 0; said = t.1 })

new_told : (old new a : List ℕ) (x : Unloaded) (left : List ℕ) → if_new old new a (loads (Err x) left) ≡ told (unloaded_text new x)
new_told old new a Missing left = refl
new_told old new a (Refused e) left = refl

old_told : (old new : List ℕ) (f : File) (x : Unloaded) (left : List ℕ) → if_old old new (loads (Err x) left) f ≡ told (unloaded_text old x)
old_told old new f Missing left = refl
old_told old new f (Refused e) left = refl

module _ (form : Form) (file : Option (List ℕ)) (left : List ℕ) {r : Result ℕ Unloaded} (h : Loads form file left r) where
  loaded_is : {q : Result ℕ Unloaded} {f : File} → r ≡ q → loads q left ≡ f → file_of form file ≡ f
  loaded_is e g = sym h.is ∙ ap (λ (x : Result ℕ Unloaded). loads x left) e ∙ g

  pub new_unloaded : (old new a : List ℕ) {x : Unloaded} {lines lines' text text' : List ℕ} {end text-end : ℕ} → r ≡ Err x → Differs (told (unloaded_text new x)) lines lines' text text' end text-end
      → Differs (if_new old new a (file_of form file)) lines lines' text text' end text-end
  new_unloaded old new a {x} e t = rw (loaded_is e refl, new_told old new a x left) t

  pub new_loaded : (old new a : List ℕ) {n : ℕ} {lines lines' text text' : List ℕ} {end text-end : ℕ} → r ≡ Ok n → Differs (words_done old new a (take (3 * n) left)) lines lines' text text' end text-end
      → Differs (if_new old new a (file_of form file)) lines lines' text text' end text-end
  new_loaded old new a e t = rw (loaded_is e refl) t

  module _ (old new : List ℕ) (other : Option (List ℕ)) where
    pub old_unloaded : {x : Unloaded} {lines lines' text text' : List ℕ} {end text-end : ℕ} → r ≡ Err x → Differs (told (unloaded_text old x)) lines lines' text text' end text-end
        → Differs (files_done form old new file other) lines lines' text text' end text-end
    unfolding files_done
    old_unloaded {x} e d = rw (loaded_is e refl, old_told old new (file_of form other) x left) d

    pub old_loaded : {n : ℕ} {lines lines' text text' : List ℕ} {end text-end : ℕ} → r ≡ Ok n → Differs (if_new old new (take (3 * n) left) (file_of form other)) lines lines' text text' end text-end
        → Differs (files_done form old new file other) lines lines' text text' end text-end
    unfolding files_done
    old_loaded e d = rw (loaded_is e refl) d

-- ---- what the words ask for

module _ (form : Form) (first second third : List ℕ) (s t : Option (List ℕ)) {lines lines' text text' : List ℕ} {end text-end : ℕ} where
  pub named_blocks : form ≡ InBlocks → Differs (files_done form first second s t) lines lines' text text' end text-end
      → Differs (files_done form (old_name form first second) (new_name form second third) s t) lines lines' text text' end text-end
  named_blocks e d = rw e (rw e at d)

  pub named_nodes : form ≡ InNodes → Differs (files_done form second third s t) lines lines' text text' end text-end
      → Differs (files_done form (old_name form first second) (new_name form second third) s t) lines lines' text text' end text-end
  named_nodes e d = rw e (rw e at d)

module _ (first second third : List ℕ) (s t : Option (List ℕ)) {m r : Asked} (is : r ≡ m) {lines lines' text text' : List ℕ} {end text-end : ℕ} where
  pub helped : r ≡ Help → Differs (told help_text) lines lines' text text' end text-end
      → Differs (done m first second third s t) lines lines' text text' end text-end
  unfolding done
  helped e d = rw (sym is, e) d

  pub not_known : r ≡ Unknown → Differs (told unknown_text) lines lines' text text' end text-end
      → Differs (done m first second third s t) lines lines' text text' end text-end
  unfolding done
  not_known e d = rw (sym is, e) d

  pub is_compared : {form : Form} → r ≡ Compare form
      → Differs (files_done form (old_name form first second) (new_name form second third) s t) lines lines' text text' end text-end
      → Differs (done m first second third s t) lines lines' text text' end text-end
  unfolding done
  is_compared e d = rw (sym is, e) d
