-- What is done with a file.
use Prim.Native.Nat.{ℕ, ◌+◌, ◌-◌, ◌*◌, ◌/◌, ◌≤◌}
use mathlib.Core.Path.{◌≡◌, refl, sym, ap, ◌∙◌}
use mathlib.Core.Bool.{Bool}
use mathlib.Core.List.{List, [], ◌++◌}
use native.Mathlib.Omega.{arith}
use lib.Seq.{take-append_seam}
use lib.ListN.{length, take, drop, length-append, length-drop}
use Rattle.diagram.specs.Diagram.{size, Accepted}
use Rattle.diagram.specs.Verdict.{Verdict, Outcome, accepted, refused as rejected, said, verdict_of}
use Rattle.std.specs.Prelude.{Result, Ok, Err}
use Rattle.diagram.specs.Refusal.{number_of}
use Rattle.diagram.specs.Verdict.{verdict_in}
use Rattle.diagram.specs.declared.verdict.Finding.{Finding}
use Rattle.diagram.specs.declared.verdict.Refused.{Refused}
use Rattle.trials.specs.declared.answers.Answer.{Answer}
use Rattle.targets.specs.Targets.{nodes_in, trials_in}
use Rattle.diagram.specs.Limits.{max_nodes, max_words}
use Rattle.blocks.specs.Block.{Stored, nodes, refused as unread, said as told}
use Rattle.block_file.specs.File.{Reading, reading}
use Rattle.forms.specs.Form.{read_as, write_as, file_as, bytes_as, left_as, FormReads, FormWrites}
use Rattle.forms.specs.declared.Form.{Form}
use Rattle.forms.proofs.Laws.{is_stored, form_few}
use Rattle.writing.specs.Writing.{Wrote}
use Rattle.messages.specs.Texts.{help_text, unknown_text, which_text, refusal_text}
use Rattle.request.specs.Request.{Aim, Meaning, help, unknown, which, cut}
use Rattle.shrinking.specs.Shrinking.{Done, shrunk, refused, if_stored, storing, wanted, wanted_verdict, Wants, diagram_done, done, summary, Shrinks}
use Rattle.shrinking.proofs.Wanting.{admitted, answer_accepted}
use Rattle.report.specs.Report.{room_lent, blank}

-- ---- the answer

module _ (form : Form) (keep : Bool) (aim : Aim) (w a : List ℕ) (trials : ℕ) (file left : List ℕ) {r : Stored} (h : FormWrites form a file left r) where
  pub store_refused : {x : Refused} {text text' : List ℕ} {end text-end : ℕ} → r ≡ Err x → (end ≡ 0) × Wrote (refusal_text (number_of x.reason) x.place) text 0 text' text-end
      → Shrinks (storing form keep aim w a trials (length file)) file left text text' end text-end
  unfolding storing left_as
  store_refused {x = x} e t =
      let o : write_as form a (length file) ≡ unread (number_of x.reason) x.place = sym h.answer ∙ ap told e in
      let l : left ≡ file = rw o at h.leaves in
      rw (l, o) (record { stored = refl; stored_end = t.0; told = t.1 })

  module _ {n : ℕ} (e : r ≡ Ok n) where
    outcome_is : write_as form a (length file) ≡ nodes n
    outcome_is = sym h.answer ∙ ap told e

    pub store_few : n ≤ max_nodes
    store_few = (is_stored form a (length file) n outcome_is).few

    pub store_done : {end : ℕ} {text text' : List ℕ} {text-end : ℕ} → end ≡ bytes_as form n → Wrote (summary keep aim w a trials) text 0 text' text-end
        → Shrinks (storing form keep aim w a trials (length file)) file left text text' end text-end
    unfolding storing left_as
    store_done g t =
        let l : left ≡ file_as form a ++ drop (length (file_as form a)) file = rw outcome_is at h.leaves in
        rw outcome_is (record { stored = l; stored_end = g ∙ sym (is_stored form a (length file) n outcome_is).long; told = t })

-- ---- the diagram

module _ (form : Form) (keep as_is : Bool) (aim : Aim) (w room room' out out' : List ℕ) (r : Result (Finding Answer) Refused)
    (m : Wants w keep as_is aim room room' out out' (verdict_in r) (nodes_in r) (trials_in r))
    (lent : length out ≡ max_words) (roomy : length room ≡ room_lent) where
  verdict_is : said (verdict_in r) ≡ wanted_verdict keep aim w room_lent max_words
  verdict_is = rw (lent, roomy) at m.builds.answers.verdict

  pub diagram_refused : {x : Refused} {file text text' : List ℕ} {end text-end : ℕ} → r ≡ Err x → (end ≡ 0) × Wrote (refusal_text (number_of x.reason) x.place) text 0 text' text-end
      → Shrinks (diagram_done form keep as_is aim w (length file)) file file text text' end text-end
  unfolding diagram_done
  diagram_refused e t = rw (sym verdict_is, e) (record { stored = refl; stored_end = t.0; told = t.1 })

  module _ {found : Finding Answer} (e : r ≡ Ok found) (same : length out' ≡ max_words) where
    accepted_is : wanted_verdict keep aim w (length room) (length out) ≡ accepted found.extent.nodes found.extent.vars
    accepted_is = sym m.builds.answers.verdict ∙ ap (λ (x : Result (Finding Answer) Refused). said (verdict_in x)) e

    out_is : out' ≡ (wanted keep as_is aim w).words ++ drop (length (wanted keep as_is aim w).words) out
    out_is = rw accepted_is at m.builds.answers.output

    answer : Accepted (wanted keep as_is aim w).words
    answer = answer_accepted as_is w (length room) (length out) keep aim accepted_is

    count_is : found.value.nodes ≡ size (wanted keep as_is aim w).words
    count_is = rw (accepted_is, e) at m.builds.nodes

    trials_is : found.value.trials ≡ (wanted keep as_is aim w).trials
    trials_is = rw (accepted_is, e) at m.trials

    answer_few : length (wanted keep as_is aim w).words ≤ max_words
    answer_few =
        let l : length ((wanted keep as_is aim w).words ++ drop (length (wanted keep as_is aim w).words) out) ≡ length (wanted keep as_is aim w).words + length (drop (length (wanted keep as_is aim w).words) out) = length-append (wanted keep as_is aim w).words _ in
        let o : length out' ≡ length ((wanted keep as_is aim w).words ++ drop (length (wanted keep as_is aim w).words) out) = ap length out_is in
        omega arith

    pub answer_long : 3 * found.value.nodes ≤ max_words
    answer_long = omega (arith, answer.formed.whole, answer_few, count_is)

    words_are : take (3 * found.value.nodes) out' ≡ (wanted keep as_is aim w).words
    words_are =
        let l : 3 * found.value.nodes ≡ length (wanted keep as_is aim w).words = omega (arith, answer.formed.whole, count_is) in
        rw (l, out_is) (take-append_seam (wanted keep as_is aim w).words _)

    pub answer_ready : (after : List ℕ) → length after ≡ room_lent → Accepted w × Accepted (take (3 * found.value.nodes) out') × (room_lent ≤ length after)
    answer_ready after g = rw words_are ((admitted keep aim w (length room) (length out) accepted_is).2.accepted, answer, omega arith)

    pub diagram_done_lem : {file left text text' : List ℕ} {end text-end : ℕ} → Shrinks (storing form keep aim w (take (3 * found.value.nodes) out') found.value.trials (length file)) file left text text' end text-end
        → Shrinks (diagram_done form keep as_is aim w (length file)) file left text text' end text-end
    unfolding diagram_done
    diagram_done_lem t = rw (sym verdict_is, e) (rw (words_are, trials_is) at t)

-- ---- the file

module _ (form : Form) (keep as_is : Bool) (aim : Aim) (s begun left : List ℕ) {r : Stored} (h : FormReads form s begun left r) (is-blank : begun ≡ blank) where
  pub file_refused : {x : Refused} {file text text' : List ℕ} {end text-end : ℕ} → r ≡ Err x → (end ≡ 0) × Wrote (refusal_text (number_of x.reason) x.place) text 0 text' text-end
      → Shrinks (done form (cut keep as_is aim) s (length file)) file file text text' end text-end
  unfolding done
  file_refused e t = rw (sym is-blank, sym h.is, e) (record { stored = refl; stored_end = t.0; told = t.1 })

  pub file_done_lem : {n : ℕ} {file file' text text' : List ℕ} {end text-end : ℕ} → r ≡ Ok n
      → Shrinks (diagram_done form keep as_is aim (take (3 * n) left) (length file)) file file' text text' end text-end
      → Shrinks (done form (cut keep as_is aim) s (length file)) file file' text text' end text-end
  unfolding done
  file_done_lem e t = rw (sym is-blank, sym h.is, e) t

module _ (form : Form) (s begun left : List ℕ) {r : Stored} (h : FormReads form s begun left r) where
  pub file_few : {n : ℕ} → r ≡ Ok n → n ≤ max_nodes
  file_few e = form_few form s begun (sym (rw e at h.is))

-- ---- words that ask for no cut

module _ (form : Form) (s file text text' : List ℕ) {end text-end : ℕ} (none : end ≡ 0) {m : Meaning} where
  pub helped : m ≡ help → Wrote help_text text 0 text' text-end → Shrinks (done form m s (length file)) file file text text' end text-end
  unfolding done
  helped e t = rw e (record { stored = refl; stored_end = none; told = t })

  pub not_known : m ≡ unknown → Wrote unknown_text text 0 text' text-end → Shrinks (done form m s (length file)) file file text text' end text-end
  unfolding done
  not_known e t = rw e (record { stored = refl; stored_end = none; told = t })

  pub not_named : m ≡ which → Wrote which_text text 0 text' text-end → Shrinks (done form m s (length file)) file file text text' end text-end
  unfolding done
  not_named e t = rw e (record { stored = refl; stored_end = none; told = t })

-- ---- what the words mean

pub is_done : (s : List ℕ) (lent : ℕ) {form form' : Form} {m k : Meaning} {file left text text' : List ℕ} {end text-end : ℕ} → form ≡ form' → m ≡ k
    → Shrinks (done form' k s lent) file left text text' end text-end → Shrinks (done form m s lent) file left text text' end text-end
is_done s lent f e t = rw (f, e) t
