-- What a supervisor is promised, from bytes to bytes.
use Prim.Native.Nat.{ℕ, zero, suc, ◌+◌, ◌-◌, ◌*◌, ◌/◌, ◌%◌, ◌≤◌, ◌<◌, ◌^◌}
use mathlib.Core.Path.{◌≡◌, refl, sym, ap, ◌∙◌}
use mathlib.Core.Bool.{Bool, true, false, cond, not, true≢false}
use mathlib.Core.List.{List, [], ◌++◌}
use mathlib.Core.Logic.{◌⊎◌, inl, inr}
use native.Mathlib.Omega.{arith}
use lib.ListN.{length, get_or, take, drop, length-replicate}
use lib.Seq.{take_at}
use lib.Dec.{eqb}
use Rattle.diagram.specs.Diagram.{size, Accepted}
use Rattle.diagram.specs.Verdict.{Outcome, accepted, refused as rejected}
use Rattle.reduction.specs.Reduce.{reduce}
use Rattle.approximation.specs.Cut.{Under, Over}
use Rattle.writing.specs.Writing.{bytes}
use Rattle.naturals.specs.Natural.{limit}
use Rattle.text.specs.Digits.{Reading as Parsed, number, none, parsed}
use Rattle.diagram.specs.Limits.{max_words}
use Rattle.blocks.specs.Block.{Outcome as Stored, nodes as stored, refused as unread}
use Rattle.block_file.specs.File.{Reading, reading}
use Rattle.forms.specs.Form.{read_as, write_as, file_as}
use Rattle.forms.specs.declared.Form.{Form}
use Rattle.forms.specs.declared.Form.TheVariants.{Blocks, Nodes}
use Rattle.forms.proofs.Small.{words_small}
use Rattle.forms.proofs.Laws.{is_stored}
use Rattle.forms.proofs.Promised.{written_reads, never_short}
use Rattle.request.specs.Request.{alike, Aim, nodes, cases, Meaning, help, unknown, which, cut, if_number, aimed, directed, request_of, is_nodes, form_of, words_of}
use Rattle.shrinking.specs.Shrinking.{if_stored, storing, wanted, wanted_verdict, if_cut, diagram_done, if_read, done, file_bytes, file_buffer}
use Rattle.shrinking.specs.Supervised.{output, output_in, ReadsAs, Supervised}
use Rattle.shrinking.proofs.Wanting.{keep_nodes, keep_cases, keep_over, suppress_nodes, suppress_cases, suppress_under, answer_accepted, answer_least}
use Rattle.shrinking.proofs.Fitting.{file_fits, text_fits, front_is_enough, no_file, no_input}
use Rattle.report.specs.Report.{room_lent, blank}

-- ---- a cut of the file of w

-- What a file is read into has a place for each word.
room : (w : List ℕ) → length w ≤ max_words → length w ≤ length blank
room w h = simp length-replicate h

module _ (form : Form) (w : List ℕ) (lent n : ℕ) (small : (k : ℕ) → get_or w k 0 < 2 ^ 32) (e : write_as form w lent ≡ stored n) (P : List ℕ → Type 0) (keep as_is : Bool) (aim : Aim)
    (right : (m v : ℕ) → wanted_verdict keep aim w room_lent max_words ≡ accepted m v → P (wanted keep as_is aim w).words × Accepted (wanted keep as_is aim w).words) where
  abbrev answer : List ℕ
  answer = (wanted keep as_is aim w).words

  stored_reads : (o : Stored) → Accepted answer → P answer → write_as form answer file_buffer ≡ o
      → (file_bytes (if_stored form keep aim w answer (wanted keep as_is aim w).trials o) ≡ []) ⊎ ReadsAs form P (file_bytes (if_stored form keep aim w answer (wanted keep as_is aim w).trials o))
  stored_reads (unread k p) a h g = inl refl
  stored_reads (stored m) a h g =
      let i = is_stored form answer file_buffer m g in
      let c : size answer ≡ m = omega (arith, i.whole) in
      inr (record {
        words = answer;
        reads = written_reads form answer blank file_buffer m (words_small answer a.formed) g (room answer (omega (arith, i.whole, i.few))) ∙ ap (λ (k : ℕ). reading (stored k) (answer ++ drop (length answer) blank)) (sym c);
        true_of_lem = h;
      })

  cut_reads : (o : Outcome) → wanted_verdict keep aim w room_lent max_words ≡ o → (file_bytes (if_cut form keep as_is aim w file_buffer o) ≡ []) ⊎ ReadsAs form P (file_bytes (if_cut form keep as_is aim w file_buffer o))
  unfolding storing
  cut_reads (rejected k p) g = inl refl
  cut_reads (accepted m v) g = let r = right m v g in stored_reads (write_as form answer file_buffer) r.1 r.0 refl

  words_back : take (3 * n) (w ++ drop (length w) blank) ≡ w
  words_back = take_at w (drop (length w) blank) (3 * n) (is_stored form w lent n e).whole

  pub file_reads : (file_bytes (done form (cut keep as_is aim) (file_as form w) file_buffer) ≡ []) ⊎ ReadsAs form P (file_bytes (done form (cut keep as_is aim) (file_as form w) file_buffer))
  unfolding done diagram_done
  file_reads =
      let i = is_stored form w lent n e in
      let r : read_as form (file_as form w) blank ≡ reading (stored n) (w ++ drop (length w) blank) = written_reads form w blank lent n small e (room w (omega (arith, i.whole, i.few))) in
      rw (r, words_back) (cut_reads (wanted_verdict keep aim w room_lent max_words) refl)

-- ---- what the words come to: no cut, or one of which something is true

data Turns (P : Bool → Bool → Type 0) : Meaning → Type 0 where
  to_help : Turns P help
  to_unknown : Turns P unknown
  to_which : Turns P which
  to_cut : {keep as_is : Bool} (aim : Aim) → P keep as_is → Turns P (cut keep as_is aim)

turns_cond : {P : Bool → Bool → Type 0} (b : Bool) {x y : Meaning} → Turns P x → Turns P y → Turns P (cond b x y)
turns_cond true x y = x
turns_cond false x y = y

module _ (P : Bool → Bool → Type 0) (keep as_is : Bool) (h : P keep as_is) where
  turns_number : (aim : ℕ → Aim) (r : Parsed) → Turns P (if_number keep as_is aim r)
  turns_number aim (number n) = to_cut (aim n) h
  turns_number aim none = to_unknown

  turns_aimed : (kind text : List ℕ) → Turns P (aimed keep as_is kind text)
  unfolding aimed
  turns_aimed kind text =
      turns_cond (alike kind (bytes "size")) (turns_number nodes (parsed 10 (2 ^ 32) text))
      (turns_cond (alike kind (bytes "cases")) (turns_number cases (parsed 10 limit text))
      (turns_cond (alike kind (bytes "hex")) (turns_number cases (parsed 16 limit text))
      (turns_cond (alike kind (bytes "count")) to_which
      to_unknown)))

-- Words that begin with keep cut no other way, and likewise suppress; three words don't keep what meets the target already.
abbrev Towards : Bool → Bool → Bool → Type 0
Towards way keep as_is = keep ≡ way

abbrev Reducing : Bool → Bool → Type 0
Reducing keep as_is = as_is ≡ false

turns_asked : {P : Bool → Bool → Type 0} (count : ℕ) (first kind text flag : List ℕ) → ((as_is : Bool) → Turns P (directed as_is first kind text)) → Turns P (request_of count first kind text flag)
unfolding request_of
turns_asked count first kind text flag each =
    turns_cond (eqb count 0) to_help
    (turns_cond (eqb count 3) (each false)
    (turns_cond (not (eqb count 4)) to_unknown
    (turns_cond (alike flag (bytes "as-is")) (each true)
    to_unknown)))

turns_keep : (count : ℕ) (kind text flag : List ℕ) → Turns (Towards true) (request_of count (bytes "keep") kind text flag)
unfolding directed alike
turns_keep count kind text flag = turns_asked count (bytes "keep") kind text flag each
  where
    each : (as_is : Bool) → Turns (Towards true) (directed as_is (bytes "keep") kind text)
    each as_is = turns_aimed (Towards true) true as_is refl kind text

turns_suppress : (count : ℕ) (kind text flag : List ℕ) → Turns (Towards false) (request_of count (bytes "suppress") kind text flag)
unfolding directed alike
turns_suppress count kind text flag = turns_asked count (bytes "suppress") kind text flag each
  where
    each : (as_is : Bool) → Turns (Towards false) (directed as_is (bytes "suppress") kind text)
    each as_is = turns_aimed (Towards false) false as_is refl kind text

turns_three : (first kind text flag : List ℕ) → Turns Reducing (request_of 3 first kind text flag)
unfolding request_of directed
turns_three first kind text flag =
    turns_cond (alike first (bytes "keep")) (turns_aimed Reducing true false refl kind text)
    (turns_cond (alike first (bytes "suppress")) (turns_aimed Reducing false false refl kind text)
    to_unknown)

-- So the file has what the answers have.
module _ (form : Form) (w : List ℕ) (lent n : ℕ) (small : (k : ℕ) → get_or w k 0 < 2 ^ 32) (e : write_as form w lent ≡ stored n) (P : Bool → Bool → Type 0) (Q : List ℕ → Type 0)
    (right : (keep as_is : Bool) (aim : Aim) → P keep as_is → (m v : ℕ) → wanted_verdict keep aim w room_lent max_words ≡ accepted m v
    → Q (wanted keep as_is aim w).words) where
  writes : {m : Meaning} → Turns P m → (file_bytes (done form m (file_as form w) file_buffer) ≡ []) ⊎ ReadsAs form Q (file_bytes (done form m (file_as form w) file_buffer))
  unfolding done
  writes to_help = inl refl
  writes to_unknown = inl refl
  writes to_which = inl refl
  writes (to_cut {keep = keep} {as_is = as_is} aim h) =
      file_reads form w lent n small e Q keep as_is aim (λ m v g. (right keep as_is aim h m v g, answer_accepted as_is w room_lent max_words keep aim g))

module _ (w : List ℕ) where
  keeps_right : (keep as_is : Bool) (aim : Aim) → keep ≡ true → (m v : ℕ) → wanted_verdict keep aim w room_lent max_words ≡ accepted m v → Over w (wanted keep as_is aim w).words
  keeps_right true as_is aim h m v g = keep_over as_is w room_lent max_words aim g
  keeps_right false as_is aim h m v g = absurd (true≢false (sym h))

  suppresses_right : (keep as_is : Bool) (aim : Aim) → keep ≡ false → (m v : ℕ) → wanted_verdict keep aim w room_lent max_words ≡ accepted m v → Under w (wanted keep as_is aim w).words
  suppresses_right true as_is aim h m v g = absurd (true≢false h)
  suppresses_right false as_is aim h m v g = suppress_under as_is w room_lent max_words aim g

  tidies_right : (keep as_is : Bool) (aim : Aim) → as_is ≡ false → (m v : ℕ) → wanted_verdict keep aim w room_lent max_words ≡ accepted m v
      → reduce (wanted keep as_is aim w).words ≡ (wanted keep as_is aim w).words
  tidies_right keep as_is aim h m v g = rw h (answer_least w room_lent max_words keep aim g)

-- ---- the first word

behind_nodes : (count : ℕ) (b c d e s : List ℕ) → output (suc count) (bytes "nodes") b c d e s ≡ output_in Nodes count b c d e s
unfolding form_of words_of alike
behind_nodes count b c d e s = let k : suc count - 1 ≡ count = omega arith in rw k refl

plain_keep : (count : ℕ) (b c d e s : List ℕ) → output count (bytes "keep") b c d e s ≡ output_in Blocks count (bytes "keep") b c d s
unfolding form_of words_of alike
plain_keep count b c d e s = refl

plain_suppress : (count : ℕ) (b c d e s : List ℕ) → output count (bytes "suppress") b c d e s ≡ output_in Blocks count (bytes "suppress") b c d s
unfolding form_of words_of alike
plain_suppress count b c d e s = refl

pub supervised : Supervised
supervised =
    record {
      node_file = behind_nodes;
      block_keep = plain_keep;
      block_suppress = plain_suppress;
      keeps = λ form w kind text flag count lent n small e. writes form w lent n small e (Towards true) (Over w) (keeps_right w) (turns_keep count kind text flag);
      suppresses = λ form w kind text flag count lent n small e. writes form w lent n small e (Towards false) (Under w) (suppresses_right w) (turns_suppress count kind text flag);
      tidies = λ form w first kind text flag lent n small e. writes form w lent n small e Reducing (λ a. reduce a ≡ a) (tidies_right w) (turns_three first kind text flag);
      no_file = no_file;
      no_input = no_input;
      nodes_kept = λ as_is w t room lent n v e. (keep_nodes as_is w room lent t e).1;
      nodes_left = λ as_is w t room lent n v e. (suppress_nodes as_is w room lent t e).1;
      cases_kept = λ as_is w k room lent n v e. (keep_cases as_is w room lent k e).1;
      cases_left = λ as_is w k room lent n v e. (suppress_cases as_is w room lent k e).1;
      file_fits = file_fits;
      text_fits = text_fits;
      never_short = never_short;
      front_enough = front_is_enough;
    }
