-- How long what is said can be.
use Prim.Native.Nat.{ℕ, ◌+◌, ◌-◌, ◌*◌, ◌≤◌}
use mathlib.Core.Bool.{Bool, true, false, cond}
use mathlib.Core.List.{List, [], ◌++◌}
use native.Mathlib.Omega.{arith}
use lib.ListN.{length, length-append}
use lib.Dec.{eqb}
use Rattle.diagram.specs.Limits.{max_nodes, max_variables}
use Rattle.writing.specs.Writing.{bytes}
use Rattle.blocks.specs.Block.{max_stored}
use Rattle.text.specs.Digits.{decimal_digits, hexadecimal_digits, decimal}
use Rattle.text.proofs.Numerals.{decimal_length, hexadecimal_length}
use Rattle.report.specs.Report.{refused_at}
use Rattle.request.specs.Request.{Aim, nodes, cases}
use Rattle.messages.specs.Texts.{subject, of_node, more_than, lent_pairs, pairs_phrase, phrase, refusal_text, twice, target_text, sizes_text, counts_text, change_text, trials_text, settings_phrase, settings_refusal_text}

of_both_lem : (k : ℕ) (b : Bool) (x y : List ℕ) → length x ≤ k → length y ≤ k → length (cond b x y) ≤ k
of_both_lem k true x y h g = h
of_both_lem k false x y h g = g

-- The sentences that are only words, and those that name a limit.
abbrev longest_sentence : ℕ
longest_sentence = 80

more_length : (most : ℕ) (what : List ℕ) → length (more_than most what) ≤ 20 + decimal_digits + length what
unfolding more_than
more_length most what = simp length-append (omega (arith, decimal_length most))

pairs_length : length pairs_phrase ≤ 37 + decimal_digits
unfolding pairs_phrase
pairs_length = simp length-append (omega (arith, decimal_length lent_pairs))

phrase_length : (number : ℕ) → length (phrase number) ≤ longest_sentence + decimal_digits
unfolding phrase
phrase_length number =
    of_both_lem (longest_sentence + decimal_digits) (eqb number 4) _ _ (omega arith)
    (of_both_lem (longest_sentence + decimal_digits) (eqb number 6) _ _ (omega arith)
    (of_both_lem (longest_sentence + decimal_digits) (eqb number 7) _ _ (omega (arith, more_length max_variables (bytes " variables")))
    (of_both_lem (longest_sentence + decimal_digits) (eqb number 8) _ _ (omega arith)
    (of_both_lem (longest_sentence + decimal_digits) (eqb number 9) _ _ (omega arith)
    (of_both_lem (longest_sentence + decimal_digits) (eqb number 10) _ _ (omega arith)
    (of_both_lem (longest_sentence + decimal_digits) (eqb number 11) _ _ (omega arith)
    (of_both_lem (longest_sentence + decimal_digits) (eqb number 12) _ _ (omega arith)
    (of_both_lem (longest_sentence + decimal_digits) (eqb number 16) _ _ (omega arith)
    (of_both_lem (longest_sentence + decimal_digits) (eqb number 17) _ _ (omega arith)
    (of_both_lem (longest_sentence + decimal_digits) (eqb number 18) _ _ (omega arith)
    (of_both_lem (longest_sentence + decimal_digits) (eqb number 19) _ _ (omega arith)
    (of_both_lem (longest_sentence + decimal_digits) (eqb number 21) _ _ (omega arith)
    (of_both_lem (longest_sentence + decimal_digits) (eqb number 22) _ _ (omega arith)
    (of_both_lem (longest_sentence + decimal_digits) (eqb number 23) _ _ (omega arith)
    (of_both_lem (longest_sentence + decimal_digits) (eqb number 24) _ _ (omega arith)
    (of_both_lem (longest_sentence + decimal_digits) (eqb number 25) _ _ (omega (arith, more_length max_stored (bytes " nodes")))
    (of_both_lem (longest_sentence + decimal_digits) (eqb number 31) _ _ (omega arith)
    (of_both_lem (longest_sentence + decimal_digits) (eqb number 32) _ _ (omega (arith, pairs_length))
    (of_both_lem (longest_sentence + decimal_digits) (eqb number 51) _ _ (omega arith)
    (of_both_lem (longest_sentence + decimal_digits) (eqb number 52) _ _ (omega arith)
    (of_both_lem (longest_sentence + decimal_digits) (eqb number 53) _ _ (omega (arith, more_length max_nodes (bytes " nodes")))
    (omega arith))))))))))))))))))))))

subject_length : (number place : ℕ) → length (subject number place) ≤ 6 + decimal_digits
unfolding subject
subject_length number place =
    of_both_lem (6 + decimal_digits) (of_node number) (bytes "node " ++ decimal place ++ bytes " ") [] (simp length-append (omega (arith, decimal_length place))) (omega arith)

pub refusal_length : (number place : ℕ) → length (refusal_text number place) ≤ 21 + longest_sentence + 4 * decimal_digits
unfolding refusal_text refused_at
refusal_length number place =
    simp length-append (omega (arith, decimal_length number, decimal_length place, subject_length number place, phrase_length number))

settings_phrase_length : (number : ℕ) → length (settings_phrase number) ≤ longest_sentence + decimal_digits
unfolding settings_phrase
settings_phrase_length number =
    of_both_lem (longest_sentence + decimal_digits) (eqb number 38) _ _ (omega arith)
    (of_both_lem (longest_sentence + decimal_digits) (eqb number 39) _ _ (omega arith)
    (phrase_length number))

pub settings_refusal_length : (number place : ℕ) → length (settings_refusal_text number place) ≤ 21 + longest_sentence + 4 * decimal_digits
unfolding settings_refusal_text refused_at
settings_refusal_length number place =
    simp length-append (omega (arith, decimal_length number, decimal_length place, subject_length number place, settings_phrase_length number))

pub twice_length : (label : List ℕ) (n : ℕ) (middle : List ℕ) → length (twice label n middle) ≤ length label + length middle + 1 + decimal_digits + hexadecimal_digits
unfolding twice
twice_length label n middle = simp length-append (omega (arith, decimal_length n, hexadecimal_length n))

pub target_length : (keep : Bool) (aim : Aim) → length (target_text keep aim) ≤ 30 + decimal_digits + hexadecimal_digits
unfolding target_text
target_length keep (nodes t) = simp length-append (omega (arith, decimal_length t))
target_length true (cases k) = simp length-append (omega (arith, twice_length (bytes "target at least ") k (bytes " cases (hex ")))
target_length false (cases k) = simp length-append (omega (arith, twice_length (bytes "target at most ") k (bytes " cases (hex ")))

pub sizes_length : (before after : ℕ) → length (sizes_text before after) ≤ 11 + 2 * decimal_digits
unfolding sizes_text
sizes_length before after = simp length-append (omega (arith, decimal_length before, decimal_length after))

pub counts_length : (before after : ℕ) → length (counts_text before after) ≤ 25 + 2 * decimal_digits + 2 * hexadecimal_digits
unfolding counts_text
counts_length before after =
    simp length-append (omega (arith, twice_length (bytes "cases ") before (bytes " (hex "), twice_length (bytes " to ") after (bytes " (hex ")))

pub change_length : (keep : Bool) (before after : ℕ) → length (change_text keep before after) ≤ 14 + decimal_digits + hexadecimal_digits
unfolding change_text
change_length true before after = simp length-append (omega (arith, twice_length (bytes "added ") (after - before) (bytes " (hex ")))
change_length false before after = simp length-append (omega (arith, twice_length (bytes "lost ") (before - after) (bytes " (hex ")))

pub trials_length : (trials : ℕ) → length (trials_text trials) ≤ 8 + decimal_digits
unfolding trials_text
trials_length trials = simp length-append (omega (arith, decimal_length trials))
