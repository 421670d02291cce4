-- What is written fits the buffers of the program.
use Prim.Native.Nat.{ℕ, suc, ◌+◌, ◌*◌, ◌≤◌, ◌<◌}
use mathlib.Core.Bool.{Bool, true, false, cond}
use mathlib.Core.List.{List, [], ◌∷◌, ◌++◌}
use native.Mathlib.Omega.{arith}
use lib.ListN.{length, length-append}
use lib.Dec.{eqb}
use Rattle.diagram.specs.Limits.{max_variables}
use Rattle.writing.specs.Writing.{bytes}
use Rattle.text.specs.Digits.{decimal_digits, hexadecimal_digits, decimal}
use Rattle.text.proofs.Numerals.{decimal_length, decimal_short}
use Rattle.messages.proofs.Fitting.{twice_length, refusal_length}
use Rattle.differ_texts.specs.Texts.{row_text, signal, signals, any_on, list_on, on_text, smallest_text, difference_text, counts_text, missing_text, named_text, of_both, blamed, name_buffer, signal_bytes, lines_buffer, text_buffer}

of_both_lem : (k : ℕ) (b : Bool) (x y : List ℕ) → length x ≤ k → length y ≤ k → length (cond b x y) ≤ k
of_both_lem k true x y h g = h
of_both_lem k false x y h g = g

-- ---- the lines

signal_length : (i c : ℕ) → i < max_variables → length (signal i c) ≤ signal_bytes
unfolding signal
signal_length i c h =
    of_both_lem signal_bytes (eqb c 49) (bytes " x" ++ decimal i) [] (simp length-append (omega (arith, decimal_short i 5 (omega arith) (omega arith)))) (omega arith)

signals_length : (i : ℕ) (t : List ℕ) → i + length t ≤ max_variables → length (signals i t) ≤ signal_bytes * length t
unfolding signals
signals_length i [] h = omega arith
signals_length i (c ∷ t) h = simp length-append (omega (arith, signal_length i c (omega arith), signals_length (suc i) t (omega arith)))

row_length : (t : List ℕ) → length (row_text t) ≤ 1 + length t
unfolding row_text
row_length [] = omega arith
row_length (c ∷ t) = omega arith

module _ (t : List ℕ) (h : length t ≤ max_variables) where
  on_length : length (list_on t) ≤ 5 + max_variables * signal_bytes
  unfolding list_on
  on_length =
      of_both_lem (5 + max_variables * signal_bytes) (any_on t) (signals 0 t) (bytes " none") (omega (arith, signals_length 0 t (omega arith))) (omega arith)

  difference_length : (differs : Bool) → length (difference_text differs t) ≤ 29 + max_variables * (1 + signal_bytes)
  unfolding difference_text smallest_text on_text
  difference_length true = simp length-append (omega (arith, row_length t, on_length))
  difference_length false = omega arith

counts_length : (v first second both : ℕ) → length (counts_text v first second both) ≤ 53 + 4 * decimal_digits + 3 * hexadecimal_digits
unfolding counts_text
counts_length v first second both =
    simp length-append (omega (
      arith,
      decimal_length v,
      twice_length (bytes "old only ") first (bytes " (hex "),
      twice_length (bytes "new only ") second (bytes " (hex "),
      twice_length (bytes "both ") both (bytes " (hex "),
    ))

pub lines_fit : (v first second both : ℕ) (differs : Bool) (t : List ℕ) → length t ≤ max_variables
    → length (counts_text v first second both ++ difference_text differs t) ≤ lines_buffer
lines_fit v first second both differs t h =
    simp length-append (omega (arith, counts_length v first second both, difference_length t h differs))

-- ---- what is said

module _ (name : List ℕ) (h : length name ≤ name_buffer) where
  pub missing_fits : length (missing_text name) ≤ text_buffer
  unfolding missing_text
  missing_fits = simp length-append (omega arith)

  pub named_fits : (number place : ℕ) → length (named_text name number place) ≤ text_buffer
  unfolding named_text
  named_fits number place = simp length-append (omega (arith, refusal_length number place))

pub blamed_fits : (old new : List ℕ) (number which : ℕ) → length old ≤ name_buffer → length new ≤ name_buffer → length (blamed old new number which) ≤ name_buffer
unfolding blamed
blamed_fits old new number which h g =
    of_both_lem name_buffer (of_both number) (bytes "differ") (cond (eqb which 0) old new) (omega arith) (of_both_lem name_buffer (eqb which 0) old new h g)
