-- Reading block by block, as a loop does it.
use Prim.Native.Nat.{ℕ, zero, suc, ◌+◌, ◌-◌, ◌*◌, ◌≤◌, ◌<◌}
use mathlib.Core.Path.{◌≡◌, refl, sym, ap, ◌∙◌}
use mathlib.Core.Bool.{Bool, true, false, cond}
use mathlib.Core.List.{List}
use native.Mathlib.Omega.{arith}
use native.Mathlib.Numerals.{add-one}
use lib.ListN.{length, take, drop, length-drop}
use lib.Dec.{ltb}
use lib.Seq.{take_all}
use borrow.Author.Tests.{lt-ltb, le-ltb}
use Rattle.blocks.specs.Block.{Stored, Outcome, nodes, refused, said, row, block_outcome, block_output, Reads, block_bytes, block_nodes, max_stored}
use Rattle.diagram.specs.declared.verdict.Refused.{Refused}
use Rattle.diagram.specs.declared.refusal.Refusal.TheVariants.{ShortBlock}
use Rattle.std.specs.Prelude.{Ok, Err}
use Rattle.blocks.proofs.Testing.{is_taken}
use Rattle.writing.proofs.Laws.{by_le}
use Rattle.block_file.specs.File.{Reading, reading, end_of, after, read_on, read_file, ReadsFile}

pub end_over : (len number n : ℕ) → block_bytes * number < len → refused 21 number ≡ end_of len number n
unfolding end_of row
end_over len number n h = simp (lt-ltb (block_bytes * number) len h)

pub end_right : (len number n : ℕ) → len ≤ block_bytes * number → nodes n ≡ end_of len number n
unfolding end_of row
end_right len number n h = simp (le-ltb (block_bytes * number) len h)

-- The blocks before `number` are read, and what is still to be read is all that is to be said.
pub record Onward (s before : List ℕ) (number stated : ℕ) (out : List ℕ) : Type 0 where
  pub within : number ≤ 3
  pub room : block_bytes * number ≤ length s
  pub same : length out ≡ length before
  pub rest : read_on (3 - number) number stated s out ≡ read_file s before

pub onward_begins : (s out : List ℕ) → Onward s out 0 0 out
unfolding read_file
onward_begins s out = record { within = omega arith; room = omega arith; same = refl; rest = refl }

-- What is lent of the file from a place on is all that stands there.
pub reads_tail : (s : List ℕ) (k : ℕ) {number stated : ℕ} {out left : List ℕ} {r : Stored} → Reads number stated (take (length s - k) (drop k s)) out left r
    → Reads number stated (drop k s) out left r
reads_tail s k b =
    let e : take (length s - k) (drop k s) ≡ drop k s = take_all (length s - k) (drop k s) (simp length-drop (omega arith)) in
    rw e at b

step_is : (s out : List ℕ) (number stated : ℕ) → number < 3
    → read_on (3 - number) number stated s out
    ≡ after (block_outcome number stated (drop (block_bytes * number) s) (length out)) number s
    (block_output number (drop (block_bytes * number) s) out (block_outcome number stated (drop (block_bytes * number) s) (length out)))
    (λ n left. read_on (3 - (number + 1)) (number + 1) n s left)
unfolding read_on
step_is s out number stated h =
    let e : 3 - number ≡ suc (3 - (number + 1)) = omega arith in
    rw (e, add-one number)

step_of : (s out : List ℕ) (number stated : ℕ) → number < 3 → (o : Outcome) → block_outcome number stated (drop (block_bytes * number) s) (length out) ≡ o
    → read_on (3 - number) number stated s out
    ≡ after o number s (block_output number (drop (block_bytes * number) s) out o) (λ n left. read_on (3 - (number + 1)) (number + 1) n s left)
step_of s out number stated h o e = step_is s out number stated h ∙ rw e

module _ {s before out left : List ℕ} {number stated : ℕ} {r : Stored} (a : Onward s before number stated out) (more : number < 3)
    (b : Reads number stated (drop (block_bytes * number) s) out left r) where
  pub onward_refused : {x : Refused} → r ≡ Err x → ReadsFile s before left (Err x)
  onward_refused {x} e =
      let o : block_outcome number stated (drop (block_bytes * number) s) (length out) ≡ said (Err x) = sym b.answer ∙ ap said e in
      let l : left ≡ block_output number (drop (block_bytes * number) s) out (said (Err x)) = b.left ∙ rw o in
      record { is = rw l (sym (step_of s out number stated more (said (Err x)) o) ∙ a.rest) }

  module _ {n : ℕ} (e : r ≡ Ok n) where
    outcome_is : block_outcome number stated (drop (block_bytes * number) s) (length out) ≡ nodes n
    outcome_is = sym b.answer ∙ ap said e

    pub onward_long : block_bytes * (number + 1) ≤ length s
    onward_long = omega (arith, simp length-drop at (is_taken (drop (block_bytes * number) s) number stated (length out) n outcome_is).long, a.room)

    stepped : read_file s before
        ≡ cond (ltb (block_nodes * (number + 1)) n) (read_on (3 - (number + 1)) (number + 1) n s left) (reading (end_of (length s) (number + 1) n) left)
    stepped =
        let l : left ≡ block_output number (drop (block_bytes * number) s) out (nodes n) = b.left ∙ rw outcome_is in
        sym a.rest ∙ step_of s out number stated more (nodes n) outcome_is ∙ rw (l, add-one number)

    pub onward_next : length left ≡ length out → block_nodes * (number + 1) < n → Onward s before (number + 1) n left
    onward_next same h =
        record {
          within = omega arith;
          room = onward_long;
          same = same ∙ a.same;
          rest = sym (stepped ∙ simp (lt-ltb (block_nodes * (number + 1)) n h));
        }

    pub onward_ends : {r' : Stored} → n ≤ block_nodes * (number + 1) → said r' ≡ end_of (length s) (number + 1) n → ReadsFile s before left r'
    onward_ends {r'} h f = record { is = rw f (sym (stepped ∙ simp (le-ltb (block_nodes * (number + 1)) n h))) }

-- No file goes on after three blocks.
pub onward_over : {s before out : List ℕ} {number stated : ℕ} → Onward s before number stated out → 3 ≤ number → ReadsFile s before out (Err (record { reason = ShortBlock; place = 3 }))
unfolding read_on
onward_over {s} {before} {out} {number} a h =
    let e : number ≡ 3 = omega (arith, a.within) in
    record { is = rw e at a.rest }

-- ---- an answer has few nodes

row_nodes : (k : ℕ) (t : Bool) (p m n : ℕ) → row k t p (nodes m) ≡ nodes n → m ≡ n
unfolding row
row_nodes k true p m n e = let z : ◌≡◌ {A = ℕ} 0 1 = cc in absurd (omega arith)
row_nodes k false p m n e = cc

end_nodes : (len number m n : ℕ) → end_of len number m ≡ nodes n → m ≡ n
unfolding end_of
end_nodes len number m n e = row_nodes 21 _ number m n e

few_after : (o : Outcome) (number : ℕ) (s out : List ℕ) (next : ℕ → List ℕ → Reading) {n : ℕ} {left : List ℕ}
    → ((m : ℕ) → o ≡ nodes m → m ≤ max_stored)
    → ((m : ℕ) (l : List ℕ) → next m l ≡ reading (nodes n) left → n ≤ max_stored)
    → after o number s out next ≡ reading (nodes n) left → n ≤ max_stored
few_after (refused k p) number s out next h f e = let z : ◌≡◌ {A = ℕ} 0 1 = cc in absurd (omega arith)
few_after (nodes m) number s out next {n} {left} h f e =
    by_le n max_stored (λ l. l) (λ l.
    by_le m (block_nodes * suc number)
    (λ q.
    let e' : reading (end_of (length s) (suc number) m) out ≡ reading (nodes n) left = sym (simp (le-ltb (block_nodes * suc number) m q)) ∙ e in
    let g : end_of (length s) (suc number) m ≡ nodes n = cc in
    omega (arith, h m refl, end_nodes (length s) (suc number) m n g))
    (λ q. f m out (sym (simp (lt-ltb (block_nodes * suc number) m q)) ∙ e)))

pub read_few : (c number stated : ℕ) (s out : List ℕ) {n : ℕ} {left : List ℕ} → read_on c number stated s out ≡ reading (nodes n) left → n ≤ max_stored
unfolding read_on
read_few zero number stated s out e = let z : ◌≡◌ {A = ℕ} 0 1 = cc in absurd (omega arith)
read_few (suc c) number stated s out e =
    few_after (block_outcome number stated (drop (block_bytes * number) s) (length out)) number s _ _
    (λ m h. let t = is_taken (drop (block_bytes * number) s) number stated (length out) m h in omega (arith, t.few, t.count))
    (λ m l h. read_few c (suc number) m s l h)
    e
