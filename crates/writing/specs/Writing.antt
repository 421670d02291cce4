-- What writing into a lent slice leaves.
use Rattle.std.specs.Prelude.{ℕ, ◌+◌, max, min, ◌≡◌, List, [], ◌∷◌, length}
use Prim.Native.Char.{code}
use Prim.Native.String.{String, [] as no_more, ◌∷◌ as ◌then◌}
use Rattle.std.proofs.lemmas.List.Edits.{sets}

-- A text as the bytes of its characters.
abbrev pub bytes : String → List ℕ
bytes no_more = []
bytes (c then s) = code c ∷ bytes s

-- The place after t, in a slice of n: past the end it stays.
unfoldable pub past : {A : Type 0} → ℕ → ℕ → List A → ℕ
past n at t = max at (min (at + length t) n)

-- The elements of t were stored one by one from a place on (`sets`: a store past the end does nothing). Where they all
-- fit, this is `take at before ++ t ++ drop (at + length t) before` (`wrote_fits` of proofs/Laws.antt).
pub record Wrote {A : Type 0} (t before : List A) (at : ℕ) (after : List A) (place : ℕ) : Type 0 where
  pub left : after ≡ sets before at t
  pub ends : place ≡ past (length before) at t
