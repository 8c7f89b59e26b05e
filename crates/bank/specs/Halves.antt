-- Two halves of one bank that alternate, and what acting on one detector and reading one come to in
-- them. This page assumes nothing.
use Rattle.std.specs.Prelude.{ℕ, ◌/◌, ◌%◌, Bool, if◌then◌else◌, List, [], ◌∷◌, Option, ◌==◌}
use Rattle.bank.specs.Places.{acted_at, read_at}
use Rattle.detector.specs.Meaning.{Meaning}
use Rattle.detector.specs.declared.Action.{Action}
use Rattle.detector.specs.declared.Reading.{Reading}

-- the first half stands at the even numbers, the second at the odd ones
abbrev pub interleaved : {A : Type 0} → List A → List A → List A
interleaved [] ys = ys
interleaved (x ∷ xs) [] = x ∷ xs
interleaved (x ∷ xs) (y ∷ ys) = x ∷ y ∷ interleaved xs ys

-- a number that is the first half's
abbrev pub in_first : ℕ → Bool
in_first at = at % 2 == 0

-- what acting at a number of the bank makes of its first half, and of its second
abbrev pub first_acted : ℕ → Action → List Meaning → List Meaning
first_acted at action ms = if in_first at then acted_at (at / 2) action ms else ms

abbrev pub second_acted : ℕ → Action → List Meaning → List Meaning
second_acted at action ms = if in_first at then ms else acted_at (at / 2) action ms

-- what reading at a number of the bank gives from one half or the other
abbrev pub read_either : ℕ → List Meaning → List Meaning → Option Reading
read_either at firsts seconds = if in_first at then read_at (at / 2) firsts else read_at (at / 2) seconds
