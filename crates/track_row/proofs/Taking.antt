-- What is left of the axles on a row when some are taken off.
use Rattle.std.proofs.Common.{◌≡◌, ℕ, ◌-◌, List, [], ◌∷◌, sum, arith}
use Rattle.std.proofs.lemmas.Grind.{common_steps}
use Rattle.track_row.specs.Tracks.{taken}

pub sum_taken : (k : ℕ) (xs : List ℕ) → sum (taken k xs) ≡ sum xs - k
sum_taken k [] = omega arith
sum_taken k (x ∷ xs) = grind (arith, common_steps, sum_taken k xs)
