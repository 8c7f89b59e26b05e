-- Two halves of one length, told as the one list in which they alternate.
use Rattle.std.specs.Prelude.{◌≡◌, ℕ, zero, suc, ◌+◌, ◌*◌, ◌/◌, ◌%◌, List, [], ◌∷◌, length, replicate, refl}
use Rattle.std.proofs.Common.{ap, arith}
use Rattle.bank.specs.Halves.{interleaved, first_acted, second_acted, read_either}
use Rattle.bank.specs.Places.{acted_at, read_at}
use Rattle.detector.specs.Meaning.{Meaning}
use Rattle.detector.specs.declared.Action.{Action}
use Rattle.std.proofs.lemmas.Bool.Decides.{nat_tests}

pub length_interleaved : {A : Type 0} (xs ys : List A) → length (interleaved xs ys) ≡ length xs + length ys
length_interleaved [] ys = omega arith
length_interleaved (x ∷ xs) [] = omega arith
length_interleaved (x ∷ xs) (y ∷ ys) = omega (arith, length_interleaved xs ys)

pub interleaved_replicate : {A : Type 0} (n : ℕ) (a : A) → interleaved (replicate n a) (replicate n a) ≡ replicate (2 * n) a
interleaved_replicate zero a = refl
interleaved_replicate (suc n) a =
    let next : 2 * suc n ≡ suc (suc (2 * n)) = omega arith in
    rw next (ap (λ l. a ∷ a ∷ l) (interleaved_replicate n a))

half_next : (n : ℕ) → suc (suc n) / 2 ≡ suc (n / 2)
half_next n = omega arith

parity_next : (n : ℕ) → suc (suc n) % 2 ≡ n % 2
parity_next n = omega arith

pub acted_at_interleaved : (at : ℕ) (action : Action) (xs ys : List Meaning) → length xs ≡ length ys → acted_at at action (interleaved xs ys) ≡ interleaved (first_acted at action xs) (second_acted at action ys)
acted_at_interleaved at action [] [] e = grind (arith, nat_tests)
acted_at_interleaved at action [] (y ∷ ys) e = absurd (omega arith)
acted_at_interleaved at action (x ∷ xs) [] e = absurd (omega arith)
acted_at_interleaved zero action (x ∷ xs) (y ∷ ys) e = refl
acted_at_interleaved (suc zero) action (x ∷ xs) (y ∷ ys) e = refl
acted_at_interleaved (suc (suc at)) action (x ∷ xs) (y ∷ ys) e =
    grind (arith, nat_tests, acted_at_interleaved at action xs ys)

pub read_at_interleaved : (at : ℕ) (xs ys : List Meaning) → length xs ≡ length ys → read_at at (interleaved xs ys) ≡ read_either at xs ys
read_at_interleaved at [] [] e = grind (arith, nat_tests)
read_at_interleaved at [] (y ∷ ys) e = absurd (omega arith)
read_at_interleaved at (x ∷ xs) [] e = absurd (omega arith)
read_at_interleaved zero (x ∷ xs) (y ∷ ys) e = grind (arith, nat_tests)
read_at_interleaved (suc zero) (x ∷ xs) (y ∷ ys) e = grind (arith, nat_tests)
read_at_interleaved (suc (suc at)) (x ∷ xs) (y ∷ ys) e =
    let rest = read_at_interleaved at xs ys (omega arith) in
    grind (arith, nat_tests, half_next at, parity_next at)
