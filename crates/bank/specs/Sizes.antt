-- How many detectors a bank has.
use Rattle.std.specs.Prelude.{◌≡◌, ℕ, ◌*◌, List, length, refl}
use Rattle.std.proofs.Common.{arith}
use Rattle.bank.specs.HalvesLemmas.{length_interleaved}
use Rattle.bank.specs.Banks.{paired, sixteen}
use Rattle.bank.specs.declared.Pair.{Pair}
use Rattle.bank.specs.declared.Single.{Single}
use Rattle.detector.specs.Meaning.{Meaning}

pub length_paired : {B : Type 0} (meanings : B → List Meaning) (n : ℕ) → ((b : B) → length (meanings b) ≡ n) → (p : Pair B) → length (paired meanings p) ≡ 2 * n
length_paired meanings n sized p =
    omega (arith, length_interleaved (meanings p.first) (meanings p.second), sized p.first, sized p.second)

pub length_sixteen : {D : Type 0} (meaning : D → Meaning) (b : Pair (Pair (Pair (Pair (Single D))))) → length (sixteen meaning b) ≡ 16
length_sixteen meaning b = refl
