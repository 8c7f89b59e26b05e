-- What the detectors of a bank mean, in the order of their numbers.
use Rattle.std.specs.Prelude.{List, [], ◌∷◌}
use Rattle.bank.specs.Halves.{interleaved}
use Rattle.bank.specs.declared.Pair.{Pair}
use Rattle.bank.specs.declared.Single.{Single}
use Rattle.detector.specs.Meaning.{Meaning}

abbrev pub single : {D : Type 0} → (D → Meaning) → Single D → List Meaning
single meaning s = meaning s.detector ∷ []

abbrev pub paired : {B : Type 0} → (B → List Meaning) → Pair B → List Meaning
paired meanings p = interleaved (meanings p.first) (meanings p.second)

abbrev pub sixteen : {D : Type 0} → (D → Meaning) → Pair (Pair (Pair (Pair (Single D)))) → List Meaning
sixteen meaning = paired (paired (paired (paired (single meaning))))
