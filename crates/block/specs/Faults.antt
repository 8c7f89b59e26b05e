-- Why a bench is not made. Assumes nothing.
use Rattle.std.specs.Prelude.{ℕ}
use Rattle.format.specs.Sheets.{SectionCount}
use Rattle.format.specs.declared.fault.RunFault.{RunFault}
use Rattle.format.specs.declared.fault.RunFault.TheVariants.{Memory, Read, Sections}

-- a count that is not 1 to 8 is told as that, and only such a count
abbrev pub Miscounted : ℕ → RunFault → Type 0
Miscounted count (Read f) = ⊥
Miscounted count Sections = SectionCount count → ⊥
Miscounted count Memory = SectionCount count
