-- What a detector means, what each call makes of that, and what it reads. This page assumes nothing.
use Rattle.std.specs.Prelude.{Bool, true, false, if◌then◌else◌, ℕ, ◌+◌, ◌-◌, nat_le, ◌==◌}
use Rattle.detector.specs.declared.Action.{Action}
use Rattle.detector.specs.declared.Action.TheVariants.{CountIn, CountOut, Fail, Reset, Roll}
use Rattle.detector.specs.declared.Reading.{Reading}
use Rattle.detector.specs.declared.Reading.TheVariants.{Clear, Occupied, Failed}

-- the axles on the line, and whether the detector has failed
pub record Meaning : Type 0 where
  pub axles : ℕ
  pub failed : Bool

-- the most axles that are counted
abbrev pub limit : ℕ
limit = 1000

-- a detector that counts so many axles, failed or not
abbrev pub counting : ℕ → Bool → Meaning
counting n f = record { axles = n; failed = f }

-- a meaning with another count; what else it holds stays
abbrev pub recounted : ℕ → Bool → Meaning → Meaning
recounted n f m = record { axles = n; failed = f }

abbrev pub fresh : Meaning
fresh = counting 0 false

-- k axles more; a count past the limit stays at the limit and has failed
abbrev pub counted_in : ℕ → Meaning → Meaning
counted_in k m =
    let within = nat_le (m.axles + k) limit in
    recounted (if within then m.axles + k else limit) (if within then m.failed else true) m

-- k axles fewer; a count below none stays at none and has failed
abbrev pub counted_out : ℕ → Meaning → Meaning
counted_out k m =
    let there = nat_le k m.axles in
    recounted (if there then m.axles - k else 0) (if there then m.failed else true) m

-- it has failed, and goes on counting
abbrev pub failing : Meaning → Meaning
failing m = recounted m.axles true m

-- nothing is counted any more, and it has not failed
abbrev pub restored : Meaning → Meaning
restored m = recounted 0 false m

-- axles that roll from one track to the next stay in the section
abbrev pub rolled : ℕ → Meaning → Meaning
rolled track m = m

-- what a detector is told does to its meaning
abbrev pub acted : Action → Meaning → Meaning
acted (CountIn k) m = counted_in k m
acted (CountOut k) m = counted_out k m
acted Fail m = failing m
acted Reset m = restored m
acted (Roll track) m = rolled track m

abbrev pub reading_of : Meaning → Reading
reading_of m = if m.failed then Failed else if m.axles == 0 then Clear else Occupied

-- the readings in the order of their declaration
abbrev pub reading_number : Reading → ℕ
reading_number Clear = 0
reading_number Occupied = 1
reading_number Failed = 2

abbrev pub reading_is : Reading → Reading → Bool
reading_is x y = reading_number y == reading_number x

-- clear is the only reading that passes
abbrev pub reads_clear : Meaning → Bool
reads_clear m = reading_number (reading_of m) == reading_number Clear
