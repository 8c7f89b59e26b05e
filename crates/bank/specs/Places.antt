-- What acting on one detector of a bank, told by its number, makes of all, and what reading one gives.
-- This page assumes nothing.
use Rattle.std.specs.Prelude.{ℕ, false, if◌then◌else◌, List, length, Some, None, Option, nat_lt, slice_index_or, slice_set}
use Rattle.detector.specs.Meaning.{Meaning, counting, acted, reading_of}
use Rattle.detector.specs.declared.Action.{Action}
use Rattle.detector.specs.declared.Reading.{Reading}

-- what stands past the end of a bank; no call shows it
abbrev pub no_detector : Meaning
no_detector = counting 0 false

-- past the end nothing changes
abbrev pub acted_at : ℕ → Action → List Meaning → List Meaning
acted_at at action ms = slice_set ms at (acted action (slice_index_or ms at no_detector))

-- past the end there is no reading
abbrev pub read_at : ℕ → List Meaning → Option Reading
read_at at ms = if nat_lt at (length ms) then Some (reading_of (slice_index_or ms at no_detector)) else None
