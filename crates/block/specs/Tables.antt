-- A table of sections over a row of detectors. Assumes nothing.
use Rattle.std.specs.Prelude.{◌≡◌, ◌≤◌, true, All, List, [], ◌∷◌, length, drop, slice_index_or}
use Rattle.bank.specs.Places.{no_detector}
use Rattle.detector.specs.Meaning.{Meaning}
use Rattle.line.specs.Records.{consistent}
use Rattle.runs.specs.Benches.{BenchState}
use Rattle.section.specs.States.{SectionState}
use Rattle.section.specs.declared.section.Section.{Section}

-- each section with its two detectors, which stand one after the other in the row
abbrev pub states : List Section → List Meaning → BenchState
states [] ms = []
states (s ∷ ss) ms = record { section = s; up = slice_index_or ms 0 no_detector; down = slice_index_or ms 1 no_detector } ∷ states ss (drop 2 ms)

-- both rows of a section keep what a line record keeps
abbrev pub Consistent : Section → Type 0
Consistent s = (consistent s.lines.up ≡ true) × (consistent s.lines.down ≡ true)

-- what every bench keeps: at most eight sections, and in each of them rows that keep what a line record keeps
pub record IsSound (b : BenchState) : Type 0 where
  pub few : length b ≤ 8
  pub consistent : All (λ v. Consistent v.section) b

-- the record of a section is put, and its detectors stay
abbrev pub with_section : Section → SectionState → SectionState
with_section s v = record { section = s; up = v.up; down = v.down }

-- the detectors of a section change, and its record stays
abbrev pub with_detectors : Meaning → Meaning → SectionState → SectionState
with_detectors u d v = record { section = v.section; up = u; down = d }
