-- A section with what its two detectors mean, and what an event does to both. Assumes nothing.
use Rattle.answer.specs.Answers.{Needs}
use Rattle.std.specs.Prelude.{Some, None, Option}
use Rattle.detector.specs.Meaning.{Meaning, acted, fresh, reading_of}
use Rattle.detector.specs.declared.Action.{Action}
use Rattle.events.specs.declared.event.Event.{Event}
use Rattle.events.specs.declared.field.Direction.{Direction}
use Rattle.events.specs.declared.field.Direction.TheVariants.{Up, Down}
use Rattle.section.specs.Sections.{Face, Readings, actions_of, face_of, fresh_section, needs, section_after, section_settled}
use Rattle.section.specs.declared.section.Section.{Section}

pub record SectionState : Type 0 where
  pub section : Section
  pub up : Meaning
  pub down : Meaning

abbrev pub detector_on : Direction → SectionState → Meaning
detector_on Up v = v.up
detector_on Down v = v.down

abbrev pub readings_of : Meaning → Meaning → Readings
readings_of u d = record { up = reading_of u; down = reading_of d }

abbrev pub state_readings : SectionState → Readings
state_readings v = readings_of v.up v.down

abbrev pub fresh_state : SectionState
fresh_state = record { section = fresh_section; up = fresh; down = fresh }

abbrev pub state_needs : SectionState → Event → Needs
state_needs v e = needs v.section (state_readings v) e

-- a detector that is told something, or nothing
abbrev pub told : Option Action → Meaning → Meaning
told None m = m
told (Some a) m = acted a m

-- an event that is not refused: the lines change, the detectors are told, and the signals follow what they then read
abbrev pub state_after : SectionState → Event → SectionState
state_after v e =
    let up = told (actions_of v.section e).up v.up in
    let down = told (actions_of v.section e).down v.down in
    record { section = section_settled (readings_of up down) (section_after v.section e); up = up; down = down }

abbrev pub state_face : SectionState → Face
state_face v = face_of v.section (state_readings v)
