-- The rules of the bench: any event, at any section number, over what the detectors mean. Assumes nothing.
use Rattle.std.specs.Prelude.{ℕ, if◌then◌else◌, List, ◌∷◌, length, replicate, Some, None, Option, nat_lt, slice_index_or, slice_set}
use Rattle.answer.specs.Answers.{Answer, Needs, Verdict, checked, given_that, unless_refused}
use Rattle.answer.specs.declared.Outcome.{Outcome}
use Rattle.answer.specs.declared.Refusal.TheVariants.{NoSection, OutsideValues}
use Rattle.events.specs.Written.{within_values}
use Rattle.events.specs.declared.event.SectionEvent.{SectionEvent}
use Rattle.section.specs.Sections.{Face, outcome}
use Rattle.section.specs.States.{SectionState, fresh_state, state_after, state_face, state_needs}

abbrev pub BenchState : Type 0
BenchState = List SectionState

-- what stands past the last section; no answer and no face shows it
abbrev pub no_section : SectionState
no_section = fresh_state

abbrev pub section_at : ℕ → BenchState → SectionState
section_at i b = slice_index_or b i no_section

abbrev pub fresh_bench : ℕ → BenchState
fresh_bench count = replicate count fresh_state

-- axles and track are looked at first, then the section, then what the section needs
abbrev pub bench_needs : BenchState → SectionEvent → Needs
bench_needs b e =
    (within_values e.event, OutsideValues)
    ∷ (nat_lt e.section (length b), NoSection)
    ∷ state_needs (section_at e.section b) e.event

abbrev pub verdict_at : BenchState → SectionEvent → Verdict
verdict_at b e = checked (bench_needs b e)

-- how an event is answered where nothing is refused
abbrev pub outcome_at : BenchState → SectionEvent → Outcome
outcome_at b e = outcome (section_at e.section b).section e.event

abbrev pub answer_at : BenchState → SectionEvent → Answer
answer_at b e = given_that (verdict_at b e) (outcome_at b e)

-- a refused event leaves the bench as it was
abbrev pub bench_after : BenchState → SectionEvent → BenchState
bench_after b e = unless_refused (verdict_at b e) (slice_set b e.section (state_after (section_at e.section b) e.event)) b

-- what is shown of a section, where the bench has it
abbrev pub face_at : ℕ → BenchState → Option Face
face_at i b = if nat_lt i (length b) then Some (state_face (section_at i b)) else None
