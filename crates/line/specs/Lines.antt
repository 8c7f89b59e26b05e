-- What the controls, trains, trolleys and calls need of a line, and what they do. Assumes nothing.
use Rattle.std.specs.Prelude.{ℕ, Bool, false, if◌then◌else◌, not, ◌&&◌, [], ◌∷◌, Some, None, Option}
use Rattle.answer.specs.Answers.{Needs}
use Rattle.answer.specs.declared.Outcome.{Outcome}
use Rattle.answer.specs.declared.Outcome.TheVariants.{Accepted, PassedAtOn, LeftUnexpected}
use Rattle.answer.specs.declared.Refusal.TheVariants as refusal
use Rattle.detector.specs.Meaning.{reading_is}
use Rattle.detector.specs.declared.Reading.{Reading}
use Rattle.detector.specs.declared.Reading.TheVariants as reading
use Rattle.events.specs.Tests.{is_reversed, station_is}
use Rattle.events.specs.declared.field.Position.{Position}
use Rattle.events.specs.declared.field.Position.TheVariants.{Normal, Reversed}
use Rattle.events.specs.declared.field.Station.{Station}
use Rattle.line.specs.Changes.{Change, left, left_unexpected, passed, passed_at_on, stop_put_back, stop_reversed}
use Rattle.line.specs.Records.{both_normal, clear_for_train, is_coming, is_off, running_trolley, unused_trolley, used_train}
use Rattle.line.specs.declared.row.Row.{Row}

-- Controls: to normal always.

abbrev pub stop_control_needs : Position → Reading → Row → Needs
stop_control_needs Normal seen r = []
stop_control_needs Reversed seen r =
    (not r.signals.suspended, refusal.LineSuspended)
    ∷ (clear_for_train r.permission, refusal.RecordNotAsNeeded)
    ∷ (not (is_reversed r.signals.stop_control), refusal.SignalOrControl)
    ∷ (reading_is reading.Clear seen, refusal.DetectorNotClear)
    ∷ []

abbrev pub stop_control_makes : Position → Change
stop_control_makes Normal = stop_put_back
stop_control_makes Reversed = stop_reversed

abbrev pub home_control_needs : Position → Row → Needs
home_control_needs Normal r = []
home_control_needs Reversed r =
    (not r.signals.suspended, refusal.LineSuspended)
    ∷ (is_coming r.permission, refusal.RecordNotAsNeeded)
    ∷ (not (is_reversed r.signals.home_control), refusal.SignalOrControl)
    ∷ []

-- Trains.

-- a train that enters uses the line clear where the stop signal is off, and else has passed it at on
abbrev pub entering_answer : Row → Outcome
entering_answer r = if is_off r.signals.stop then Accepted else PassedAtOn

abbrev pub entering_makes : ℕ → Row → Change
entering_makes k r = if is_off r.signals.stop then passed k else passed_at_on k

-- axles are expected to leave only where a train has used the line clear
abbrev pub leaving_answer : Row → Outcome
leaving_answer r = if used_train r.permission then Accepted else LeftUnexpected

abbrev pub leaving_makes : ℕ → Row → Change
leaving_makes k r = if used_train r.permission then left k else left_unexpected k

-- Trolleys.

abbrev pub trolley_start_needs : Row → Needs
trolley_start_needs r =
    (not r.signals.suspended, refusal.LineSuspended)
    ∷ (unused_trolley r.permission, refusal.RecordNotAsNeeded)
    ∷ []

abbrev pub trolley_end_needs : Row → Needs
trolley_end_needs r = (running_trolley r.permission, refusal.RecordNotAsNeeded) ∷ []

-- Calls of the two stations.

-- the station has called already
abbrev pub called_by : Station → Option Station → Bool
called_by a None = false
called_by a (Some b) = station_is a b

abbrev pub reset_needs : Station → Reading → Row → Needs
reset_needs a seen r =
    (reading_is reading.Failed seen && not (called_by a r.calls.reset), refusal.CallNotNeeded) ∷ []

abbrev pub resume_needs : Station → Reading → Row → Needs
resume_needs a seen r =
    (r.signals.suspended && not (called_by a r.calls.resume), refusal.CallNotNeeded)
    ∷ (both_normal r.signals, refusal.SignalOrControl)
    ∷ (reading_is reading.Clear seen, refusal.DetectorNotClear)
    ∷ []
