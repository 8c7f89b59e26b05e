-- The rules of a section, by what the detectors of its two lines read: what an event needs, what it is answered, and what
-- it makes of the bell and of each line. Assumes nothing.
use Rattle.std.specs.Prelude.{if◌then◌else◌, [], ◌∷◌, None, Option, Result}
use Rattle.answer.specs.Answers.{Needs, checked, given_that}
use Rattle.answer.specs.declared.Outcome.{Outcome}
use Rattle.answer.specs.declared.Outcome.TheVariants.{Accepted}
use Rattle.answer.specs.declared.Refusal.{Refusal}
use Rattle.answer.specs.declared.Refusal.TheVariants.{BellNotReady}
use Rattle.bell.specs.Bells.{bell_after, bell_ready}
use Rattle.bell.specs.declared.Bell.{Bell}
use Rattle.bell.specs.declared.Bell.TheVariants.{Idle, Called, Attentive, Pending}
use Rattle.detector.specs.declared.Action.{Action}
use Rattle.detector.specs.declared.Reading.{Reading}
use Rattle.events.specs.Tests.{direction_is}
use Rattle.events.specs.declared.event.Event.{Event}
use Rattle.events.specs.declared.event.Event.TheVariants as event
use Rattle.events.specs.declared.field.Consent.{Consent}
use Rattle.events.specs.declared.field.Direction.{Direction}
use Rattle.events.specs.declared.field.Turn.{Turn}
use Rattle.line.specs.Changes.{Change, action_of, detector_failed, home_moved, reset_called, resume_called, rolled, row_after, settled, suspended, trolley_ended, trolley_started, unchanged}
use Rattle.line.specs.Codes.{acknowledge_needs, acknowledging_makes, role_of, send_needs, sending_makes}
use Rattle.line.specs.Lines.{entering_answer, entering_makes, home_control_needs, leaving_answer, leaving_makes, reset_needs, resume_needs, stop_control_makes, stop_control_needs, trolley_end_needs, trolley_start_needs}
use Rattle.line.specs.Records.{fresh_row, used_train}
use Rattle.line.specs.declared.row.Row.{Row}
use Rattle.section.specs.PerLines.{each, on, with_on}
use Rattle.section.specs.declared.face.LineFace.{LineFace}
use Rattle.section.specs.declared.per_line.PerLine.{PerLine}
use Rattle.section.specs.declared.section.Section.{Section}
use Rattle.section.specs.declared.section.Worked.{Worked}

abbrev pub Readings : Type 0
Readings = PerLine Reading

abbrev pub Actions : Type 0
Actions = PerLine (Option Action)

abbrev pub Face : Type 0
Face = PerLine LineFace

abbrev pub fresh_section : Section
fresh_section = record { bell = Idle; lines = each (λ l. fresh_row) }

abbrev pub row_of : Direction → Section → Row
row_of l s = on l s.lines

-- What an event needs.

-- an acknowledgement is of the code that is pending, about its line
abbrev pub pending_needs : Bell → Consent → Turn → Readings → Section → Needs
pending_needs Idle y t x s = []
pending_needs (Called caller) y t x s = []
pending_needs (Attentive caller) y t x s = []
pending_needs (Pending caller l c) y t x s = acknowledge_needs c (role_of l caller) y t (on l x) (row_of l s)

abbrev pub line_needs : Section → Readings → Event → Needs
line_needs s x (event.Call a) = []
line_needs s x (event.Answer a) = []
line_needs s x (event.Send l a c t) = send_needs c (role_of l a) t (on l x) (row_of l s)
line_needs s x (event.Acknowledge a y t) = pending_needs s.bell y t x s
line_needs s x (event.Error a) = []
line_needs s x (event.StopControl l p) = stop_control_needs p (on l x) (row_of l s)
line_needs s x (event.HomeControl l p) = home_control_needs p (row_of l s)
line_needs s x (event.Enters l k) = []
line_needs s x (event.Leave l k) = []
line_needs s x (event.TrolleyStarts l) = trolley_start_needs (row_of l s)
line_needs s x (event.TrolleyEnds l e) = trolley_end_needs (row_of l s)
line_needs s x (event.Fails l) = []
line_needs s x (event.Reset l a) = reset_needs a (on l x) (row_of l s)
line_needs s x (event.Resume l a) = resume_needs a (on l x) (row_of l s)
line_needs s x (event.Roll l t) = []

-- the bell is asked first
abbrev pub needs : Section → Readings → Event → Needs
needs s x e = (bell_ready s.bell e, BellNotReady) ∷ line_needs s x e

-- What is answered where nothing is refused.

abbrev pub outcome : Section → Event → Outcome
outcome s (event.Call a) = Accepted
outcome s (event.Answer a) = Accepted
outcome s (event.Send l a c t) = Accepted
outcome s (event.Acknowledge a y t) = Accepted
outcome s (event.Error a) = Accepted
outcome s (event.StopControl l p) = Accepted
outcome s (event.HomeControl l p) = Accepted
outcome s (event.Enters l k) = entering_answer (row_of l s)
outcome s (event.Leave l k) = leaving_answer (row_of l s)
outcome s (event.TrolleyStarts l) = Accepted
outcome s (event.TrolleyEnds l e) = Accepted
outcome s (event.Fails l) = Accepted
outcome s (event.Reset l a) = Accepted
outcome s (event.Resume l a) = Accepted
outcome s (event.Roll l t) = Accepted

-- What an event that is not refused makes of the line l.

-- on the line l: one change where l is m, and another where it is not
abbrev pub on_or_beside : Direction → Direction → Change → Change → Change
on_or_beside l m here beside = if direction_is l m then here else beside

abbrev pub on_line : Direction → Direction → Change → Change
on_line l m here = on_or_beside l m here unchanged

abbrev pub pending_makes : Bell → Consent → Direction → Change
pending_makes Idle y l = unchanged
pending_makes (Called caller) y l = unchanged
pending_makes (Attentive caller) y l = unchanged
pending_makes (Pending caller m c) y l = on_line l m (acknowledging_makes c (role_of m caller) y)

-- axles that leave unexpectedly suspend the other line too
abbrev pub beside_leaving : Row → Change
beside_leaving r = if used_train r.permission then unchanged else suspended

abbrev pub change_on : Direction → Section → Event → Change
change_on l s (event.Call a) = unchanged
change_on l s (event.Answer a) = unchanged
change_on l s (event.Send m a c t) = on_line l m (sending_makes c (role_of m a))
change_on l s (event.Acknowledge a y t) = pending_makes s.bell y l
change_on l s (event.Error a) = unchanged
change_on l s (event.StopControl m p) = on_line l m (stop_control_makes p)
change_on l s (event.HomeControl m p) = on_line l m (home_moved p)
change_on l s (event.Enters m k) = on_line l m (entering_makes k (row_of m s))
change_on l s (event.Leave m k) = on_or_beside l m (leaving_makes k (row_of m s)) (beside_leaving (row_of m s))
change_on l s (event.TrolleyStarts m) = on_line l m trolley_started
change_on l s (event.TrolleyEnds m e) = on_line l m (trolley_ended e)
change_on l s (event.Fails m) = on_line l m detector_failed
change_on l s (event.Reset m a) = on_line l m (reset_called a)
change_on l s (event.Resume m a) = on_line l m (resume_called a)
change_on l s (event.Roll m t) = on_line l m (rolled t)

abbrev pub with_bell : Bell → Section → Section
with_bell b s = record { bell = b; lines = s.lines }

-- both lines after the event
abbrev pub lines_after : Section → Event → Section
lines_after s e = record { bell = s.bell; lines = each (λ l. row_after (change_on l s e) (row_of l s)) }

abbrev pub section_after : Section → Event → Section
section_after s e = with_bell (bell_after s.bell e) (lines_after s e)

-- what the detectors are told
abbrev pub actions_of : Section → Event → Actions
actions_of s e = each (λ l. action_of (change_on l s e) (row_of l s))

-- accepted, and no detector is told anything
abbrev pub quietly_accepted : Worked
quietly_accepted = record { outcome = Accepted; actions = each (λ l. None) }

-- an answer, and what the detector of one line is told
abbrev pub telling : Outcome → Direction → Option Action → Worked
telling y l o = record { outcome = y; actions = with_on l (each (λ m. None)) o }

-- the answer where nothing is refused, with what the detectors are told
abbrev pub done_by : Section → Event → Worked
done_by s e = record { outcome = outcome s e; actions = actions_of s e }

-- what an event is answered, and what the detectors are told by it, or its refusal
abbrev pub worked_by : Section → Readings → Event → Result Worked Refusal
worked_by s x e = given_that (checked (needs s x e)) (done_by s e)

-- the signals follow what the detectors read after that
abbrev pub section_settled : Readings → Section → Section
section_settled x s = record { bell = s.bell; lines = each (λ l. settled (on l x) (row_of l s)) }

-- What the register shows.

abbrev pub line_face_of : Row → Reading → LineFace
line_face_of r x = record { needle = r.permission.needle; stop = r.signals.stop; home = r.signals.home; reading = x }

abbrev pub face_of : Section → Readings → Face
face_of s x = each (λ l. line_face_of (row_of l s) (on l x))
