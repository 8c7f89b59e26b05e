-- When the bell is ready for an event, and what it becomes. Assumes nothing.
use Rattle.std.specs.Prelude.{Bool, true, false, not, [], ◌∷◌}
use Rattle.answer.specs.Answers.{Needs}
use Rattle.answer.specs.declared.Refusal.TheVariants.{BellNotReady}
use Rattle.events.specs.declared.event.Event.{Event}
use Rattle.events.specs.declared.event.Event.TheVariants as event
use Rattle.events.specs.declared.field.Station.{Station}
use Rattle.events.specs.Tests.{station_is}
use Rattle.bell.specs.declared.Bell.{Bell}
use Rattle.bell.specs.declared.Bell.TheVariants.{Idle, Called, Attentive, Pending}

abbrev pub is_idle : Bell → Bool
is_idle Idle = true
is_idle (Called caller) = false
is_idle (Attentive caller) = false
is_idle (Pending caller line code) = false

-- the other station has called
abbrev pub called_from_other : Station → Bell → Bool
called_from_other a Idle = false
called_from_other a (Called caller) = not (station_is a caller)
called_from_other a (Attentive caller) = false
called_from_other a (Pending caller line code) = false

-- this station has called, and the other has answered
abbrev pub attentive_to : Station → Bell → Bool
attentive_to a Idle = false
attentive_to a (Called caller) = false
attentive_to a (Attentive caller) = station_is a caller
attentive_to a (Pending caller line code) = false

-- the other station has sent a code
abbrev pub pending_from_other : Station → Bell → Bool
pending_from_other a Idle = false
pending_from_other a (Called caller) = false
pending_from_other a (Attentive caller) = false
pending_from_other a (Pending caller line code) = not (station_is a caller)

abbrev pub bell_ready : Bell → Event → Bool
bell_ready b (event.Call a) = is_idle b
bell_ready b (event.Answer a) = called_from_other a b
bell_ready b (event.Send l a c t) = attentive_to a b
bell_ready b (event.Acknowledge a y t) = pending_from_other a b
bell_ready b (event.Error a) = not (is_idle b)
bell_ready b (event.StopControl l p) = true
bell_ready b (event.HomeControl l p) = true
bell_ready b (event.Enters l k) = true
bell_ready b (event.Leave l k) = true
bell_ready b (event.TrolleyStarts l) = true
bell_ready b (event.TrolleyEnds l e) = true
bell_ready b (event.Fails l) = true
bell_ready b (event.Reset l a) = true
bell_ready b (event.Resume l a) = true
bell_ready b (event.Roll l k) = true

abbrev pub bell_needs : Bell → Event → Needs
bell_needs b e = (bell_ready b e, BellNotReady) ∷ []

-- the station that has called; where none has, a
abbrev pub caller_or : Station → Bell → Station
caller_or a Idle = a
caller_or a (Called caller) = caller
caller_or a (Attentive caller) = caller
caller_or a (Pending caller line code) = caller

-- the bell after an event that it was ready for
abbrev pub bell_after : Bell → Event → Bell
bell_after b (event.Call a) = Called a
bell_after b (event.Answer a) = Attentive (caller_or a b)
bell_after b (event.Send l a c t) = Pending a l c
bell_after b (event.Acknowledge a y t) = Idle
bell_after b (event.Error a) = Idle
bell_after b (event.StopControl l p) = b
bell_after b (event.HomeControl l p) = b
bell_after b (event.Enters l k) = b
bell_after b (event.Leave l k) = b
bell_after b (event.TrolleyStarts l) = b
bell_after b (event.TrolleyEnds l e) = b
bell_after b (event.Fails l) = b
bell_after b (event.Reset l a) = b
bell_after b (event.Resume l a) = b
bell_after b (event.Roll l k) = b
