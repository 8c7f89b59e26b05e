-- The words in which an event is told. Assumes nothing.
use Rattle.std.specs.Prelude.{ℕ, List, ◌++◌, codes, decimal}
use Rattle.events.specs.Words.{code_word, consent_word, line_word, place_word, position_word, station_word, turn_word}
use Rattle.events.specs.declared.event.Event.{Event}
use Rattle.events.specs.declared.event.Event.TheVariants as event
use Rattle.events.specs.declared.field.Direction.{Direction}
use Rattle.events.specs.declared.field.Position.{Position}

-- One text after another, from left to right.

infixr 65 ◌then◌
abbrev pub ◌then◌ : List ℕ → List ℕ → List ℕ
xs then ys = xs ++ ys

-- An event: its kind, and then each field after its name.

abbrev pub control_words : List ℕ → Direction → Position → List ℕ
control_words name l p = name then codes " line " then line_word l then codes " position " then position_word p

abbrev pub event_words : Event → List ℕ
event_words (event.Call a) = codes "call station " then station_word a
event_words (event.Answer a) = codes "answer station " then station_word a
event_words (event.Send l a c t) = codes "send line " then line_word l then codes " station " then station_word a then codes " code " then code_word c then codes " turn " then turn_word t
event_words (event.Acknowledge a y t) = codes "acknowledge station " then station_word a then codes " consent " then consent_word y then codes " turn " then turn_word t
event_words (event.Error a) = codes "error station " then station_word a
event_words (event.StopControl l p) = control_words (codes "stop-control") l p
event_words (event.HomeControl l p) = control_words (codes "home-control") l p
event_words (event.Enters l k) = codes "enters line " then line_word l then codes " axles " then decimal k
event_words (event.Leave l k) = codes "leave line " then line_word l then codes " axles " then decimal k
event_words (event.TrolleyStarts l) = codes "trolley-starts line " then line_word l
event_words (event.TrolleyEnds l e) = codes "trolley-ends line " then line_word l then codes " place " then place_word e
event_words (event.Fails l) = codes "fails line " then line_word l
event_words (event.Reset l a) = codes "reset line " then line_word l then codes " station " then station_word a
event_words (event.Resume l a) = codes "resume line " then line_word l then codes " station " then station_word a
event_words (event.Roll l k) = codes "roll line " then line_word l then codes " track " then decimal k
