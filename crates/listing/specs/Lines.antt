-- The lines of a listing, from its first to its last. Assumes nothing.
use Rattle.std.specs.Prelude.{ℕ, ◌+◌, List, [], ◌∷◌, Some, None, Ok, Err, codes, decimal, Option, Result}
use Rattle.events.specs.declared.event.LocatedEvent.{LocatedEvent}
use Rattle.format.specs.declared.fault.Stop.{Stop}
use Rattle.words.specs.Words.{event_words, ◌then◌}

-- A line, without its newline.

abbrev pub sections_text : ℕ → List ℕ
sections_text count = codes "sections " then decimal count

-- the event with this index
abbrev pub event_text : ℕ → LocatedEvent → List ℕ
event_text index x = decimal index then codes " at " then decimal x.offset then codes ": section " then decimal x.told.section then codes " " then event_words x.told.event

-- reading ended with so many events, or at a fault
abbrev pub ending_text : Result ℕ Stop → List ℕ
ending_text (Ok count) = codes "end " then decimal count
ending_text (Err stop) = codes "stop " then decimal stop.number then codes " at " then decimal stop.offset

-- The lines together, each with its newline.

abbrev pub ended : List ℕ → List ℕ
ended line = line then codes "\n"

-- no line where no count was read
abbrev pub opening_lines : Option ℕ → List ℕ
opening_lines None = []
opening_lines (Some count) = ended (sections_text count)

-- a line for each event, of which the first has this index
abbrev pub event_lines : ℕ → List LocatedEvent → List ℕ
event_lines index [] = []
event_lines index (x ∷ xs) = ended (event_text index x) then event_lines (index + 1) xs

abbrev pub listing_text : Option ℕ → List LocatedEvent → Result ℕ Stop → List ℕ
listing_text sections events ending = opening_lines sections then event_lines 0 events then ended (ending_text ending)
