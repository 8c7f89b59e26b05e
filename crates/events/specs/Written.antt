-- How a section count and a list of events are written as bytes. Assumes nothing.
use Rattle.std.specs.Prelude.{◌≡◌, ℕ, ◌+◌, ◌/◌, ◌%◌, ◌≤◌, Bool, true, if◌then◌else◌, ◌||◌, List, [], ◌∷◌, ◌++◌, length, is_some, ◌==◌, nat_lt}
use Rattle.std.specs.List.{flat_map}
use Rattle.events.specs.declared.event.Event.{Event}
use Rattle.events.specs.declared.event.Event.TheVariants as event
use Rattle.events.specs.declared.event.LocatedEvent.{LocatedEvent}
use Rattle.events.specs.declared.event.SectionEvent.{SectionEvent}
use Rattle.events.specs.declared.field.Kind.{Kind}
use Rattle.events.specs.declared.field.Kind.TheVariants as kind
use Rattle.events.specs.Fields.{Field, axle_counts, tracks, station_number, direction_number, code_number, turn_number, consent_number, position_number, place_number, kind_number}

-- groups of seven bits, the high group first; each byte but the last has 128 added
abbrev pub written_number : ℕ → List ℕ
written_number n =
    if nat_lt n 128 then n ∷ []
    else if nat_lt n 16384 then (128 + n / 128) ∷ (n % 128) ∷ []
    else (128 + n / 16384) ∷ (128 + n / 128 % 128) ∷ (n % 128) ∷ []

abbrev pub kind_of : Event → Kind
kind_of (event.Call a) = kind.Call
kind_of (event.Answer a) = kind.Answer
kind_of (event.Send l a c t) = kind.Send
kind_of (event.Acknowledge a y t) = kind.Acknowledge
kind_of (event.Error a) = kind.Error
kind_of (event.StopControl l p) = kind.StopControl
kind_of (event.HomeControl l p) = kind.HomeControl
kind_of (event.Enters l k) = kind.Enters
kind_of (event.Leave l k) = kind.Leave
kind_of (event.TrolleyStarts l) = kind.TrolleyStarts
kind_of (event.TrolleyEnds l e) = kind.TrolleyEnds
kind_of (event.Fails l) = kind.Fails
kind_of (event.Reset l a) = kind.Reset
kind_of (event.Resume l a) = kind.Resume
kind_of (event.Roll l k) = kind.Roll

abbrev pub fields_in : Event → List ℕ
fields_in (event.Call a) = station_number a ∷ []
fields_in (event.Answer a) = station_number a ∷ []
fields_in (event.Send l a c t) = direction_number l ∷ station_number a ∷ code_number c ∷ turn_number t ∷ []
fields_in (event.Acknowledge a y t) = station_number a ∷ consent_number y ∷ turn_number t ∷ []
fields_in (event.Error a) = station_number a ∷ []
fields_in (event.StopControl l p) = direction_number l ∷ position_number p ∷ []
fields_in (event.HomeControl l p) = direction_number l ∷ position_number p ∷ []
fields_in (event.Enters l k) = direction_number l ∷ k ∷ []
fields_in (event.Leave l k) = direction_number l ∷ k ∷ []
fields_in (event.TrolleyStarts l) = direction_number l ∷ []
fields_in (event.TrolleyEnds l e) = direction_number l ∷ place_number e ∷ []
fields_in (event.Fails l) = direction_number l ∷ []
fields_in (event.Reset l a) = direction_number l ∷ station_number a ∷ []
fields_in (event.Resume l a) = direction_number l ∷ station_number a ∷ []
fields_in (event.Roll l k) = direction_number l ∷ k ∷ []

-- an event is its kind, its section and its fields
abbrev pub numbers_in : SectionEvent → List ℕ
numbers_in e = kind_number (kind_of e.event) ∷ e.section ∷ fields_in e.event

abbrev pub written_event : SectionEvent → List ℕ
written_event e = flat_map written_number (numbers_in e)

-- each event with the place of its first byte, the first of them at p
abbrev pub located : ℕ → List SectionEvent → List LocatedEvent
located p [] = []
located p (e ∷ es) = record { offset = p; told = e } ∷ located (p + length (written_event e)) es

-- the section count and then the events
abbrev pub written_sheet : ℕ → List SectionEvent → List ℕ
written_sheet count es = written_number count ++ flat_map written_event es

-- e is of the kind k
abbrev pub is_kind : Kind → Event → Bool
is_kind k e = kind_number (kind_of e) == kind_number k

-- the event's last field is a number of axles
abbrev pub tells_axles : Event → Bool
tells_axles e = is_kind kind.Enters e || is_kind kind.Leave e

-- the event's last field is a track
abbrev pub tells_track : Event → Bool
tells_track e = is_kind kind.Roll e

abbrev pub last_number : List ℕ → ℕ
last_number [] = 0
last_number (n ∷ []) = n
last_number (n ∷ m ∷ ns) = last_number (m ∷ ns)

-- n stands for a value of the field
abbrev pub holds : {T : Type 0} → Field T → ℕ → Bool
holds f n = is_some (f.value n)

-- axles and track, where the event has one, are within their values
abbrev pub within_values : Event → Bool
within_values e =
    if tells_axles e then holds axle_counts (last_number (fields_in e))
    else if tells_track e then holds tracks (last_number (fields_in e))
    else true

-- an event that a sheet can hold
pub record Proper (e : SectionEvent) : Type 0 where
  pub section_fits : e.section ≤ 65535
  pub in_values : within_values e.event ≡ true
