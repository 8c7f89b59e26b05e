-- The fields of each kind of event, in their order, and what reading them answers. Assumes nothing.
use Rattle.std.specs.Prelude.{ℕ, if◌then◌else◌, List, length, Some, None, Ok, Err, Option, nat_lt}
use Rattle.events.specs.declared.event.Event.{Event}
use Rattle.events.specs.declared.event.Event.TheVariants.{Call, Answer as Answered, Send, Acknowledge, Error, StopControl, HomeControl, Enters, Leave, TrolleyStarts, TrolleyEnds, Fails, Reset, Resume, Roll}
use Rattle.events.specs.declared.event.LocatedEvent.{LocatedEvent}
use Rattle.events.specs.declared.event.SectionEvent.{SectionEvent}
use Rattle.events.specs.declared.field.Kind.{Kind}
use Rattle.events.specs.declared.field.Kind.TheVariants as kind
use Rattle.events.specs.Fields.{Field, stations, directions, codes, turns, consents, positions, places, kinds, axle_counts, tracks}
use Rattle.format.specs.declared.fault.Reason.TheVariants.{Value}
use Rattle.format.specs.Numbers.{Answer, number_at, fault}

-- fields that are read one after another, and what they make
pub data Layout (T : Type 0) : Type 1 where
  done : T → Layout T
  field : {A : Type 0} → Field A → (A → Layout T) → Layout T

abbrev pub fields_of : Kind → Layout Event
fields_of kind.Call = field stations (λ a. done (Call a))
fields_of kind.Answer = field stations (λ a. done (Answered a))
fields_of kind.Send = field directions (λ l. field stations (λ a. field codes (λ c. field turns (λ t. done (Send l a c t)))))
fields_of kind.Acknowledge = field stations (λ a. field consents (λ y. field turns (λ t. done (Acknowledge a y t))))
fields_of kind.Error = field stations (λ a. done (Error a))
fields_of kind.StopControl = field directions (λ l. field positions (λ p. done (StopControl l p)))
fields_of kind.HomeControl = field directions (λ l. field positions (λ p. done (HomeControl l p)))
fields_of kind.Enters = field directions (λ l. field axle_counts (λ k. done (Enters l k)))
fields_of kind.Leave = field directions (λ l. field axle_counts (λ k. done (Leave l k)))
fields_of kind.TrolleyStarts = field directions (λ l. done (TrolleyStarts l))
fields_of kind.TrolleyEnds = field directions (λ l. field places (λ e. done (TrolleyEnds l e)))
fields_of kind.Fails = field directions (λ l. done (Fails l))
fields_of kind.Reset = field directions (λ l. field stations (λ a. done (Reset l a)))
fields_of kind.Resume = field directions (λ l. field stations (λ a. done (Resume l a)))
fields_of kind.Roll = field directions (λ l. field tracks (λ k. done (Roll l k)))

-- one reading after another: the first fault is the answer
abbrev pub and_then : {A B : Type 0} → Answer A → (A → ℕ → Answer B) → Answer B
and_then (Ok x) f = f x.0 x.1
and_then (Err e) f = Err e

-- a number that stands for no value is told where it begins
abbrev pub valued : {A : Type 0} → ℕ → ℕ → Option A → Answer A
valued p q None = Err (fault Value p)
valued p q (Some x) = Ok (x, q)

unfoldable pub field_at : {A : Type 0} → Field A → List ℕ → ℕ → Answer A
field_at f s p = and_then (number_at s p) (λ n q. valued p q (f.value n))

abbrev pub layout_at : {T : Type 0} → Layout T → List ℕ → ℕ → Answer T
layout_at (done x) s p = Ok (x, p)
layout_at (field f k) s p = and_then (field_at f s p) (λ x q. layout_at (k x) s q)

-- an event: its kind, its section and the fields of its kind
abbrev pub event_at : List ℕ → ℕ → Answer SectionEvent
event_at s p =
    and_then (field_at kinds s p) (λ k q. and_then (number_at s q) (λ n r. and_then (layout_at (fields_of k) s r) (λ e t. Ok (record { section = n; event = e }, t))))

-- the next event with its place; none at the sheet's end
abbrev pub next_at : List ℕ → ℕ → Answer (Option LocatedEvent)
next_at s p =
    if nat_lt p (length s) then and_then (event_at s p) (λ e q. Ok (Some (record { offset = p; told = e }), q))
    else Ok (None, p)
