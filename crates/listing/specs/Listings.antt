-- What the listing of a sheet is. Assumes nothing.
use Rattle.std.specs.Prelude.{◌≡◌, ℕ, List, length, Some, Ok, Err, Option, Result}
use Rattle.std.specs.Option.{option_map}
use Rattle.events.specs.declared.event.LocatedEvent.{LocatedEvent}
use Rattle.format.specs.declared.fault.Stop.{Stop}
use Rattle.format.specs.Sheets.{AnswersExactly, OneReading, Outcome, Told}
use Rattle.format.specs.Stops.{stop_of}
use Rattle.listing.specs.Lines.{listing_text}

-- the last line: how many events were read, or the fault; want of memory has none
abbrev pub ending_of : Outcome → ℕ → Option (Result ℕ Stop)
ending_of (Ok _) count = Some (Ok count)
ending_of (Err fault) count = option_map Err (stop_of fault)

-- text is the listing of the sheet s
pub record Lists (s text : List ℕ) : Type 0 where
  pub outcome : Outcome
  pub sections : Option ℕ
  pub events : List LocatedEvent
  pub ending : Result ℕ Stop
  -- what the sheet tells, and the answer to it
  pub told : Told s outcome sections events
  pub exactly : AnswersExactly s outcome
  pub one : OneReading s
  -- the answer has an ending, so it is not want of memory
  pub ends : ending_of outcome (length events) ≡ Some ending
  pub bytes : text ≡ listing_text sections events ending
