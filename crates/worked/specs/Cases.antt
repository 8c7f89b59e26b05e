-- The worked cases of the rules, stated of the rules themselves, together. Assumes nothing.
use Rattle.std.specs.Prelude.{◌≡◌, [], ◌∷◌, Ok, Err}
use Rattle.detector.specs.Meaning.{counted_in, counted_out, fresh, reading_of}
use Rattle.detector.specs.declared.Reading.TheVariants.{Failed, Occupied}
use Rattle.events.specs.Written.{written_number}
use Rattle.events.specs.declared.event.Event.TheVariants.{Enters}
use Rattle.events.specs.declared.field.Direction.TheVariants.{Up}
use Rattle.format.specs.Layouts.{event_at}
use Rattle.format.specs.Numbers.{fault, number_at}
use Rattle.format.specs.declared.fault.Reason.TheVariants.{Ends, Form, Value}

pub record WorkedCases : Type 0 where
  -- 65,535 is 131 255 127
  pub largest_written : written_number 65535 ≡ 131 ∷ 255 ∷ 127 ∷ []
  pub largest_read : number_at (131 ∷ 255 ∷ 127 ∷ []) 0 ≡ Ok (65535, 3)
  -- one more is fault 2, at its last byte
  pub too_large : number_at (132 ∷ 128 ∷ 0 ∷ []) 0 ≡ Err (fault Form 2)
  -- a first byte of 128 is fault 2
  pub padded : number_at (128 ∷ []) 0 ≡ Err (fault Form 0)
  -- 129 alone is fault 1
  pub cut : number_at (129 ∷ []) 0 ≡ Err (fault Ends 0)
  -- a train of 250 axles enters section 0 on the up line
  pub most_axles : event_at (7 ∷ 0 ∷ 0 ∷ 129 ∷ 122 ∷ []) 0 ≡ Ok (record { section = 0; event = Enters Up 250 }, 5)
  -- 251 axles are fault 3, at the axles
  pub too_many_axles : event_at (7 ∷ 0 ∷ 0 ∷ 129 ∷ 123 ∷ []) 0 ≡ Err (fault Value 3)
  -- in 1,000 reads occupied, and one more failed
  pub most_counted : reading_of (counted_in 1000 fresh) ≡ Occupied
  pub too_many_counted : reading_of (counted_in 1001 fresh) ≡ Failed
  -- out 1 from none reads failed
  pub none_to_count : reading_of (counted_out 1 fresh) ≡ Failed
