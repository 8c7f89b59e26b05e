-- Tests on the values of fields, by their numbers. Assumes nothing.
use Rattle.std.specs.Prelude.{Bool, ◌==◌}
use Rattle.events.specs.declared.field.Code.{Code}
use Rattle.events.specs.declared.field.Consent.{Consent}
use Rattle.events.specs.declared.field.Direction.{Direction}
use Rattle.events.specs.declared.field.Position.{Position}
use Rattle.events.specs.declared.field.Position.TheVariants.{Reversed}
use Rattle.events.specs.declared.field.Station.{Station}
use Rattle.events.specs.declared.field.Turn.{Turn}
use Rattle.events.specs.Fields.{code_number, consent_number, direction_number, position_number, station_number, turn_number}

abbrev pub station_is : Station → Station → Bool
station_is a b = station_number a == station_number b

abbrev pub direction_is : Direction → Direction → Bool
direction_is l m = direction_number l == direction_number m

abbrev pub code_is : Code → Code → Bool
code_is c d = code_number c == code_number d

abbrev pub turn_is : Turn → Turn → Bool
turn_is t u = turn_number t == turn_number u

abbrev pub consent_is : Consent → Consent → Bool
consent_is y z = consent_number y == consent_number z

-- a control stands reversed
abbrev pub is_reversed : Position → Bool
is_reversed p = position_number p == position_number Reversed
