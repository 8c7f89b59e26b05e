-- What a listed field gives: each value has one number, and a number stands for no other value. Assumes nothing.
use Rattle.std.specs.Prelude.{◌≡◌, ◌≢◌, ℕ, List, [], ◌∷◌, Some, None}
use Rattle.std.proofs.Common.{arith}
use Rattle.std.proofs.lemmas.Bool.Decides.{nat_tests}
use Rattle.events.specs.Fields.{first_numbered, every_code, code_number, every_consent, consent_number, every_direction, direction_number, every_kind, kind_number, every_place, place_number, every_position, position_number, every_station, station_number, every_turn, turn_number}
use Rattle.events.specs.declared.field.Code.{Code}
use Rattle.events.specs.declared.field.Consent.{Consent}
use Rattle.events.specs.declared.field.Direction.{Direction}
use Rattle.events.specs.declared.field.Kind.{Kind}
use Rattle.events.specs.declared.field.Place.{Place}
use Rattle.events.specs.declared.field.Position.{Position}
use Rattle.events.specs.declared.field.Station.{Station}
use Rattle.events.specs.declared.field.Turn.{Turn}

nothing : {T : Type 0} {x : T} → None ≢ Some x
nothing e = cc

pub listed_back : {T : Type 0} (number : T → ℕ) (xs : List T) (n : ℕ) (x : T) → first_numbered number xs n ≡ Some x → n ≡ number x
listed_back number [] n x e = absurd (nothing e)
listed_back number (y ∷ ys) n x e = let rest = listed_back number ys n x in grind (arith, nat_tests)

-- Each value of a listed field is what its number stands for.

pub station_back : (x : Station) → first_numbered station_number every_station (station_number x) ≡ Some x
station_back x = grind (arith, nat_tests)

pub direction_back : (x : Direction) → first_numbered direction_number every_direction (direction_number x) ≡ Some x
direction_back x = grind (arith, nat_tests)

pub code_back : (x : Code) → first_numbered code_number every_code (code_number x) ≡ Some x
code_back x = grind (arith, nat_tests)

pub turn_back : (x : Turn) → first_numbered turn_number every_turn (turn_number x) ≡ Some x
turn_back x = grind (arith, nat_tests)

pub consent_back : (x : Consent) → first_numbered consent_number every_consent (consent_number x) ≡ Some x
consent_back x = grind (arith, nat_tests)

pub position_back : (x : Position) → first_numbered position_number every_position (position_number x) ≡ Some x
position_back x = grind (arith, nat_tests)

pub place_back : (x : Place) → first_numbered place_number every_place (place_number x) ≡ Some x
place_back x = grind (arith, nat_tests)

pub kind_back : (x : Kind) → first_numbered kind_number every_kind (kind_number x) ≡ Some x
kind_back x = grind (arith, nat_tests)
