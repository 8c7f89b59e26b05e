-- The numbers that stand for the values of a field. Assumes nothing.
use Rattle.std.specs.Prelude.{ℕ, if◌then◌else◌, ◌&&◌, List, [], ◌∷◌, Some, None, Option, ◌==◌, nat_le}
use Rattle.events.specs.declared.field.Code.{Code}
use Rattle.events.specs.declared.field.Code.TheVariants as code
use Rattle.events.specs.declared.field.Consent.{Consent}
use Rattle.events.specs.declared.field.Consent.TheVariants as consent
use Rattle.events.specs.declared.field.Direction.{Direction}
use Rattle.events.specs.declared.field.Direction.TheVariants as direction
use Rattle.events.specs.declared.field.Kind.{Kind}
use Rattle.events.specs.declared.field.Kind.TheVariants as kind
use Rattle.events.specs.declared.field.Place.{Place}
use Rattle.events.specs.declared.field.Place.TheVariants as place
use Rattle.events.specs.declared.field.Position.{Position}
use Rattle.events.specs.declared.field.Position.TheVariants as position
use Rattle.events.specs.declared.field.Station.{Station}
use Rattle.events.specs.declared.field.Station.TheVariants as station
use Rattle.events.specs.declared.field.Turn.{Turn}
use Rattle.events.specs.declared.field.Turn.TheVariants as turn

-- a field: the number of each value, and the value that a number stands for, if any
pub record Field (T : Type 0) : Type 0 where
  pub number : T → ℕ
  pub value : ℕ → Option T

-- the first of xs that has the number n
abbrev pub first_numbered : {T : Type 0} → (T → ℕ) → List T → ℕ → Option T
first_numbered number [] n = None
first_numbered number (x ∷ xs) n = if n == number x then Some x else first_numbered number xs n

-- a field whose values are listed
abbrev pub listed : {T : Type 0} → (T → ℕ) → List T → Field T
listed number xs = record { number = number; value = first_numbered number xs }

-- a field whose values are the numbers from least to most
abbrev pub from_to : ℕ → ℕ → Field ℕ
from_to least most = record { number = λ n. n; value = λ n. if nat_le least n && nat_le n most then Some n else None }

abbrev pub station_number : Station → ℕ
station_number station.Zero = 0
station_number station.One = 1

abbrev pub every_station : List Station
every_station = station.Zero ∷ station.One ∷ []

abbrev pub stations : Field Station
stations = listed station_number every_station

abbrev pub direction_number : Direction → ℕ
direction_number direction.Up = 0
direction_number direction.Down = 1

abbrev pub every_direction : List Direction
every_direction = direction.Up ∷ direction.Down ∷ []

abbrev pub directions : Field Direction
directions = listed direction_number every_direction

abbrev pub code_number : Code → ℕ
code_number code.IsLineClear = 1
code_number code.TrainEntering = 2
code_number code.TrainOut = 3
code_number code.CancelLast = 4
code_number code.ObstructionRemoved = 5
code_number code.Trolley = 6
code_number code.BlockForward = 7
code_number code.BlockBack = 8

abbrev pub every_code : List Code
every_code = code.IsLineClear ∷ code.TrainEntering ∷ code.TrainOut ∷ code.CancelLast ∷ code.ObstructionRemoved ∷ code.Trolley ∷ code.BlockForward ∷ code.BlockBack ∷ []

abbrev pub codes : Field Code
codes = listed code_number every_code

abbrev pub turn_number : Turn → ℕ
turn_number turn.Straight = 0
turn_number turn.Left = 1
turn_number turn.Right = 2

abbrev pub every_turn : List Turn
every_turn = turn.Straight ∷ turn.Left ∷ turn.Right ∷ []

abbrev pub turns : Field Turn
turns = listed turn_number every_turn

abbrev pub consent_number : Consent → ℕ
consent_number consent.Withheld = 0
consent_number consent.Given = 1

abbrev pub every_consent : List Consent
every_consent = consent.Withheld ∷ consent.Given ∷ []

abbrev pub consents : Field Consent
consents = listed consent_number every_consent

abbrev pub position_number : Position → ℕ
position_number position.Normal = 0
position_number position.Reversed = 1

abbrev pub every_position : List Position
every_position = position.Normal ∷ position.Reversed ∷ []

abbrev pub positions : Field Position
positions = listed position_number every_position

abbrev pub place_number : Place → ℕ
place_number place.Arrived = 0
place_number place.Returned = 1

abbrev pub every_place : List Place
every_place = place.Arrived ∷ place.Returned ∷ []

abbrev pub places : Field Place
places = listed place_number every_place

abbrev pub kind_number : Kind → ℕ
kind_number kind.Call = 0
kind_number kind.Answer = 1
kind_number kind.Send = 2
kind_number kind.Acknowledge = 3
kind_number kind.Error = 4
kind_number kind.StopControl = 5
kind_number kind.HomeControl = 6
kind_number kind.Enters = 7
kind_number kind.Leave = 8
kind_number kind.TrolleyStarts = 9
kind_number kind.TrolleyEnds = 10
kind_number kind.Fails = 11
kind_number kind.Reset = 12
kind_number kind.Resume = 13
kind_number kind.Roll = 14

abbrev pub every_kind : List Kind
every_kind = kind.Call ∷ kind.Answer ∷ kind.Send ∷ kind.Acknowledge ∷ kind.Error ∷ kind.StopControl ∷ kind.HomeControl ∷ kind.Enters ∷ kind.Leave ∷ kind.TrolleyStarts ∷ kind.TrolleyEnds ∷ kind.Fails ∷ kind.Reset ∷ kind.Resume ∷ kind.Roll ∷ []

abbrev pub kinds : Field Kind
kinds = listed kind_number every_kind

-- the axles of one train that enters or leaves
abbrev pub axle_counts : Field ℕ
axle_counts = from_to 1 250

-- the tracks from which a row rolls
abbrev pub tracks : Field ℕ
tracks = from_to 0 6

-- a section's number is any number
abbrev pub sections : Field ℕ
sections = record { number = λ n. n; value = Some }
