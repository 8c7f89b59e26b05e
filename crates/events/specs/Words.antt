-- The word of each value of a field. Assumes nothing.
use Rattle.std.specs.Prelude.{ℕ, List, codes}
use Rattle.events.specs.declared.field.Code.{Code}
use Rattle.events.specs.declared.field.Code.TheVariants as code
use Rattle.events.specs.declared.field.Consent.{Consent}
use Rattle.events.specs.declared.field.Consent.TheVariants as consent
use Rattle.events.specs.declared.field.Direction.{Direction}
use Rattle.events.specs.declared.field.Direction.TheVariants as direction
use Rattle.events.specs.declared.field.Place.{Place}
use Rattle.events.specs.declared.field.Place.TheVariants as place
use Rattle.events.specs.declared.field.Position.{Position}
use Rattle.events.specs.declared.field.Position.TheVariants as position
use Rattle.events.specs.declared.field.Station.{Station}
use Rattle.events.specs.declared.field.Station.TheVariants as station
use Rattle.events.specs.declared.field.Turn.{Turn}
use Rattle.events.specs.declared.field.Turn.TheVariants as turn

abbrev pub station_word : Station → List ℕ
station_word station.Zero = codes "0"
station_word station.One = codes "1"

abbrev pub consent_word : Consent → List ℕ
consent_word consent.Withheld = codes "0"
consent_word consent.Given = codes "1"

abbrev pub line_word : Direction → List ℕ
line_word direction.Up = codes "up"
line_word direction.Down = codes "down"

abbrev pub code_word : Code → List ℕ
code_word code.IsLineClear = codes "is-line-clear"
code_word code.TrainEntering = codes "train-entering"
code_word code.TrainOut = codes "train-out"
code_word code.CancelLast = codes "cancel-last"
code_word code.ObstructionRemoved = codes "obstruction-removed"
code_word code.Trolley = codes "trolley"
code_word code.BlockForward = codes "block-forward"
code_word code.BlockBack = codes "block-back"

abbrev pub turn_word : Turn → List ℕ
turn_word turn.Straight = codes "none"
turn_word turn.Left = codes "left"
turn_word turn.Right = codes "right"

abbrev pub position_word : Position → List ℕ
position_word position.Normal = codes "normal"
position_word position.Reversed = codes "reversed"

abbrev pub place_word : Place → List ℕ
place_word place.Arrived = codes "arrived"
place_word place.Returned = codes "returned"
