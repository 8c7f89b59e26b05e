-- The bell codes: who may send each, with which turn, what it needs of the line, and what it does. Assumes nothing.
use Rattle.std.specs.Prelude.{ℕ, Bool, true, if◌then◌else◌, not, ◌&&◌, ◌||◌, [], ◌∷◌, ◌==◌}
use Rattle.answer.specs.Answers.{Needs}
use Rattle.answer.specs.declared.Refusal.TheVariants as refusal
use Rattle.detector.specs.Meaning.{reading_is}
use Rattle.detector.specs.declared.Reading.{Reading}
use Rattle.detector.specs.declared.Reading.TheVariants as reading
use Rattle.events.specs.Tests.{code_is, is_reversed, station_is, turn_is}
use Rattle.events.specs.declared.field.Code.{Code}
use Rattle.events.specs.declared.field.Code.TheVariants as code
use Rattle.events.specs.declared.field.Consent.{Consent}
use Rattle.events.specs.declared.field.Consent.TheVariants as consent
use Rattle.events.specs.declared.field.Direction.{Direction}
use Rattle.events.specs.declared.field.Direction.TheVariants.{Up, Down}
use Rattle.events.specs.declared.field.Station.{Station}
use Rattle.events.specs.declared.field.Station.TheVariants.{Zero, One}
use Rattle.events.specs.declared.field.Turn.{Turn}
use Rattle.events.specs.declared.field.Turn.TheVariants.{Straight, Left, Right}
use Rattle.line.specs.Changes.{Change, row_after, with_permission, unchanged, train_given, trolley_given, blocked_forward, blocked_back, train_entering, train_out, cancelled, unblocked}
use Rattle.line.specs.Records.{both_normal, clear_for_train, end_is, fresh_row, is_off, needle_is, permit_is, train_or_trolley, used_train}
use Rattle.line.specs.declared.role.Role.{Role}
use Rattle.line.specs.declared.role.Role.TheVariants.{Despatching, Receiving}
use Rattle.line.specs.declared.row.End.TheVariants.{Arrived, Returned}
use Rattle.line.specs.declared.row.Needle.TheVariants.{Closed, Clear, TrainOnLine}
use Rattle.line.specs.declared.row.Permission.{Permission}
use Rattle.line.specs.declared.row.Permit.TheVariants.{Train, Trolley, Forward, Back}
use Rattle.line.specs.declared.row.Row.{Row}
use Rattle.line.specs.declared.row.Signals.{Signals}

-- The two ends of a line.

abbrev pub despatcher : Direction → Station
despatcher Up = Zero
despatcher Down = One

abbrev pub role_of : Direction → Station → Role
role_of l a = if station_is a (despatcher l) then Despatching else Receiving

abbrev pub role_number : Role → ℕ
role_number Despatching = 0
role_number Receiving = 1

abbrev pub role_is : Role → Role → Bool
role_is x y = role_number x == role_number y

-- who may send the code; obstruction removed is sent from the end that the blocking says, and that is asked of the record
abbrev pub role_allows : Code → Role → Bool
role_allows code.IsLineClear x = role_is x Despatching
role_allows code.TrainEntering x = role_is x Despatching
role_allows code.TrainOut x = role_is x Receiving
role_allows code.CancelLast x = role_is x Despatching
role_allows code.ObstructionRemoved x = true
role_allows code.Trolley x = role_is x Despatching
role_allows code.BlockForward x = role_is x Despatching
role_allows code.BlockBack x = role_is x Receiving

-- needle, permit, used and end
abbrev pub record_allows : Code → Role → Permission → Bool
record_allows code.IsLineClear x p = needle_is Closed p
record_allows code.TrainEntering x p = (needle_is Clear p && used_train p) || (permit_is Trolley p && p.used)
record_allows code.TrainOut x p = needle_is TrainOnLine p && train_or_trolley p
record_allows code.CancelLast x p = clear_for_train p || (permit_is Trolley p && (not p.used || end_is Returned p))
record_allows code.ObstructionRemoved x p = (permit_is Forward p && role_is x Despatching) || (permit_is Back p && role_is x Receiving)
record_allows code.Trolley x p = needle_is Closed p
record_allows code.BlockForward x p = needle_is Closed p
record_allows code.BlockBack x p = needle_is Closed p

-- the turn with which the code is sent
abbrev pub sent_with : Code → Role → Turn
sent_with code.IsLineClear x = Straight
sent_with code.TrainEntering x = Straight
sent_with code.TrainOut x = Right
sent_with code.CancelLast x = Straight
sent_with code.ObstructionRemoved x = if role_is x Receiving then Right else Straight
sent_with code.Trolley x = Straight
sent_with code.BlockForward x = Straight
sent_with code.BlockBack x = Straight

-- the turn with which a consent to the code is made
abbrev pub acknowledged_with : Code → Permission → Turn
acknowledged_with code.IsLineClear p = Right
acknowledged_with code.TrainEntering p = if permit_is Train p then Left else Straight
acknowledged_with code.TrainOut p = Straight
acknowledged_with code.CancelLast p = if permit_is Train p then Left else Right
acknowledged_with code.ObstructionRemoved p = Right
acknowledged_with code.Trolley p = Left
acknowledged_with code.BlockForward p = Left
acknowledged_with code.BlockBack p = Straight

abbrev pub signals_allow : Code → Signals → Bool
signals_allow code.IsLineClear g = both_normal g
signals_allow code.TrainEntering g = not (is_reversed g.stop_control)
signals_allow code.TrainOut g = not (is_reversed g.home_control)
signals_allow code.CancelLast g = not (is_off g.stop) && both_normal g
signals_allow code.ObstructionRemoved g = true
signals_allow code.Trolley g = both_normal g
signals_allow code.BlockForward g = both_normal g
signals_allow code.BlockBack g = both_normal g

-- all but train entering and cancel last need a detector that reads clear
abbrev pub detector_allows : Code → Reading → Bool
detector_allows c x = (code_is c code.TrainEntering || code_is c code.CancelLast) || reading_is reading.Clear x

-- train out needs that the train or the trolley has arrived
abbrev pub end_allows : Code → Permission → Bool
end_allows c p = not (code_is c code.TrainOut) || end_is Arrived p

-- what a code needs of the line, where the turn is right or not
abbrev pub code_needs : Code → Role → Bool → Reading → Row → Needs
code_needs c x turned seen r =
    (not r.signals.suspended, refusal.LineSuspended)
    ∷ (record_allows c x r.permission, refusal.RecordNotAsNeeded)
    ∷ (turned, refusal.WrongTurn)
    ∷ (signals_allow c r.signals, refusal.SignalOrControl)
    ∷ (detector_allows c seen, refusal.DetectorNotClear)
    ∷ (end_allows c r.permission, refusal.NotArrived)
    ∷ []

-- Sending.

abbrev pub send_needs : Code → Role → Turn → Reading → Row → Needs
send_needs c x t seen r = (role_allows c x, refusal.WrongStation) ∷ code_needs c x (turn_is t (sent_with c x)) seen r

-- train out, and obstruction removed by the receiving station, take effect when they are sent
abbrev pub effective_when_sent : Code → Role → Bool
effective_when_sent c x = code_is c code.TrainOut || (code_is c code.ObstructionRemoved && role_is x Receiving)

abbrev pub sending_makes : Code → Role → Change
sending_makes code.IsLineClear x = unchanged
sending_makes code.TrainEntering x = unchanged
sending_makes code.TrainOut x = train_out
sending_makes code.CancelLast x = unchanged
sending_makes code.ObstructionRemoved x = if role_is x Receiving then unblocked else unchanged
sending_makes code.Trolley x = unchanged
sending_makes code.BlockForward x = unchanged
sending_makes code.BlockBack x = unchanged

-- Acknowledging: x is the end from which the code was sent.

-- codes to which consent may be withheld
abbrev pub may_be_withheld : Code → Bool
may_be_withheld c = not (code_is c code.TrainEntering || (code_is c code.TrainOut || code_is c code.ObstructionRemoved))

-- what took effect when it was sent needs no more than to be heard; of all others everything is looked at again
abbrev pub acknowledge_needs : Code → Role → Consent → Turn → Reading → Row → Needs
acknowledge_needs c x consent.Withheld t seen r = (may_be_withheld c && turn_is t Straight, refusal.WrongTurn) ∷ []
acknowledge_needs c x consent.Given t seen r =
    if effective_when_sent c x then (turn_is t Straight, refusal.WrongTurn) ∷ []
    else code_needs c x (turn_is t (acknowledged_with c r.permission)) seen r

abbrev pub consent_makes : Code → Role → Change
consent_makes code.IsLineClear x = train_given
consent_makes code.TrainEntering x = train_entering
consent_makes code.TrainOut x = unchanged
consent_makes code.CancelLast x = cancelled
consent_makes code.ObstructionRemoved x = if role_is x Receiving then unchanged else unblocked
consent_makes code.Trolley x = trolley_given
consent_makes code.BlockForward x = blocked_forward
consent_makes code.BlockBack x = blocked_back

-- the permission that a consent leaves, where sending did not take effect already
abbrev pub consent_gives : Code → Permission → Permission
consent_gives c p = (row_after (consent_makes c Despatching) (with_permission p fresh_row)).permission

abbrev pub acknowledging_makes : Code → Role → Consent → Change
acknowledging_makes c x consent.Withheld = unchanged
acknowledging_makes c x consent.Given = consent_makes c x
