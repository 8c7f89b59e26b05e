-- What can happen to a line, what its record becomes by it, and what its detector is told. Assumes nothing.
use Rattle.std.specs.Prelude.{◌≡◌, ℕ, Bool, true, false, if◌then◌else◌, not, ◌&&◌, is_some, Some, None, Option}
use Rattle.answer.specs.Answers.{Needs, Verdict, checked, unless_refused}
use Rattle.detector.specs.Meaning.{reading_is}
use Rattle.detector.specs.declared.Action.{Action}
use Rattle.detector.specs.declared.Action.TheVariants as action
use Rattle.detector.specs.declared.Reading.{Reading}
use Rattle.detector.specs.declared.Reading.TheVariants as reading
use Rattle.events.specs.declared.field.Place.{Place}
use Rattle.events.specs.declared.field.Place.TheVariants as place
use Rattle.events.specs.declared.field.Position.{Position}
use Rattle.events.specs.declared.field.Position.TheVariants.{Normal, Reversed}
use Rattle.events.specs.declared.field.Station.{Station}
use Rattle.line.specs.Records.{given, permit_is}
use Rattle.line.specs.declared.row.Calls.{Calls}
use Rattle.line.specs.declared.row.End.{End}
use Rattle.line.specs.declared.row.End.TheVariants.{Arrived, Returned}
use Rattle.line.specs.declared.row.Needle.TheVariants.{Closed, Clear, TrainOnLine}
use Rattle.line.specs.declared.row.Permission.{Permission}
use Rattle.line.specs.declared.row.Permit.TheVariants.{Nothing, Train, Trolley, Forward, Back}
use Rattle.line.specs.declared.row.Row.{Row}
use Rattle.line.specs.declared.row.Signal.{Signal}
use Rattle.line.specs.declared.row.Signal.TheVariants.{On, Off}
use Rattle.line.specs.declared.row.Signals.{Signals}

pub data Change : Type 0 where
  -- nothing happens to the line
  unchanged : Change
  -- consents
  train_given : Change
  trolley_given : Change
  blocked_forward : Change
  blocked_back : Change
  train_entering : Change
  -- what ends a permit
  train_out : Change
  cancelled : Change
  unblocked : Change
  -- controls
  stop_reversed : Change
  stop_put_back : Change
  home_moved : Position → Change
  -- a train passes the stop signal at off, or at on; axles leave under a train's used permit, or unexpectedly
  passed : ℕ → Change
  passed_at_on : ℕ → Change
  left : ℕ → Change
  left_unexpected : ℕ → Change
  -- axles left the other line of the section unexpectedly
  suspended : Change
  trolley_started : Change
  trolley_ended : Place → Change
  -- the detector
  detector_failed : Change
  rolled : ℕ → Change
  -- a station calls for a reset, or for a resumption; the second of two calls completes it
  reset_called : Station → Change
  resume_called : Station → Change

-- One part of the record is written anew.

abbrev pub with_permission : Permission → Row → Row
with_permission p r = record { permission = p; signals = r.signals; calls = r.calls }

abbrev pub with_signals : Signals → Row → Row
with_signals g r = record { permission = r.permission; signals = g; calls = r.calls }

abbrev pub with_calls : Calls → Row → Row
with_calls c r = record { permission = r.permission; signals = r.signals; calls = c }

-- What was permitted.

abbrev pub now_used : Permission → Permission
now_used p = record { needle = p.needle; permit = p.permit; used = true; end = p.end }

abbrev pub now_ended : End → Permission → Permission
now_ended e p = record { needle = p.needle; permit = p.permit; used = p.used; end = e }

-- a train's needle goes to train on line; a trolley's is there already
abbrev pub now_on_line : Permission → Permission
now_on_line p = record { needle = if permit_is Train p then TrainOnLine else p.needle; permit = p.permit; used = p.used; end = p.end }

-- Signals and controls.

-- a signal follows its control
abbrev pub signal_by : Position → Signal
signal_by Normal = On
signal_by Reversed = Off

abbrev pub stop_to : Position → Signals → Signals
stop_to p g = record { stop = signal_by p; home = g.home; stop_control = p; home_control = g.home_control; suspended = g.suspended }

abbrev pub home_to : Position → Signals → Signals
home_to p g = record { stop = g.stop; home = signal_by p; stop_control = g.stop_control; home_control = p; suspended = g.suspended }

-- the stop signal goes on, unless it may stay
abbrev pub stop_on_unless : Bool → Signals → Signals
stop_on_unless stays g = record { stop = if stays then g.stop else On; home = g.home; stop_control = g.stop_control; home_control = g.home_control; suspended = g.suspended }

abbrev pub home_on : Signals → Signals
home_on g = record { stop = g.stop; home = On; stop_control = g.stop_control; home_control = g.home_control; suspended = g.suspended }

-- suspension puts both signals on, and moves no control
abbrev pub suspending : Signals → Signals
suspending g = record { stop = On; home = On; stop_control = g.stop_control; home_control = g.home_control; suspended = true }

abbrev pub resumed_if : Bool → Signals → Signals
resumed_if done g = record { stop = g.stop; home = g.home; stop_control = g.stop_control; home_control = g.home_control; suspended = not done && g.suspended }

-- The calls of the two stations: the first is kept, and the second, which completes, leaves nobody's.

abbrev pub half_called : Option Station → Bool
half_called o = is_some o

abbrev pub call_kept : Station → Option Station → Option Station
call_kept a o = if half_called o then None else Some a

abbrev pub ended_at : Place → End
ended_at place.Arrived = Arrived
ended_at place.Returned = Returned

abbrev pub row_after : Change → Row → Row
row_after unchanged r = r
row_after train_given r = with_permission (given Clear Train) r
row_after trolley_given r = with_permission (given TrainOnLine Trolley) r
row_after blocked_forward r = with_permission (given TrainOnLine Forward) r
row_after blocked_back r = with_permission (given TrainOnLine Back) r
row_after train_entering r = with_permission (now_on_line r.permission) r
row_after train_out r = with_permission (given Closed Nothing) r
row_after cancelled r = with_permission (given Closed Nothing) r
row_after unblocked r = with_permission (given Closed Nothing) r
row_after stop_reversed r = with_signals (stop_to Reversed r.signals) r
row_after stop_put_back r = with_signals (stop_to Normal r.signals) r
row_after (home_moved p) r = with_signals (home_to p r.signals) r
row_after (passed k) r = with_signals (stop_on_unless false r.signals) (with_permission (now_used r.permission) r)
row_after (passed_at_on k) r = with_signals (suspending r.signals) r
row_after (left k) r = with_signals (home_on r.signals) (with_permission (now_ended Arrived r.permission) r)
row_after (left_unexpected k) r = with_signals (suspending r.signals) r
row_after suspended r = with_signals (suspending r.signals) r
row_after trolley_started r = with_permission (now_used r.permission) r
row_after (trolley_ended e) r = with_permission (now_ended (ended_at e) r.permission) r
row_after detector_failed r = r
row_after (rolled t) r = r
row_after (reset_called a) r = with_calls (record { reset = call_kept a r.calls.reset; resume = r.calls.resume }) r
row_after (resume_called a) r =
    let done = half_called r.calls.resume in
    with_calls (record { reset = r.calls.reset; resume = call_kept a r.calls.resume })
    (with_signals (resumed_if done r.signals) (with_permission (if done then given Closed Nothing else r.permission) r))

-- what the line's detector is told
abbrev pub action_of : Change → Row → Option Action
action_of unchanged r = None
action_of train_given r = None
action_of trolley_given r = None
action_of blocked_forward r = None
action_of blocked_back r = None
action_of train_entering r = None
action_of train_out r = None
action_of cancelled r = None
action_of unblocked r = None
action_of stop_reversed r = None
action_of stop_put_back r = None
action_of (home_moved p) r = None
action_of (passed k) r = Some (action.CountIn k)
action_of (passed_at_on k) r = Some (action.CountIn k)
action_of (left k) r = Some (action.CountOut k)
action_of (left_unexpected k) r = Some (action.CountOut k)
action_of suspended r = None
action_of trolley_started r = None
action_of (trolley_ended e) r = None
action_of detector_failed r = Some action.Fail
action_of (rolled t) r = Some (action.Roll t)
action_of (reset_called a) r = if half_called r.calls.reset then Some action.Reset else None
action_of (resume_called a) r = None

-- a detector that does not read clear puts the stop signal on
abbrev pub settled : Reading → Row → Row
settled x r = with_signals (stop_on_unless (reading_is reading.Clear x) r.signals) r

-- the line is asked for what is needed: where all of it holds, the change happens, and where not, nothing does
pub record Judged (wanted : Needs) (change : Change) (old new : Row) (told : Verdict) : Type 0 where
  pub answer : told ≡ checked wanted
  pub row : new ≡ unless_refused (checked wanted) (row_after change old) old
