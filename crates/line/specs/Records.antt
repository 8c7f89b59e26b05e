-- The record of a line: tests of its parts, and what every line record keeps. Assumes nothing.
use Rattle.std.specs.Prelude.{◌≡◌, ℕ, Bool, true, false, not, ◌&&◌, ◌||◌, None, ◌==◌}
use Rattle.events.specs.Tests.{is_reversed}
use Rattle.events.specs.declared.field.Position.TheVariants.{Normal}
use Rattle.line.specs.declared.row.End.{End}
use Rattle.line.specs.declared.row.End.TheVariants.{NotEnded, Arrived, Returned}
use Rattle.line.specs.declared.row.Needle.{Needle}
use Rattle.line.specs.declared.row.Needle.TheVariants.{Closed, Clear, TrainOnLine}
use Rattle.line.specs.declared.row.Permission.{Permission}
use Rattle.line.specs.declared.row.Permit.{Permit}
use Rattle.line.specs.declared.row.Permit.TheVariants.{Nothing, Train, Trolley, Forward, Back}
use Rattle.line.specs.declared.row.Row.{Row}
use Rattle.line.specs.declared.row.Signal.{Signal}
use Rattle.line.specs.declared.row.Signal.TheVariants.{On, Off}
use Rattle.line.specs.declared.row.Signals.{Signals}

-- A number for each value, so that a test names only what passes it.

abbrev pub needle_number : Needle → ℕ
needle_number Closed = 0
needle_number Clear = 1
needle_number TrainOnLine = 2

abbrev pub permit_number : Permit → ℕ
permit_number Nothing = 0
permit_number Train = 1
permit_number Trolley = 2
permit_number Forward = 3
permit_number Back = 4

abbrev pub end_number : End → ℕ
end_number NotEnded = 0
end_number Arrived = 1
end_number Returned = 2

abbrev pub signal_number : Signal → ℕ
signal_number On = 0
signal_number Off = 1

-- What was permitted.

abbrev pub needle_is : Needle → Permission → Bool
needle_is n p = needle_number p.needle == needle_number n

abbrev pub permit_is : Permit → Permission → Bool
permit_is x p = permit_number p.permit == permit_number x

abbrev pub end_is : End → Permission → Bool
end_is e p = end_number p.end == end_number e

-- a line clear for a train that has not entered yet
abbrev pub unused_train : Permission → Bool
unused_train p = permit_is Train p && not p.used

-- a train has entered under its line clear
abbrev pub used_train : Permission → Bool
used_train p = permit_is Train p && p.used

abbrev pub unused_trolley : Permission → Bool
unused_trolley p = permit_is Trolley p && not p.used

-- a trolley is on the line
abbrev pub running_trolley : Permission → Bool
running_trolley p = permit_is Trolley p && (p.used && end_is NotEnded p)

-- the needle shows line clear for a train that has not entered yet
abbrev pub clear_for_train : Permission → Bool
clear_for_train p = needle_is Clear p && unused_train p

-- a train or a trolley is permitted
abbrev pub train_or_trolley : Permission → Bool
train_or_trolley p = permit_is Train p || permit_is Trolley p

-- a train or a trolley is on its way, and has not ended
abbrev pub is_coming : Permission → Bool
is_coming p = needle_is TrainOnLine p && (train_or_trolley p && end_is NotEnded p)

abbrev pub is_blocked : Permission → Bool
is_blocked p = permit_is Forward p || permit_is Back p

-- Signals and controls.

abbrev pub is_off : Signal → Bool
is_off s = signal_number s == signal_number Off

abbrev pub both_normal : Signals → Bool
both_normal g = not (is_reversed g.stop_control) && not (is_reversed g.home_control)

-- What every line record keeps, whoever made it.

abbrev pub implies : Bool → Bool → Bool
implies a b = not a || b

abbrev pub same : Bool → Bool → Bool
same a b = implies a b && implies b a

-- the needle is closed exactly where nothing is permitted
abbrev pub closed_with_nothing : Row → Bool
closed_with_nothing r = same (needle_is Closed r.permission) (permit_is Nothing r.permission)

-- the needle shows line clear only for a train
abbrev pub clear_with_train : Row → Bool
clear_with_train r = implies (needle_is Clear r.permission) (permit_is Train r.permission)

-- the stop signal is off only at line clear, unused, its control reversed, the line not suspended
abbrev pub off_when_due : Row → Bool
off_when_due r =
    implies (is_off r.signals.stop)
    (needle_is Clear r.permission && (not r.permission.used && (is_reversed r.signals.stop_control && not r.signals.suspended)))

-- all three
pub record Kept (r : Row) : Type 0 where
  pub closed : closed_with_nothing r ≡ true
  pub clear : clear_with_train r ≡ true
  pub off : off_when_due r ≡ true

abbrev pub consistent : Row → Bool
consistent r = closed_with_nothing r && (clear_with_train r && off_when_due r)

-- The record of a line on which nothing has happened.

-- a permit as it is given, or none as it is ended
abbrev pub given : Needle → Permit → Permission
given n x = record { needle = n; permit = x; used = false; end = NotEnded }

abbrev pub fresh_row : Row
fresh_row = record {
  permission = given Closed Nothing;
  signals = record { stop = On; home = On; stop_control = Normal; home_control = Normal; suspended = false };
  calls = record { reset = None; resume = None };
}
