-- What the words of the laws say of a step by which one change happens to a line. Assumes nothing.
use Rattle.std.proofs.Common.{◌≡◌, ℕ, Bool, cond, ◌||◌, Some, Option, ◌==◌}
use Rattle.detector.specs.declared.Action.{Action}
use Rattle.detector.specs.declared.Action.TheVariants as action
use Rattle.events.specs.declared.field.Place.TheVariants as place
use Rattle.events.specs.declared.field.Station.TheVariants as station
use Rattle.line.specs.Changes.{Change, unchanged, train_given, trolley_given, blocked_forward, blocked_back, train_entering, train_out, cancelled, unblocked, stop_reversed, stop_put_back, home_moved, passed, passed_at_on, left, left_unexpected, suspended, trolley_started, trolley_ended, detector_failed, rolled, reset_called, resume_called, action_of}
use Rattle.line.specs.Records.{fresh_row}
use Rattle.runs.specs.Histories.{History, Step}
use Rattle.runs.specs.Laws as law
use Rattle.runs.specs.Laws.{Place}

-- a number for each change, so that a test names only what passes it
abbrev pub change_number : Change → ℕ
change_number unchanged = 0
change_number train_given = 1
change_number trolley_given = 2
change_number blocked_forward = 3
change_number blocked_back = 4
change_number train_entering = 5
change_number train_out = 6
change_number cancelled = 7
change_number unblocked = 8
change_number stop_reversed = 9
change_number stop_put_back = 10
change_number (home_moved q) = 11
change_number (passed k) = 12
change_number (passed_at_on k) = 13
change_number (left k) = 14
change_number (left_unexpected k) = 15
change_number suspended = 16
change_number trolley_started = 17
change_number (trolley_ended e) = 18
change_number detector_failed = 19
change_number (rolled t) = 20
change_number (reset_called a) = 21
change_number (resume_called a) = 22

abbrev pub is : Change → Change → Bool
is c d = change_number c == change_number d

abbrev pub counts_in : Change → Bool
counts_in c = is c (passed 0) || is c (passed_at_on 0)

abbrev pub counts_out : Change → Bool
counts_out c = is c (left 0) || is c (left_unexpected 0)

-- the axles that a detector is told to count, in or out
abbrev pub axles_told : Option Action → ℕ
axles_told (Some (action.CountIn k)) = k
axles_told (Some (action.CountOut k)) = k
axles_told t = 0

-- every word, where the change c happens to the line p by the step x after the history h
pub record Says (c : Change) (p : Place) (x : Step) (h : History) : Type 0 where
  pub gives_train : law.gives_train p x h ≡ is c train_given
  pub gives_trolley : law.gives_trolley p x h ≡ is c trolley_given
  pub cancels : law.cancels p x h ≡ is c cancelled
  pub blocks : law.blocks p x h ≡ (is c blocked_forward || is c blocked_back)
  pub unblocks : law.unblocks p x h ≡ is c unblocked
  pub enters : law.enters p x ≡ is c (passed 0)
  pub trolley_starts : law.trolley_starts p x ≡ is c trolley_started
  pub trolley_ends : law.trolley_ends p x ≡ is c (trolley_ended place.Arrived)
  pub reverses : law.reverses p x ≡ is c stop_reversed
  pub puts_back : law.puts_back p x ≡ is c stop_put_back
  pub passes : law.passes p x ≡ counts_in c
  pub leaves : law.leaves p x ≡ counts_out c
  pub suspends : law.suspends p x ≡ (is c (passed_at_on 0) || (is c (left_unexpected 0) || is c suspended))
  pub calls_reset : law.calls_reset p x ≡ is c (reset_called station.Zero)
  pub calls_resume : law.calls_resume p x ≡ is c (resume_called station.Zero)
  pub axles : cond (counts_in c || counts_out c) (law.axles x) 0 ≡ axles_told (action_of c fresh_row)

-- a proof that unfolds this unfolds every word
unfoldable pub words : Unit {0}
unfolding law.axles law.blocks law.calls_reset law.calls_resume law.cancels law.enters law.gives_train law.gives_trolley law.leaves law.passes law.puts_back law.reverses law.suspends law.trolley_ends law.trolley_starts law.unblocks
words = tt
