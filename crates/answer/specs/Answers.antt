-- The numbers of answers, and how a list of needs is judged. Assumes nothing.
use Rattle.std.specs.Prelude.{ℕ, Bool, if◌then◌else◌, List, [], ◌∷◌, Ok, Err, Result}
use Rattle.answer.specs.declared.Outcome.{Outcome}
use Rattle.answer.specs.declared.Outcome.TheVariants.{Accepted, PassedAtOn, LeftUnexpected}
use Rattle.answer.specs.declared.Refusal.{Refusal}
use Rattle.answer.specs.declared.Refusal.TheVariants as refusal

abbrev pub refusal_number : Refusal → ℕ
refusal_number refusal.OutsideValues = 3
refusal_number refusal.NoSection = 4
refusal_number refusal.BellNotReady = 5
refusal_number refusal.WrongStation = 6
refusal_number refusal.LineSuspended = 7
refusal_number refusal.RecordNotAsNeeded = 8
refusal_number refusal.WrongTurn = 9
refusal_number refusal.SignalOrControl = 10
refusal_number refusal.DetectorNotClear = 11
refusal_number refusal.NotArrived = 12
refusal_number refusal.CallNotNeeded = 13

abbrev pub outcome_number : Outcome → ℕ
outcome_number Accepted = 0
outcome_number PassedAtOn = 90
outcome_number LeftUnexpected = 91

-- what an event is answered with
abbrev pub Answer : Type 0
Answer = Result Outcome Refusal

abbrev pub answer_number : Answer → ℕ
answer_number (Ok outcome) = outcome_number outcome
answer_number (Err refusal) = refusal_number refusal

-- what an event needs, in the order in which it is looked at: a condition, and the refusal where it fails
abbrev pub Needs : Type 0
Needs = List (Bool × Refusal)

-- that all needs hold, or the refusal of the first that fails
abbrev pub Verdict : Type 0
Verdict = Result (Unit {0}) Refusal

abbrev pub checked : Needs → Verdict
checked [] = Ok tt
checked (n ∷ ns) = if n.0 then checked ns else Err n.1

-- what is where nothing is refused, and what stays where something is
abbrev pub unless_refused : {A : Type 0} → Verdict → A → A → A
unless_refused (Ok _) new old = new
unless_refused (Err _) new old = old

-- the value where nothing is refused, and else the refusal
abbrev pub given_that : {A : Type 0} → Verdict → A → Result A Refusal
given_that (Ok _) x = Ok x
given_that (Err r) x = Err r
