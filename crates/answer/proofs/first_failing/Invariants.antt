use Rattle.std.proofs.Common.{◌≡◌, drop}
use Rattle.answer.specs.Answers.{checked}
use Rattle.answer.proofs.first_failing.Given as goal

-- the needs so far hold, so the rest decides
abbrev pub invariant-loop-holds : goal.invariant-loop-holds
invariant-loop-holds l = checked (drop l.holds-index l.needs) ≡ checked l.needs
