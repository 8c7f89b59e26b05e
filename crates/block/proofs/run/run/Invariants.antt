use Rattle.std.proofs.Common.{take, vec_items}
use Rattle.runs.specs.Runs.{RunOf}
use Rattle.block.proofs.run.run.Given as goal

abbrev pub invariant-loop-event : goal.invariant-loop-event
invariant-loop-event g l = RunOf l.sections (take l.event-index l.events) (vec_items l.entries) l.bench
