use Rattle.std.proofs.Common.{vec_items}
use Rattle.block.proofs.Runs.{one_more}
use Rattle.block.proofs.run.run.Goals as goal

pub loop-event-preserved : goal.loop-event-preserved
loop-event-preserved g c =
    one_more c.args.sections c.loop-event.event-index c.loop-event.bench c.enter.new.self c.args.events.now _
    (vec_items c.loop-event.entries) (vec_items c.push.new.self) c.enter.result
    c.loop-event-test.true c.loop-event.invariant c.enter.ensures.answer c.enter.ensures.face c.enter.ensures.bench c.in_ok-push.ensures.items
