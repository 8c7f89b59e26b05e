use Rattle.std.proofs.Common.{Err, ap, ◌∙◌}
use Rattle.std.proofs.lemmas.Result.{MatchResult-at_ok, err_from_is_err_and}
use Rattle.block.proofs.Works.{refused, worked}
use Rattle.block.proofs.bench.Bench.work.Goals as goal

pub returns-in_err-worked : goal.returns-in_err-worked
returns-in_err-worked g c =
    let p = err_from_is_err_and c.from_residual.result c.from_residual.ensures.1 in
    let made = MatchResult-at_ok _ _ c.unwrap-instruments.result c.unwrap-instruments.ensures c.try_from.ensures in
    let left =
    refused c.args.self.now c.args.at c.args.event c.requires c.unwrap-instruments.result c.readings.result c.answer.result
    (made.0 ∙ c.section.ensures.section) c.readings.ensures c.answer.ensures.answer c.in_err-worked.field-0.0 c.in_err-worked.was in
    record { answer = p.1 ∙ ap Err p.2 ∙ left.0; bench = left.1 }

pub returns : goal.returns
returns g c =
    let made = MatchResult-at_ok _ _ c.unwrap-instruments.result c.unwrap-instruments.ensures c.try_from.ensures in
    let left =
    worked c.args.self.now c.args.at c.args.event c.requires c.unwrap-instruments.result c.readings.result c.answer.result
    (made.0 ∙ c.section.ensures.section) c.readings.ensures c.answer.ensures.answer
    c.in_ok-worked.worked c.answer.new.self c.into.result c.tell.new.self c.put.new.self c.readings-2.result
    c.in_ok-worked.was c.answer.ensures.section c.tell.ensures c.readings-2.ensures (c.into.ensures.0 ∙ c.settle.ensures) c.put.ensures in
    record { answer = left.0; bench = left.1 }
