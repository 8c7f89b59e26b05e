use Rattle.std.proofs.Common.{rules}
use Rattle.section.proofs.Works.{leaving_done}
use Rattle.section.proofs.instruments.Instruments.work.Goals as goal

pub returns-in-Leave-clause-answer : goal.returns-in-Leave-clause-answer
returns-in-Leave-clause-answer c = search (rules, leaving_done c.in-Leave.line c.args.self.now c.in-Leave.axles)
