use Rattle.std.proofs.Common.{arith}
use Rattle.bank.specs.Banks.{sixteen}
use Rattle.block.proofs.Tables.{all_states, length_states}
use Rattle.block.proofs.bench.Bench.has.Goals as goal

pub returns-clause-sound : goal.returns-clause-sound
returns-clause-sound g c =
    let b = c.self.inside in
    let ss = b.sections.items in
    let ms = sixteen g.D.Detector.meaning b.bank in
    rw (← c.self.view_is) (record { few = omega (arith, length_states ss ms, b.sections.ok.0, c.self.invariant.0); consistent = all_states ss ms c.self.invariant.1 })
