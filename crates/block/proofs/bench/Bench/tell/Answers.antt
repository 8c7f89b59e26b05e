use Rattle.std.proofs.Common.{◌+◌, ◌*◌, ◌<◌, length, arith}
use Rattle.bank.specs.Banks.{sixteen}
use Rattle.bank.specs.Sizes.{length_sixteen}
use Rattle.block.proofs.Tables.{there, told_at}
use Rattle.block.proofs.bench.Bench.tell.Goals as goal

pub returns : goal.returns
returns g c =
    let b = c.self.inside in
    let at = c.args.at in
    let m = sixteen g.D.Detector.meaning in
    let within = there b.sections.items (m b.bank) c.args.self.now c.self.view_is at c.requires in
    let room : 2 * at + 1 < length (m b.bank) = omega (arith, within, b.sections.ok.0, c.self.invariant.0, length_sixteen g.D.Detector.meaning b.bank) in
    told_at b.sections.items (m b.bank) c.args.self.now c.self.view_is at c.requires c.detectors_of-detectors.result c.args.actions.up c.args.actions.down
    (m c.tell.new.bank) (m c.tell-2.new.bank) c.detectors_of-detectors.ensures room c.tell.ensures c.tell-2.ensures
