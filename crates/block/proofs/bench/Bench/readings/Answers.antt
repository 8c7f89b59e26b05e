use Rattle.std.proofs.Common.{ℕ, ◌+◌, ◌*◌, ◌<◌, length, ap, arith}
use Rattle.bank.specs.Banks.{sixteen}
use Rattle.bank.specs.Sizes.{length_sixteen}
use Rattle.section.specs.declared.per_line.PerLine.{PerLine}
use Rattle.block.proofs.Tables.{down_at, there, up_at}
use Rattle.block.proofs.bench.Bench.readings.Goals as goal

pub returns : goal.returns
returns g c =
    let b = c.self.inside in
    let at = c.args.at in
    let ms = sixteen g.D.Detector.meaning b.bank in
    let within = there b.sections.items ms c.args.self.now c.self.view_is at c.requires in
    let room : 2 * at + 1 < length ms = omega (arith, within, b.sections.ok.0, c.self.invariant.0, length_sixteen g.D.Detector.meaning b.bank) in
    cc (
      up_at b.sections.items ms c.args.self.now c.self.view_is at c.requires _ c.read.result c.unwrap.result
          (ap (λ (n : PerLine ℕ). n.up) c.detectors_of-detectors.ensures) room c.read.ensures c.unwrap.ensures,
      down_at b.sections.items ms c.args.self.now c.self.view_is at c.requires _ c.read-2.result c.unwrap-2.result
          (ap (λ (n : PerLine ℕ). n.down) c.detectors_of-detectors.ensures) room c.read-2.ensures c.unwrap-2.ensures,
    )
