use Rattle.std.proofs.lemmas.List.Elements.{All-set}
use Rattle.block.specs.Tables.{Consistent}
use Rattle.block.proofs.bench.Bench.put.Goals as goal

pub invariant_of-self : goal.invariant_of-self
invariant_of-self g c =
    (c.self.invariant.0, All-set Consistent c.self.inside.sections.items c.args.at c.args.section c.requires.consistent c.self.invariant.1)
