use Rattle.std.proofs.Common.{rules}
use Rattle.section.specs.Sections.{fresh_section}
use Rattle.block.proofs.Tables.{states_fresh}
use Rattle.block.proofs.bench.Bench.fresh.Goals as goal

pub returns : goal.returns
returns g c =
    let counted = c.in_ok-count.ensures in
    (search rules, cc (c.in_ok-vec.ensures.items_if_clones_equal (λ y e. e), c.fresh.ensures, c.fresh-2.ensures, counted.1, states_fresh c.in_ok-count.count 16 fresh_section))
