use Rattle.std.proofs.Common.{arith}
use Rattle.std.proofs.lemmas.Bool.Decides.{nat_tests}
use Rattle.bank.specs.HalvesLemmas.{read_at_interleaved}
use Rattle.bank.proofs.PairBank.read.Goals as goal

pub returns-then-at-eq0 : goal.returns-then-at-eq0
returns-then-at-eq0 g c = grind (arith, nat_tests, read_at_interleaved, g.met.B.Bank.sized)

pub returns-else-at-eq0 : goal.returns-else-at-eq0
returns-else-at-eq0 g c = grind (arith, nat_tests, read_at_interleaved, g.met.B.Bank.sized)
