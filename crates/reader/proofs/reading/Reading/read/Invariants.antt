use Rattle.std.proofs.Common.{◌≡◌, ℕ, ◌-◌, length, Some, vec_items}
use Rattle.format.proofs.Progress.{Progress}
use Rattle.reader.proofs.reading.Reading.read.Given as goal

abbrev pub invariant-loop-event : goal.invariant-loop-event
invariant-loop-event l =
    (l.cursor.sheet.now ≡ l.sheet)
    × ((n : ℕ) × (l.self.sections ≡ Some n) × Progress l.sheet n l.cursor.at (vec_items l.self.events))

abbrev pub decreases-loop-event : goal.decreases-loop-event
decreases-loop-event l = length l.sheet - l.cursor.at
