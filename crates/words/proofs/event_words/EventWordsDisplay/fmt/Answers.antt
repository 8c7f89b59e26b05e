use Rattle.words.proofs.event_words.EventWordsDisplay.fmt.Goals as goal

pub returns-in-Reset-clause-writes : goal.returns-in-Reset-clause-writes
returns-in-Reset-clause-writes g c plain ok = rw c.in-Reset.is (c.write-in-Reset.ensures.writes plain ok)
