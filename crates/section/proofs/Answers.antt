-- The bell is asked first and then the lines: what the lines refuse is refused, where the bell was ready. Assumes nothing.
use Rattle.std.proofs.Common.{◌≡◌, Ok, Err, arith}
use Rattle.answer.specs.Answers.{checked}
use Rattle.answer.specs.declared.Refusal.{Refusal}
use Rattle.bell.specs.Bells.{bell_needs}
use Rattle.events.specs.declared.event.Event.{Event}
use Rattle.section.specs.Sections.{Readings, line_needs, needs}
use Rattle.section.specs.declared.section.Section.{Section}

pub refused_by_lines : (s : Section) (x : Readings) (e : Event) (r : Refusal) → checked (bell_needs s.bell e) ≡ Ok tt
    → checked (line_needs s x e) ≡ Err r → checked (needs s x e) ≡ Err r
refused_by_lines s x e r heard refused = grind arith
