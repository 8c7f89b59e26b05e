-- What the detector of a line is told where axles leave it. Assumes nothing.
use Rattle.std.proofs.Common.{◌≡◌, ℕ, Bool, true, false, cond, Some, refl}
use Rattle.answer.specs.declared.Outcome.{Outcome}
use Rattle.detector.specs.declared.Action.TheVariants.{CountOut}
use Rattle.events.specs.declared.event.Event.TheVariants.{Leave}
use Rattle.events.specs.declared.field.Direction.{Direction}
use Rattle.events.specs.declared.field.Direction.TheVariants.{Up, Down}
use Rattle.line.specs.Changes.{action_of, left, left_unexpected, suspended, unchanged}
use Rattle.line.specs.Lines.{leaving_answer}
use Rattle.line.specs.Records.{used_train}
use Rattle.section.specs.PerLines.{each}
use Rattle.section.specs.Sections.{done_by, on_or_beside, row_of, telling}
use Rattle.section.specs.declared.section.Section.{Section}

-- b says whether a train has used its line clear
left_told : (b : Bool) (l : Direction) (s : Section) (k : ℕ) (y : Outcome)
    → telling y l (Some (CountOut k))
    ≡ record { outcome = y; actions = each (λ m. action_of (on_or_beside m l (cond b (left k) (left_unexpected k)) (cond b unchanged suspended)) (row_of m s)) }
left_told true Up s k y = refl
left_told true Down s k y = refl
left_told false Up s k y = refl
left_told false Down s k y = refl

pub leaving_done : (l : Direction) (s : Section) (k : ℕ) → telling (leaving_answer (row_of l s)) l (Some (CountOut k)) ≡ done_by s (Leave l k)
leaving_done l s k = left_told (used_train (row_of l s).permission) l s k (leaving_answer (row_of l s))
