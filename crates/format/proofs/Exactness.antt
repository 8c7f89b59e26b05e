-- Each answer is given exactly when it is due, and a sheet has one reading. Assumes nothing.
use Rattle.std.proofs.Common.{◌≡◌, ℕ, List, Some, Ok, Err, Option, sym, refl, ◌∙◌, inl, inr, ⊎_elim, arith}
use Rattle.events.specs.declared.event.LocatedEvent.{LocatedEvent}
use Rattle.events.specs.declared.event.SectionEvent.{SectionEvent}
use Rattle.format.specs.declared.fault.RunFault.TheVariants.{Read, Sections, Memory}
use Rattle.format.specs.Numbers.{fault}
use Rattle.format.specs.Sheets.{AnswersExactly, Exactly, OneReading, OneTelling, Outcome, Tells, Told}
use Rattle.format.proofs.SheetLaws.{course_one, tells_course}

pub one_telling : OneTelling
one_telling s r t c d es ds a b =
    ⊎_elim
    inl
    (λ x. inr (⊎_elim inl (λ y. inr (course_one s r t c d es ds x y)) (tells_course s t d ds b)))
    (tells_course s r c es a)

module _ (s : List ℕ) where
  exactly :
      (r answer : Outcome) (c : Option ℕ) (es : List SectionEvent) → Tells s r c es → (answer ≡ Err Memory → ⊥)
      → (P : Type 0) → ((d : Option ℕ) (ds : List SectionEvent) → Tells s answer d ds → P) → (P → (d : Option ℕ) × (ds : List SectionEvent) × Tells s answer d ds)
      → Exactly r answer P
  exactly r answer c es t other P to from = record {
    only_when = λ e. to c es (rw e at t);
    whenever = λ p. let b = from p in let one = one_telling s r answer c b.0 es b.1 t b.2 in grind arith;
  }

  pub answers_exactly : (r : Outcome) (c : Option ℕ) (vs : List LocatedEvent) → Told s r c vs → AnswersExactly s r
  answers_exactly r c vs t = record {
    accepted = exactly r (Ok tt) c t.es t.tells (λ e. cc) _ (λ d ds x. (x.0, ds, x.2)) (λ p. (Some p.0, p.1, (p.0, refl, p.2)));
    stopped = λ reason o. exactly r (Err (Read (fault reason o))) c t.es t.tells (λ e. cc) _ (λ d ds x. (d, ds, x)) (λ p. p);
    miscounted = exactly r (Err Sections) c t.es t.tells (λ e. cc) _ (λ d ds x. (d, ds, x)) (λ p. p);
  }

  pub one_reading : OneReading s
  one_reading = record {
    one_form = λ t n es a b. a.bytes ∙ sym b.bytes;
    one_meaning = λ n m es ds a b. let one = one_telling s (Ok tt) (Ok tt) (Some n) (Some m) es ds (n, refl, a) (m, refl, b) in grind arith;
  }
