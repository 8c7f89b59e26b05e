-- What a step says of a line: that which the rules made of it, and nothing where it is refused or elsewhere.
-- Assumes nothing.
use Rattle.std.proofs.Common.{◌≡◌, ℕ, Bool, true, false, cond, Ok, Err, List, arith, ◌==◌, slice_index}
use Rattle.std.proofs.lemmas.Bool.Decides.{nat_tests}
use Rattle.answer.specs.declared.Outcome.{Outcome}
use Rattle.answer.specs.declared.Refusal.{Refusal}
use Rattle.events.specs.declared.event.SectionEvent.{SectionEvent}
use Rattle.answer.specs.declared.Outcome.TheVariants.{Accepted, PassedAtOn, LeftUnexpected}
use Rattle.bell.specs.Bells.{bell_ready}
use Rattle.bell.specs.declared.Bell.{Bell}
use Rattle.bell.specs.declared.Bell.TheVariants.{Pending}
use Rattle.events.specs.Fields.{code_number, direction_number, station_number}
use Rattle.events.specs.declared.event.Event.{Event}
use Rattle.events.specs.declared.event.Event.TheVariants as event
use Rattle.events.specs.declared.field.Code.TheVariants as code
use Rattle.events.specs.declared.field.Consent.{Consent}
use Rattle.events.specs.declared.field.Consent.TheVariants as consent
use Rattle.events.specs.declared.field.Direction.{Direction}
use Rattle.events.specs.declared.field.Direction.TheVariants.{Up}
use Rattle.events.specs.declared.field.Position.TheVariants.{Reversed}
use Rattle.events.specs.declared.field.Station.{Station}
use Rattle.events.specs.declared.field.Turn.{Turn}
use Rattle.line.specs.Changes.{Change, left, left_unexpected, passed, passed_at_on, suspended, unchanged}
use Rattle.line.specs.Records.{is_off, used_train}
use Rattle.section.specs.Sections.{change_on, on_line, on_or_beside, outcome, pending_makes, row_of}
use Rattle.section.specs.declared.section.Section.{Section}
use Rattle.runs.specs.Benches.{BenchState}
use Rattle.runs.specs.Histories.{History, Step}
use Rattle.runs.specs.Laws.{Place, answered, in_section, last_send}
use Rattle.runs.proofs.Observed.{Says, words}

pub says_nothing_elsewhere : (p : Place) (x : Step) (h : History) → in_section p x ≡ false → Says unchanged p x h
unfolding words
says_nothing_elsewhere p x h away = grind (arith, nat_tests)

pub says_nothing_refused : (p : Place) (x : Step) (h : History) → answered 0 x ≡ false → answered 90 x ≡ false → answered 91 x ≡ false → Says unchanged p x h
unfolding words
says_nothing_refused p x h a b c = grind (arith, nat_tests)

-- the same of the step that the rules lay down for a refused event
pub refused_says_nothing : (p : Place) (r : Refusal) (e : SectionEvent) (b : BenchState) (h : History)
    → Says unchanged p (record { event = e; before = b; answer = Err r; after = b }) h
refused_says_nothing p r e b h =
    says_nothing_refused p (record { event = e; before = b; answer = Err r; after = b }) h (grind (arith, nat_tests)) (grind (arith, nat_tests)) (grind (arith, nat_tests))

-- a code that is pending is the last that was sent
abbrev pub Heard : Bell → List ℕ → Type 0
Heard (Pending caller l c) sent =
    (slice_index sent 0 ≡ direction_number l) × (slice_index sent 1 ≡ station_number caller) × (slice_index sent 2 ≡ code_number c)
Heard b sent = Unit {0}

-- As in `Lines`, a last clause stands for every case that no clause above it takes.

module _ (i j : ℕ) (l : Direction) (before after : BenchState) (h : History) (here : (j == i) ≡ true) where
  -- the step of an event in the section i, with its answer, says that the change c happens to its line l
  abbrev Said : Change → Event → Outcome → Type 0
  Said c e y = Says c (record { section = i; line = l }) (record { event = record { section = j; event = e }; before = before; answer = Ok y; after = after }) h

  entering_says : (m : Direction) (k : ℕ) (off : Bool) → Said (on_line l m (cond off (passed k) (passed_at_on k))) (event.Enters m k) (cond off Accepted PassedAtOn)
  unfolding words
  entering_says m k true = grind (arith, nat_tests)
  entering_says m k false = grind (arith, nat_tests)

  leaving_says : (m : Direction) (k : ℕ) (expected : Bool)
      → Said (on_or_beside l m (cond expected (left k) (left_unexpected k)) (cond expected unchanged suspended)) (event.Leave m k) (cond expected Accepted LeftUnexpected)
  unfolding words
  leaving_says m k true = grind (arith, nat_tests)
  leaving_says m k false = grind (arith, nat_tests)

  acknowledging_says : (b : Bell) (a : Station) (y : Consent) (t : Turn) → bell_ready b (event.Acknowledge a y t) ≡ true → Heard b (last_send i h)
      → Said (pending_makes b y l) (event.Acknowledge a y t) Accepted
  unfolding words
  acknowledging_says (Pending caller m c) a consent.Withheld t _ _ = grind (arith, nat_tests)
  acknowledging_says (Pending caller m code.TrainOut) a y t _ o = grind (arith, nat_tests)
  acknowledging_says (Pending caller Up code.ObstructionRemoved) a y t _ o = grind (arith, nat_tests)
  acknowledging_says (Pending caller m c) a y t _ o = grind (arith, nat_tests)
  acknowledging_says b a y t r _ = grind arith

  pub says_accepted : (s : Section) (e : Event) → bell_ready s.bell e ≡ true → Heard s.bell (last_send i h) → Said (change_on l s e) e (outcome s e)
  unfolding words
  says_accepted s (event.Send m a code.TrainOut t) _ _ = grind (arith, nat_tests)
  says_accepted s (event.Send Up a code.ObstructionRemoved t) _ _ = grind (arith, nat_tests)
  says_accepted s (event.Acknowledge a y t) r o = acknowledging_says s.bell a y t r o
  says_accepted s (event.StopControl m Reversed) _ _ = grind (arith, nat_tests)
  says_accepted s (event.Enters m k) _ _ = entering_says m k (is_off (row_of m s).signals.stop)
  says_accepted s (event.Leave m k) _ _ = leaving_says m k (used_train (row_of m s).permission)
  says_accepted s e _ _ = grind (arith, nat_tests)
