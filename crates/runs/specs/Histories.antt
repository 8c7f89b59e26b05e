-- The history of a run: its steps from the oldest to the newest, each with its event, its answer and the bench on both
-- sides of it. Assumes nothing.
use Rattle.std.specs.Prelude.{◌≡◌, List, [], ◌∷◌, ◌++◌}
use Rattle.answer.specs.Answers.{Answer}
use Rattle.events.specs.declared.event.SectionEvent.{SectionEvent}
use Rattle.runs.specs.Benches.{BenchState, answer_at, bench_after, face_at}
use Rattle.section.specs.declared.face.Entry.{Entry}

pub record Step : Type 0 where
  pub event : SectionEvent
  pub before : BenchState
  pub answer : Answer
  pub after : BenchState

-- h ▸ x is the history h with the step x after it
infixl 60 ◌▸◌
pub data History : Type 0 where
  start : History
  ◌▸◌ : History → Step → History

-- one history and then another
abbrev pub followed_by : History → History → History
followed_by h start = h
followed_by h (later ▸ x) = followed_by h later ▸ x

abbrev pub events_in : History → List SectionEvent
events_in start = []
events_in (h ▸ x) = events_in h ++ x.event ∷ []

-- what the register has of a step
abbrev pub entry_of : Step → Entry
entry_of x = record { answer = x.answer; face = face_at x.event.section x.after }

abbrev pub entries_in : History → List Entry
entries_in start = []
entries_in (h ▸ x) = entries_in h ++ entry_of x ∷ []

-- a step has the answer and the effect that the rules lay down
pub record ByTheRules (x : Step) : Type 0 where
  pub answer : x.answer ≡ answer_at x.before x.event
  pub effect : x.after ≡ bench_after x.before x.event

-- h leads from the bench b to the bench c: the first step is from b, each other from what the last one left
abbrev pub Leads : BenchState → History → BenchState → Type 0
Leads b start c = c ≡ b
Leads b (h ▸ x) c = Leads b h x.before × ByTheRules x × (c ≡ x.after)
