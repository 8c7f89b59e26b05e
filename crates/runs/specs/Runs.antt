-- What a run of a list of events is: its entries and the bench that it leaves. Assumes nothing.
use Rattle.std.specs.Prelude.{◌≡◌, ℕ, ◌<◌, List}
use Rattle.events.specs.declared.event.SectionEvent.{SectionEvent}
use Rattle.runs.specs.Benches.{BenchState, fresh_bench}
use Rattle.runs.specs.Histories.{History, Leads, entries_in, events_in}
use Rattle.runs.specs.Laws.{Lawful, Place, row_at}
use Rattle.section.specs.declared.face.Entry.{Entry}

-- these entries, and the bench b at the end, are those of these events on a fresh bench of so many sections
pub record RunOf (count : ℕ) (events : List SectionEvent) (entries : List Entry) (b : BenchState) : Type 0 where
  pub history : History
  -- one step for each event, in order
  pub told : events_in history ≡ events
  -- from the fresh bench to b, each step from what the last one left, with the answer and effect of the rules
  pub leads : Leads (fresh_bench count) history b
  pub entered : entries_in history ≡ entries
  -- on every line of every section
  pub lawful : (p : Place) → p.section < count → Lawful p (row_at p b) history
