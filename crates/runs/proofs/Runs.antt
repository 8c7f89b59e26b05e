-- The laws over every run, and what a loop over the events of a run needs. Assumes nothing.
use Rattle.std.proofs.Common.{◌≡◌, ℕ, ◌<◌, List, [], ◌∷◌, ◌++◌, length, refl, ap, ◌∙◌}
use lib.ListN.{get_or-replicate, length-replicate}
use Rattle.events.specs.declared.event.SectionEvent.{SectionEvent}
use Rattle.section.specs.States.{detector_on, fresh_state}
use Rattle.section.specs.declared.face.Entry.{Entry}
use Rattle.runs.specs.Benches.{BenchState, answer_at, bench_after, fresh_bench, no_section, section_at}
use Rattle.runs.specs.Histories.{ByTheRules, History, Leads, Step, ◌▸◌, entry_of, start}
use Rattle.runs.specs.Laws.{Laws, row_at}
use Rattle.runs.specs.Runs.{RunOf}
use Rattle.runs.proofs.Benches.{length_bench_after, safe_step}
use Rattle.runs.proofs.Lines.{lawful}
use Rattle.runs.proofs.Sections.{Safe, safe_fresh}

-- the step that the rules lay down for an event
abbrev pub step_of : BenchState → SectionEvent → Step
step_of b e = record { event = e; before = b; answer = answer_at b e; after = bench_after b e }

-- a step by the rules is known by its event and the bench before it
pub ruled : (x : Step) → ByTheRules x → x ≡ step_of x.before x.event
ruled x rules = rw (← rules.answer, ← rules.effect) refl

safe_run : (count : ℕ) (h : History) (b : BenchState) → Leads (fresh_bench count) h b → (i : ℕ) → i < count → Safe i (section_at i b) h
safe_run count start b leads i within = rw (leads, get_or-replicate count i fresh_state no_section within) (safe_fresh i)
safe_run count (h ▸ x) b leads i within =
    rw (leads.2, ruled x leads.1) (safe_step x.before x.event h i (safe_run count h x.before leads.0 i within))

pub laws : Laws
laws count h b leads p within =
    lawful (row_at p b) (detector_on p.line (section_at p.section b)) p h ((safe_run count h b leads p.section within).lines p.line)

-- a run leaves as many sections as there were
pub length_run : (count : ℕ) (h : History) (b : BenchState) → Leads (fresh_bench count) h b → length b ≡ count
length_run count start b leads = ap length leads ∙ length-replicate count fresh_state
length_run count (h ▸ x) b leads =
    ap length (leads.2 ∙ leads.1.effect) ∙ length_bench_after x.before x.event ∙ length_run count h x.before leads.0

-- A run by its events and entries: of none, and of one more.

pub run_of_none : (count : ℕ) → RunOf count [] [] (fresh_bench count)
run_of_none count = record { history = start; told = refl; leads = refl; entered = refl; lawful = laws count start (fresh_bench count) refl }

pub run_of_more : (count : ℕ) (events : List SectionEvent) (entries : List Entry) (b : BenchState) (e : SectionEvent) → RunOf count events entries b
    → RunOf count (events ++ e ∷ []) (entries ++ entry_of (step_of b e) ∷ []) (bench_after b e)
run_of_more count events entries b e run =
    let h = run.history ▸ step_of b e in
    let leads : Leads (fresh_bench count) h (bench_after b e) = (run.leads, record { answer = refl; effect = refl }, refl) in
    record { history = h; told = rw run.told refl; leads = leads; entered = rw run.entered refl; lawful = laws count h (bench_after b e) leads }
