-- A run of no event, and of one event more. Assumes nothing.
use Rattle.std.proofs.Common.{◌≡◌, ℕ, ◌+◌, ◌<◌, List, [], ◌∷◌, ◌++◌, length, get_or, take, sym, refl, ap, ◌∙◌}
use Rattle.std.proofs.lemmas.List.{take_more}
use Rattle.events.specs.declared.event.SectionEvent.{SectionEvent}
use Rattle.runs.proofs.Runs.{laws, run_of_none}
use Rattle.runs.specs.Benches.{BenchState, answer_at, bench_after, face_at, fresh_bench}
use Rattle.runs.specs.Histories.{History, Leads, Step, ◌▸◌, entries_in, entry_of, events_in}
use Rattle.runs.specs.Runs.{RunOf}
use Rattle.section.specs.declared.face.Entry.{Entry}

pub none_yet : (count : ℕ) (b : BenchState) (entries : List Entry) → b ≡ fresh_bench count → entries ≡ [] → RunOf count [] entries b
none_yet count b entries fresh empty = rw (fresh, empty) (run_of_none count)

-- the history of the first i events, with these entries, from one bench to another
abbrev pub SoFar : BenchState → List SectionEvent → ℕ → List Entry → BenchState → Type 0
SoFar start events i entries b =
    (h : History) × (events_in h ≡ take i events) × (entries_in h ≡ entries) × Leads start h b

pub one_more_so_far :
    (start b c : BenchState) (events : List SectionEvent) (i : ℕ) (d : SectionEvent) (entries more : List Entry) (x : Entry)
    → i < length events → SoFar start events i entries b → x.answer ≡ answer_at b (get_or events i d)
    → x.face ≡ face_at (get_or events i d).section c → c ≡ bench_after b (get_or events i d) → more ≡ entries ++ x ∷ []
    → SoFar start events (i + 1) more c
one_more_so_far start b c events i d entries more x within far answer face effect pushed =
    let e = get_or events i d in
    let step : Step = record { event = e; before = b; answer = x.answer; after = c } in
    let same : entry_of step ≡ x = ap (λ f. record { answer = x.answer; face = f }) (sym face) in (
      far.0 ▸ step,
      ap (λ l. l ++ e ∷ []) far.1 ∙ sym (take_more events i d within),
      ap (λ l. l ++ entry_of step ∷ []) far.2 ∙ ap (λ y. entries ++ y ∷ []) same ∙ sym pushed,
      (far.3, record { answer = answer; effect = effect }, refl),
    )

pub one_more :
    (count i : ℕ) (b c : BenchState) (events : List SectionEvent) (d : SectionEvent) (entries more : List Entry) (x : Entry)
    → i < length events → RunOf count (take i events) entries b → x.answer ≡ answer_at b (get_or events i d)
    → x.face ≡ face_at (get_or events i d).section c → c ≡ bench_after b (get_or events i d) → more ≡ entries ++ x ∷ []
    → RunOf count (take (i + 1) events) more c
one_more count i b c events d entries more x within run answer face effect pushed =
    let far = one_more_so_far (fresh_bench count) b c events i d entries more x within (run.history, run.told, run.entered, run.leads) answer face effect pushed in
    record { history = far.0; told = far.1; entered = far.2; leads = far.3; lawful = laws count far.0 c far.3 }
