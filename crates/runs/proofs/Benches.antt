-- What an event leaves of the bench as it was, and that every section stays safe over it. Assumes nothing.
use Rattle.std.proofs.Common.{◌≡◌, ℕ, Bool, true, false, length, slice_set, Ok, Err, sym, refl, subst, length-set, ◌==◌}
use Rattle.std.proofs.lemmas.List.{get_or-set_other, get_or-set_same}
use Rattle.std.proofs.lemmas.Bool.{eqb-false, eqb-true, ltb-true}
use Rattle.answer.specs.Answers.{Verdict, given_that, unless_refused}
use Rattle.answer.specs.declared.Refusal.{Refusal}
use Rattle.events.specs.declared.event.SectionEvent.{SectionEvent}
use Rattle.section.specs.Sections.{outcome}
use Rattle.section.specs.States.{SectionState, state_after}
use Rattle.runs.specs.Benches.{BenchState, bench_after, bench_needs, no_section, section_at, verdict_at}
use Rattle.runs.specs.Histories.{History, Step, ◌▸◌}
use Rattle.runs.proofs.Legal.{Holds, held}
use Rattle.runs.proofs.Sections.{Safe, safe_after, safe_elsewhere, safe_refused}

-- the section of the event after it, and the bench with it, where the event is not refused
abbrev pub section_worked : BenchState → SectionEvent → SectionState
section_worked b e = state_after (section_at e.section b) e.event

abbrev pub bench_worked : BenchState → SectionEvent → BenchState
bench_worked b e = slice_set b e.section (section_worked b e)

-- a refused event leaves the bench as it was
pub unchanged_where_refused : (b : BenchState) (e : SectionEvent) (r : Refusal) → verdict_at b e ≡ Err r → bench_after b e ≡ b
unchanged_where_refused b e r v = rw v refl

module _ (b : BenchState) (e : SectionEvent) where
  others_unworked : (i : ℕ) → (e.section == i) ≡ false → section_at i (bench_worked b e) ≡ section_at i b
  others_unworked i away = get_or-set_other b e.section i (section_worked b e) no_section (λ same. eqb-false e.section i away (sym same))

  -- an event leaves the other sections as they were
  pub others_unchanged : (i : ℕ) → (e.section == i) ≡ false → section_at i (bench_after b e) ≡ section_at i b
  others_unchanged i away = go (verdict_at b e)
    where
      go : (v : Verdict) → section_at i (unless_refused v (bench_worked b e) b) ≡ section_at i b
      go (Ok _) = others_unworked i away
      go (Err r) = refl

  -- and as many as they were
  pub length_bench_after : length (bench_after b e) ≡ length b
  length_bench_after = go (verdict_at b e)
    where
      go : (v : Verdict) → length (unless_refused v (bench_worked b e) b) ≡ length b
      go (Ok _) = length-set b e.section (section_worked b e)
      go (Err r) = refl

module _ (b : BenchState) (e : SectionEvent) (h : History) where
  -- the step of the event by its verdict
  abbrev pub judged_step : Verdict → Step
  judged_step v = record {
    event = e;
    before = b;
    answer = given_that v (outcome (section_at e.section b).section e.event);
    after = unless_refused v (bench_worked b e) b;
  }

  abbrev SafeAfter : ℕ → Verdict → Type 0
  SafeAfter i v = Safe i (section_at i (unless_refused v (bench_worked b e) b)) (h ▸ judged_step v)

  worked_safe : Holds (bench_needs b e) → (e.section == e.section) ≡ true → Safe e.section (section_at e.section b) h → SafeAfter e.section (Ok tt)
  worked_safe ok here safe =
      let became = get_or-set_same b e.section (section_worked b e) no_section (ltb-true e.section (length b) ok.1.0) in
      rw became (safe_after e.section e.section e.event b (bench_worked b e) h here ok.1.1 became safe)

  accepted_safe : (i : ℕ) → Holds (bench_needs b e) → Safe i (section_at i b) h → (q : Bool) → (e.section == i) ≡ q → SafeAfter i (Ok tt)
  accepted_safe i ok safe true here =
      subst (λ (k : ℕ). (e.section == k) ≡ true → Safe k (section_at k b) h → SafeAfter k (Ok tt)) (eqb-true e.section i here) (worked_safe ok) here safe
  accepted_safe i ok safe false away =
      let became = others_unworked b e i away in
      rw became (safe_elsewhere i (judged_step (Ok tt)) h became away safe)

  pub safe_step : (i : ℕ) → Safe i (section_at i b) h → SafeAfter i (verdict_at b e)
  safe_step i safe = go (verdict_at b e) refl
    where
      go : (v : Verdict) → verdict_at b e ≡ v → SafeAfter i v
      go (Ok _) ok = accepted_safe i (held (bench_needs b e) ok) safe (e.section == i) refl
      go (Err r) refused = safe_refused i r e b h safe
