-- What `Bench::work` has found, decided and put back is what the rules say of the bench. Assumes nothing.
use Rattle.std.proofs.Common.{◌≡◌, ℕ, ◌<◌, length, set, Ok, Err, Result, sym, ap, ◌∙◌}
use Rattle.std.proofs.lemmas.List.{get_or-set_same, set-set}
use Rattle.answer.specs.Answers.{Answer, Verdict, checked, given_that, unless_refused}
use Rattle.answer.specs.declared.Refusal.{Refusal}
use Rattle.answer.proofs.Verdicts.{when_err, when_ok}
use Rattle.block.specs.Tables.{with_detectors, with_section}
use Rattle.events.specs.declared.event.Event.{Event}
use Rattle.runs.specs.Benches.{BenchState, no_section, section_at}
use Rattle.section.specs.Sections.{Readings, actions_of, done_by, needs, outcome, section_after, section_settled, worked_by}
use Rattle.section.specs.States.{SectionState, readings_of, state_after, state_needs, state_readings, told}
use Rattle.section.specs.declared.section.Section.{Section}
use Rattle.section.specs.declared.section.Worked.{Worked}

-- the section at i as it was found, and the answer that its instruments gave
module _ (b : BenchState) (i : ℕ) (e : Event) (within : i < length b) (s : Section) (x : Readings) (w : Result Worked Refusal) where
  abbrev here : SectionState
  here = section_at i b

  abbrev verdict : Verdict
  verdict = checked (state_needs here e)

  -- what the rules answer, and what they leave
  abbrev Answers : Answer → BenchState → Type 0
  Answers a after = (a ≡ given_that verdict (outcome here.section e)) × (after ≡ unless_refused verdict (set b i (state_after here e)) b)

  module _ (found : s ≡ here.section) (read : x ≡ state_readings here) (answered : w ≡ worked_by s x e) where
    judged : w ≡ given_that verdict (done_by here.section e)
    judged = answered ∙ ap (λ t. worked_by t x e) found ∙ ap (λ y. worked_by here.section y e) read

    pub refused : (r : Refusal) → w ≡ Err r → Answers (Err r) b
    refused r err =
        let no = sym (when_err verdict (done_by here.section e) r (sym judged ∙ err)) in
        (ap (λ v. given_that v (outcome here.section e)) no, ap (λ v. unless_refused v (set b i (state_after here e)) b) no)

    pub worked :
        (done : Worked) (t after : Section) (b' b'' : BenchState) (y : Readings) → w ≡ Ok done
        → t ≡ unless_refused (checked (needs s x e)) (section_after s e) s
        → b' ≡ set b i (with_detectors (told done.actions.up here.up) (told done.actions.down here.down) here)
        → y ≡ state_readings (section_at i b') → after ≡ section_settled y t → b'' ≡ set b' i (with_section after (section_at i b'))
        → Answers (Ok done.outcome) b''
    worked done t after b' b'' y ok left tells reads settles puts =
        let yes = when_ok verdict (done_by here.section e) done (sym judged ∙ ok) in
        let u = told done.actions.up here.up in
        let d = told done.actions.down here.down in
        let told_here : section_at i b' ≡ with_detectors u d here = ap (section_at i) tells ∙ get_or-set_same b i (with_detectors u d here) no_section within in
        let changed : t ≡ section_after here.section e =
        left ∙ ap (λ r. unless_refused (checked (needs r x e)) (section_after r e) r) found
        ∙ ap (λ z. unless_refused (checked (needs here.section z e)) (section_after here.section e) here.section) read
        ∙ ap (λ v. unless_refused v (section_after here.section e) here.section) yes.0 in
        let shown : y ≡ readings_of u d = reads ∙ ap state_readings told_here in
        let told_up : u ≡ told (actions_of here.section e).up here.up = ap (λ (z : Worked). told z.actions.up here.up) (sym yes.1) in
        let told_down : d ≡ told (actions_of here.section e).down here.down = ap (λ (z : Worked). told z.actions.down here.down) (sym yes.1) in
        let put : with_section after (with_detectors u d here) ≡ state_after here e = cc (settles, shown, changed, told_up, told_down) in
        let made : with_section after (section_at i b') ≡ state_after here e = ap (with_section after) told_here ∙ put in (
          ap (λ (z : Worked). Ok z.outcome) (sym yes.1) ∙ ap (λ v. given_that v (outcome here.section e)) (sym yes.0),
          puts ∙ ap (λ v. set b' i v) made ∙ ap (λ l. set l i (state_after here e)) tells ∙ set-set b i (with_detectors u d here) (state_after here e)
              ∙ ap (λ v. unless_refused v (set b i (state_after here e)) b) (sym yes.0),
        )
