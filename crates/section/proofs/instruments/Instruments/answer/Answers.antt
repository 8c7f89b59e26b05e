use Rattle.std.proofs.Common.{rules, ◌≡◌, Ok, Err, ap, sym, ◌∙◌}
use Rattle.std.proofs.lemmas.Result.{err_from_is_err_and}
use Rattle.answer.proofs.Verdicts.{when_err, when_ok}
use Rattle.answer.specs.Answers.{checked, given_that, unless_refused}
use Rattle.bell.specs.Bells.{bell_needs}
use Rattle.section.specs.Sections.{done_by, lines_after, section_after}
use Rattle.section.proofs.Answers.{refused_by_lines}
use Rattle.section.proofs.instruments.Instruments.answer.Goals as goal
use Rattle.section.proofs.instruments.Instruments.answer.Goals.{In_ok-hear}

-- the bell of the section was ready
heard : (c : In_ok-hear) → checked (bell_needs c.args.self.now.bell c.args.event) ≡ Ok tt
heard c = rw (← c.self.view_is) (sym c.hear.ensures.answer ∙ c.in_ok-hear.was)

pub returns-in_err-worked : goal.returns-in_err-worked
returns-in_err-worked c =
    let s = c.args.self.now in
    let heard = heard (goal.at.returns-in_err-worked c).In_ok-hear in
    let refused = when_err _ _ _ (sym c.work.ensures.answer ∙ c.in_err-worked.was) in
    let all = refused_by_lines s c.args.readings c.args.event c.in_err-worked.field-0.0 heard refused in
    let told = err_from_is_err_and c.from_residual-in_err-worked.result c.from_residual-in_err-worked.ensures.1 in
    record {
      answer = told.1 ∙ ap Err told.2 ∙ ap (λ v. given_that v (done_by s c.args.event)) (sym all);
      section =
          c.work.ensures.section ∙ ap (λ v. unless_refused v (lines_after s c.args.event) s) refused
          ∙ ap (λ v. unless_refused v (section_after s c.args.event) s) (sym all);
    }

pub returns-clause-section : goal.returns-clause-section
returns-clause-section c =
    let held = when_ok _ _ _ (sym c.work.ensures.answer ∙ c.in_ok-worked.was) in
    search rules
