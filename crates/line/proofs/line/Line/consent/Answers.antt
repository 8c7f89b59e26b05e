use Rattle.std.proofs.Common.{rules, ◌≡◌, Ok, sym, ap, ◌∙◌}
use Rattle.answer.specs.Answers.{checked, unless_refused}
use Rattle.events.specs.Tests.{turn_is}
use Rattle.line.specs.Changes.{row_after, with_permission}
use Rattle.line.specs.Codes.{acknowledged_with, code_needs, consent_makes}
use Rattle.line.proofs.Consents.{consent_is, consent_keeps}
use Rattle.line.proofs.line.Line.consent.Goals as goal
use Rattle.line.proofs.line.Line.consent.Goals.{In_ok-check}

-- all that the code needs holds
allowed : (c : In_ok-check) → checked (code_needs c.args.sending.code c.args.sending.role (turn_is c.args.turn (acknowledged_with c.args.sending.code c.self.inside.row.permission)) c.args.reading c.self.inside.row) ≡ Ok tt
allowed c =
    let turned : c.eq.result ≡ turn_is c.args.turn (acknowledged_with c.args.sending.code c.self.inside.row.permission) = search rules in
    ap (λ t. checked (code_needs c.args.sending.code c.args.sending.role t c.args.reading c.self.inside.row)) (sym turned)
    ∙ sym c.check.ensures ∙ c.in_ok-check.was

pub invariant_of-self : goal.invariant_of-self
invariant_of-self c =
    rw c.consented-self-inside.ensures
    (consent_keeps _ _ _ _ c.self.inside.row c.requires (allowed (goal.at.invariant_of-self c).In_ok-check) c.self.invariant)

pub returns : goal.returns
returns c =
    let r = c.self.inside.row in
    let ok = allowed (goal.at.returns c).In_ok-check in
    let made = ap (λ p. with_permission p r) c.consented-self-inside.ensures ∙ consent_is c.args.sending.code c.args.sending.role r c.requires in
    rw (← c.self.view_is) (record { answer = sym ok; row = made ∙ ap (λ v. unless_refused v (row_after (consent_makes c.args.sending.code c.args.sending.role) r) r) (sym ok) })
