-- A consent that is not refused leaves a record that keeps what every line record keeps. Assumes nothing.
use Rattle.std.proofs.Common.{◌≡◌, Bool, false, Ok, refl, arith}
use Rattle.std.proofs.lemmas.Bool.Decides.{nat_tests}
use Rattle.answer.specs.Answers.{checked}
use Rattle.detector.specs.declared.Reading.{Reading}
use Rattle.events.specs.declared.field.Code.{Code}
use Rattle.events.specs.declared.field.Code.TheVariants as code
use Rattle.line.specs.Changes.{row_after, with_permission}
use Rattle.line.specs.Codes.{code_needs, consent_gives, consent_makes, effective_when_sent}
use Rattle.line.specs.Records.{Kept}
use Rattle.line.specs.declared.role.Role.{Role}
use Rattle.line.specs.declared.role.Role.TheVariants.{Despatching, Receiving}
use Rattle.line.specs.declared.row.Row.{Row}

pub consent_keeps :
    (c : Code) (x : Role) (turned : Bool) (seen : Reading) (r : Row) → effective_when_sent c x ≡ false
    → checked (code_needs c x turned seen r) ≡ Ok tt → Kept r → Kept (with_permission (consent_gives c r.permission) r)
consent_keeps code.IsLineClear x turned seen r e h k = grind (arith, nat_tests)
consent_keeps code.TrainEntering x turned seen r e h k = grind (arith, nat_tests)
consent_keeps code.TrainOut x turned seen r e h k = grind (arith, nat_tests)
consent_keeps code.CancelLast x turned seen r e h k = grind (arith, nat_tests)
consent_keeps code.ObstructionRemoved x turned seen r e h k = grind (arith, nat_tests)
consent_keeps code.Trolley x turned seen r e h k = grind (arith, nat_tests)
consent_keeps code.BlockForward x turned seen r e h k = grind (arith, nat_tests)
consent_keeps code.BlockBack x turned seen r e h k = grind (arith, nat_tests)

pub consent_is :
    (c : Code) (x : Role) (r : Row) → effective_when_sent c x ≡ false
    → with_permission (consent_gives c r.permission) r ≡ row_after (consent_makes c x) r
consent_is code.IsLineClear x r e = refl
consent_is code.TrainEntering x r e = refl
consent_is code.TrainOut x r e = refl
consent_is code.CancelLast x r e = refl
consent_is code.ObstructionRemoved Despatching r e = refl
consent_is code.ObstructionRemoved Receiving r e = grind arith
consent_is code.Trolley x r e = refl
consent_is code.BlockForward x r e = refl
consent_is code.BlockBack x r e = refl
