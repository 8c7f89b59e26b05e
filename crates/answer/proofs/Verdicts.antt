-- What a verdict was, by what is answered where it holds. Assumes nothing.
use Rattle.std.proofs.Common.{◌≡◌, Ok, Err, refl, arith}
use Rattle.answer.specs.Answers.{Verdict, given_that}
use Rattle.answer.specs.declared.Refusal.{Refusal}

pub when_ok : {A : Type 0} (v : Verdict) (w x : A) → given_that v w ≡ Ok x → (v ≡ Ok tt) × (w ≡ x)
when_ok (Ok _) w x e = (refl, grind arith)
when_ok (Err r) w x e = grind arith

pub when_err : {A : Type 0} (v : Verdict) (w : A) (r : Refusal) → given_that v w ≡ Err r → v ≡ Err r
when_err (Ok _) w r e = grind arith
when_err (Err f) w r e = grind arith
