-- What a reading tells is what the sheet holds, at each step of the code.
use Rattle.std.proofs.Common.{◌≡◌, ℕ, ◌<◌, List, Option, [], ◌∷◌, ◌++◌, length, is_ok, None, Err, vec_items, Result, refl, ap, ◌∙◌, arith, rules}
use Rattle.std.proofs.ResultArms.{chosen}
use Rattle.std.proofs.lemmas.Result.{err_from_is_err_and}
use Rattle.events.specs.declared.event.LocatedEvent.{LocatedEvent}
use Rattle.format.specs.declared.fault.RunFault.{RunFault}
use Rattle.format.specs.declared.fault.RunFault.TheVariants.{Read}
use Rattle.format.specs.Numbers.{Bytes}
use Rattle.format.specs.Openings.{count_at, opening}
use Rattle.format.specs.Sheets.{AnswersExactly, OneReading, Outcome, Told}
use Rattle.format.proofs.Exactness.{answers_exactly, one_reading}
use Rattle.format.proofs.Progress.{Progress, more, opening_long, opening_short, start, told_end, told_fault, told_memory, told_opening}
use Rattle.reader.proofs.reading.Reading.read.Goals as goal
use Rattle.reader.proofs.reading.Reading.read.Goals.{In_ok-cursor, In_ok-push}

-- what is told says all that the answer is
told_whole :
    (s : List ℕ) (r : Outcome) (sections : Option ℕ) (events : List LocatedEvent) → Told s r sections events
    → record { told : Told s r sections events; exactly : AnswersExactly s r; one : OneReading s }
told_whole s r sections events told = record { told = told; exactly = answers_exactly s r sections events told; one = one_reading s }

-- what the count's call answers is what the sheet opens with
opened : (c : In_ok-cursor) (r : Result (ℕ × ℕ) RunFault) → count_at c.in_ok-cursor.cursor.sheet.now c.in_ok-cursor.cursor.at ≡ r → opening c.args.sheet.now ≡ r
opened c r e =
    let o = c.in_ok-cursor.ensures in
    opening_short c.args.sheet.now r o.0 (rw (o.1, o.2) at e)

pub returns-in_err-cursor : goal.returns-in_err-cursor
returns-in_err-cursor c =
    let p = err_from_is_err_and c.from_residual.result c.from_residual.ensures.1 in
    let s = c.args.sheet.now in
    let o = c.in_err-cursor.ensures in
    let bytes : Bytes s = search rules in
    let told : Told s (Err (Read c.in_err-cursor.field-0.0)) None [] = told_opening bytes (rw o.1 (opening_long s o.0)) in
    rw (p.1, p.2, c.forget.ensures.0, c.forget.ensures.1) (told_whole s _ _ _ told)

pub returns-in_err-sections : goal.returns-in_err-sections
returns-in_err-sections c =
    let p = err_from_is_err_and c.from_residual-in_err-sections.result c.from_residual-in_err-sections.ensures.1 in
    let s = c.args.sheet.now in
    let bytes : Bytes s = search rules in
    let told = told_opening bytes (opened (goal.at.returns-in_err-sections c).In_ok-cursor _ c.in_err-sections.ensures.answer) in
    rw (p.1, p.2, c.forget.ensures.0, c.forget.ensures.1) (told_whole s _ _ _ told)

pub loop-event-init : goal.loop-event-init
loop-event-init c =
    let o = c.in_ok-cursor.ensures in
    let s = c.args.sheet.now in
    let bytes : Bytes s = search rules in
    let first = start bytes (opened (goal.at.loop-event-init c).In_ok-cursor _ c.in_ok-sections.ensures.answer) in
    (c.sections.ensures.sheet ∙ o.1, (_, refl, rw c.forget.ensures.1 first))

pub returns-in_err-event : goal.returns-in_err-event
returns-in_err-event c =
    let p = err_from_is_err_and c.from_residual-in_err-event.result c.from_residual-in_err-event.ensures.1 in
    let s = c.args.sheet.now in
    let inv = c.loop-event.invariant in
    let told = told_fault inv.1.2 (rw inv.0 at c.in_err-event.ensures.answer.0) in
    rw (p.1, p.2, inv.1.1) (told_whole s _ _ _ told)

-- the event that was read, and where the next one begins
further :
    (c : In_ok-push)
    → Progress c.args.sheet.now c.loop-event.invariant.1.0 c.event.new.self.at (vec_items c.loop-event.self.events ++ c.in-Some.event ∷ [])
    × (c.loop-event.cursor.at < length c.args.sheet.now) × (c.loop-event.cursor.at < c.event.new.self.at)
further c =
    let inv = c.loop-event.invariant in
    more inv.1.2 (rw (inv.0, c.in-Some.is) at c.in_ok-event.ensures.answer)

pub loop-event-smaller : goal.loop-event-smaller
loop-event-smaller c = let f = further (goal.at.loop-event-smaller c).In_ok-push in omega (arith, f.1, f.2)

pub loop-event-preserved : goal.loop-event-preserved
loop-event-preserved c =
    let inv = c.loop-event.invariant in
    let f = further (goal.at.loop-event-preserved c).In_ok-push in
    let pushed = chosen _ _ _ _ c.push.ensures.items (ap is_ok c.in_ok-push.was) in
    (c.event.ensures.sheet ∙ inv.0, (inv.1.0, inv.1.1, rw pushed f.0))

pub returns-in_err-push : goal.returns-in_err-push
returns-in_err-push c =
    let p = err_from_is_err_and c.from_residual-in_err-push.result c.from_residual-in_err-push.ensures.1 in
    let s = c.args.sheet.now in
    let inv = c.loop-event.invariant in
    let told = told_memory inv.1.2 (rw (inv.0, c.in-Some.is) at c.in_ok-event.ensures.answer) in
    rw (p.1, p.2, inv.1.1, c.in_err-push.ensures.items) (told_whole s _ _ _ told)

pub returns : goal.returns
returns c =
    let s = c.args.sheet.now in
    let inv = c.loop-event.invariant in
    let told = told_end inv.1.2 (rw (inv.0, c.in_default.is) at c.in_ok-event.ensures.answer) in
    rw inv.1.1 (told_whole s _ _ _ told)
