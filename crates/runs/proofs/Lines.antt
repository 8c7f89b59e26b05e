-- What every run keeps of one line, over each change that can happen to it. Assumes nothing.
use Rattle.std.proofs.Common.{◌≡◌, ℕ, ◌+◌, ◌-◌, ◌<◌, true, false, cond, refl, subst, arith, nat_lt}
use Rattle.std.proofs.lemmas.Bool.Decides.{Decides-at, nat_tests}
use Rattle.detector.specs.Meaning.{Meaning, fresh, reading_of, reads_clear}
use Rattle.detector.specs.declared.Reading.{Reading}
use Rattle.events.specs.Tests.{is_reversed}
use Rattle.line.specs.Changes.{Change, action_of, half_called, row_after, settled, unchanged, reset_called, resume_called}
use Rattle.line.specs.Records.{end_is, fresh_row, is_blocked, is_off, needle_is, permit_is, running_trolley, unused_train, used_train}
use Rattle.line.specs.declared.row.Calls.{Calls}
use Rattle.line.specs.declared.row.End.TheVariants.{NotEnded}
use Rattle.line.specs.declared.row.Needle.TheVariants.{Closed, Clear}
use Rattle.line.specs.declared.row.Permission.{Permission}
use Rattle.line.specs.declared.row.Permit.TheVariants.{Nothing}
use Rattle.line.specs.declared.row.Row.{Row}
use Rattle.section.specs.States.{told}
use Rattle.runs.specs.Histories.{History, Step, ◌▸◌, start}
use Rattle.runs.specs.Laws as law
use Rattle.runs.specs.Laws.{Lawful, Place, account, axles, blocking, calls_reset, calls_resume, clear_after, leaves, occupants, off_before, one_if, orderly, passes, spent, trains, trolley, unused}
use Rattle.runs.proofs.Legal.{Legal, permission_before}
use Rattle.runs.proofs.Observed.{Says}
use Rattle.runs.proofs.Signal.{reversal_stands, tellings_agree, train_stands}

-- the detector after a change
abbrev pub meaning_after : Change → Row → Meaning → Meaning
meaning_after c r m = told (action_of c r) m

-- the record after it, where the signals have followed the detector
abbrev pub settled_after : Change → Row → Meaning → Row
settled_after c r m = settled (reading_of (meaning_after c r m)) (row_after c r)

-- The record by itself.

pub record SoundPermission (g : Permission) : Type 0 where
  pub closed_is_nothing : needle_is Closed g ≡ permit_is Nothing g
  pub ended_is_used : end_is NotEnded g ≡ false → g.used ≡ true

pub record SoundSignals (r : Row) : Type 0 where
  pub off_is_clear : is_off r.signals.stop ≡ true → needle_is Clear r.permission ≡ true
  pub off_is_unused : is_off r.signals.stop ≡ true → unused_train r.permission ≡ true
  pub off_is_reversed : is_off r.signals.stop ≡ true → is_reversed r.signals.stop_control ≡ true
  pub off_is_worked : is_off r.signals.stop ≡ true → r.signals.suspended ≡ false

pub record Sound (r : Row) (m : Meaning) : Type 0 where
  pub permission : SoundPermission r.permission
  pub signals : SoundSignals r
  pub off_reads_clear : is_off r.signals.stop ≡ true → reads_clear m ≡ true

-- The last clause of each proof by cases stands for every change that no clause above it takes; `_` keeps from the tactic
-- what it does not need.

module _ (r : Row) (m : Meaning) where
  permission_after : (c : Change) → permission_before c r.permission ≡ true → SoundPermission r.permission → SoundPermission (row_after c r).permission
  permission_after unchanged l s = grind (arith, nat_tests)
  permission_after c l s = grind (arith, nat_tests)

  signals_after : (c : Change) → Legal c r m → SoundPermission r.permission → SoundSignals r → SoundSignals (row_after c r)
  signals_after unchanged l s o = grind (arith, nat_tests)
  signals_after c l s o = grind (arith, nat_tests)

settled_signals : (x : Reading) (r : Row) → SoundSignals r → SoundSignals (settled x r)
settled_signals x r o = grind (arith, nat_tests)

sound_after : (c : Change) (r : Row) (m : Meaning) → Legal c r m → Sound r m → Sound (settled_after c r m) (meaning_after c r m)
sound_after c r m l s = record {
  permission = permission_after r m c l.0 s.permission;
  signals = settled_signals (reading_of (meaning_after c r m)) (row_after c r) (signals_after r m c l s.permission s.signals);
  off_reads_clear = grind (arith, nat_tests);
}

-- the signals of a sound record have followed the detector
settled_before : (r : Row) (m : Meaning) → Sound r m → settled (reading_of m) r ≡ r
settled_before r m s = grind (arith, nat_tests)

-- The record and the history.

-- who has called
pub record KeptCalls (called : Calls) (p : Place) (h : History) : Type 0 where
  pub reset : law.half_called calls_reset p h ≡ half_called called.reset
  pub resume : law.half_called calls_resume p h ≡ half_called called.resume

-- who uses the line
pub record KeptUses (g : Permission) (called : Calls) (p : Place) (h : History) : Type 0 where
  pub calls : KeptCalls called p h
  pub trolley : trolley p h ≡ running_trolley g
  pub blocking : blocking p h ≡ is_blocked g

-- the account of line clears, and the signal
pub record KeptLineClear (r : Row) (p : Place) (h : History) : Type 0 where
  pub account : (account p h).given ≡ spent (account p h) + unused r
  pub signal : is_off r.signals.stop ≡ reversal_stands p h
  pub train : train_stands p h ≡ unused_train r.permission

-- the axles of the one train that an orderly run leaves on the line
abbrev pub remaining : Place → History → ℕ
remaining p start = 0
remaining p (h ▸ x) = cond (passes p x) (axles x) 0 + (remaining p h - cond (leaves p x) (axles x) 0)

pub record KeptTrains (g : Permission) (m : Meaning) (p : Place) (h : History) : Type 0 where
  pub one_train : orderly p h ≡ true → (out : ℕ) → trains p out h ≡ one_if (nat_lt out (remaining p h))
  pub counted : orderly p h ≡ true → m.failed ≡ false → m.axles ≡ remaining p h
  pub permitted : orderly p h ≡ true → 0 < remaining p h → used_train g ≡ true

pub record Kept (r : Row) (m : Meaning) (p : Place) (h : History) : Type 0 where
  pub sound : Sound r m
  pub uses : KeptUses r.permission r.calls p h
  pub line_clear : KeptLineClear r p h
  pub trains : KeptTrains r.permission m p h

-- the step x is from the record r to the detector m
pub record Between (r : Row) (m : Meaning) (p : Place) (x : Step) : Type 0 where
  pub off : off_before p x ≡ is_off r.signals.stop
  pub clear : clear_after p x ≡ reads_clear m

module _ (r : Row) (m : Meaning) (p : Place) (x : Step) (h : History) where
  uses_after : (c : Change) → Legal c r m → Sound r m → Says c p x h → KeptUses r.permission r.calls p h
      → KeptUses (row_after c r).permission (row_after c r).calls p (h ▸ x)
  uses_after (resume_called a) _ _ w u = grind (arith, nat_tests)
  uses_after c l s w u = grind (arith, nat_tests)

  line_clear_after : (c : Change) → Legal c r m → Sound r m → Says c p x h → Between r (meaning_after c r m) p x → KeptCalls r.calls p h
      → KeptLineClear r p h → KeptLineClear (settled_after c r m) p (h ▸ x)
  line_clear_after (resume_called a) l s w _ u i = record {
    account = grind (arith, nat_tests);
    signal = grind (arith, nat_tests);
    train = grind (arith, nat_tests);
  }
  line_clear_after c l s w b u i = grind (arith, nat_tests)

  trains_after : (c : Change) → Legal c r m → Sound r m → Says c p x h → Between r (meaning_after c r m) p x → KeptCalls r.calls p h
      → KeptTrains r.permission m p h → KeptTrains (row_after c r).permission (meaning_after c r m) p (h ▸ x)
  trains_after (reset_called a) _ _ w _ u i = grind (arith, nat_tests)
  trains_after (resume_called a) _ _ w _ u i = grind (arith, nat_tests)
  trains_after c l s w b u i = grind (arith, nat_tests)

  pub kept_after : (c : Change) → Legal c r m → Says c p x h → Between r (meaning_after c r m) p x → Kept r m p h
      → Kept (settled_after c r m) (meaning_after c r m) p (h ▸ x)
  kept_after c l w b k = record {
    sound = sound_after c r m l k.sound;
    uses = uses_after c l k.sound w k.uses;
    line_clear = line_clear_after c l k.sound w b k.uses.calls k.line_clear;
    trains = trains_after c l k.sound w b k.uses.calls k.trains;
  }

  -- over a refused event, or one elsewhere
  pub kept_still : Says unchanged p x h → Between r m p x → Kept r m p h → Kept r m p (h ▸ x)
  kept_still w b k = subst (λ (s : Row). Kept s m p (h ▸ x)) (settled_before r m k.sound) (kept_after unchanged (refl, refl, refl) w b k)

pub kept_fresh : (p : Place) → Kept fresh_row fresh p start
kept_fresh p = grind (arith, nat_tests)

-- The laws.

pub lawful : (r : Row) (m : Meaning) (p : Place) (h : History) → Kept r m p h → Lawful p r h
lawful r m p h k = record {
  account = k.line_clear.account;
  one_unused = grind (arith, nat_tests);
  signal = Decides-at (is_off r.signals.stop) (reversal_stands p h) k.line_clear.signal (tellings_agree p h);
  occupancy = λ o. grind (arith, nat_tests);
}
