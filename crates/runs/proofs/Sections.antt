-- What every run keeps of one section, over an event in it, a refused event and an event elsewhere. Assumes nothing.
use Rattle.std.proofs.Common.{◌≡◌, ℕ, true, false, cond, ◌&&◌, List, refl, Ok, Err, arith, ◌==◌}
use Rattle.answer.specs.Answers.{answer_number}
use Rattle.answer.specs.declared.Refusal.{Refusal}
use Rattle.bell.specs.Bells.{bell_after}
use Rattle.bell.specs.declared.Bell.{Bell}
use Rattle.events.specs.Written.{fields_in, is_kind}
use Rattle.events.specs.declared.event.Event.{Event}
use Rattle.events.specs.declared.event.Event.TheVariants as event
use Rattle.events.specs.declared.event.SectionEvent.{SectionEvent}
use Rattle.events.specs.declared.field.Direction.{Direction}
use Rattle.events.specs.declared.field.Direction.TheVariants.{Up, Down}
use Rattle.events.specs.declared.field.Kind.TheVariants as kind
use Rattle.line.specs.Changes.{unchanged}
use Rattle.std.proofs.lemmas.Bool.Decides.{nat_tests}
use Rattle.section.specs.Sections.{change_on, outcome, row_of}
use Rattle.section.specs.States.{SectionState, detector_on, fresh_state, state_after, state_needs}
use Rattle.section.specs.declared.section.Section.{Section}
use Rattle.runs.specs.Benches.{BenchState, section_at}
use Rattle.runs.specs.Histories.{History, Step, ◌▸◌, start}
use Rattle.runs.specs.Laws.{Place, clear_after, last_send, off_before, row_at}
use Rattle.runs.proofs.Legal.{Holds, legal}
use Rattle.runs.proofs.Lines.{Between, Kept, kept_after, kept_fresh, kept_still}
use Rattle.runs.proofs.Observed.{Says}
use Rattle.runs.proofs.Steps.{Heard, refused_says_nothing, says_accepted, says_nothing_elsewhere}

-- one line of the section i
abbrev pub line_of : ℕ → Direction → Place
line_of i l = record { section = i; line = l }

-- the section i stands so after the history h
pub record Safe (i : ℕ) (v : SectionState) (h : History) : Type 0 where
  pub heard : Heard v.section.bell (last_send i h)
  pub lines : (l : Direction) → Kept (row_of l v.section) (detector_on l v) (line_of i l) h

pub safe_fresh : (i : ℕ) → Safe i fresh_state start
safe_fresh i = record { heard = tt; lines = elim [ Up ↦ kept_fresh (line_of i Up) | Down ↦ kept_fresh (line_of i Down) ] }

-- a step is from the line as it was to the detector that it leaves
between : (p : Place) (x : Step) (v : SectionState) → section_at p.section x.after ≡ v → Between (row_at p x.before) (detector_on p.line v) p x
unfolding off_before clear_after
between p x v became = record { off = refl; clear = rw became refl }

-- An event in the section, where all that it needs holds.

-- the bell keeps what was sent
heard_after : (b : Bell) (sent : List ℕ) (s : Section) (e : Event) → Heard b sent
    → Heard (bell_after b e) (cond (is_kind kind.Send e && answer_number (Ok (outcome s e)) == 0) (fields_in e) sent)
heard_after b sent s (event.Call a) o = grind arith
heard_after b sent s e o = grind arith

module _ (i j : ℕ) (e : Event) (before after : BenchState) (h : History) (here : (j == i) ≡ true) where
  abbrev state : SectionState
  state = section_at i before

  abbrev accepted : Step
  accepted = record { event = record { section = j; event = e }; before = before; answer = Ok (outcome state.section e); after = after }

  pub safe_after : Holds (state_needs state e) → section_at i after ≡ state_after state e → Safe i state h → Safe i (state_after state e) (h ▸ accepted)
  safe_after ok became safe = record {
    heard = rw here (heard_after state.section.bell (last_send i h) state.section e safe.heard);
    lines = lines;
  }
    where
      says : (l : Direction) → Says (change_on l state.section e) (line_of i l) accepted h
      says l = says_accepted i j l before after h here state.section e ok.0 safe.heard

      stands : (l : Direction) → Between (row_of l state.section) (detector_on l (state_after state e)) (line_of i l) accepted
      stands l = between (line_of i l) accepted (state_after state e) became

      lines : (l : Direction) → Kept (row_of l (state_after state e).section) (detector_on l (state_after state e)) (line_of i l) (h ▸ accepted)
      lines Up = kept_after state.section.lines.up state.up (line_of i Up) accepted h (change_on Up state.section e) (legal state Up e ok) (says Up) (stands Up) (safe.lines Up)
      lines Down = kept_after state.section.lines.down state.down (line_of i Down) accepted h (change_on Down state.section e) (legal state Down e ok) (says Down) (stands Down) (safe.lines Down)

-- An event that leaves the section as it was.

module _ (i : ℕ) (x : Step) (h : History) (became : section_at i x.after ≡ section_at i x.before) where
  abbrev stood : SectionState
  stood = section_at i x.before

  safe_still : last_send i (h ▸ x) ≡ last_send i h → ((l : Direction) → Says unchanged (line_of i l) x h) → Safe i stood h → Safe i stood (h ▸ x)
  safe_still sent says safe = record {
    heard = rw sent safe.heard;
    lines = λ l. kept_still (row_of l stood.section) (detector_on l stood) (line_of i l) x h (says l) (between (line_of i l) x stood became) (safe.lines l);
  }

  pub safe_elsewhere : (x.event.section == i) ≡ false → Safe i stood h → Safe i stood (h ▸ x)
  safe_elsewhere away safe = safe_still (rw away refl) (λ l. says_nothing_elsewhere (line_of i l) x h away) safe

pub safe_refused : (i : ℕ) (r : Refusal) (e : SectionEvent) (b : BenchState) (h : History) → Safe i (section_at i b) h
    → Safe i (section_at i b) (h ▸ record { event = e; before = b; answer = Err r; after = b })
safe_refused i r e b h safe =
    safe_still i (record { event = e; before = b; answer = Err r; after = b }) h refl (grind (arith, nat_tests)) (λ l. refused_says_nothing (line_of i l) r e b h) safe
