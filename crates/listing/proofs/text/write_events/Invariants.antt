use Rattle.std.proofs.Common.{◌≡◌, ◌++◌, drop, string_bytes}
use Rattle.listing.specs.Lines.{event_lines}
use Rattle.listing.proofs.text.write_events.Given as goal

-- what is written, with the lines that are still to come, is the whole
abbrev pub invariant-loop-index : goal.invariant-loop-index
invariant-loop-index l =
    string_bytes l.text ++ event_lines l.index (drop l.index l.events)
    ≡ string_bytes l.initial.text ++ event_lines 0 l.events
