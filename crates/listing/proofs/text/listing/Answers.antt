use Rattle.std.proofs.Common.{◌≡◌, vec_items, string_bytes, sym, ap, ◌∙◌, append_assoc}
use Rattle.listing.specs.Lines.{event_lines, opening_lines}
use Rattle.listing.specs.Listings.{ending_of}
use Rattle.listing.proofs.text.listing.Goals as goal
use Rattle.listing.proofs.text.listing.Goals.{in-Some+in_ok-writeln, in_default}

pub returns : goal.returns
returns c =
    let reading = c.read-outcome.new.self in
    let events = event_lines 0 (vec_items reading.events) in
    let opened : string_bytes c.match-reading.text ≡ opening_lines reading.sections =
    elim c.match-reading.branch [
      | in-Some+in_ok-writeln w ↦ rw (w.text-is, w.in_ok-writeln.ensures.bytes, c.new-text.ensures.bytes, w.in-Some.is)
      | in_default w ↦ rw (w.text-is, c.new-text.ensures.bytes, w.in_default.is)
    ] in
    let told = rw (c.deref.ensures.value, opened) at c.in_ok-write_events.ensures in
    record {
      outcome = c.read-outcome.result;
      sections = reading.sections;
      events = vec_items reading.events;
      ending = c.in_ok-ending.ending;
      told = c.read-outcome.ensures.told;
      exactly = c.read-outcome.ensures.exactly;
      one = c.read-outcome.ensures.one;
      ends = ap (ending_of c.read-outcome.result) (sym (c.len.ensures ∙ reading.events.ok.0)) ∙ sym c.ending_after.ensures ∙ c.in_ok-ending.ensures.ok_part;
      bytes = rw told at c.in_ok-writeln-2.ensures.bytes ∙ append_assoc (opening_lines reading.sections) events _;
    }
