use Rattle.std.proofs.Common.{◌≡◌, ◌-◌, take, drop, sum}
use Rattle.track_row.specs.Tracks.{taken}
use Rattle.track_row.proofs.TrackRow.take_off.Given as goal

-- the tracks below are as before, the others have given, and so many axles are still to be taken
abbrev pub invariant-loop-track : goal.invariant-loop-track
invariant-loop-track l =
    record {
      below : take l.track l.self.tracks ≡ take l.track l.initial.self.tracks;
      above : drop l.track l.self.tracks ≡ taken l.axles (drop l.track l.initial.self.tracks);
      to_take : l.rest ≡ l.axles - sum (drop l.track l.initial.self.tracks);
      failed : l.self.failed ≡ l.initial.self.failed;
    }
