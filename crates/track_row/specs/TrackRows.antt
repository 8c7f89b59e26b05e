-- What a track row means.
use Rattle.std.specs.Prelude.{sum}
use Rattle.detector.specs.Meaning.{Meaning, counting}
use Rattle.track_row.specs.declared.TrackRow.{TrackRow}

abbrev pub row_meaning : TrackRow → Meaning
row_meaning r = counting (sum r.tracks) r.failed
