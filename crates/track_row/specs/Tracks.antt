-- What is done to the axles on a row of tracks, listed from track 0 up. This page assumes nothing.
use Rattle.std.specs.Prelude.{ℕ, ◌+◌, ◌-◌, min, if◌then◌else◌, List, [], ◌∷◌, replicate, sum, nat_lt, slice_index, slice_set}
use Rattle.detector.specs.Meaning.{limit}

abbrev pub track_count : ℕ
track_count = 8

abbrev pub no_axles : List ℕ
no_axles = replicate track_count 0

-- k axles more on track t
abbrev pub with_more : ℕ → ℕ → List ℕ → List ℕ
with_more k t xs = slice_set xs t (slice_index xs t + k)

-- track 0 gains what there is room for
abbrev pub tracks_in : ℕ → List ℕ → List ℕ
tracks_in k xs = with_more (min k (limit - sum xs)) 0 xs

-- k axles fewer: a track gives only what the higher ones could not
abbrev pub taken : ℕ → List ℕ → List ℕ
taken k [] = []
taken k (x ∷ xs) = (x - (k - sum xs)) ∷ taken k xs

-- all of track t moves to the next one; from the last track, or past it, nothing moves
abbrev pub tracks_rolled : ℕ → List ℕ → List ℕ
tracks_rolled t xs = if nat_lt (t + 1) track_count then with_more (slice_index xs t) (t + 1) (slice_set xs t 0) else xs
