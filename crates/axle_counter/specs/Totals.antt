-- Two totals that go round, and the count that they tell. This page assumes nothing.
use Rattle.std.specs.Prelude.{Bool, true, false, if◌then◌else◌, ℕ, ◌+◌, ◌-◌, ◌%◌, min, nat_le}
use Rattle.detector.specs.Meaning.{Meaning, limit, counting}

-- a total goes round to 0 here
abbrev pub round : ℕ
round = 1024

-- the axles that went in and have not come out
abbrev pub axles_between : ℕ → ℕ → ℕ
axles_between i o = (i + round - o) % round

pub record Totals : Type 0 where
  pub in_total : ℕ
  pub out_total : ℕ
  pub failed : Bool

abbrev pub axles_of : Totals → ℕ
axles_of t = axles_between t.in_total t.out_total

abbrev pub totals_meaning : Totals → Meaning
totals_meaning t = counting (axles_of t) t.failed

abbrev pub no_totals : Totals
no_totals = record { in_total = 0; out_total = 0; failed = false }

-- the in-total gains what there is room for
abbrev pub totals_in : ℕ → Totals → Totals
totals_in k t =
    let room = limit - axles_of t in
    record {
      in_total = (t.in_total + min k room) % round;
      out_total = t.out_total;
      failed = if nat_le k room then t.failed else true;
    }

-- the out-total gains what there is to come out
abbrev pub totals_out : ℕ → Totals → Totals
totals_out k t =
    record {
      in_total = t.in_total;
      out_total = (t.out_total + min k (axles_of t)) % round;
      failed = if nat_le k (axles_of t) then t.failed else true;
    }

abbrev pub totals_failing : Totals → Totals
totals_failing t = record { in_total = t.in_total; out_total = t.out_total; failed = true }
