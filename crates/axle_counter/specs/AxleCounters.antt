-- What an axle counter keeps, and what it means by that.
use Rattle.axle_counter.specs.Totals.{Totals, totals_meaning}
use Rattle.axle_counter.specs.declared.AxleCounter.{AxleCounter}
use Rattle.detector.specs.Meaning.{Meaning}

abbrev pub totals_of : AxleCounter → Totals
totals_of c = record { in_total = c.in_total; out_total = c.out_total; failed = c.failed }

abbrev pub counter_meaning : AxleCounter → Meaning
counter_meaning c = totals_meaning (totals_of c)
