-- What was compared: how many answers, how many that differ, and which was the first, counted from 1; no rule of
-- document 01. Counts wrap at 2^32.
use Rattle.std.specs.Prelude.{◌+◌, ◌%◌, ◌^◌, Bool, true, false, cond, ◌==◌, Some, None}
use Rattle.cases.specs.declared.Tally.{Tally}

-- before the first answer
abbrev pub none : Tally
none = record { compared = 0; differ = 0; first = None }

-- after one answer more, the same as the oracle's or not; with the first that differs it is known which that was
abbrev pub counted : Tally → Bool → Tally
counted t true = record t { compared = (t.compared + 1) % 2 ^ 32 }
counted t false =
    let compared = (t.compared + 1) % 2 ^ 32 in
    record {
      compared = compared;
      differ = (t.differ + 1) % 2 ^ 32;
      first = cond (t.differ == 0) (Some compared) t.first;
    }
