-- What the scenes of the tail planner give; no rule of document 01.
use Rattle.std.specs.Prelude.{ℕ, zero, suc, ◌+◌, ◌%◌, ◌^◌, Result, Ok, Err}
use Rattle.sid.specs.Sid.{fresh}
use Rattle.sid.specs.declared.Mos6581.{Mos6581}
use Rattle.refusals.specs.Refusals.{Told}
use Rattle.tail.specs.Tail.{forecast_of}

-- voice 0 at another level
unfoldable pub at_level : Mos6581 → ℕ → Mos6581
at_level c level = record c { voice_0 = record c.voice_0 { envelope = record c.voice_0.envelope { volume = level } } }

abbrev pub clocks_told : Result ℕ Told → ℕ
clocks_told (Ok n) = n
clocks_told (Err t) = 0

-- n forecasts, summed
unfoldable pub forecasts : ℕ → ℕ
forecasts zero = 0
forecasts (suc n) = (forecasts n + clocks_told (forecast_of (at_level fresh (n % 256)) 0)) % 2 ^ 64
