-- The panel: a chip, the clocks that it has run, and whether its bus is watched. Document 01, 'Score and program';
-- document 02, request 5.
use Rattle.std.specs.Prelude.{ℕ, ◌+◌, ◌-◌, min, true, false}
use Rattle.std.specs.Result.{result_unwrap_or}
use Rattle.bus.specs.Bus.{to_expiry}
use Rattle.bus.specs.declared.InternalDataBus.{InternalDataBus}
use Rattle.oscillator.specs.Ways.{Ways, stepwise}
use Rattle.sid.specs.declared.Mos6581.{Mos6581}
use Rattle.sid.specs.declared.Voice.{Voice}
use Rattle.sid.specs.Sid.{fresh as sid_fresh, ticked_by, ticks_by, written as the-written-Sid, read_at, code_of, level_of, named}
use Rattle.panel.specs.declared.Display.{Display}
use Rattle.panel.specs.declared.Leapt.{Leapt}
use Rattle.panel.specs.declared.Panel.{Panel}
use Rattle.panel.specs.declared.PanelRead.{PanelRead}
use Rattle.panel.specs.declared.Shown.{Shown}

-- 'a fresh chip', after no clock
abbrev pub fresh : Panel
fresh = record { chip = sid_fresh; clock = 0; watched = false }

abbrev pub bus_of : Panel → InternalDataBus
bus_of p = p.chip.data_bus

-- one clock
abbrev pub clocked_by : Ways → Panel → Panel
clocked_by w p = record { chip = ticked_by w p.chip; clock = p.clock + 1; watched = p.watched }

-- 'Stamp n means after exactly n clocks of a fresh chip': the chip runs as many clocks as it lacks of the stamp, and
-- each is counted
unfoldable pub ran_to_by : Ways → ℕ → Panel → Panel
ran_to_by w stamp p = record { chip = ticks_by w (stamp - p.clock) p.chip; clock = p.clock + (stamp - p.clock); watched = p.watched }

-- by a chip's ways
abbrev pub ran_to : ℕ → Panel → Panel
ran_to = ran_to_by stepwise

-- the clocks to the stamp, or only to the next that may lose bits
abbrev pub leap : ℕ → Panel → ℕ
leap stamp p = min (stamp - p.clock) (to_expiry (bus_of p))

-- the panel so many clocks on, and the byte before them without the byte after: what the last of them lost, since none
-- before it loses a bit (`leap_lost`, `leap_quiet`)
unfoldable pub leapt_by : Ways → ℕ → Panel → Leapt
leapt_by w stamp p =
    record {
      panel = ran_to_by w (p.clock + leap stamp p) p;
      lost = (bus_of p).value - (bus_of (ran_to_by w (p.clock + leap stamp p) p)).value;
    }

-- 'starts the watching'
abbrev pub watching : Panel → Panel
watching p = record { chip = p.chip; clock = p.clock; watched = true }

abbrev pub written : Panel → ℕ → ℕ → Panel
written p address value = record { chip = the-written-Sid p.chip address value; clock = p.clock; watched = p.watched }

unfoldable pub read_of : Panel → ℕ → PanelRead
read_of p address = record { panel = record { chip = (read_at p.chip address).chip; clock = p.clock; watched = p.watched }; byte = (read_at p.chip address).byte }

-- 'code and level', a voice's
abbrev pub shown : Voice → Shown
shown v = record { code = code_of v; level = level_of v }

-- 'three times, voices 0 to 2'
unfoldable pub levels : Panel → Display
levels p = record { voice_0 = shown p.chip.voice_0; voice_1 = shown p.chip.voice_1; voice_2 = shown p.chip.voice_2 }

-- what the chip's calls tell of the voice that they name; 0 of a refusal
unfoldable pub shown_told : Mos6581 → ℕ → Shown
shown_told c n = record { code = result_unwrap_or (named c n code_of) 0; level = result_unwrap_or (named c n level_of) 0 }
