-- What the scenes of tools/bench with the plain engine have of their own; no rule of document 01.
use Rattle.std.specs.Prelude.{ℕ, ◌+◌, ◌*◌, ◌/◌, ◌%◌, cond, eqb}
use Rattle.sid.specs.Sid.{written, ticks}
use Rattle.sid.specs.declared.Mos6581.{Mos6581}
use Rattle.scenes.specs.Scenes.{scene}

-- three voices after a hundred clocks, with no waveform selected any more
unfoldable pub afloat : ℕ → Mos6581
afloat control = written (written (written (ticks 100 (scene control)) 0x04 0x01) 0x0b 0x01) 0x12 0x01

-- a value for a register: control bytes select one waveform at most
unfoldable pub value_for : ℕ → ℕ → ℕ
value_for register seed = cond (eqb (register % 7) 4) (seed / 256 % 16 + seed % 3 * 32) (seed / 256)
