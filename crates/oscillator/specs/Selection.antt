-- The four waveform bits: document 01, 'Oscillator'; WaveformSelect of oscillator.rs.
use Rattle.std.specs.Prelude.{ℕ, ◌%◌, Bool, cond, not, ◌==◌, bit_and, nat_lt}
use Rattle.waveforms.specs.Waveforms.{drivers}
use Rattle.oscillator.specs.declared.WaveformSelect.{WaveformSelect}

-- a selection counts by its low four bits (from_raw)
abbrev pub select : ℕ → WaveformSelect
select raw = record { raw = raw % 16 }

-- no waveform is selected (is_off)
abbrev pub is_off : WaveformSelect → Bool
is_off s = s.raw == 0

-- a bit of a flag is set: 1 triangle, 2 saw, 4 pulse, 8 noise (has)
abbrev pub has : WaveformSelect → ℕ → Bool
has s flag = not (bit_and s.raw flag == 0)

-- two waveforms or more are selected (is_combined)
abbrev pub is_combined : WaveformSelect → Bool
is_combined s = nat_lt 1 (drivers s.raw)

-- 'Selected lines are joined by and' (combine): one waveform, then all four
abbrev pub joined : WaveformSelect → ℕ → ℕ → ℕ → ℕ
joined s flag wave lines = cond (has s flag) (bit_and lines wave) lines

unfoldable pub combined : WaveformSelect → ℕ → ℕ → ℕ → ℕ → ℕ → ℕ
combined s tri saw pulse noise open_bus =
    cond (is_off s) open_bus (joined s 8 noise (joined s 4 pulse (joined s 2 saw (joined s 1 tri 0xfff))))
