-- What a reset keeps; and that a chip's cycle counts the ticks since it was made or last reset, for any run of calls.
-- Assumes nothing.
use mathlib.Core.Path.{◌≡◌, refl, ◌∙◌}
use mathlib.Core.List.{List, [], ◌∷◌}
use Prim.Native.Nat.{ℕ, suc, ◌%◌, ◌^◌}
use native.Mathlib.Omega.{arith}
use Rattle.envelope.specs.Envelope.{reset as envelope_reset}
use Rattle.oscillator.specs.Oscillator.{fresh as oscillator_fresh}
use Rattle.oscillator.specs.Ways.{stepwise}
use Rattle.sid.specs.Sid.{fresh, reset_voice, reset, Call, write, read, tick, clear, set_pot_x, set_pot_y, called_by, after_by, after}
use Rattle.sid.specs.declared.Mos6581.{Mos6581}
use Rattle.calls.specs.Calls.{Which, voice_0, voice_1, voice_2, of, clocks_since}
use Rattle.calls.proofs.Voices.{tick_cycle, read_cycle, write_cycle}

-- 'Reset keeps level and rate phase', the phase, and the pots
pub reset_keeps
    : (w : Which) (c : Mos6581)
    → ((of w (reset c)).envelope.volume ≡ (of w c).envelope.volume) × ((of w (reset c)).envelope.rate_phase ≡ (of w c).envelope.rate_phase)
    × ((of w (reset c)).oscillator.tone.accumulator ≡ (of w c).oscillator.tone.accumulator)
    × ((reset c).pot_x ≡ c.pot_x) × ((reset c).pot_y ≡ c.pot_y)
unfolding reset reset_voice envelope_reset oscillator_fresh
reset_keeps voice_0 c = (refl, refl, refl, refl, refl)
reset_keeps voice_1 c = (refl, refl, refl, refl, refl)
reset_keeps voice_2 c = (refl, refl, refl, refl, refl)

-- THE CYCLE COUNTS ticks, modulo 2^64, after any calls: from a chip that has counted n, one just made, one just reset
pub cycle_counts : (calls : List Call) (c : Mos6581) (n : ℕ) → c.cycle ≡ n % 2 ^ 64 → (after calls c).cycle ≡ clocks_since calls n % 2 ^ 64
unfolding after_by called_by clocks_since reset
cycle_counts [] c n e = e
cycle_counts (write address value ∷ calls) c n e = cycle_counts calls _ n (write_cycle c address value ∙ e)
cycle_counts (read address ∷ calls) c n e = cycle_counts calls _ n (read_cycle c address ∙ e)
cycle_counts (tick ∷ calls) c n e = cycle_counts calls _ (suc n) (tick_cycle stepwise c ∙ omega (arith, e))
cycle_counts (clear ∷ calls) c n e = cycle_counts calls _ 0 refl
cycle_counts (set_pot_x value ∷ calls) c n e = cycle_counts calls _ n e
cycle_counts (set_pot_y value ∷ calls) c n e = cycle_counts calls _ n e

pub cycle_counts_fresh : (calls : List Call) → (after calls fresh).cycle ≡ clocks_since calls 0 % 2 ^ 64
unfolding fresh
cycle_counts_fresh calls = cycle_counts calls fresh 0 refl

pub cycle_counts_reset : (calls : List Call) (c : Mos6581) → (after calls (reset c)).cycle ≡ clocks_since calls 0 % 2 ^ 64
unfolding reset
cycle_counts_reset calls c = cycle_counts calls (reset c) 0 refl
