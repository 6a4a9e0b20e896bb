-- Demand 3, the rise, the start of a note and 'Sustain 0xf0 holds at 0xff', for any voice and any run of calls that
-- spares it. Assumes nothing.
use mathlib.Core.Path.{◌≡◌, refl, ap, sym, subst, ◌∙◌}
use mathlib.Core.Bool.{Bool, true, false, cond}
use mathlib.Core.List.{List, [], ◌∷◌}
use Prim.Native.Nat.{ℕ}
use Rattle.laws.specs.Times.{times}
use Rattle.laws.proofs.Times.{times_first}
use Rattle.envelope.specs.Envelope.{clocked as envelope_clocked, clocks as envelope_clocks, period_of, rising_rate_selected, rate_in_force, quiescent, gate_set}
use Rattle.envelope.specs.declared.Envelope.{Envelope}
use Rattle.envelope.specs.declared.EnvelopeMotion.TheVariants.{Rising}
use Rattle.envelope.proofs.Quiet.{quiet}
use Rattle.release.specs.Release.{SettledRelease, Demand3}
use Rattle.release.specs.Rise.{SettledRise, landing_up, Rise, Resting, Starts}
use Rattle.release.specs.Settled.{From}
use Rattle.release.specs.Sustain.{SteadyRise, HoldsTop}
use Rattle.release.proofs.Demand3.{demand_3}
use Rattle.release.proofs.Rise.{rise}
use Rattle.release.proofs.Start.{late_start}
use Rattle.release.proofs.Sustain.{sustain_holds}
use Rattle.release.proofs.Timed.{timed_settled, timed_resting}
use Rattle.oscillator.specs.Ways.{stepwise}
use Rattle.sid.specs.Sid.{fresh, written_envelope, written_voice, written, level_of, Call, write, read, tick, clear, set_pot_x, set_pot_y, called_by, called, after_by, after, clocks_of}
use Rattle.sid.specs.declared.Voice.{Voice}
use Rattle.sid.specs.declared.Mos6581.{Mos6581}
use Rattle.calls.specs.Calls.{Which, of, Each, none, next, spares, sparing, GateOn}
use Rattle.calls.proofs.Voices.{tick_envelope, read_voice, pot_x_voice, pot_y_voice, write_control, write_envelope}
use Rattle.calls.proofs.Sound.{sound_fresh}

-- the envelope of a voice that is spared sees the ticks alone
pub envelope_after
    : (w : Which) (calls : List Call) (c : Mos6581)
    → Each (spares w) calls
    → (of w (after calls c)).envelope ≡ envelope_clocks (clocks_of calls) (of w c).envelope
unfolding after_by clocks_of called_by spares times
envelope_after w [] c none = refl
envelope_after w (write address value ∷ calls) c (next h r) =
    envelope_after w calls (called (write address value) c) r ∙ ap (envelope_clocks (clocks_of calls)) (write_envelope w c address value h)
envelope_after w (read address ∷ calls) c (next h r) =
    envelope_after w calls (called (read address) c) r ∙ ap (λ (v : Voice). envelope_clocks (clocks_of calls) v.envelope) (read_voice w c address)
envelope_after w (tick ∷ calls) c (next h r) =
    envelope_after w calls (called tick c) r
    ∙ ap (envelope_clocks (clocks_of calls)) (tick_envelope stepwise w c)
    ∙ sym (times_first envelope_clocked (clocks_of calls) (of w c).envelope)
envelope_after w (clear ∷ calls) c (next h r) =
    ap (λ (t : Bool). cond t (envelope_clocks (clocks_of calls) (of w c).envelope) (of w (after calls (called clear c))).envelope) h
envelope_after w (set_pot_x value ∷ calls) c (next h r) =
    envelope_after w calls (called (set_pot_x value) c) r ∙ ap (λ (v : Voice). envelope_clocks (clocks_of calls) v.envelope) (pot_x_voice w c value)
envelope_after w (set_pot_y value ∷ calls) c (next h r) =
    envelope_after w calls (called (set_pot_y value) c) r ∙ ap (λ (v : Voice). envelope_clocks (clocks_of calls) v.envelope) (pot_y_voice w c value)

-- so it does by whatever leads on sparing its voice
pub sees_ticks : (w : Which) (c : Mos6581) → From (of w c).envelope (sparing w c)
sees_ticks w c r =
    let l = r.2 in
    ap (λ (x : Mos6581). (of w x).envelope) (sym l.same) ∙ envelope_after w l.calls c l.allowed ∙ ap (λ (n : ℕ). envelope_clocks n (of w c).envelope) l.clocks

-- DEMAND 3 for any voice and any calls that spare it
pub chip_demand_3 : (w : Which) (c : Mos6581) (P : ℕ) → SettledRelease (of w c).envelope P → Demand3 (sparing w c) (of w c).envelope (of w c).envelope.rate_phase P
chip_demand_3 w c P h = demand_3 (of w c).envelope P h (sparing w c) (sees_ticks w c)

-- THE RISE likewise
pub chip_rise : (w : Which) (c : Mos6581) (P : ℕ) → SettledRise (of w c).envelope P → Rise (sparing w c) (level_of (of w c)) (landing_up (of w c).envelope.rate_phase P)
chip_rise w c P h = rise (of w c).envelope P h (sparing w c) (sees_ticks w c)

-- and from a gate-on that finds nothing under way
gate_on : (w : Which) (c : Mos6581) (address value : ℕ) → GateOn w address value → (of w (written c address value)).envelope ≡ gate_set (of w c).envelope true
unfolding written_voice written_envelope
gate_on w c address value g = ap (λ (v : Voice). v.envelope) (write_control w c address value g.control) ∙ simp g.gate

pub chip_late_start
    : (w : Which) (c : Mos6581) (address value : ℕ) → Resting (of w c).envelope → GateOn w address value → Starts (sparing w (written c address value)) (of w c).envelope
chip_late_start w c address value h g =
    let after = sparing w (written c address value) in
    late_start (of w c).envelope h after (subst (λ (e : Envelope). From e after) (gate_on w c address value g) (sees_ticks w (written c address value)))

-- both of every chip that calls make of a fresh one, where nothing under way is enough; P is the attack period
module _ (w : Which) (calls : List Call) where
  abbrev chip : Mos6581
  chip = after calls fresh

  abbrev envelope : Envelope
  envelope = (of w chip).envelope

  pub chip_rise_fresh
      : quiescent envelope ≡ true → envelope.gate.input ≡ true → envelope.motion ≡ Rising → envelope.floor_hold ≡ false
      → Rise (sparing w chip) envelope.volume (landing_up envelope.rate_phase (period_of envelope.rise_rate))
  unfolding rate_in_force rising_rate_selected
  chip_rise_fresh q high rises unheld =
      let attack : rate_in_force envelope ≡ envelope.rise_rate = simp ((quiet envelope q).motion, rises) in
      chip_rise w chip (period_of envelope.rise_rate)
      (subst (λ (rate : ℕ). SettledRise envelope (period_of rate)) attack (timed_settled true Rising envelope (sound_fresh w calls).timed q high rises unheld))

  pub chip_late_start_fresh
      : (address value : ℕ) → quiescent envelope ≡ true → envelope.gate.input ≡ false → GateOn w address value → Starts (sparing w (written chip address value)) envelope
  chip_late_start_fresh address value q low g = chip_late_start w chip address value (timed_resting envelope (sound_fresh w calls).timed q low) g

-- 'Sustain 0xf0 holds at 0xff': from the tick that brings a steady rise there, through any calls that spare the voice
pub chip_sustains : (w : Which) (c : Mos6581) → SteadyRise (of w c).envelope → (of w c).envelope.hold_level ≡ 0xff → HoldsTop (sparing w c)
chip_sustains w c h s = sustain_holds (of w c).envelope h s (sparing w c) (sees_ticks w c)
