-- A held level is 0, an envelope's target is that of its rate, noise lines show their stages, a phase has 24 bits and a
-- code 12: every call keeps this of any voice. Assumes nothing.
use mathlib.Core.Path.{◌≡◌, sym, subst}
use mathlib.Core.Bool.{Bool, true, false, not, ◌&&◌, false≢true}
use mathlib.Core.List.{List}
use Prim.Native.Nat.{ℕ, ◌^◌, ◌<◌}
use native.Mathlib.Omega.{arith}
use lib.Dec.{eqb}
use borrow.Author.Tests.{eqb-true}
use Rattle.laws.proofs.Cond.{either}
use Rattle.envelope.specs.Envelope.{target_refreshed, attack_decay_set, sustain_release_set, gate_set, fresh as envelope_fresh, reset as envelope_reset}
use Rattle.envelope.specs.declared.Envelope.{Envelope}
use Rattle.release.specs.Settled.{Timed}
use Rattle.release.proofs.Stays.{held_is_zero}
use Rattle.release.proofs.Timed.{clock_timed, gate_set_timed, attack_decay_timed, sustain_release_timed, reset_timed, fresh_timed}
use Rattle.noise.specs.declared.NoiseGenerator.{NoiseGenerator}
use Rattle.noise.proofs.Shows.{Shows, fresh_shows, stepped_shows, coupled_shows, pulled_shows, entered_shows, left_shows}
use Rattle.oscillator.specs.Oscillator.{fresh as oscillator_fresh, clocked_tone, clocked_by as oscillator_clocked_by, compared_tone, evaluated_by, feeds_back, fed_back_tone, fed_back, latched_tone, couples, pulls_down, coupled_noise, pulled_noise, latched_noise, latched_code, tested_noise, reset_phase, tested_tone, written as oscillator_written, synchronised as oscillator_synchronised, voiced_by as oscillator_voiced_by}
use Rattle.oscillator.specs.declared.Control.{Control}
use Rattle.oscillator.specs.declared.Tone.{Tone}
use Rattle.oscillator.specs.Ways.{stepwise}
use Rattle.sid.specs.Sid.{fresh_voice, fresh, reset_voice, written_envelope, written_voice, clocked_voice, clocked_voice_by, voiced, voiced_by, synchronised_if, phase_of, Call, called, after}
use Rattle.sid.specs.declared.Voice.{Voice}
use Rattle.sid.specs.declared.Mos6581.{Mos6581}
use Rattle.calls.specs.Calls.{Which, of, Sound}
use Rattle.calls.proofs.Voices.{sync_envelope, fresh_voice_lem, write_oscillator, register_face, call_keeps, calls_keep}
use Rattle.calls.proofs.Latched.{voice_latched, fresh_latched, face_latched}

-- ---- held implies level 0

abbrev Zero : Envelope → Type 0
Zero e = e.floor_hold ≡ true → e.volume ≡ 0

gate_zero : (e : Envelope) (high : Bool) → Zero e → Zero (gate_set e high)
unfolding gate_set target_refreshed
gate_zero e high h = either (λ (t : Bool). t ≡ true → e.volume ≡ 0) (high && not e.gate.input) _ _ (λ t. absurd (false≢true t)) h

write_zero : (v : Voice) (r value cycle : ℕ) → Zero v.envelope → Zero (written_voice v r value cycle).envelope
unfolding written_voice written_envelope attack_decay_set sustain_release_set target_refreshed
write_zero v r value cycle h =
    either Zero (eqb r 4) _ _ (gate_zero v.envelope _ h) (either Zero (eqb r 5) _ _ h (either Zero (eqb r 6) _ _ h h))

reset_zero : (e : Envelope) → Zero (envelope_reset e)
unfolding envelope_reset
reset_zero e t = eqb-true e.volume 0 t

-- ---- the target is that of the rate in force, the counter and the level fit

write_timed : (v : Voice) (r value cycle : ℕ) → Timed v.envelope → Timed (written_voice v r value cycle).envelope
unfolding written_voice written_envelope
write_timed v r value cycle h =
    let e = v.envelope in
    either Timed (eqb r 4) _ _ (gate_set_timed e _ h) (either Timed (eqb r 5) _ _ (attack_decay_timed e value h) (either Timed (eqb r 6) _ _ (sustain_release_timed e value h) h))

-- ---- the noise lines show the stages

latched_shows : (g : NoiseGenerator) (k : Control) (output cycle : ℕ) → Shows g → Shows (latched_noise g k output cycle)
unfolding latched_noise pulled_noise coupled_noise
latched_shows g k output cycle h =
    let coupling = either Shows (couples k) _ _ (coupled_shows g output h) h in
    either Shows (pulls_down k _ cycle) _ _ (pulled_shows _ output cycle) coupling

tested_shows : (g : NoiseGenerator) (old new : Control) (last cycle : ℕ) → Shows g → Shows (tested_noise g old new last cycle)
unfolding tested_noise
tested_shows g old new last cycle h =
    either Shows old.test_enabled _ _
    (either Shows new.test_enabled _ _ h (left_shows _ cycle))
    (either Shows new.test_enabled _ _ (entered_shows g cycle h) h)

tick_shows
    : (v : Voice) (modulator cycle : ℕ) (taken : Bool)
    → Shows v.oscillator.noise
    → Shows (synchronised_if taken (voiced (clocked_voice v cycle) modulator cycle)).oscillator.noise
unfolding synchronised_if oscillator_synchronised voiced_by clocked_voice_by oscillator_voiced_by latched_code fed_back evaluated_by oscillator_clocked_by
tick_shows v modulator cycle true h = latched_shows _ v.oscillator.control _ _ (stepped_shows v.oscillator.noise _ _ _ h)
tick_shows v modulator cycle false h = latched_shows _ v.oscillator.control _ _ (stepped_shows v.oscillator.noise _ _ _ h)

write_shows : (v : Voice) (r value cycle : ℕ) → Shows v.oscillator.noise → Shows (written_voice v r value cycle).oscillator.noise
unfolding oscillator_written
write_shows v r value cycle h = write_oscillator (λ o. Shows o.noise) v r value cycle (λ _ _. h) (λ _. tested_shows v.oscillator.noise _ _ _ _ h) h

-- ---- the phase has 24 bits

abbrev Fits : ℕ → Type 0
Fits n = n < 2 ^ 24

tick_fits : (v : Voice) (modulator cycle : ℕ) (taken : Bool) → Fits (phase_of (synchronised_if taken (voiced (clocked_voice v cycle) modulator cycle)))
unfolding synchronised_if oscillator_synchronised reset_phase voiced_by clocked_voice_by oscillator_voiced_by latched_code latched_tone fed_back fed_back_tone evaluated_by compared_tone oscillator_clocked_by clocked_tone
tick_fits v modulator cycle true = omega arith
tick_fits v modulator cycle false =
    either Fits (feeds_back v.oscillator.control _) _ _ (omega arith) (either Fits v.oscillator.control.test_enabled _ _ (omega arith) (omega arith))

tested_fits : (t : Tone) (old new : Bool) → Fits t.accumulator → Fits (tested_tone t old new).accumulator
unfolding tested_tone reset_phase
tested_fits t true new h = h
tested_fits t false true h = omega arith
tested_fits t false false h = h

write_fits : (v : Voice) (r value cycle : ℕ) → Fits (phase_of v) → Fits (phase_of (written_voice v r value cycle))
unfolding oscillator_written
write_fits v r value cycle h = write_oscillator (λ o. Fits o.tone.accumulator) v r value cycle (λ _ _. h) (λ _. tested_fits v.oscillator.tone _ _ h) h

-- ---- all of it

pub call_sound : (w : Which) (call : Call) (c : Mos6581) → Sound (of w c) → Sound (of w (called call c))
unfolding reset_voice oscillator_fresh
call_sound =
    call_keeps Sound
    (λ v modulator cycle taken h. record {
      held_is_zero = subst Zero (sym (sync_envelope stepwise taken v modulator cycle)) (held_is_zero v.envelope h.held_is_zero);
      timed = subst Timed (sym (sync_envelope stepwise taken v modulator cycle)) (clock_timed v.envelope h.timed);
      noise_shows = tick_shows v modulator cycle taken h.noise_shows;
      phase_fits = tick_fits v modulator cycle taken;
      latched = voice_latched v modulator cycle taken;
    })
    (λ v h. record { held_is_zero = reset_zero v.envelope; timed = reset_timed v.envelope h.timed; noise_shows = fresh_shows; phase_fits = h.phase_fits; latched = fresh_latched _ _ })
    (λ v r value cycle h. record {
      held_is_zero = write_zero v r value cycle h.held_is_zero;
      timed = write_timed v r value cycle h.timed;
      noise_shows = write_shows v r value cycle h.noise_shows;
      phase_fits = write_fits v r value cycle h.phase_fits;
      latched = face_latched (written_voice v r value cycle) v (register_face v r value cycle) h.latched;
    })

pub sound_after : (w : Which) (calls : List Call) (c : Mos6581) → Sound (of w c) → Sound (of w (after calls c))
sound_after w = calls_keep (λ c. Sound (of w c)) (call_sound w)

fresh_sound : Sound fresh_voice
unfolding oscillator_fresh envelope_fresh
fresh_sound = record { held_is_zero = λ t. absurd (false≢true t); timed = fresh_timed; noise_shows = fresh_shows; phase_fits = omega arith; latched = fresh_latched _ _ }

-- SOUND is every voice of every chip that calls make of a fresh one
pub sound_fresh : (w : Which) (calls : List Call) → Sound (of w (after calls fresh))
sound_fresh w calls = sound_after w calls fresh (subst Sound (sym (fresh_voice_lem w)) fresh_sound)
