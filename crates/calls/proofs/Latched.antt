-- The code of any voice is the last latched, OSC3 its top eight bits, and ENV3 the level of one clock before, for any
-- run of calls. Assumes nothing.
use mathlib.Core.Path.{◌≡◌, refl, ap, sym, subst, ◌∙◌}
use mathlib.Core.Bool.{Bool, true, false, false≢true}
use mathlib.Core.List.{List, [], ◌∷◌, ◌++◌}
use Prim.Native.Nat.{ℕ, ◌/◌, ◌%◌, ◌^◌, ◌<◌}
use native.Mathlib.Omega.{arith}
use Rattle.envelope.specs.Envelope.{fresh as envelope_fresh, reset as envelope_reset}
use Rattle.envelope.specs.declared.Envelope.{Envelope}
use Rattle.envelope.proofs.Readback.{clock_reads}
use Rattle.oscillator.specs.Oscillator.{fresh as oscillator_fresh, latched_tone, latched_code, reset_phase, synchronised as oscillator_synchronised, voiced_by as oscillator_voiced_by}
use Rattle.oscillator.specs.Ways.{stepwise}
use Rattle.sid.specs.Sid.{register, fresh, reset_voice, read_driven, read_at, written_voice, clocked_voice, next_cycle, voiced, voiced_by, synchronised_if, ticked, code_of, level_of, Call, write, read, tick, clear, set_pot_x, set_pot_y, called_by, called, after_by, after}
use Rattle.sid.proofs.Joined.{after_join}
use Rattle.sid.specs.declared.Voice.{Voice}
use Rattle.sid.specs.declared.Mos6581.{Mos6581}
use Rattle.calls.specs.Calls.{Which, voice_2, of, Each, none, next, idle, Last, idles, ticks, clears, Latched}
use Rattle.calls.proofs.Voices.{tick_voice, tick_envelope, read_voice, pot_x_voice, pot_y_voice, reset_voice_lem, fresh_voice_lem, Face, face, write_face, register_face, call_keeps, calls_keep}

-- every run of calls ends with idle calls after a tick, after a reset, or after nothing: the laws `…-after-tick`,
-- `…-after-reset` and `…-while-fresh` leave none out
last_next : (call : Call) {calls : List Call} → Last calls → Last (call ∷ calls)
unfolding idle
last_next call (ticks calls more r) = ticks (call ∷ calls) more r
last_next call (clears calls more r) = clears (call ∷ calls) more r
last_next (write address value) (idles r) = idles (next refl r)
last_next (read address) (idles r) = idles (next refl r)
last_next tick (idles r) = ticks [] _ r
last_next clear (idles r) = clears [] _ r
last_next (set_pot_x value) (idles r) = idles (next refl r)
last_next (set_pot_y value) (idles r) = idles (next refl r)

pub last_of : (calls : List Call) → Last calls
last_of [] = idles none
last_of (call ∷ calls) = last_next call (last_of calls)

-- calls without tick and reset leave what a voice shows
idle_face : (w : Which) (calls : List Call) (c : Mos6581) → Each idle calls → face (of w (after calls c)) ≡ face (of w c)
unfolding after_by called_by idle
idle_face w [] c none = refl
idle_face w (write address value ∷ calls) c (next h r) = idle_face w calls _ r ∙ write_face w c address value
idle_face w (read address ∷ calls) c (next h r) = idle_face w calls _ r ∙ ap face (read_voice w c address)
idle_face w (tick ∷ calls) c (next h r) = absurd (false≢true h)
idle_face w (clear ∷ calls) c (next h r) = absurd (false≢true h)
idle_face w (set_pot_x value ∷ calls) c (next h r) = idle_face w calls _ r ∙ ap face (pot_x_voice w c value)
idle_face w (set_pot_y value ∷ calls) c (next h r) = idle_face w calls _ r ∙ ap face (pot_y_voice w c value)

-- so it shows what the last tick or reset left
last_face : (w : Which) (calls : List Call) (call : Call) (more : List Call) (c : Mos6581) → Each idle more → face (of w (after (calls ++ (call ∷ more)) c)) ≡ face (of w (called call (after calls c)))
unfolding after_by
last_face w calls call more c r = ap (λ (x : Mos6581). face (of w x)) (after_join stepwise calls (call ∷ more) c) ∙ idle_face w more (called call (after calls c)) r

-- ---- 'its code (the last latched; fresh or reset 0)'

-- only a tick or a reset changes code or level
pub idle_keeps
    : (w : Which) (calls : List Call) (c : Mos6581)
    → Each idle calls
    → (code_of (of w (after calls c)) ≡ code_of (of w c)) × (level_of (of w (after calls c)) ≡ level_of (of w c))
idle_keeps w calls c r =
    let f = idle_face w calls c r in
    (ap (λ (x : Face). x.code) f, ap (λ (x : Face). x.level) f)

pub code_after_tick
    : (w : Which) (calls more : List Call) (c : Mos6581)
    → Each idle more
    → code_of (of w (after (calls ++ (tick ∷ more)) c)) ≡ code_of (of w (ticked (after calls c)))
unfolding called_by
code_after_tick w calls more c r = ap (λ (f : Face). f.code) (last_face w calls tick more c r)

pub code_after_reset : (w : Which) (calls more : List Call) (c : Mos6581) → Each idle more → code_of (of w (after (calls ++ (clear ∷ more)) c)) ≡ 0
unfolding called_by reset_voice oscillator_fresh
code_after_reset w calls more c r = ap (λ (f : Face). f.code) (last_face w calls clear more c r) ∙ ap code_of (reset_voice_lem w (after calls c))

pub code_while_fresh : (w : Which) (calls : List Call) → Each idle calls → code_of (of w (after calls fresh)) ≡ 0
unfolding oscillator_fresh
code_while_fresh w calls r = (idle_keeps w calls fresh r).0 ∙ ap code_of (fresh_voice_lem w)

-- ---- 'OSC3 is the top eight bits of voice 2's code'

pub voice_latched : (v : Voice) (modulator cycle : ℕ) (taken : Bool) → Latched (synchronised_if taken (voiced (clocked_voice v cycle) modulator cycle))
unfolding synchronised_if voiced_by oscillator_synchronised reset_phase oscillator_voiced_by latched_code latched_tone
voice_latched v modulator cycle true = record { shown = refl; twelve = omega arith }
voice_latched v modulator cycle false = record { shown = refl; twelve = omega arith }

pub tick_latched : (w : Which) (c : Mos6581) → Latched (of w (ticked c))
tick_latched w c =
    let t = tick_voice stepwise w c in
    subst Latched (sym t.same) (voice_latched (of w c) t.modulator (next_cycle c) t.taken)

pub fresh_latched : (accumulator : ℕ) (e : Envelope) → Latched (record { oscillator = oscillator_fresh accumulator; envelope = e })
unfolding oscillator_fresh
fresh_latched accumulator e = record { shown = refl; twelve = omega arith }

pub face_latched : (u v : Voice) → face u ≡ face v → Latched v → Latched u
face_latched u v e h = record {
  shown = ap (λ (f : Face). f.osc) e ∙ h.shown ∙ sym (ap (λ (f : Face). f.code) e);
  twelve = subst (λ (x : ℕ). x < 4096) (sym (ap (λ (f : Face). f.code) e)) h.twelve;
}

-- every call keeps it, from any chip; so it holds of every chip that calls make of a fresh one
pub call_latched : (w : Which) (call : Call) (c : Mos6581) → Latched (of w c) → Latched (of w (called call c))
unfolding reset_voice
call_latched =
    call_keeps Latched (λ v modulator cycle taken _. voice_latched v modulator cycle taken) (λ v _. fresh_latched _ _)
    (λ v r value cycle h. face_latched (written_voice v r value cycle) v (register_face v r value cycle) h)

pub latched_after : (w : Which) (calls : List Call) (c : Mos6581) → Latched (of w c) → Latched (of w (after calls c))
latched_after w = calls_keep (λ c. Latched (of w c)) (call_latched w)

pub latched_fresh : (w : Which) (calls : List Call) → Latched (of w (after calls fresh))
latched_fresh w calls = latched_after w calls fresh (subst Latched (sym (fresh_voice_lem w)) (fresh_latched _ _))

pub read_osc3 : (c : Mos6581) (address : ℕ) → register address ≡ 0x1b → Latched (of voice_2 c) → (read_at c address).byte ≡ code_of (of voice_2 c) / 2 ^ 4
unfolding read_at read_driven
read_osc3 c address e h = simp e (ap (λ (x : ℕ). x / 2 ^ 4 % 256) h.shown ∙ omega (arith, h.twelve))

-- of any chip that calls make of a fresh one; and of any chip after any calls, a tick, and calls without tick and reset
pub read_osc3_fresh : (calls : List Call) (address : ℕ) → register address ≡ 0x1b → (read_at (after calls fresh) address).byte ≡ code_of (of voice_2 (after calls fresh)) / 2 ^ 4
read_osc3_fresh calls address e = read_osc3 (after calls fresh) address e (latched_fresh voice_2 calls)

pub read_osc3_after_tick
    : (calls more : List Call) (c : Mos6581) (address : ℕ)
    → Each idle more
    → register address ≡ 0x1b
    → (read_at (after (calls ++ (tick ∷ more)) c) address).byte ≡ code_of (of voice_2 (ticked (after calls c))) / 2 ^ 4
unfolding called_by
read_osc3_after_tick calls more c address r e =
    let f = last_face voice_2 calls tick more c r in
    read_osc3 (after (calls ++ (tick ∷ more)) c) address e (face_latched _ _ f (tick_latched voice_2 (after calls c)))
    ∙ ap (λ (x : Face). x.code / 2 ^ 4) f

-- ---- ENV3 is 'its readback': 'the readback takes the old level'; a reset 'sets the readback to the level'

pub read_env3 : (c : Mos6581) (address : ℕ) → register address ≡ 0x1c → (read_at c address).byte ≡ (of voice_2 c).envelope.readback
unfolding read_at read_driven
read_env3 c address e = simp e

pub read_env3_after_tick
    : (calls more : List Call) (c : Mos6581) (address : ℕ)
    → Each idle more
    → register address ≡ 0x1c
    → (read_at (after (calls ++ (tick ∷ more)) c) address).byte ≡ level_of (of voice_2 (after calls c))
unfolding called_by
read_env3_after_tick calls more c address r e =
    read_env3 (after (calls ++ (tick ∷ more)) c) address e
    ∙ ap (λ (f : Face). f.env) (last_face voice_2 calls tick more c r)
    ∙ ap (λ (x : Envelope). x.readback) (tick_envelope stepwise voice_2 (after calls c))
    ∙ clock_reads (of voice_2 (after calls c)).envelope

pub read_env3_after_reset
    : (calls more : List Call) (c : Mos6581) (address : ℕ)
    → Each idle more
    → register address ≡ 0x1c
    → (read_at (after (calls ++ (clear ∷ more)) c) address).byte ≡ level_of (of voice_2 (after calls c))
unfolding called_by reset_voice envelope_reset
read_env3_after_reset calls more c address r e =
    read_env3 (after (calls ++ (clear ∷ more)) c) address e
    ∙ ap (λ (f : Face). f.env) (last_face voice_2 calls clear more c r)
    ∙ ap (λ (v : Voice). v.envelope.readback) (reset_voice_lem voice_2 (after calls c))

pub read_env3_while_fresh : (calls : List Call) (address : ℕ) → Each idle calls → register address ≡ 0x1c → (read_at (after calls fresh) address).byte ≡ 0xaa
unfolding envelope_fresh
read_env3_while_fresh calls address r e =
    read_env3 (after calls fresh) address e
    ∙ ap (λ (f : Face). f.env) (idle_face voice_2 calls fresh r)
    ∙ ap (λ (v : Voice). v.envelope.readback) (fresh_voice_lem voice_2)
