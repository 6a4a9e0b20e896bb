-- What each call does to any voice and to the bus, and what all calls keep of a voice. Assumes nothing.
use mathlib.Core.Path.{◌≡◌, refl, ap, sym, subst, ◌∙◌}
use mathlib.Core.Bool.{Bool, true, false, cond, not, ◌&&◌, ◌||◌, false≢true, true≢false}
use mathlib.Core.List.{List, [], ◌∷◌}
use Prim.Native.Nat.{ℕ, zero, suc, ◌+◌, ◌*◌, ◌/◌, ◌%◌, ◌<◌}
use native.Mathlib.Omega.{arith}
use lib.Dec.{eqb, ltb}
use borrow.Author.Tests.{eq-eqb, ne_eqb, ltb-true}
use Rattle.laws.specs.Times.{times}
use Rattle.laws.proofs.Bools.{implies}
use Rattle.laws.proofs.Cond.{by_test, either}
use Rattle.bus.specs.Bus.{driven}
use Rattle.bus.specs.declared.InternalDataBus.{InternalDataBus}
use Rattle.envelope.specs.Envelope.{clocked as envelope_clocked, clocks as envelope_clocks, target_refreshed, attack_decay_set, sustain_release_set, gate_set}
use Rattle.envelope.specs.declared.Envelope.{Envelope}
use Rattle.oscillator.specs.Oscillator.{written_control, tuned, reset_phase, tested_tone, written as oscillator_written}
use Rattle.oscillator.specs.declared.Oscillator.{Oscillator}
use Rattle.oscillator.specs.Ways.{Ways, stepwise}
use Rattle.sid.specs.Sid.{fresh_voice, fresh, register, with_bus, reset_voice, reset, written_oscillator, written_envelope, written_voice, written_to, written, read_driven, read_at, with_pot_x, with_pot_y, clocked_voice, clocked_voice_by, next_cycle, clocked_by, voiced, voiced_by, voiced0_by, voiced1_by, voiced2_by, synchronised_if, synchronised, ticked_by, ticks_by, Call, write, read, tick, clear, set_pot_x, set_pot_y, called_by, called, after_by, after}
use Rattle.sid.specs.declared.Voice.{Voice}
use Rattle.sid.specs.declared.Mos6581.{Mos6581}
use Rattle.sid.specs.declared.Read.{Read}
use Rattle.calls.specs.Calls.{Which, voice_0, voice_1, voice_2, number, of, control_of, floating}

-- ---- a tick, by any ways

-- seen from one voice: its clock, its part with the phase of the voice before it, both at the new cycle, and the
-- synchronisation, taken or not
pub record Ticks (ways : Ways) (cycle : ℕ) (v u : Voice) : Type 0 where
  pub modulator : ℕ
  pub taken : Bool
  pub same : u ≡ synchronised_if taken (voiced_by ways (clocked_voice_by ways v cycle) modulator cycle)

pub tick_voice : (ways : Ways) (w : Which) (c : Mos6581) → Ticks ways (next_cycle c) (of w c) (of w (ticked_by ways c))
unfolding ticked_by synchronised voiced0_by voiced1_by voiced2_by clocked_by
tick_voice ways voice_0 c = record { modulator = _; taken = _; same = refl }
tick_voice ways voice_1 c = record { modulator = _; taken = _; same = refl }
tick_voice ways voice_2 c = record { modulator = _; taken = _; same = refl }

pub sync_envelope
    : (ways : Ways) (taken : Bool) (v : Voice) (modulator cycle : ℕ)
    → (synchronised_if taken (voiced_by ways (clocked_voice_by ways v cycle) modulator cycle)).envelope ≡ envelope_clocked v.envelope
unfolding synchronised_if voiced_by clocked_voice_by
sync_envelope ways true v modulator cycle = refl
sync_envelope ways false v modulator cycle = refl

pub tick_envelope : (ways : Ways) (w : Which) (c : Mos6581) → (of w (ticked_by ways c)).envelope ≡ envelope_clocked (of w c).envelope
tick_envelope ways w c =
    let t = tick_voice ways w c in
    ap (λ (v : Voice). v.envelope) t.same ∙ sync_envelope ways t.taken (of w c) t.modulator (next_cycle c)

pub ticks_envelope : (ways : Ways) (w : Which) (n : ℕ) (c : Mos6581) → (of w (ticks_by ways n c)).envelope ≡ envelope_clocks n (of w c).envelope
unfolding times
ticks_envelope ways w zero c = refl
ticks_envelope ways w (suc n) c = tick_envelope ways w (ticks_by ways n c) ∙ ap envelope_clocked (ticks_envelope ways w n c)

-- its cycle is the one that all of it saw
pub tick_cycle : (ways : Ways) (c : Mos6581) → (ticked_by ways c).cycle ≡ next_cycle c
unfolding ticked_by synchronised voiced0_by voiced1_by voiced2_by clocked_by
tick_cycle ways c = refl

-- ---- reads, pots, resets, and a fresh chip

-- a read drives a value and gives it, or floats: it gives the byte on the bus and changes nothing
data Reads (c : Mos6581) : Bool → Read → Type 0 where
  drives : (value : ℕ) → Reads c false (read_driven c value)
  floats : Reads c true (record { chip = c; byte = c.data_bus.value })

read_any
    : (c : Mos6581) (a b d e : Bool) (p q r s : ℕ)
    → Reads c (not a && (not b && (not d && not e)))
    (cond a (read_driven c p) (cond b (read_driven c q) (cond d (read_driven c r) (cond e (read_driven c s) (record { chip = c; byte = c.data_bus.value })))))
read_any c true b d e p q r s = drives p
read_any c false true d e p q r s = drives q
read_any c false false true e p q r s = drives r
read_any c false false false true p q r s = drives s
read_any c false false false false p q r s = floats

reads : (c : Mos6581) (address : ℕ) → Reads c (floating address) (read_at c address)
unfolding read_at
reads c address = read_any c (eqb (register address) 0x19) (eqb (register address) 0x1a) (eqb (register address) 0x1b) (eqb (register address) 0x1c) _ _ _ _

-- it changes no voice
bus_voice : (w : Which) (c : Mos6581) (b : InternalDataBus) → of w (with_bus c b) ≡ of w c
bus_voice voice_0 c b = refl
bus_voice voice_1 c b = refl
bus_voice voice_2 c b = refl

pub read_voice : (w : Which) (c : Mos6581) (address : ℕ) → of w (read_at c address).chip ≡ of w c
unfolding read_driven
read_voice w c address = go (reads c address)
  where
    go : {b : Bool} {r : Read} → Reads c b r → of w r.chip ≡ of w c
    go (drives value) = bus_voice w c (driven value)
    go floats = refl

pub read_cycle : (c : Mos6581) (address : ℕ) → (read_at c address).chip.cycle ≡ c.cycle
unfolding read_driven
read_cycle c address = go (reads c address)
  where
    go : {b : Bool} {r : Read} → Reads c b r → r.chip.cycle ≡ c.cycle
    go (drives value) = refl
    go floats = refl

pub read_floats : (c : Mos6581) (address : ℕ) → floating address ≡ true → read_at c address ≡ record { chip = c; byte = c.data_bus.value }
read_floats c address = go (reads c address)
  where
    go : {b : Bool} {r : Read} → Reads c b r → b ≡ true → r ≡ record { chip = c; byte = c.data_bus.value }
    go (drives value) h = absurd (false≢true h)
    go floats h = refl

pub read_drives : (c : Mos6581) (address : ℕ) → floating address ≡ false → (read_at c address).chip.data_bus ≡ driven (read_at c address).byte
unfolding read_driven
read_drives c address = go (reads c address)
  where
    go : {b : Bool} {r : Read} → Reads c b r → b ≡ false → r.chip.data_bus ≡ driven r.byte
    go (drives value) h = refl
    go floats h = absurd (true≢false h)

pub pot_x_voice : (w : Which) (c : Mos6581) (value : ℕ) → of w (with_pot_x c value) ≡ of w c
pot_x_voice voice_0 c value = refl
pot_x_voice voice_1 c value = refl
pot_x_voice voice_2 c value = refl

pub pot_y_voice : (w : Which) (c : Mos6581) (value : ℕ) → of w (with_pot_y c value) ≡ of w c
pot_y_voice voice_0 c value = refl
pot_y_voice voice_1 c value = refl
pot_y_voice voice_2 c value = refl

pub reset_voice_lem : (w : Which) (c : Mos6581) → of w (reset c) ≡ reset_voice (of w c)
unfolding reset
reset_voice_lem voice_0 c = refl
reset_voice_lem voice_1 c = refl
reset_voice_lem voice_2 c = refl

pub fresh_voice_lem : (w : Which) → of w fresh ≡ fresh_voice
unfolding fresh
fresh_voice_lem voice_0 = refl
fresh_voice_lem voice_1 = refl
fresh_voice_lem voice_2 = refl

-- ---- writes

pub write_voice : (w : Which) (c : Mos6581) (address value : ℕ) → of w (written c address value) ≡ written_to (number w) (of w c) (register address) value c.cycle
unfolding written
write_voice voice_0 c address value = refl
write_voice voice_1 c address value = refl
write_voice voice_2 c address value = refl

-- the control register of voice n is 7 n + 4
pub control_at : (w : Which) → control_of w ≡ 7 * number w + 4
control_at voice_0 = refl
control_at voice_1 = refl
control_at voice_2 = refl

pub write_control : (w : Which) (c : Mos6581) (address value : ℕ) → register address ≡ control_of w → of w (written c address value) ≡ written_voice (of w c) 4 value c.cycle
unfolding written_to
write_control w c address value e =
    let p : register address / 7 ≡ number w = omega (arith, e, control_at w) in
    let q : register address % 7 ≡ 4 = omega (arith, e, control_at w) in
    write_voice w c address value ∙ simp (eq-eqb _ _ p, q)

pub write_cycle : (c : Mos6581) (address value : ℕ) → (written c address value).cycle ≡ c.cycle
unfolding written
write_cycle c address value = refl

-- an oscillator is left as it is, or its frequency or pulse width is written, or its control register
pub write_oscillator
    : (P : Oscillator → Type 0) (v : Voice) (r value cycle : ℕ)
    → ((frequency width : ℕ) → P (tuned v.oscillator frequency width))
    → (eqb r 4 ≡ true → P (oscillator_written v.oscillator value cycle))
    → P v.oscillator
    → P (written_voice v r value cycle).oscillator
unfolding written_voice written_oscillator
write_oscillator P v r value cycle t k h =
    either P (eqb r 0) _ _ (t _ _)
    (either P (eqb r 1) _ _ (t _ _) (either P (eqb r 2) _ _ (t _ _) (either P (eqb r 3) _ _ (t _ _) (by_test P (eqb r 4) _ _ k (λ _. h)))))

-- what no write changes
pub record Face : Type 0 where
  pub code : ℕ
  pub osc : ℕ
  pub level : ℕ
  pub env : ℕ

abbrev face_of : Oscillator → Envelope → Face
face_of o e = record { code = o.tone.last_sample; osc = o.tone.readback; level = e.volume; env = e.readback }

abbrev pub face : Voice → Face
face v = face_of v.oscillator v.envelope

control_face : (o : Oscillator) (value cycle : ℕ) (e : Envelope) → face_of (oscillator_written o value cycle) e ≡ face_of o e
unfolding oscillator_written tested_tone reset_phase
control_face o value cycle e = go o.control.test_enabled (written_control o.control value).test_enabled
  where
    go : (old new : Bool) → face_of (record { control = o.control; tone = tested_tone o.tone old new; noise = o.noise; bus = o.bus }) e ≡ face_of o e
    go true new = refl
    go false true = refl
    go false false = refl

oscillator_face : (v : Voice) (r value cycle : ℕ) (e : Envelope) → face_of (written_voice v r value cycle).oscillator e ≡ face_of v.oscillator e
oscillator_face v r value cycle e =
    write_oscillator (λ o. face_of o e ≡ face_of v.oscillator e) v r value cycle (λ _ _. refl) (λ _. control_face v.oscillator value cycle e) refl

envelope_face : (v : Voice) (r value cycle : ℕ) (o : Oscillator) → face_of o (written_voice v r value cycle).envelope ≡ face_of o v.envelope
unfolding written_voice written_envelope gate_set attack_decay_set sustain_release_set target_refreshed
envelope_face v r value cycle o =
    let P : Envelope → Type 0 = λ x. face_of o x ≡ face_of o v.envelope in
    either P (eqb r 4) _ _ refl (either P (eqb r 5) _ _ refl (either P (eqb r 6) _ _ refl refl))

pub register_face : (v : Voice) (r value cycle : ℕ) → face (written_voice v r value cycle) ≡ face v
register_face v r value cycle = oscillator_face v r value cycle (written_voice v r value cycle).envelope ∙ envelope_face v r value cycle v.oscillator

pub write_face : (w : Which) (c : Mos6581) (address value : ℕ) → face (of w (written c address value)) ≡ face (of w c)
unfolding written_to
write_face w c address value =
    ap face (write_voice w c address value)
    ∙ either (λ (x : Voice). face x ≡ face (of w c)) (eqb (register address / 7) (number w)) _ _ (register_face (of w c) (register address % 7) value c.cycle) refl

-- a write to another voice, or to this one's frequency or pulse width, leaves its envelope
low_envelope : (v : Voice) (r value cycle : ℕ) → r < 4 → (written_voice v r value cycle).envelope ≡ v.envelope
unfolding written_voice written_envelope
low_envelope v r value cycle h = simp (ne_eqb r 4 (λ e. omega arith), ne_eqb r 5 (λ e. omega arith), ne_eqb r 6 (λ e. omega arith))

other_envelope : (n : ℕ) (v : Voice) (r value cycle : ℕ) → (not (eqb (r / 7) n) || ltb (r % 7) 4) ≡ true → (written_to n v r value cycle).envelope ≡ v.envelope
unfolding written_to
other_envelope n v r value cycle h =
    by_test (λ (x : Voice). x.envelope ≡ v.envelope) (eqb (r / 7) n) _ _
    (λ e. low_envelope v (r % 7) value cycle (ltb-true (r % 7) 4 (implies (eqb (r / 7) n) _ h e))) (λ _. refl)

pub write_envelope
    : (w : Which) (c : Mos6581) (address value : ℕ)
    → (not (eqb (register address / 7) (number w)) || ltb (register address % 7) 4) ≡ true
    → (of w (written c address value)).envelope ≡ (of w c).envelope
write_envelope w c address value h =
    ap (λ (v : Voice). v.envelope) (write_voice w c address value) ∙ other_envelope (number w) (of w c) (register address) value c.cycle h

-- ---- any call, and any calls

-- a claim of a voice that a tick, a reset and a write to its registers keep is kept by every call
module _
    (P : Voice → Type 0)
    (by-tick : (v : Voice) (modulator cycle : ℕ) (taken : Bool) → P v → P (synchronised_if taken (voiced (clocked_voice v cycle) modulator cycle)))
    (by-reset : (v : Voice) → P v → P (reset_voice v))
    (by-write : (v : Voice) (r value cycle : ℕ) → P v → P (written_voice v r value cycle)) where
  pub call_keeps : (w : Which) (call : Call) (c : Mos6581) → P (of w c) → P (of w (called call c))
  unfolding called_by written_to
  call_keeps w (write address value) c h =
      subst P (sym (write_voice w c address value)) (either P (eqb (register address / 7) (number w)) _ _ (by-write (of w c) (register address % 7) value c.cycle h) h)
  call_keeps w (read address) c h = subst P (sym (read_voice w c address)) h
  call_keeps w tick c h = let t = tick_voice stepwise w c in subst P (sym t.same) (by-tick (of w c) t.modulator (next_cycle c) t.taken h)
  call_keeps w clear c h = subst P (sym (reset_voice_lem w c)) (by-reset (of w c) h)
  call_keeps w (set_pot_x value) c h = subst P (sym (pot_x_voice w c value)) h
  call_keeps w (set_pot_y value) c h = subst P (sym (pot_y_voice w c value)) h

-- what every call keeps any calls keep
pub calls_keep : (P : Mos6581 → Type 0) → ((call : Call) (c : Mos6581) → P c → P (called call c)) → (calls : List Call) (c : Mos6581) → P c → P (after calls c)
unfolding after_by
calls_keep P keeps [] c h = h
calls_keep P keeps (call ∷ calls) c h = calls_keep P keeps calls (called call c) (keeps call c h)
