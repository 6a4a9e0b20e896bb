-- The floating waveform: selecting waveform 0 from another captures the last code; left so, it is whole for 1,260,019
-- clocks and zero from clock 1,260,020, for any voice and any run of calls. Assumes nothing.
use mathlib.Core.Path.{◌≡◌, refl, ap, ap₂, sym, subst, ◌∙◌}
use mathlib.Core.Bool.{Bool, true, false, not, ◌||◌, false≢true}
use mathlib.Core.List.{List, [], ◌∷◌}
use Prim.Native.Nat.{ℕ, zero, suc, ◌/◌, ◌%◌, ◌^◌, ◌<◌, ◌≤◌}
use native.Mathlib.Omega.{arith}
use lib.Dec.{eqb}
use borrow.Author.Tests.{eq-eqb, eqb-true, eqb-false}
use Rattle.laws.specs.Cycle.{after as cycle_after}
use Rattle.laws.proofs.Bools.{implies}
use Rattle.laws.proofs.Cond.{by_test}
use Rattle.floating.specs.Floating.{captured, sampled_once, samples_by}
use Rattle.floating.specs.declared.FloatingBus.{FloatingBus}
use Rattle.floating.proofs.Fade.{lines_whole, lines_gone}
use Rattle.floating.proofs.Once.{once_itself, leak_empty}
use Rattle.oscillator.specs.Oscillator.{written_control, written_bus, reset_phase, written as oscillator_written, synchronised as oscillator_synchronised, ticked_by as oscillator_ticked_by}
use Rattle.oscillator.specs.declared.Control.{Control}
use Rattle.oscillator.specs.declared.Oscillator.{Oscillator}
use Rattle.oscillator.proofs.Floats.{tick_control, tick_lines, tick_floats, write_captures}
use Rattle.oscillator.specs.Ways.{stepwise}
use Rattle.sid.specs.Sid.{fresh, register, written_oscillator, written_voice, written_to, written, read_at, clocked_voice, clocked_voice_by, next_cycle, voiced, voiced_by, synchronised_if, ticked, code_of, Call, write, read, tick, clear, set_pot_x, set_pot_y, called_by, after_by, after, clocks_of}
use Rattle.sid.specs.declared.Voice.{Voice}
use Rattle.sid.specs.declared.Mos6581.{Mos6581}
use Rattle.calls.specs.Calls.{Which, voice_2, number, of, control_of, waveform_of, Each, none, next, leaves_off, Latched, Captures, Floats}
use Rattle.calls.proofs.Voices.{Face, tick_voice, tick_cycle, read_voice, read_cycle, pot_x_voice, pot_y_voice, control_at, write_voice, write_control, write_cycle, write_oscillator, write_face}
use Rattle.calls.proofs.Latched.{latched_after, latched_fresh, read_osc3}

abbrev samples : ℕ → FloatingBus → ℕ → FloatingBus
samples = samples_by sampled_once

-- a voice with waveform 0 selected, that gives what its lines show
record Drifts (v : Voice) (b : FloatingBus) : Type 0 where
  off : waveform_of v ≡ 0
  lines : v.oscillator.bus ≡ b
  code : code_of v ≡ b.numbers.value % 4096

-- ---- a tick samples the lines

voice_drifts
    : (v : Voice) (modulator cycle : ℕ) (b : FloatingBus)
    → Drifts v b
    → Drifts (voiced (clocked_voice v cycle) modulator cycle) (sampled_once b cycle)
unfolding voiced_by clocked_voice_by oscillator_ticked_by
voice_drifts v modulator cycle b d =
    let o = v.oscillator in
    let none : o.control.waveform % 16 ≡ 0 = ap (λ (x : ℕ). x % 16) d.off in
    let at = ap (λ (x : FloatingBus). sampled_once x cycle) d.lines in
    record {
      off = ap (λ (k : Control). k.waveform) (tick_control stepwise o modulator cycle) ∙ d.off;
      lines = tick_lines stepwise o modulator cycle none ∙ at;
      code = tick_floats stepwise o modulator cycle none ∙ ap (λ (x : FloatingBus). x.numbers.value % 4096) at;
    }

sync_drifts : (taken : Bool) (v : Voice) (b : FloatingBus) → Drifts v b → Drifts (synchronised_if taken v) b
unfolding synchronised_if oscillator_synchronised reset_phase
sync_drifts true v b d = record { off = d.off; lines = d.lines; code = d.code }
sync_drifts false v b d = d

tick_drifts : (w : Which) (c : Mos6581) (b : FloatingBus) → Drifts (of w c) b → Drifts (of w (ticked c)) (sampled_once b (next_cycle c))
tick_drifts w c b d =
    let t = tick_voice stepwise w c in
    subst (λ (u : Voice). Drifts u (sampled_once b (next_cycle c))) (sym t.same)
    (sync_drifts t.taken _ _ (voice_drifts (of w c) t.modulator (next_cycle c) b d))

-- ---- a write that selects no waveform leaves selection and lines

-- selection and lines, after a write of a voice's register
record Stays (v : Voice) (o : Oscillator) : Type 0 where
  off : o.control.waveform ≡ waveform_of v
  lines : o.bus ≡ v.oscillator.bus

control_stays : (v : Voice) (value cycle : ℕ) → waveform_of v ≡ 0 → value / 2 ^ 4 ≡ 0 → Stays v (oscillator_written v.oscillator value cycle)
unfolding oscillator_written written_control written_bus
control_stays v value cycle z e = record { off = e ∙ sym z; lines = simp (z, e) }

register_stays : (v : Voice) (r value cycle : ℕ) → waveform_of v ≡ 0 → (r ≡ 4 → value / 2 ^ 4 ≡ 0) → Stays v (written_voice v r value cycle).oscillator
register_stays v r value cycle z h =
    write_oscillator (Stays v) v r value cycle (λ _ _. record { off = refl; lines = refl }) (λ e. control_stays v value cycle z (h (eqb-true r 4 e)))
    (record { off = refl; lines = refl })

write_stays
    : (w : Which) (c : Mos6581) (address value : ℕ)
    → (not (eqb (register address) (control_of w)) || eqb (value / 2 ^ 4) 0) ≡ true
    → waveform_of (of w c) ≡ 0
    → Stays (of w c) (of w (written c address value)).oscillator
unfolding written_to
write_stays w c address value h z =
    subst (λ (u : Voice). Stays (of w c) u.oscillator) (sym (write_voice w c address value))
    (by_test (λ (u : Voice). Stays (of w c) u.oscillator) (eqb (register address / 7) (number w)) _ _
    (λ e. register_stays (of w c) (register address % 7) value c.cycle z (λ q. none (eqb-true (register address / 7) (number w) e) q))
    (λ _. record { off = refl; lines = refl }))
  where
    none : register address / 7 ≡ number w → register address % 7 ≡ 4 → value / 2 ^ 4 ≡ 0
    none p q =
        eqb-true (value / 2 ^ 4) 0
        (implies (eqb (register address) (control_of w)) _ h
        (eq-eqb (register address) (control_of w) (omega (arith, control_at w, p, q))))

write_drifts
    : (w : Which) (c : Mos6581) (address value : ℕ) (b : FloatingBus)
    → (not (eqb (register address) (control_of w)) || eqb (value / 2 ^ 4) 0) ≡ true
    → Drifts (of w c) b
    → Drifts (of w (written c address value)) b
write_drifts w c address value b h d =
    let s = write_stays w c address value h d.off in
    record {
      off = s.off ∙ d.off;
      lines = s.lines ∙ d.lines;
      code = ap (λ (x : Face). x.code) (write_face w c address value) ∙ d.code;
    }

-- ---- any calls that leave it so sample the lines once a tick

samples_first : (n : ℕ) (b : FloatingBus) (cycle : ℕ) → samples (suc n) b cycle ≡ samples n (sampled_once b (cycle_after cycle 1)) (cycle_after cycle 1)
unfolding samples_by
samples_first zero b cycle = refl
samples_first (suc n) b cycle = ap₂ sampled_once (samples_first n b cycle) (omega arith)

code_drifts
    : (w : Which) (calls : List Call) (c : Mos6581) (b : FloatingBus) (cycle : ℕ)
    → Each (leaves_off w) calls
    → c.cycle ≡ cycle
    → Drifts (of w c) b
    → code_of (of w (after calls c)) ≡ (samples (clocks_of calls) b cycle).numbers.value % 4096
unfolding after_by called_by clocks_of leaves_off samples_by
code_drifts w [] c b cycle none e d = d.code
code_drifts w (write address value ∷ calls) c b cycle (next h r) e d =
    code_drifts w calls _ b cycle r (write_cycle c address value ∙ e) (write_drifts w c address value b h d)
code_drifts w (read address ∷ calls) c b cycle (next h r) e d =
    code_drifts w calls _ b cycle r (read_cycle c address ∙ e) (subst (λ (u : Voice). Drifts u b) (sym (read_voice w c address)) d)
code_drifts w (tick ∷ calls) c b cycle (next h r) e d =
    code_drifts w calls _ _ _ r (tick_cycle stepwise c) (tick_drifts w c b d)
    ∙ ap (λ (n : ℕ). (samples (clocks_of calls) (sampled_once b (cycle_after n 1)) (cycle_after n 1)).numbers.value % 4096) e
    ∙ ap (λ (x : FloatingBus). x.numbers.value % 4096) (sym (samples_first (clocks_of calls) b cycle))
code_drifts w (clear ∷ calls) c b cycle (next h r) e d = absurd (false≢true h)
code_drifts w (set_pot_x value ∷ calls) c b cycle (next h r) e d =
    code_drifts w calls _ b cycle r e (subst (λ (u : Voice). Drifts u b) (sym (pot_x_voice w c value)) d)
code_drifts w (set_pot_y value ∷ calls) c b cycle (next h r) e d =
    code_drifts w calls _ b cycle r e (subst (λ (u : Voice). Drifts u b) (sym (pot_y_voice w c value)) d)

-- ---- the capture

starts
    : (w : Which) (c : Mos6581) (address value : ℕ)
    → Latched (of w c)
    → Captures w c address value
    → Drifts (of w (written c address value)) (captured (code_of (of w c)) c.cycle)
unfolding written_voice written_oscillator oscillator_written written_control captured
starts w c address value l h =
    let o = (of w c).oscillator in
    let e : (of w (written c address value)).oscillator ≡ oscillator_written o value c.cycle =
    ap (λ (v : Voice). v.oscillator) (write_control w c address value h.control) in
    record {
      off = ap (λ (x : Oscillator). x.control.waveform) e ∙ h.off;
      lines = ap (λ (x : Oscillator). x.bus) e ∙ write_captures o value c.cycle h.off h.another;
      code = ap (λ (x : Face). x.code) (write_face w c address value) ∙ omega (arith, l.twelve);
    }

samples_empty : (n : ℕ) (b : FloatingBus) (cycle : ℕ) → b.numbers.value ≡ 0 → (samples n b cycle).numbers.value ≡ 0
unfolding samples_by
samples_empty zero b cycle e = e
samples_empty (suc n) b cycle e =
    let z = samples_empty n b cycle e in
    ap (λ (x : FloatingBus). x.numbers.value) (leak_empty once_itself (samples n b cycle) (cycle_after cycle (suc n)) z) ∙ z

-- lines that took up nothing show nothing, and others what the law of the lines says
module _ (code cycle : ℕ) (twelve : code < 4096) (early : cycle < 2 ^ 63) (n : ℕ) where
  captured_empty : code ≡ 0 → (samples n (captured code cycle) cycle).numbers.value ≡ 0
  unfolding captured
  captured_empty e = samples_empty n (captured code cycle) cycle (ap (λ (x : ℕ). x % 4096) e)

  captured_whole : n ≤ 1260019 → (samples n (captured code cycle) cycle).numbers.value % 4096 ≡ code
  captured_whole h = go (eqb code 0) refl
    where
      go : (t : Bool) → eqb code 0 ≡ t → (samples n (captured code cycle) cycle).numbers.value % 4096 ≡ code
      go true e =
          let z : code ≡ 0 = eqb-true code 0 e in
          ap (λ (x : ℕ). x % 4096) (captured_empty z) ∙ sym z
      go false e =
          let some : (code ≡ 0) → ⊥ = eqb-false code 0 e in
          ap (λ (x : ℕ). x % 4096) (lines_whole once_itself code cycle (λ z. some (omega arith)) early n h) ∙ omega arith

  captured_gone : 1260020 ≤ n → (samples n (captured code cycle) cycle).numbers.value % 4096 ≡ 0
  captured_gone h = go (eqb code 0) refl
    where
      go : (t : Bool) → eqb code 0 ≡ t → (samples n (captured code cycle) cycle).numbers.value % 4096 ≡ 0
      go true e = ap (λ (x : ℕ). x % 4096) (captured_empty (eqb-true code 0 e))
      go false e =
          let some : (code ≡ 0) → ⊥ = eqb-false code 0 e in
          ap (λ (x : ℕ). x % 4096) (lines_gone once_itself code cycle (λ z. some (omega arith)) early n h)

-- THE FLOATING LAW for any voice and any calls that leave waveform 0 selected
pub chip_floats
    : (w : Which) (c : Mos6581) (address value : ℕ)
    → Latched (of w c)
    → Captures w c address value
    → Floats w (written c address value) (code_of (of w c))
chip_floats w c address value l h =
    let code = code_of (of w c) in
    let now = write_cycle c address value in
    let d = starts w c address value l h in
    record {
      whole = λ calls r n. code_drifts w calls _ _ _ r now d ∙ captured_whole code c.cycle l.twelve h.early (clocks_of calls) n;
      gone = λ calls r n. code_drifts w calls _ _ _ r now d ∙ captured_gone code c.cycle l.twelve h.early (clocks_of calls) n;
    }

-- of every chip that calls make of a fresh one
pub chip_floats_fresh
    : (w : Which) (calls : List Call) (address value : ℕ)
    → Captures w (after calls fresh) address value
    → Floats w (written (after calls fresh) address value) (code_of (of w (after calls fresh)))
chip_floats_fresh w calls address value h = chip_floats w (after calls fresh) address value (latched_fresh w calls) h

-- and what OSC3 then shows of voice 2
pub read_osc3_floats
    : (c : Mos6581) (address value : ℕ)
    → Latched (of voice_2 c)
    → Captures voice_2 c address value
    → (calls : List Call) (from : ℕ)
    → Each (leaves_off voice_2) calls
    → register from ≡ 0x1b
    → (clocks_of calls ≤ 1260019 → (read_at (after calls (written c address value)) from).byte ≡ code_of (of voice_2 c) / 2 ^ 4)
    × (1260020 ≤ clocks_of calls → (read_at (after calls (written c address value)) from).byte ≡ 0)
unfolding after_by called_by
read_osc3_floats c address value l h calls from r e =
    let k = chip_floats voice_2 c address value l h in
    let shows = read_osc3 (after calls (written c address value)) from e (latched_after voice_2 (write address value ∷ calls) c l) in
    ((λ n. shows ∙ ap (λ (x : ℕ). x / 2 ^ 4) (k.whole calls r n)), (λ n. shows ∙ ap (λ (x : ℕ). x / 2 ^ 4) (k.gone calls r n)))
