-- Fewer than 2^63 clocks after a chip was made or reset, one leak step is due at most in any voice, for any run of
-- calls (`one_due`), so that a tick is document 01's, with its loops (`tick_as_01`), and so are any calls
-- (`after_as_01`). Assumes nothing.
use mathlib.Core.Path.{◌≡◌, refl, ap, sym, subst, ◌∙◌}
use mathlib.Core.Bool.{Bool, true, false, true≢false, false≢true}
use mathlib.Core.List.{List, [], ◌∷◌}
use Prim.Native.Nat.{ℕ, suc, ◌+◌, ◌/◌, ◌%◌, ◌^◌, ◌<◌, ◌≤◌}
use native.Mathlib.Omega.{arith}
use lib.Dec.{eqb}
use borrow.Author.Tests.{eqb-true}
use Rattle.laws.specs.Cycle.{never, after as cycle_after}
use Rattle.laws.proofs.Cond.{by_test, either}
use Rattle.noise.specs.Noise.{left_test, coupled, pulled_numbers, pulled_down, relaxed_once, stepped_by}
use Rattle.noise.specs.Noise.{fresh as noise_fresh}
use Rattle.noise.specs.declared.NoiseGenerator.{NoiseGenerator}
use Rattle.noise.proofs.Once.{relax_once, entered_ahead, relaxed_ahead, stepped_leak}
use Rattle.noise.proofs.Once.{ahead_one as noise_ahead_one}
use Rattle.floating.specs.Floating.{sampled_once}
use Rattle.floating.specs.Floating.{fresh as floating_fresh, Ahead as FloatingAhead}
use Rattle.floating.specs.declared.FloatingBus.{FloatingBus}
use Rattle.floating.proofs.Once.{sample_once, once_itself, leak_empty, fresh_ahead, captured_ahead, sampled_ahead}
use Rattle.floating.proofs.Once.{ahead_one as floating_ahead_one}
use Rattle.oscillator.specs.Ways.{afresh, stepwise}
use Rattle.oscillator.specs.Selection.{is_off}
use Rattle.oscillator.specs.Oscillator.{selected, rising, clocked_tone, sampled_bus_by, evaluated_by, fed_back, couples, pulls_down, coupled_noise, pulled_noise, latched_noise, latched_code, written_control, written_bus, tested_noise}
use Rattle.oscillator.specs.Oscillator.{fresh as oscillator_fresh, clocked_by as oscillator_clocked_by, voiced_by as oscillator_voiced_by, written as oscillator_written, synchronised as oscillator_synchronised, ticked_by as oscillator_ticked_by}
use Rattle.oscillator.specs.declared.Control.{Control}
use Rattle.oscillator.specs.declared.Oscillator.{Oscillator}
use Rattle.oscillator.proofs.Alike.{Alike}
use Rattle.oscillator.proofs.Floats.{tick_control}
use Rattle.sid.specs.Sid.{fresh, register, reset_voice, reset, written_voice, written_to, clocked_voice, clocked_voice_by, next_cycle, voiced, voiced_by, synchronised_if, ticked, ticked_by, Call, write, read, tick, clear, set_pot_x, set_pot_y, called_by, called, after_by, after, clocks_of}
use Rattle.sid.specs.declared.Voice.{Voice}
use Rattle.sid.specs.declared.Mos6581.{Mos6581}
use Rattle.sid.proofs.Ticks.{chip_alike}
use Rattle.calls.specs.Calls.{Which, voice_0, voice_1, voice_2, number, of, clocks_since, most_since, Recent, LeaksAhead, Ahead, OneDue}
use Rattle.calls.proofs.Voices.{tick_voice, tick_cycle, read_voice, read_cycle, pot_x_voice, pot_y_voice, reset_voice_lem, fresh_voice_lem, write_voice, write_cycle, write_oscillator}
use Rattle.calls.proofs.Kept.{cycle_counts}

-- ---- a tick of one voice

-- what is latched sets no leak
latched_leak : (g : NoiseGenerator) (k : Control) (output cycle : ℕ) → (latched_noise g k output cycle).numbers.next_leak ≡ g.numbers.next_leak
unfolding latched_noise pulled_noise coupled_noise coupled pulled_down pulled_numbers
latched_leak g k output cycle =
    let P : NoiseGenerator → Type 0 = λ x. x.numbers.next_leak ≡ g.numbers.next_leak in
    let coupling = either P (couples k) _ _ refl refl in
    either P (pulls_down k (coupled_noise g k output).numbers cycle) _ _ coupling coupling

module _ (o : Oscillator) (modulator cycle : ℕ) where
  abbrev k : Control
  k = o.control

  abbrev up : ℕ
  up = rising o.tone.accumulator (clocked_tone o.tone k).accumulator

  abbrev later : Oscillator
  later = oscillator_ticked_by stepwise o modulator cycle

  tick_leak : later.noise.numbers.next_leak ≡ (stepped_by relaxed_once o.noise k.test_enabled up cycle).numbers.next_leak
  unfolding oscillator_ticked_by oscillator_voiced_by latched_code fed_back evaluated_by oscillator_clocked_by
  tick_leak = latched_leak _ k _ cycle

  tick_bus : later.bus ≡ sampled_bus_by stepwise o.bus k cycle
  unfolding oscillator_ticked_by oscillator_voiced_by latched_code fed_back evaluated_by oscillator_clocked_by
  tick_bus = refl

  -- a tick looks at the noise register in test, and at the lines where nothing is selected
  tick_recovers : k.test_enabled ≡ true → later.noise.numbers.next_leak ≡ (relaxed_once o.noise cycle).numbers.next_leak
  unfolding stepped_by
  tick_recovers e = tick_leak ∙ simp e

  tick_rests : k.test_enabled ≡ false → later.noise.numbers.next_leak ≡ o.noise.numbers.next_leak
  tick_rests e =
      tick_leak
      ∙ ap (λ (t : Bool). (stepped_by relaxed_once o.noise t up cycle).numbers.next_leak) e
      ∙ stepped_leak relaxed_once o.noise up cycle

  tick_leaks : k.waveform ≡ 0 → later.bus ≡ sampled_once o.bus cycle
  unfolding sampled_bus_by
  tick_leaks e = tick_bus ∙ simp e

  -- lines that show nothing go on so
  tick_empty : o.bus.numbers.value ≡ 0 → later.bus ≡ o.bus
  unfolding sampled_bus_by
  tick_empty e =
      tick_bus ∙ either (λ (b : FloatingBus). b ≡ o.bus) (is_off (selected k)) _ _ (leak_empty once_itself o.bus cycle e) refl

oscillator_ahead
    : (o : Oscillator) (modulator cycle : ℕ)
    → cycle < 2 ^ 63
    → LeaksAhead o cycle
    → LeaksAhead (oscillator_ticked_by stepwise o modulator (cycle_after cycle 1)) (cycle_after cycle 1)
oscillator_ahead o modulator cycle early h =
    record {
      recovers = λ e.
          subst (λ (at : ℕ). now < at) (sym (tick_recovers o modulator now (was e))) (relaxed_ahead o.noise cycle early (h.recovers (was e)));
      rests = λ e. tick_rests o modulator now (was e) ∙ h.rests (was e);
      leaks = λ some.
          let shown = showed some in
          subst (λ (b : FloatingBus). FloatingAhead b.numbers now) (sym (tick_leaks o modulator now (h.floats shown)))
          (sampled_ahead o.bus cycle early h.leaks) some;
      floats = λ some. ap (λ (x : Control). x.waveform) (tick_control stepwise o modulator now) ∙ h.floats (showed some);
    }
  where
    now : ℕ
    now = cycle_after cycle 1

    was : {t : Bool} → (oscillator_ticked_by stepwise o modulator now).control.test_enabled ≡ t → o.control.test_enabled ≡ t
    was e = sym (ap (λ (x : Control). x.test_enabled) (tick_control stepwise o modulator now)) ∙ e

    showed : ((oscillator_ticked_by stepwise o modulator now).bus.numbers.value ≡ 0 → ⊥) → o.bus.numbers.value ≡ 0 → ⊥
    showed some e = some (ap (λ (b : FloatingBus). b.numbers.value) (tick_empty o modulator now e) ∙ e)

sync_ahead : (taken : Bool) (v : Voice) (cycle : ℕ) → LeaksAhead v.oscillator cycle → LeaksAhead (synchronised_if taken v).oscillator cycle
unfolding synchronised_if oscillator_synchronised
sync_ahead true v cycle h = record { recovers = h.recovers; rests = h.rests; leaks = h.leaks; floats = h.floats }
sync_ahead false v cycle h = h

voice_ahead
    : (v : Voice) (modulator cycle : ℕ) (taken : Bool)
    → cycle < 2 ^ 63
    → LeaksAhead v.oscillator cycle
    → LeaksAhead (synchronised_if taken (voiced (clocked_voice v (cycle_after cycle 1)) modulator (cycle_after cycle 1))).oscillator (cycle_after cycle 1)
unfolding voiced_by clocked_voice_by oscillator_ticked_by
voice_ahead v modulator cycle taken early h =
    sync_ahead taken (voiced (clocked_voice v (cycle_after cycle 1)) modulator (cycle_after cycle 1)) _ (oscillator_ahead v.oscillator modulator cycle early h)

-- ---- a write, at the present cycle

control_ahead : (o : Oscillator) (value cycle : ℕ) → cycle < 2 ^ 63 → LeaksAhead o cycle → LeaksAhead (oscillator_written o value cycle) cycle
unfolding oscillator_written written_bus tested_noise left_test floating_fresh
control_ahead o value cycle early h =
    record {
      recovers = λ on.
          by_test Comes old.test_enabled _ _
          (λ was. by_test Comes new.test_enabled _ _ (λ _. h.recovers was) (λ off. clash on off))
          (λ _. by_test Comes new.test_enabled _ _ (λ _. entered_ahead o.noise cycle early) (λ off. clash on off));
      rests = λ off.
          by_test Unset old.test_enabled _ _
          (λ _. by_test Unset new.test_enabled _ _ (λ on. clash on off) (λ _. refl))
          (λ was. by_test Unset new.test_enabled _ _ (λ on. clash on off) (λ _. h.rests was));
      leaks = either Leaks (eqb old.waveform new.waveform) _ _ h.leaks (either Leaks (eqb new.waveform 0) _ _ (captured_ahead _ cycle early) (fresh_ahead cycle));
      floats =
          by_test Floats (eqb old.waveform new.waveform) _ _
          (λ same some. sym (eqb-true old.waveform new.waveform same) ∙ h.floats some)
          (λ _. by_test Floats (eqb new.waveform 0) _ _ (λ none _. eqb-true new.waveform 0 none) (λ _ some. absurd (some refl)));
    }
  where
    old : Control
    old = o.control

    new : Control
    new = written_control old value

    clash : {A : Type 0} → new.test_enabled ≡ true → new.test_enabled ≡ false → A
    clash on off = absurd (true≢false (sym on ∙ off))

    Comes : NoiseGenerator → Type 0
    Comes g = cycle < g.numbers.next_leak

    Unset : NoiseGenerator → Type 0
    Unset g = g.numbers.next_leak ≡ never

    Leaks : FloatingBus → Type 0
    Leaks b = FloatingAhead b.numbers cycle

    Floats : FloatingBus → Type 0
    Floats b = (b.numbers.value ≡ 0 → ⊥) → new.waveform ≡ 0

register_ahead
    : (v : Voice) (r value cycle : ℕ) → cycle < 2 ^ 63 → LeaksAhead v.oscillator cycle → LeaksAhead (written_voice v r value cycle).oscillator cycle
register_ahead v r value cycle early h =
    write_oscillator (λ o. LeaksAhead o cycle) v r value cycle
    (λ _ _. record { recovers = h.recovers; rests = h.rests; leaks = h.leaks; floats = h.floats })
    (λ _. control_ahead v.oscillator value cycle early h) h

-- ---- fresh chips have it, a reset makes it, every call keeps it

made_ahead : (accumulator cycle : ℕ) → LeaksAhead (oscillator_fresh accumulator) cycle
unfolding oscillator_fresh noise_fresh floating_fresh
made_ahead accumulator cycle = record {
  recovers = λ e. absurd (false≢true e);
  rests = λ _. refl;
  leaks = fresh_ahead cycle;
  floats = λ some. absurd (some refl);
}

pub fresh_leaks : (w : Which) → Ahead w fresh
fresh_leaks w = subst (λ (v : Voice). LeaksAhead v.oscillator fresh.cycle) (sym (fresh_voice_lem w)) (made_ahead _ _)

pub reset_leaks : (w : Which) (c : Mos6581) → Ahead w (reset c)
unfolding reset_voice
reset_leaks w c = subst (λ (v : Voice). LeaksAhead v.oscillator (reset c).cycle) (sym (reset_voice_lem w c)) (made_ahead _ _)

-- another voice of the same leaks, at the same cycle
moved : {v u : Voice} {n m : ℕ} → u ≡ v → m ≡ n → LeaksAhead v.oscillator n → LeaksAhead u.oscillator m
moved {v} {u} {n} {m} p q h =
    subst (λ (x : Voice). LeaksAhead x.oscillator m) (sym p) (subst (λ (k : ℕ). LeaksAhead v.oscillator k) (sym q) h)

pub call_leaks : (w : Which) (call : Call) (c : Mos6581) → c.cycle < 2 ^ 63 → Ahead w c → Ahead w (called call c)
unfolding called_by written_to
call_leaks w (write address value) c early h =
    moved (write_voice w c address value) (write_cycle c address value)
    (either (λ (v : Voice). LeaksAhead v.oscillator c.cycle) (eqb (register address / 7) (number w)) _ _
    (register_ahead (of w c) (register address % 7) value c.cycle early h) h)
call_leaks w (read address) c early h = moved (read_voice w c address) (read_cycle c address) h
call_leaks w tick c early h =
    let t = tick_voice stepwise w c in
    moved t.same (tick_cycle stepwise c) (voice_ahead (of w c) t.modulator c.cycle t.taken early h)
call_leaks w clear c early h = reset_leaks w c
call_leaks w (set_pot_x value) c early h = moved (pot_x_voice w c value) refl h
call_leaks w (set_pot_y value) c early h = moved (pot_y_voice w c value) refl h

-- so any calls do, whose last chip was made or reset recently: from one that has counted n
pub leaks_after
    : (w : Which) (calls : List Call) (c : Mos6581) (n : ℕ)
    → c.cycle ≡ n % 2 ^ 64
    → (Recent n → Ahead w c)
    → Recent (clocks_since calls n)
    → Ahead w (after calls c)
unfolding after_by called_by clocks_since reset
leaks_after w [] c n e h l = h l
leaks_after w (write address value ∷ calls) c n e h l =
    leaks_after w calls _ n (write_cycle c address value ∙ e) (λ r. call_leaks w (write address value) c (omega (arith, e, r)) (h r)) l
leaks_after w (read address ∷ calls) c n e h l =
    leaks_after w calls _ n (read_cycle c address ∙ e) (λ r. call_leaks w (read address) c (omega (arith, e, r)) (h r)) l
leaks_after w (tick ∷ calls) c n e h l =
    leaks_after w calls _ (suc n) (tick_cycle stepwise c ∙ omega (arith, e)) (λ r. let s : n < 2 ^ 63 = omega arith in call_leaks w tick c (omega (arith, e, s)) (h s)) l
leaks_after w (clear ∷ calls) c n e h l = leaks_after w calls _ 0 refl (λ _. reset_leaks w c) l
leaks_after w (set_pot_x value ∷ calls) c n e h l = leaks_after w calls _ n e (λ r. call_leaks w (set_pot_x value) c (omega (arith, e, r)) (h r)) l
leaks_after w (set_pot_y value ∷ calls) c n e h l = leaks_after w calls _ n e (λ r. call_leaks w (set_pot_y value) c (omega (arith, e, r)) (h r)) l

-- ---- 'at most one due'

-- at the cycle of a chip, which a write sees, and at the next, which a tick sees
due : (o : Oscillator) (cycle k : ℕ) → k ≤ 1 → cycle < 2 ^ 63 → LeaksAhead o cycle → OneDue o (cycle_after cycle k)
due o cycle k l early h = record {
  recovers = λ e. noise_ahead_one o.noise.numbers cycle k l early (h.recovers e);
  leaks = floating_ahead_one o.bus.numbers cycle k l early h.leaks;
}

-- THE LAW of any voice of a chip that was made or reset fewer than 2^63 clocks ago, for any calls
pub one_due_after
    : (w : Which) (calls : List Call) (c : Mos6581) (n : ℕ)
    → c.cycle ≡ n % 2 ^ 64
    → (Recent n → Ahead w c)
    → Recent (clocks_since calls n)
    → (k : ℕ) → k ≤ 1
    → OneDue (of w (after calls c)).oscillator (cycle_after (after calls c).cycle k)
one_due_after w calls c n e h l k m =
    due (of w (after calls c)).oscillator (after calls c).cycle k m (omega (arith, cycle_counts calls c n e, l)) (leaks_after w calls c n e h l)

pub one_due : (w : Which) (calls : List Call) → Recent (clocks_since calls 0) → (k : ℕ) → k ≤ 1 → OneDue (of w (after calls fresh)).oscillator (cycle_after (after calls fresh).cycle k)
unfolding fresh
one_due w calls = one_due_after w calls fresh 0 refl (λ _. fresh_leaks w)

pub one_due_reset
    : (w : Which) (calls : List Call) (c : Mos6581) → Recent (clocks_since calls 0) → (k : ℕ) → k ≤ 1
    → OneDue (of w (after calls (reset c))).oscillator (cycle_after (after calls (reset c)).cycle k)
unfolding reset
one_due_reset w calls c = one_due_after w calls (reset c) 0 refl (λ _. reset_leaks w c)

-- ---- so a chip's tick is document 01's

one_alike : (o : Oscillator) (cycle : ℕ) → OneDue o cycle → Alike stepwise afresh o cycle
one_alike o cycle h = record {
  load = λ _ _. refl;
  recover = λ e. sym (relax_once o.noise cycle (h.recovers e));
  leak = λ _. sym (sample_once o.bus cycle h.leaks);
}

-- of any chip whose next leaks lie ahead
ahead_as_01 : (c : Mos6581) → c.cycle < 2 ^ 63 → ((w : Which) → Ahead w c) → ticked c ≡ ticked_by afresh c
ahead_as_01 c early h =
    let alike : (w : Which) → Alike stepwise afresh (of w c).oscillator (next_cycle c) =
    λ w. one_alike (of w c).oscillator (next_cycle c) (due (of w c).oscillator c.cycle 1 (omega arith) early (h w)) in
    chip_alike stepwise afresh c (alike voice_0) (alike voice_1) (alike voice_2)

-- THE TICK of a chip that was made or reset fewer than 2^63 clocks ago is document 01's, with its loops
pub tick_as_01_after
    : (calls : List Call) (c : Mos6581) (n : ℕ)
    → c.cycle ≡ n % 2 ^ 64
    → ((w : Which) → Recent n → Ahead w c)
    → Recent (clocks_since calls n)
    → ticked (after calls c) ≡ ticked_by afresh (after calls c)
tick_as_01_after calls c n e h l =
    ahead_as_01 (after calls c) (omega (arith, cycle_counts calls c n e, l)) (λ w. leaks_after w calls c n e (h w) l)

pub tick_as_01 : (calls : List Call) → Recent (clocks_since calls 0) → ticked (after calls fresh) ≡ ticked_by afresh (after calls fresh)
unfolding fresh
tick_as_01 calls = tick_as_01_after calls fresh 0 refl (λ w _. fresh_leaks w)

pub tick_as_01_reset : (calls : List Call) (c : Mos6581) → Recent (clocks_since calls 0) → ticked (after calls (reset c)) ≡ ticked_by afresh (after calls (reset c))
unfolding reset
tick_as_01_reset calls c = tick_as_01_after calls (reset c) 0 refl (λ w _. reset_leaks w c)

-- ---- and so are any calls of it

most_least : (calls : List Call) (n : ℕ) → n ≤ most_since calls n
unfolding most_since
most_least [] n = omega arith
most_least (write address value ∷ calls) n = most_least calls n
most_least (read address ∷ calls) n = most_least calls n
most_least (tick ∷ calls) n = omega (arith, most_least calls (suc n))
most_least (clear ∷ calls) n = omega arith
most_least (set_pot_x value ∷ calls) n = most_least calls n
most_least (set_pot_y value ∷ calls) n = most_least calls n

most_clocks : (calls : List Call) (n : ℕ) → most_since calls n ≤ n + clocks_of calls
unfolding most_since clocks_of
most_clocks [] n = omega arith
most_clocks (write address value ∷ calls) n = most_clocks calls n
most_clocks (read address ∷ calls) n = most_clocks calls n
most_clocks (tick ∷ calls) n = omega (arith, most_clocks calls (suc n))
most_clocks (clear ∷ calls) n = omega (arith, most_clocks calls 0)
most_clocks (set_pot_x value ∷ calls) n = most_clocks calls n
most_clocks (set_pot_y value ∷ calls) n = most_clocks calls n

-- in whose course the chip is never older than that: from one that has counted n
pub calls_as_01
    : (calls : List Call) (c : Mos6581) (n : ℕ)
    → c.cycle ≡ n % 2 ^ 64
    → ((w : Which) → Ahead w c)
    → Recent (most_since calls n)
    → after calls c ≡ after_by afresh calls c
unfolding after_by called_by most_since reset
calls_as_01 [] c n e h l = refl
calls_as_01 (write address value ∷ calls) c n e h l =
    calls_as_01 calls _ n (write_cycle c address value ∙ e) (λ w. call_leaks w (write address value) c (omega (arith, e, most_least calls n)) (h w)) l
calls_as_01 (read address ∷ calls) c n e h l =
    calls_as_01 calls _ n (read_cycle c address ∙ e) (λ w. call_leaks w (read address) c (omega (arith, e, most_least calls n)) (h w)) l
calls_as_01 (tick ∷ calls) c n e h l =
    let early : c.cycle < 2 ^ 63 = omega (arith, e, most_least calls (suc n)) in
    calls_as_01 calls _ (suc n) (tick_cycle stepwise c ∙ omega (arith, e)) (λ w. call_leaks w tick c early (h w)) l
    ∙ ap (after_by afresh calls) (ahead_as_01 c early h)
calls_as_01 (clear ∷ calls) c n e h l = calls_as_01 calls _ 0 refl (λ w. reset_leaks w c) (omega (arith, l))
calls_as_01 (set_pot_x value ∷ calls) c n e h l = calls_as_01 calls _ n e (λ w. call_leaks w (set_pot_x value) c (omega (arith, e, most_least calls n)) (h w)) l
calls_as_01 (set_pot_y value ∷ calls) c n e h l = calls_as_01 calls _ n e (λ w. call_leaks w (set_pot_y value) c (omega (arith, e, most_least calls n)) (h w)) l

-- DEMAND 2 for the calls of a chip, one just made or just reset
pub after_as_01 : (calls : List Call) → Recent (most_since calls 0) → after calls fresh ≡ after_by afresh calls fresh
unfolding fresh
after_as_01 calls = calls_as_01 calls fresh 0 refl fresh_leaks

-- so where the ticks in all are fewer
pub clocks_as_01 : (calls : List Call) → Recent (clocks_of calls) → after calls fresh ≡ after_by afresh calls fresh
clocks_as_01 calls l = after_as_01 calls (omega (arith, most_clocks calls 0, l))

pub reset_as_01 : (calls : List Call) (c : Mos6581) → Recent (most_since calls 0) → after calls (reset c) ≡ after_by afresh calls (reset c)
unfolding reset
reset_as_01 calls c = calls_as_01 calls (reset c) 0 refl (λ w. reset_leaks w c)
