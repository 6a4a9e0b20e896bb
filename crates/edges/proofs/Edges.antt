-- The starred cases, from the laws. Assumes nothing.
use Prim.Native.Nat.{ℕ, ◌+◌, ◌-◌, ◌*◌, ◌/◌, ◌%◌, ◌<◌}
use native.Mathlib.Omega.{arith}
use mathlib.Core.Path.{◌≡◌, refl, subst}
use mathlib.Core.Bool.{false}
use Rattle.laws.specs.Times.{times}
use Rattle.bus.specs.Bus.{holds, kept}
use Rattle.bus.proofs.Fade.{byte_fades}
use Rattle.envelope.specs.Envelope.{period_of, divisor_for, down, fresh, rising_rate_selected, rate_in_force, target_refreshed, quiescent, sustain_release_set}
use Rattle.envelope.specs.declared.Envelope.{Envelope}
use Rattle.envelope.specs.declared.EnvelopeMotion.TheVariants.{FallingToZero}
use Rattle.envelope.proofs.Periods.{period_range, period_zero}
use Rattle.noise.specs.Noise.{shown, fresh as noise_fresh}
use Rattle.waveforms.specs.Waveforms.{triangle}
use Rattle.waveforms.proofs.Loading.{settled_zero, loaded_zero}
use Rattle.release.specs.Release.{SettledRelease, steps, in_force, divisor_after, asked, matches, ZeroFrom}
use Rattle.release.specs.Settled.{alone}
use Rattle.release.specs.StepClocks.{wait, lag, step_clock}
use Rattle.release.specs.Sustain.{SteadyRise}
use Rattle.edges.specs.Edges.{Matching, Releasing, Falling, Sustaining, Reaching, Edges}
use Rattle.release.proofs.Waits.{first_match}
use Rattle.release.proofs.Stairs.{clocks_alone}
use Rattle.release.proofs.Stays.{sustain_stays}
use Rattle.release.proofs.Sustain.{sustain_holds}
use Rattle.release.proofs.Timed.{timed_settled, fresh_timed}
use Rattle.release.proofs.Demand3.{zero_from}

matching : (p : ℕ) → p < 32767 → Matching p 8 (wait 9 p + 1)
matching p l e q f t = rw (← f) (first_match e q 9 t (omega arith) (omega arith) (omega arith))

releasing : (d : ℕ) → Releasing 1 d (wait 9 0 + 2 + (d - 1) * 9 + lag d)
unfolding step_clock matches asked divisor_after steps
releasing d e h v k c p =
    let n : e.volume ≡ 0 → ⊥ = omega arith in
    let s : step_clock e (period_of 0) (steps e.volume) ≡ wait 9 0 + 2 + (d - 1) * 9 + lag d = simp (v, k, c, p, period_zero) (omega arith) in
    subst (ZeroFrom e) s (zero_from e (period_of 0) h n)

fresh_settled : SettledRelease fresh (period_of 0)
unfolding fresh quiescent rate_in_force rising_rate_selected
fresh_settled = record { settled = timed_settled false FallingToZero fresh fresh_timed refl refl refl refl; divisor = refl; count = omega arith }

-- the three falls, computed
fresh_asked : asked 0xaa 1 0xaa ≡ 671
unfolding asked divisor_after in_force divisor_for down times
fresh_asked = refl

top_asked : asked 0xff 1 0xff ≡ 756
unfolding asked divisor_after in_force divisor_for down times
top_asked = refl

zero_asked : asked 0x00 30 0x100 ≡ 786
unfolding asked divisor_after in_force divisor_for down times
zero_asked = refl

fresh_last : divisor_after 0xaa 1 0xa9 ≡ 30
unfolding divisor_after in_force divisor_for down times
fresh_last = refl

fresh_zero : ZeroFrom fresh 6043
unfolding fresh step_clock matches steps wait lag
fresh_zero =
    let s : step_clock fresh (period_of 0) 0xaa ≡ 6043 = rw (fresh_asked, fresh_last, period_zero) in
    subst (ZeroFrom fresh) s (zero_from fresh (period_of 0) fresh_settled (omega arith))

falling : (v d : ℕ) → Falling v d (asked v d (steps v))
unfolding matches
falling v d e a b c = rw (a, b, c) (omega arith)

sustaining : (s : ℕ) → Sustaining (s * 16) (s * 17)
unfolding sustain_release_set target_refreshed
sustaining s e g h m d v n = (sustain_stays (s * 17) n (sustain_release_set e (s * 16)) (v, omega arith, g, h, m, d)).0

-- the byte leaves a steady rise one: its target is a period's
still_rises : (e : Envelope) (byte : ℕ) → SteadyRise e → SteadyRise (sustain_release_set e byte)
unfolding sustain_release_set target_refreshed
still_rises e byte h = record {
  input = h.input;
  stage_a = h.stage_a;
  stage_b = h.stage_b;
  motion = h.motion;
  motion_delay = h.motion_delay;
  level_delay = h.level_delay;
  curve_delay = h.curve_delay;
  target = omega (arith, period_range (rate_in_force (record e { hold_level = byte / 16 * 17; fall_rate = byte % 16 })));
}

reaching : (byte : ℕ) → byte / 16 * 17 ≡ 0xff → Reaching byte
unfolding sustain_release_set target_refreshed
reaching byte s e h =
    let x = sustain_release_set e byte in
    sustain_holds x (still_rises e byte h) s (alone x) (clocks_alone x)

pub edges : Edges
unfolding kept holds matches steps wait lag fresh triangle noise_fresh shown
edges = record {
  bus_11 = byte_fades 0xff 11 (omega arith);
  bus_12 = byte_fades 0xff 12 (omega arith);
  bus_43007 = byte_fades 0x80 43007 (omega arith);
  bus_43008 = byte_fades 0x80 43008 (omega arith);
  phase_9 = matching 9 (omega arith);
  phase_8 = matching 8 (omega arith);
  release_12 = releasing 1;
  release_274 = releasing 30;
  fresh_6043 = fresh_zero;
  fresh_671 = rw fresh_asked;
  fall_756 = subst (Falling 0xff 1) top_asked (falling 0xff 1);
  fall_786 = subst (Falling 0x00 30) zero_asked (falling 0x00 30);
  triangle_7ff = refl;
  triangle_800 = refl;
  triangle_fff = refl;
  noise_fe0 = refl;
  settled_0 = λ s. (settled_zero s, loaded_zero s);
  sustain_f0 = sustaining 15;
  sustain_f0_reached = reaching _ refl;
}
