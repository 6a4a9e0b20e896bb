-- 'Sustain 0xf0 holds at 0xff': with that sustain level, a steady rise that reaches 0xff stays there. Assumes nothing.
use Prim.Native.Nat.{ℕ, zero, suc, ◌+◌, ◌-◌, ◌%◌, ◌≤◌}
use native.Mathlib.Omega.{arith}
use mathlib.Core.Path.{◌≡◌, refl, ap, sym, ◌∙◌, subst}
use mathlib.Core.Bool.{Bool, true, false}
use mathlib.Core.Logic.{◌⊎◌, inl, inr, ⊎_elim}
use borrow.Author.Tests.{eq-eqb, eqb-true, eqb-false}
use lib.Dec.{eqb}
use Rattle.laws.specs.Times.{times}
use Rattle.laws.proofs.Cond.{by_test, either}
use Rattle.laws.proofs.Times.{times_first, times_add}
use Rattle.envelope.specs.declared.Envelope.{Envelope}
use Rattle.envelope.specs.declared.EnvelopeMotion.{EnvelopeMotion}
use Rattle.envelope.specs.declared.EnvelopeMotion.TheVariants.{Rising, FallingToSustain}
use Rattle.envelope.specs.declared.GateHistory.{GateHistory}
use Rattle.envelope.specs.Envelope.{rising_rate_selected, target_refreshed, level_read, divisor_committed, gate_sampled, motion_taken, motion_committed, divisor_selected, top_reached, up, stepped_up, stepped, amplitude_due, amplitude_clocked, curve_clocked, curve_counted, match_used, match_consumed, phase_up, rate_clocked, clocked, clocks}
use Rattle.envelope.proofs.Quiet.{gate_still, motion_still}
use Rattle.release.specs.Settled.{Runs, From}
use Rattle.release.specs.Sustain.{SteadyRise, Topped, HoldsTop}
use Rattle.release.proofs.Stairs.{seen}
use Rattle.release.proofs.Waits.{phase_up_lem}
use Rattle.release.proofs.Stays.{Of, divisor_keeps, counters_keep, level_keeps, Sustained, sustained_level, sustain_stays}

-- ---- from 0xff on: FallingToSustain is taken on the third clock, and no level delay ends before it

-- level and sustain level 0xff, the gate at rest, FallingToSustain to be taken in n clocks
abbrev Pending : ℕ → ℕ → Bool → GateHistory → EnvelopeMotion → EnvelopeMotion → ℕ → ℕ → Type 0
Pending n x _ g _ r d l = (x ≡ 0xff) × (l ≡ 0xff) × (g.input ≡ g.stage_a) × (g.stage_a ≡ g.stage_b) × (r ≡ FallingToSustain) × (d ≡ n)

pending_gate : (n : ℕ) (e : Envelope) → Of (Pending n) e → Of (Pending n) (gate_sampled e)
pending_gate n e a = subst (Of (Pending n)) (sym (gate_still e a.2 a.3)) a

pending_motion : (n : ℕ) (e : Envelope) → Of (Pending (suc (suc n))) e → Of (Pending (suc n)) (motion_committed e)
unfolding motion_committed target_refreshed motion_taken
pending_motion n e a =
    let P = Of (Pending (suc n)) in
    let b : e.motion_delay - 1 ≡ suc n = omega (arith, a.5) in
    by_test P (eqb e.motion_delay 0) _ _ (λ z. absurd (omega (arith, a.5, eqb-true e.motion_delay 0 z)))
    (λ _. either P (eqb (e.motion_delay - 1) 0) _ _ (a.0, a.1, a.2, a.3, a.4, b) (a.0, a.1, a.2, a.3, a.4, b))

motion_taken_lem : (e : Envelope) → Of (Pending 1) e → Of (Sustained 0xff) (motion_committed e)
unfolding motion_committed target_refreshed motion_taken
motion_taken_lem e a =
    let P = Of (Sustained 0xff) in
    by_test P (eqb e.motion_delay 0) _ _ (λ z. absurd (omega (arith, a.5, eqb-true e.motion_delay 0 z)))
    (λ _. by_test P (eqb (e.motion_delay - 1) 0) _ _ (λ z. (a.0, a.1, a.2, a.3, a.4, eqb-true (e.motion_delay - 1) 0 z))
    (λ z. absurd (eqb-false (e.motion_delay - 1) 0 z (omega (arith, a.5)))))

-- what comes before the level on a clock touches neither level delay nor curve delay
abbrev to_level : Envelope → Envelope
to_level e = motion_committed (gate_sampled (divisor_committed (level_read e)))

module _ (Q : ℕ → ℕ → Type 0) where
  abbrev Delays : Envelope → Type 0
  Delays e = Q e.amplitude_delay e.curve_delay

  divisor_delays : (e : Envelope) → Delays e → Delays (divisor_committed e)
  unfolding divisor_committed
  divisor_delays e a = either Delays (eqb e.queued_curve_divisor 0) _ _ a a

  motion_delays : (e : Envelope) → Delays e → Delays (motion_committed e)
  unfolding motion_committed target_refreshed motion_taken
  motion_delays e a = either Delays (eqb e.motion_delay 0) _ _ a (either Delays (eqb (e.motion_delay - 1) 0) _ _ a a)

  to_level_lem : (n : ℕ) (e : Envelope) → Of (Pending (suc (suc n))) e → Delays e → Of (Pending (suc n)) (to_level e) × Delays (to_level e)
  to_level_lem n e a d =
      let e1 = divisor_committed (level_read e) in
      let a1 = divisor_keeps (Pending (suc (suc n))) (level_read e) a in
      let d1 = divisor_delays (level_read e) d in (
        pending_motion n (gate_sampled e1) (pending_gate (suc (suc n)) e1 a1),
        motion_delays (gate_sampled e1) (subst Delays (sym (gate_still e1 a1.2 a1.3)) d1),
      )

-- a level delay that doesn't end changes no level
abbrev Unended : ℕ → ℕ → Type 0
Unended amplitude _ = amplitude ≡ 1 → ⊥

level_waits : (n : ℕ) (e : Envelope) → Delays Unended e → Of (Pending n) e → Of (Pending n) (amplitude_clocked e)
unfolding amplitude_clocked amplitude_due
level_waits n e w a =
    by_test (Of (Pending n)) (eqb e.amplitude_delay 0) _ _ (λ _. a)
    (λ y. by_test (Of (Pending n)) (eqb (e.amplitude_delay - 1) 0) _ _
    (λ z. absurd (w (omega (arith, eqb-false e.amplitude_delay 0 y, eqb-true (e.amplitude_delay - 1) 0 z)))) (λ _. a))

-- with no level or curve delay a clock goes on with the match, which sets a level delay of 2 or none
abbrev None : ℕ → ℕ → Type 0
None amplitude curve = (amplitude ≡ 0) × (curve ≡ 0)

delays_still : (e : Envelope) → Delays None e → curve_clocked (amplitude_clocked e) ≡ e
unfolding amplitude_clocked curve_clocked
delays_still e d = simp (eq-eqb _ _ d.0, eq-eqb _ _ d.1)

match_delay : (e : Envelope) → Delays Unended e → Delays Unended (match_consumed e)
unfolding match_consumed match_used curve_counted
match_delay e w =
    let P = Delays Unended in
    either P e.matched_rate _ _
    (either P (rising_rate_selected (record e { matched_rate = false; rate_phase = 0 })) _ _ (λ q. omega arith)
    (either P e.floor_hold _ _ w (either P (eqb ((e.curve_count + 1) % 256) e.curve_divisor) _ _ w w)))
    w

abbrev at_target : Envelope → Bool
at_target e = eqb e.rate_phase e.rate_target_phase

rate_delay : (e : Envelope) → Delays Unended e → Delays Unended (rate_clocked e)
unfolding rate_clocked
rate_delay e w = either (Delays Unended) (at_target e) _ _ w w

-- the three clocks
abbrev Top : Envelope → Type 0
Top e = Of (Pending 3) e × Delays None e

first_clock : (e : Envelope) → Top e → Of (Pending 2) (clocked e) × Delays Unended (clocked e)
unfolding clocked
first_clock e t =
    let a = to_level_lem None 1 e t.0 t.1 in
    let x = to_level e in
    let w : Delays Unended x = λ z. omega (arith, z, a.1.0) in (
      counters_keep (Pending 2) _ (level_waits 2 x w a.0),
      subst (λ (y : Envelope). Delays Unended (rate_clocked (match_consumed y))) (sym (delays_still x a.1))
          (rate_delay (match_consumed x) (match_delay x w)),
    )

second_clock : (e : Envelope) → Of (Pending 2) e → Delays Unended e → Of (Pending 1) (clocked e)
unfolding clocked
second_clock e a w = let b = to_level_lem Unended 0 e a w in counters_keep (Pending 1) _ (level_waits 1 (to_level e) b.1 b.0)

third_clock : (e : Envelope) → Of (Pending 1) e → Of (Sustained 0xff) (clocked e)
unfolding clocked
third_clock e a =
    let b = motion_taken_lem _ (pending_gate 1 _ (divisor_keeps (Pending 1) (level_read e) a)) in
    counters_keep (Sustained 0xff) _ (level_keeps (Sustained 0xff) (sustained_level 0xff) (to_level e) b)

-- level 0xff after every number of clocks
abbrev Stays : Envelope → Type 0
Stays e = (n : ℕ) → (clocks n e).volume ≡ 0xff

later : (e : Envelope) → e.volume ≡ 0xff → Stays (clocked e) → Stays e
unfolding times
later e v h zero = v
later e v h (suc n) = ap (λ (x : Envelope). x.volume) (times_first clocked n e) ∙ h n

top_stays : (e : Envelope) → Top e → Stays e
top_stays e t =
    let a = first_clock e t in
    let b = second_clock (clocked e) a.0 a.1 in
    let c = third_clock (clocked (clocked e)) b in
    later e t.0.0 (later (clocked e) a.0.0 (later (clocked (clocked e)) b.0 (λ n. (sustain_stays 0xff n _ c).0)))

pub topped_stays : (e : Envelope) → Topped e → e.hold_level ≡ 0xff → (n : ℕ) → (clocks n e).volume ≡ 0xff
topped_stays e t s = top_stays e ((t.level, s, t.input, t.samples, t.requested, t.motion_delay), (t.level_delay, t.curve_delay))

-- ---- up to 0xff: a match sets a level delay of 2 and leaves phase 1, and no other match comes before it ends

record Rise (g : GateHistory) (m : EnvelopeMotion) (delay curve sustain target : ℕ) : Type 0 where
  input : g.input ≡ g.stage_a
  samples : g.stage_a ≡ g.stage_b
  motion : m ≡ Rising
  motion_delay : delay ≡ 0
  curve_delay : curve ≡ 0
  top : sustain ≡ 0xff
  period : 8 ≤ target

abbrev Rises : Envelope → Type 0
Rises e = Rise e.gate e.motion e.motion_delay e.curve_delay e.hold_level e.rate_target_phase

-- no level delay, or one set with a match: what is left of it and the phase since make 3
abbrev Lifts : Envelope → Type 0
Lifts e = (e.amplitude_delay ≡ 0) ⊎ ((e.matched_rate ≡ false) × (e.amplitude_delay + e.rate_phase ≡ 3))

-- the rising rate is in force
match_lifts : (e : Envelope) → Rises e → match_used e ≡ record e { curve_count = 0; amplitude_delay = 2 }
unfolding match_used rising_rate_selected
match_lifts e r = simp (r.motion_delay, r.motion)

-- a phase below every target is not at the target
below_target : (e : Envelope) → Rises e → e.rate_phase ≤ 3 → at_target e ≡ true → ⊥
below_target e r l z = omega (arith, l, r.period, eqb-true e.rate_phase e.rate_target_phase z)

module _ (v : ℕ) where
  -- a level of 0xff that isn't new since level v
  abbrev Old : Envelope → Type 0
  Old e = e.volume ≡ 0xff → v ≡ 0xff

  -- what a clock from level v leaves: 0xff just reached, or a rise that goes on
  abbrev Next : Envelope → Type 0
  Next e = Top e ⊎ (Rises e × Lifts e × Old e)

  -- no level delay: the counter goes on, and a waiting match sets a delay
  counts : (e : Envelope) → Rises e → e.amplitude_delay ≡ 0 → Old e → Next (rate_clocked e)
  unfolding rate_clocked
  counts e r a k = either Next (at_target e) _ _ (inr (r, inl a, k)) (inr (r, inl a, k))

  lift_starts : (e : Envelope) → Rises e → e.matched_rate ≡ false → e.rate_phase ≡ 0 → Old e → Next (rate_clocked (match_used e))
  unfolding rate_clocked phase_up
  lift_starts e r m p k =
      subst (λ (x : Envelope). Next (rate_clocked x)) (sym (match_lifts e r))
      (by_test Next (at_target e) _ _ (λ z. absurd (below_target e r (omega (arith, p)) z)) (λ _. inr (r, inr (m, ap (λ (x : ℕ). 2 + phase_up x) p), k)))

  idles : (e : Envelope) → Rises e → e.amplitude_delay ≡ 0 → Old e → Next (rate_clocked (match_consumed e))
  unfolding match_consumed
  idles e r a k =
      by_test (λ (x : Envelope). Next (rate_clocked x)) e.matched_rate _ _
      (λ _. lift_starts (record e { matched_rate = false; rate_phase = 0 }) r refl refl k) (λ _. counts e r a k)

  -- the rest of a clock with a level delay: no match waits, and the phase is below every target
  abbrev Rest : Envelope → Type 0
  Rest e = Next (rate_clocked (match_consumed (curve_clocked e)))

  module _ (e : Envelope) (curveless : e.curve_delay ≡ 0) (unmatched : e.matched_rate ≡ false) where
    counter_alone : rate_clocked (match_consumed (curve_clocked e)) ≡ rate_clocked e
    unfolding match_consumed curve_clocked
    counter_alone = simp (eq-eqb _ _ curveless, unmatched)

    lift_waits : Rises e → e.amplitude_delay + e.rate_phase ≡ 2 → Old e → Rest e
    unfolding rate_clocked
    lift_waits r s k =
        subst Next (sym counter_alone)
        (by_test Next (at_target e) _ _ (λ z. absurd (below_target e r (omega (arith, s)) z))
        (λ _. inr (r, inr (unmatched, omega (arith, s, phase_up_lem e.rate_phase (omega (arith, s)))), k)))

    lift_ends : Rises e → e.amplitude_delay ≡ 0 → Old e → Rest e
    lift_ends r a k = subst Next (sym counter_alone) (counts e r a k)

    top_reached_lem : Of (Pending 3) e → e.amplitude_delay ≡ 0 → Rest e
    unfolding rate_clocked
    top_reached_lem t a = subst Next (sym counter_alone) (either Next (at_target e) _ _ (inl (t, (a, curveless))) (inl (t, (a, curveless))))

  steps_up : (e : Envelope) → Rises e → e.matched_rate ≡ false → e.amplitude_delay ≡ 0 → Rest (stepped_up e)
  unfolding stepped_up divisor_selected top_reached
  steps_up e r m a =
      by_test (λ (x : Envelope). Rest (divisor_selected x)) (eqb (up e.volume) 0xff) _ _
      (λ z. top_reached_lem _ r.curve_delay m (eqb-true (up e.volume) 0xff z, r.top, r.input, r.samples, refl, refl) a)
      (λ z. lift_ends _ r.curve_delay m r a (λ k. absurd (eqb-false (up e.volume) 0xff z k)))

  lift_due
      : (e : Envelope) → Rises e → e.matched_rate ≡ false → e.amplitude_delay + e.rate_phase ≡ 2 → Old e
      → Rest (amplitude_due e)
  unfolding amplitude_due stepped
  lift_due e r m s k =
      by_test Rest (eqb e.amplitude_delay 0) _ _
      (λ z.
      let a = eqb-true e.amplitude_delay 0 z in
      let up = subst (λ (x : EnvelopeMotion). Rest (stepped x e)) (sym r.motion) (steps_up e r m a) in
      either Rest e.floor_hold _ _ (lift_ends e r.curve_delay m r a k) up)
      (λ _. lift_waits e r.curve_delay m r s k)

  climbs : (e : Envelope) → Rises e → Lifts e → Old e → Rest (amplitude_clocked e)
  unfolding amplitude_clocked
  climbs e r f k =
      ⊎_elim (λ a. subst (λ (x : Envelope). Next (rate_clocked (match_consumed x))) (sym (delays_still e (a, r.curve_delay))) (idles e r a k))
      (λ b. by_test Rest (eqb e.amplitude_delay 0) _ _ (λ z. lift_ends e r.curve_delay b.0 r (eqb-true e.amplitude_delay 0 z) k)
      (λ z. lift_due (record e { amplitude_delay = e.amplitude_delay - 1 }) r b.0 (omega (arith, b.1, eqb-false e.amplitude_delay 0 z)) k))
      f

-- one clock of a rise
divisor_rises : (e : Envelope) → Rises e → Lifts e → Rises (divisor_committed e) × Lifts (divisor_committed e) × ((divisor_committed e).volume ≡ e.volume)
unfolding divisor_committed
divisor_rises e r f =
    either (λ (x : Envelope). Rises x × Lifts x × (x.volume ≡ e.volume)) (eqb e.queued_curve_divisor 0) _ _ (r, f, refl) (r, f, refl)

rise_clock : (e : Envelope) → Rises e → Lifts e → Next e.volume (clocked e)
unfolding clocked
rise_clock e r f =
    let x = divisor_committed (level_read e) in
    let d = divisor_rises (level_read e) r f in
    let same : to_level e ≡ x = ap motion_committed (gate_still x d.0.input d.0.samples) ∙ motion_still x d.0.motion_delay in
    subst (λ (y : Envelope). Rest e.volume (amplitude_clocked y)) (sym same) (climbs e.volume x d.0 d.1 (λ k. sym d.2 ∙ k))

-- after any number of clocks the rise goes on, or has come to 0xff for good
rise_clocks : (n : ℕ) (e : Envelope) → Rises e → Lifts e → (Rises (clocks n e) × Lifts (clocks n e)) ⊎ Stays (clocks n e)
unfolding times
rise_clocks zero e r f = inl (r, f)
rise_clocks (suc n) e r f =
    let x = clocks n e in
    ⊎_elim (λ a. ⊎_elim (λ t. inr (top_stays (clocked x) t)) (λ b. inl (b.0, b.1)) (rise_clock x a.0 a.1))
    (λ h. inr (λ m. ap (λ (y : Envelope). y.volume) (sym (times_first clocked m x)) ∙ h (suc m)))
    (rise_clocks n e r f)

-- THE LAW
pub sustain_holds : (e : Envelope) → SteadyRise e → e.hold_level ≡ 0xff → (s : Runs) → From e s → HoldsTop s
unfolding times
sustain_holds e h s runs from r t u q below top l =
    let n = runs.made r in
    let m = runs.made u in
    let x = clocks n e in
    let rising : Rises e = record {
      input = h.input ∙ sym h.stage_a;
      samples = h.stage_a ∙ sym h.stage_b;
      motion = h.motion;
      motion_delay = h.motion_delay;
      curve_delay = h.curve_delay;
      top = s;
      period = h.target;
    } in
    let before : x.volume ≡ 0xff → ⊥ = λ k. below (seen e runs from r n refl ∙ k) in
    let i : m ≡ suc n + (m - suc n) = omega (arith, q, l) in
    seen e runs from u _ i
    ∙ ap (λ (y : Envelope). y.volume) (sym (times_add clocked (m - suc n) (suc n) e))
    ∙ ⊎_elim
    (λ a.
    ⊎_elim (λ k. top_stays (clocked x) k (m - suc n)) (λ b. absurd (before (b.2 (sym (seen e runs from t (suc n) q) ∙ top))))
    (rise_clock x a.0 a.1))
    (λ k. absurd (before (k 0))) (rise_clocks n e rising (inl h.level_delay))
