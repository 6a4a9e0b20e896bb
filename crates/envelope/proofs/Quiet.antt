-- Where nothing is under way a clock is the rate counter's alone: 'the short way at the head of `clock` gives the
-- same state'; and then nothing is, unless the rate matched (`quiet_next`). Assumes nothing.
use Rattle.std.proofs.Common.{◌≡◌, Bool, true, false, cond, not, ◌&&◌, None, eqb, refl, ap₂, eq-eqb, eqb-true}
use mathlib.Core.Bool.{beq, false≢true}
use borrow.Author.Tests.{not-true}
use Rattle.laws.proofs.Bools.{and_both}
use Rattle.envelope.specs.declared.Envelope.{Envelope}
use Rattle.envelope.specs.Envelope.{level_read, divisor_committed, edge_of, requested_on, gate_sampled, motion_committed, amplitude_clocked, curve_clocked, match_consumed, phase_up, rate_clocked, clocked, quiescent}

last : (a b : Bool) → (a && b) ≡ true → (c : Bool) → (a && c) ≡ c
last true b h c = refl
last false b h c = absurd (false≢true h)

same : (a b : Bool) → beq a b ≡ true → a ≡ b
same true true h = refl
same true false h = absurd (false≢true h)
same false true h = absurd (false≢true h)
same false false h = refl

edge_still : (a b : Bool) → a ≡ b → edge_of a b ≡ None
edge_still true b h = rw (← h)
edge_still false b h = rw (← h)

module _ (e : Envelope) where
  divisor_still : e.queued_curve_divisor ≡ 0 → divisor_committed e ≡ e
  unfolding divisor_committed
  divisor_still h = simp (eq-eqb _ _ h)

  pub gate_still : e.gate.input ≡ e.gate.stage_a → e.gate.stage_a ≡ e.gate.stage_b → gate_sampled e ≡ e
  unfolding gate_sampled requested_on
  gate_still p q =
      rw (edge_still e.gate.stage_a e.gate.stage_b q)
      (ap₂ (λ x y. record e { gate = record e.gate { stage_a = x; stage_b = y } }) p q)

  pub motion_still : e.motion_delay ≡ 0 → motion_committed e ≡ e
  unfolding motion_committed
  motion_still h = simp (eq-eqb _ _ h)

  amplitude_still : e.amplitude_delay ≡ 0 → amplitude_clocked e ≡ e
  unfolding amplitude_clocked
  amplitude_still h = simp (eq-eqb _ _ h)

  curve_still : e.curve_delay ≡ 0 → curve_clocked e ≡ e
  unfolding curve_clocked
  curve_still h = simp (eq-eqb _ _ h)

  match_still : e.matched_rate ≡ false → match_consumed e ≡ e
  unfolding match_consumed
  match_still h = simp h

-- what the test of the short way tells
pub record Quiet (e : Envelope) : Type 0 where
  pub unqueued : e.queued_curve_divisor ≡ 0
  pub input : e.gate.input ≡ e.gate.stage_a
  pub samples : e.gate.stage_a ≡ e.gate.stage_b
  pub motion : e.motion_delay ≡ 0
  pub amplitude : e.amplitude_delay ≡ 0
  pub curve : e.curve_delay ≡ 0
  pub unmatched : e.matched_rate ≡ false

pub quiet : (e : Envelope) → quiescent e ≡ true → Quiet e
unfolding quiescent
quiet e h =
    let h6 = and_both _ _ h in
    let h5 = and_both _ _ h6.0 in
    let h4 = and_both _ _ h5.0 in
    let h3 = and_both _ _ h4.0 in
    let h2 = and_both _ _ h3.0 in
    let h1 = and_both _ _ h2.0 in
    record {
      unqueued = eqb-true _ _ h1.0;
      input = same _ _ h1.1;
      samples = same _ _ h2.1;
      motion = eqb-true _ _ h3.1;
      amplitude = eqb-true _ _ h4.1;
      curve = eqb-true _ _ h5.1;
      unmatched = not-true _ h6.1;
    }

pub quiet_clock : (e : Envelope) → quiescent e ≡ true → clocked e ≡ rate_clocked (level_read e)
unfolding clocked
quiet_clock e h =
    let r = level_read e in
    let q = quiet e h in
    rw (
      divisor_still r q.unqueued,
      gate_still r q.input q.samples,
      motion_still r q.motion,
      amplitude_still r q.amplitude,
      curve_still r q.curve,
      match_still r q.unmatched,
    )

-- all of the test but its last
abbrev rests : Envelope → Bool
rests e =
    eqb e.queued_curve_divisor 0
    && beq e.gate.input e.gate.stage_a
    && beq e.gate.stage_a e.gate.stage_b
    && eqb e.motion_delay 0
    && eqb e.amplitude_delay 0
    && eqb e.curve_delay 0

pub quiet_next : (e : Envelope) → quiescent e ≡ true → quiescent (rate_clocked (level_read e)) ≡ not (rate_clocked (level_read e)).matched_rate
unfolding quiescent rate_clocked
quiet_next e h = go (eqb e.rate_phase e.rate_target_phase) (λ c. last (rests e) (not e.matched_rate) h c)
  where
    go : (matched : Bool)
        → ((c : Bool) → (rests e && c) ≡ c)
        → quiescent (cond matched (record (level_read e) { matched_rate = true }) (record (level_read e) { rate_phase = phase_up e.rate_phase }))
        ≡ not (cond matched (record (level_read e) { matched_rate = true }) (record (level_read e) { rate_phase = phase_up e.rate_phase })).matched_rate
    go true f = f false
    go false f = f (not e.matched_rate)
