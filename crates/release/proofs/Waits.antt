-- From any envelope with nothing under way the match is set once the counter has come to its target, the long way
-- round too; until then only phase and readback move. Assumes nothing.
use Prim.Native.Nat.{ℕ, zero, suc, ◌+◌, ◌-◌, ◌%◌, ◌<◌, ◌≤◌}
use native.Mathlib.Omega.{arith}
use mathlib.Core.Path.{◌≡◌, refl, ap, sym, ◌∙◌}
use mathlib.Core.Bool.{Bool, true, false, cond}
use borrow.Author.Tests.{eq-eqb, ne_eqb, eqb-true, eqb-false}
use lib.Dec.{eqb}
use Rattle.envelope.specs.declared.Envelope.{Envelope}
use Rattle.envelope.specs.Envelope.{clocked, phase_up, rate_clocked, quiescent}
use Rattle.envelope.proofs.Quiet.{quiet, quiet_clock}
use Rattle.release.specs.Release.{FirstMatch}
use Rattle.release.specs.StepClocks.{wait}
use Rattle.release.proofs.Keeps.{Keeps, one, join, long}

pub phase_up_lem : (p : ℕ) → p < 32767 → phase_up p ≡ (p + 1) % 32767
unfolding phase_up
phase_up_lem p h = go (eqb ((p + 1) % 65536) 32767) refl
  where
    go : (b : Bool) → eqb ((p + 1) % 65536) 32767 ≡ b → cond b 0 ((p + 1) % 65536) ≡ (p + 1) % 32767
    go true e = omega (arith, eqb-true ((p + 1) % 65536) 32767 e)
    go false e = omega (arith, eqb-false ((p + 1) % 65536) 32767 e)

module _ (P : ℕ) (least : 9 ≤ P) (most : P ≤ 32767) (p : ℕ) where
  -- at the target nothing is left of the wait, elsewhere one clock less at the next phase
  wait_none : p < 32767 → wait P p ≡ 0 → p ≡ P - 1
  unfolding wait
  wait_none l e = omega arith

  wait_some : (n : ℕ) → p < 32767 → wait P p ≡ suc n → p ≡ P - 1 → ⊥
  unfolding wait
  wait_some n l e q = omega arith

  wait_next : (n : ℕ) → p < 32767 → wait P p ≡ suc n → wait P ((p + 1) % 32767) ≡ n
  unfolding wait
  wait_next n l e = omega arith

  -- before the target it is the difference
  pub wait_before : p < P → wait P p ≡ P - 1 - p
  unfolding wait
  wait_before l = omega arith

-- the envelope at another phase and readback; and the match set
abbrev pub counting : Envelope → ℕ → ℕ → Envelope
counting e p b = record e { rate_phase = p; readback = b }

abbrev pub matching : Envelope → Envelope
matching e = record (counting e e.rate_target_phase e.volume) { matched_rate = true }

module _ (e : Envelope) (q : quiescent e ≡ true) where
  counts : (p b : ℕ) → (p ≡ e.rate_target_phase → ⊥) → clocked (counting e p b) ≡ counting e (phase_up p) e.volume
  unfolding quiescent rate_clocked
  counts p b n = quiet_clock (counting e p b) q ∙ simp (ne_eqb _ _ n)

  meets : (p b : ℕ) → p ≡ e.rate_target_phase → clocked (counting e p b) ≡ matching e
  unfolding quiescent rate_clocked
  meets p b t = quiet_clock (counting e p b) q ∙ simp (eq-eqb _ _ t) (ap (λ (x : ℕ). record (counting e x e.volume) { matched_rate = true }) t)

  module _ (P : ℕ) (target : e.rate_target_phase ≡ P - 1) (least : 9 ≤ P) (most : P ≤ 32767) (Q : Envelope → Type 0) (holds : (p b : ℕ) → Q (counting e p b)) where
    pub to_match : (n p b : ℕ) → p < 32767 → wait P p ≡ n → Keeps Q (n + 1) (counting e p b) (matching e)
    to_match zero p b l w = one _ _ (holds p b) (meets p b (wait_none P least most p l w ∙ sym target))
    to_match (suc n) p b l w =
        let next = counts p b (λ t. wait_some P least most p n l w (t ∙ target)) ∙ ap (λ (x : ℕ). counting e x e.volume) (phase_up_lem p l) in
        long (omega arith) (join (one _ _ (holds p b) next) (to_match n ((p + 1) % 32767) e.volume (omega arith) (wait_next P least most p n l w)))

  pub first_match : (P : ℕ) → e.rate_target_phase ≡ P - 1 → 9 ≤ P → P ≤ 32767 → e.rate_phase < 32767 → FirstMatch e (wait P e.rate_phase + 1)
  first_match P target least most low =
      let k = to_match P target least most (λ (x : Envelope). x.matched_rate ≡ false) (λ _ _. (quiet e q).unmatched) (wait P e.rate_phase) e.rate_phase e.readback low refl in
      (ap (λ (x : Envelope). x.matched_rate) k.arrives, k.kept)
