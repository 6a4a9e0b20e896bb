-- `Noise::pulse_load_aperture` is true exactly on the clock on which a rise's shift lands, and on the one before.
use Rattle.std.proofs.Common.{◌∙◌, eq-eqb, ne_eqb, le-leb}
use borrow.Author.Tests.{lt-leb}
use mathlib.Core.Logic.{inl, inr}
use Rattle.noise.specs.Noise.{pulse_load_aperture}
use Rattle.noise.proofs.Noise.pulse_load_aperture.Goals as goal
use Rattle.noise.proofs.Noise.pulse_load_aperture.Goals.{then-at, else-at}

pub returns-then-cycle-at : goal.returns-then-cycle-at
unfolding pulse_load_aperture
returns-then-cycle-at c = simp (ne_eqb _ _ c.if-cycle-at.true.0, le-leb _ _ c.if-cycle-at.true.1)

pub returns-else-cycle-at : goal.returns-else-cycle-at
unfolding pulse_load_aperture
returns-else-cycle-at c =
    elim c.if-cycle-at.either [
      | inl h ↦
          elim c.if-at.branch [
            | then-at w ↦ w.t-5-is ∙ simp (ne_eqb _ _ h.0, lt-leb _ _ h.1)
            | else-at w ↦ absurd (h.0 w.if-at.false)
          ]
      | inr h ↦
          elim c.if-at.branch [
            | then-at w ↦ absurd (w.if-at.true h)
            | else-at w ↦ w.t-5-is ∙ simp (eq-eqb _ _ h)
          ]
    ]
