-- `Floating::leaks` is true exactly where the lines show something and both hold and next leak have come.
use Rattle.std.proofs.Common.{◌∙◌, arith, eq-eqb, ne_eqb, le-leb}
use borrow.Author.Tests.{lt-leb}
use mathlib.Core.Bool.{and-false, and-true}
use mathlib.Core.Logic.{inl, inr}
use Rattle.floating.specs.Floating.{leaks}
use Rattle.floating.proofs.Floating.leaks.Goals as goal
use Rattle.floating.proofs.Floating.leaks.Goals.{then-cycle-self, else-cycle-self}

pub returns-then-self-ne0 : goal.returns-then-self-ne0
unfolding leaks
returns-then-self-ne0 c = simp (le-leb _ _ c.if-self-ne0.true.0, ne_eqb _ _ c.if-self-ne0.true.1, and-true)

pub returns-else-self-ne0 : goal.returns-else-self-ne0
unfolding leaks
returns-else-self-ne0 c =
    elim c.if-self-ne0.either [
      | inl h ↦
          let none = eq-eqb _ _ h.1 in
          elim c.if-cycle-self.branch [
            | then-cycle-self w ↦ w.t-4-is ∙ simp none
            | else-cycle-self w ↦ absurd (omega (arith, h.0, w.if-cycle-self.false))
          ]
      | inr h ↦
          elim c.if-cycle-self.branch [
            | then-cycle-self w ↦ absurd (omega (arith, h, w.if-cycle-self.true))
            | else-cycle-self w ↦ w.t-4-is ∙ simp (lt-leb _ _ h, and-false)
          ]
    ]
