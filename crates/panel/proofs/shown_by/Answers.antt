-- `shown_by` gives the code and the level that the chip tells of the voice named.
use Prim.Native.Nat.{ℕ}
use Rattle.std.specs.Prelude.{Result, Ok, Err}
use Rattle.std.specs.Result.{result_unwrap_or}
use mathlib.Core.Path.{◌≡◌, refl, ap, ap₂, ◌∙◌}
use Rattle.refusals.specs.declared.Refused.{Refused}
use Rattle.refusals.specs.Refusals.{tells}
use Rattle.panel.specs.Panel.{shown_told}
use Rattle.panel.proofs.shown_by.Goals as goal

-- what is told of a refusal doesn't matter
told_or : (r : Result ℕ Refused) → result_unwrap_or r 0 ≡ result_unwrap_or (tells r) 0
told_or (Ok x) = refl
told_or (Err r) = refl

pub returns : goal.returns
unfolding shown_told
returns c =
    let code = c.unwrap_or.ensures ∙ (told_or c.code.result ∙ ap (λ r. result_unwrap_or r 0) c.code.ensures) in
    let level = c.unwrap_or-2.ensures ∙ (told_or c.level.result ∙ ap (λ r. result_unwrap_or r 0) c.level.ensures) in
    ap₂ (λ x y. record { code = x; level = y }) code level
