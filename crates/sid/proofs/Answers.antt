-- What `code`, `level` and `held` promise determines their answer: two that tell the same are equal. Assumes nothing.
use mathlib.Core.Path.{◌≡◌}
use Rattle.std.proofs.Common.{Result}
use Rattle.refusals.specs.Refusals.{tells}
use Rattle.refusals.specs.declared.Refused.{Refused}
use Rattle.refusals.proofs.Numbers.{tells_tells}

pub told_tells : {A : Type 0} (a b : Result A Refused) → tells a ≡ tells b → a ≡ b
told_tells = tells_tells
