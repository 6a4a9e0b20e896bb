-- `matches_left` is the table's number from the next level on that queues a divisor, and the divisor in force for each
-- step to it, less the curve count.
use native.Mathlib.Omega.{arith}
use native.Mathlib.Nat.{mul-le-mul_right}
use mathlib.Core.Path.{sym}
use Rattle.planner.proofs.Falls.{matches_turn}
use Rattle.planner.proofs.matches_left.Goals as goal

pub returns : goal.returns
returns c =
    let d = c.args.e.curve_divisor in
    let least = mul-le-mul_right {m = 1} {n = c.steps_to_turn.result} d c.steps_to_turn.ensures.1 in
    let most = mul-le-mul_right {m = c.steps_to_turn.result} {n = 256} d c.steps_to_turn.ensures.2 in
    (rw (c.steps_to_turn.ensures.0, c.matches_to_zero-from_turn.ensures, c.turn.ensures) (sym (matches_turn c.args.e (omega arith))), omega (arith, c.requires, least), omega (arith, c.requires, most))
