-- `matches_to_zero` is the entry of a table that passes the test.
use native.Mathlib.Omega.{arith}
use Rattle.planner.proofs.Falls.{table_right}
use Rattle.planner.proofs.matches_to_zero.Goals as goal

pub returns : goal.returns
returns c = table_right _ c.table.ensures c.args.level (omega arith)
