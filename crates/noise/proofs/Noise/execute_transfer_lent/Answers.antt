-- `Noise::execute_transfer_lent` shifts numbers and lent charges where due, as `execute_transfer` does by value.
use Rattle.noise.specs.Noise.{transferred}
use Rattle.std.proofs.Common.{sym, ◌∙◌}
use Rattle.noise.proofs.Noise.execute_transfer_lent.Goals as goal

pub returns-then-transfers : goal.returns-then-transfers
unfolding transferred
returns-then-transfers c = simp (sym c.transfers.ensures ∙ c.if-transfers.true, c.shift.ensures, c.shifted_charge.ensures, c.incoming.ensures)

pub returns : goal.returns
unfolding transferred
returns c = simp (sym c.transfers.ensures ∙ c.if-transfers.false)
