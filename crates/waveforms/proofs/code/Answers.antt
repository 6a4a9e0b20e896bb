-- `code` sets the bit of each of the twelve lines that is at the threshold or above.
use Rattle.waveforms.proofs.Sums.{code_none, code_more, code_fits}
use Rattle.waveforms.proofs.code.Goals as goal

pub loop-bit-init : goal.loop-bit-init
loop-bit-init c = code_none _ _

pub overflow_add-output : goal.overflow_add-output
overflow_add-output c = let l = c.loop-bit in record { fits = code_fits _ _ l.bit l.output c.retained-output.result l.invariant c.retained-output.ensures c.loop-bit-test.true }

pub loop-bit-preserved : goal.loop-bit-preserved
loop-bit-preserved c = code_more _ _ _ _ _ c.loop-bit.invariant c.retained-output.ensures
