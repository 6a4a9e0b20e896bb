-- `shifted_state` moves every stage one down, and stage 0 xor stage 5 into stage 22.
use Rattle.std.proofs.Common.{◌*◌, ◌/◌, ◌%◌, ◌^◌, arith, shl_exact}
use lib.Bits.{bit_or, and_mask, xor_lt}
use Rattle.noise.specs.Noise.{feedback, shifted_state}
use Rattle.noise.proofs.shifted_state.Goals as goal

pub returns : goal.returns
unfolding shifted_state
returns c =
    let x = c.args.captured in
    let e = shl_exact {a = feedback x} 1 22 32 (xor_lt 1 (x % 2) (x / 2 ^ 5 % 2) (omega arith) (omega arith)) (omega arith) in
    simp (c.feedback.ensures, e, and_mask (bit_or (x / 2) (feedback x * 2 ^ 22)) 23)
