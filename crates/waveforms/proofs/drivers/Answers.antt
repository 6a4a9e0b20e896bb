-- `drivers` counts the waveforms in a selection's low four bits.
use native.Mathlib.Omega.{arith}
use Prim.Native.Nat.{◌/◌, ◌%◌}
use lib.Count.{ones_step, ones-le}
use Rattle.waveforms.specs.Waveforms.{drivers}
use Rattle.waveforms.proofs.drivers.Goals as goal

pub returns : goal.returns
unfolding drivers
returns c =
    let n = c.args.selection % 16 in
    omega (arith, ones_step n, ones_step (n / 2), ones_step (n / 2 / 2), ones_step (n / 2 / 2 / 2), ones-le 0 (n / 2 / 2 / 2 / 2) (omega arith))
