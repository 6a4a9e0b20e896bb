-- `retained` keeps exactly the set bits whose hold exceeds the age, the highest first; at first nothing is kept.
use Rattle.std.proofs.Common.{refl}
use Rattle.bus.specs.Bus.{holds, kept}
use Rattle.bus.proofs.retained.Goals as goal

pub loop-bit-init : goal.loop-bit-init
unfolding kept holds
loop-bit-init c = refl
