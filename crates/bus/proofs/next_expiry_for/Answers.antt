-- `next_expiry_for` gives the least hold above the age among the set bits; at first none expires.
use Rattle.std.proofs.Common.{refl}
use Rattle.bus.specs.Bus.{holds, next_expiry_for}
use Rattle.bus.proofs.next_expiry_for.Goals as goal

pub loop-bit-init : goal.loop-bit-init
unfolding next_expiry_for holds
loop-bit-init c = refl
