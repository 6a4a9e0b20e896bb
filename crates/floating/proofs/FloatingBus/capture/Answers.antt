-- `FloatingBus::capture` charges the lines of the code's low twelve bits, and sets hold and first leak by the cycle.
use lib.Bits.{and_mask}
use Rattle.floating.specs.Floating.{captured}
use Rattle.floating.proofs.FloatingBus.capture.Goals as goal

pub returns : goal.returns
unfolding captured
returns c = simp (c.charges_of.ensures, and_mask c.args.value 12)
