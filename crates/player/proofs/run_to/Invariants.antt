-- `run_to` runs the panel to a stamp, and puts the lines of the bits that fade on the way, where they are watched:
-- from loss to loss, which prints what each clock by itself does.
use Prim.Native.Nat.{◌-◌}
use Rattle.pack.specs.Pack.{over}
use Rattle.player.proofs.Fades.{Watches}
use Rattle.player.proofs.run_to.Given as goal

abbrev pub invariant-loop-ran : goal.invariant-loop-ran
invariant-loop-ran l = Watches (over l.pack) l.stamp l.initial.ran.panel l.initial.text l.ran.panel l.ran.len l.text

abbrev pub decreases-loop-ran : goal.decreases-loop-ran
decreases-loop-ran l = l.stamp - l.ran.panel.clock
