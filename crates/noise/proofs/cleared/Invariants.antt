-- `cleared` clears the stages of the low lines and no other bit.
use Rattle.std.proofs.Common.{◌≡◌, ◌-◌, ◌≤◌}
use Rattle.noise.specs.Noise.{cleared_to}
use Rattle.noise.proofs.cleared.Given as goal

abbrev pub invariant-loop-line : goal.invariant-loop-line
invariant-loop-line l = (l.line ≤ 8) × (l.state ≡ cleared_to l.waveform l.initial.state l.line)

abbrev pub decreases-loop-line : goal.decreases-loop-line
decreases-loop-line l = 8 - l.line
