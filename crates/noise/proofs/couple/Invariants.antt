-- `couple` takes a fourteenth, and at least one, from the lent charge of each low line's stage, and from no other.
use Rattle.std.proofs.Common.{◌≡◌, ◌-◌, ◌≤◌}
use Rattle.noise.specs.Noise.{coupled_to}
use Rattle.noise.proofs.couple.Given as goal

abbrev pub invariant-loop-line : goal.invariant-loop-line
invariant-loop-line l = (l.line ≤ 8) × (l.charge ≡ coupled_to l.waveform l.initial.charge l.line)

abbrev pub decreases-loop-line : goal.decreases-loop-line
decreases-loop-line l = 8 - l.line
