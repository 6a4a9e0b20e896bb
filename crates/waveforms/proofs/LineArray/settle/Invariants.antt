-- `LineArray::settle` is the code that three passes leave of the value's twelve charges, to the bit.
use mathlib.Core.Path.{◌≡◌}
use Rattle.laws.specs.Build.{build}
use Rattle.laws.specs.Times.{times}
use Rattle.waveforms.specs.Waveforms.{charge_at, pass}
use Rattle.waveforms.proofs.LineArray.settle.Given as goal

abbrev pub invariant-loop : goal.invariant-loop
invariant-loop l = l.charge ≡ times l.counter (pass l.self.coupling l.self.static_load l.interaction l.loading) (build (charge_at l.value) 12)
