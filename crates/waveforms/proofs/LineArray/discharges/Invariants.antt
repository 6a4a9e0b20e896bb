-- `discharges` is every line's load and its twelve sources, added in the Rust's order.
-- By `discharge_more`: one source more for all lines at once is one source more for each.
use mathlib.Core.Path.{◌≡◌}
use Rattle.laws.specs.Build.{build}
use Rattle.waveforms.specs.Waveforms.{discharge}
use Rattle.waveforms.proofs.LineArray.discharges.Given as goal

abbrev pub invariant-loop-source : goal.invariant-loop-source
invariant-loop-source l = l.sum ≡ build (λ d. discharge l.self.coupling l.self.static_load l.previous d l.source) 12
