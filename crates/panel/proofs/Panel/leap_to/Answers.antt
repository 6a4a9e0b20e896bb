-- `Panel::leap_to` runs to the stamp or to the next clock that may lose bits, and tells the bits that the byte has no
-- more.
use mathlib.Core.Path.{ap}
use native.Mathlib.Omega.{arith}
use Prim.Native.Nat.{◌-◌}
use Rattle.pack.specs.Pack.{over}
use Rattle.panel.specs.declared.Panel.{Panel}
use Rattle.panel.specs.Panel.{bus_of, leapt_by}
use Rattle.panel.proofs.Leaps.{leapt_there, leapt_le}
use Rattle.panel.proofs.Panel.leap_to.Goals as goal

pub overflow_sub-result : goal.overflow_sub-result
overflow_sub-result c =
    let a = c.args in
    let w = over a.pack.now in
    let there = leapt_there w a.stamp a.self c.to_expiry.ensures (omega (arith, c.saturating_sub.ensures, c.min-leap.ensures)) c.run_to-panel.ensures in
    omega (arith, ap (λ (p : Panel). (bus_of p).value) there, leapt_le w a.stamp a.self)

pub returns : goal.returns
unfolding leapt_by
returns c =
    let a = c.args in
    let there = leapt_there _ a.stamp a.self c.to_expiry.ensures (omega (arith, c.saturating_sub.ensures, c.min-leap.ensures)) c.run_to-panel.ensures in
    ap (λ (p : Panel). record { panel = p; lost = (bus_of a.self).value - (bus_of p).value }) there
