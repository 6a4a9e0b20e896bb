-- `synced` starts a voice's phase anew where its source's mark rises, unless the source is synchronised itself.
use Rattle.sid.specs.Sid.{syncs}
use Rattle.sid.proofs.synced.Goals as goal

pub returns-then-before : goal.returns-then-before
unfolding syncs
returns-then-before c = simp (c.if-source.true, c.if-control.true, c.if-source_control.true, c.if-before.true)

pub returns-then-source_control : goal.returns-then-source_control
unfolding syncs
returns-then-source_control c = simp (c.if-source.true, c.if-control.true, c.if-source_control.true, c.if-before.false, c.reset_phase.ensures)

pub returns-then-control : goal.returns-then-control
unfolding syncs
returns-then-control c = simp (c.if-source.true, c.if-control.true, c.if-source_control.false, c.reset_phase-then-control.ensures)

pub returns-then-source : goal.returns-then-source
unfolding syncs
returns-then-source c = simp (c.if-source.true, c.if-control.false)

pub returns : goal.returns
unfolding syncs
returns c = simp c.if-source.false
