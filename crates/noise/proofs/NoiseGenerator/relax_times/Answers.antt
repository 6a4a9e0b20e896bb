-- `NoiseGenerator::relax_times` makes the given leak steps; if a stage was marked they show, and are captured if no
-- shift is set.
use Rattle.std.proofs.Common.{◌≡◌, ℕ, ◌+◌, ◌*◌, ◌%◌, ◌^◌, ap₂, ◌∙◌, false, arith, eq-eqb, ne_eqb}
use Rattle.laws.specs.Times.{times}
use Rattle.noise.specs.Noise.{relax_step, settled_to, takes, relaxed_times}
use Rattle.noise.specs.declared.NoiseGenerator.{NoiseGenerator}
use Rattle.noise.specs.declared.Stages.{Stages}
use Rattle.noise.proofs.NoiseGenerator.relax_times.Goals as goal

-- the code moves the next leak on by two wrapping operations, the rule by one sum
timed
    : (g x : NoiseGenerator) (n : ℕ) (s : Stages)
    → s ≡ times n relax_step (record { state = g.numbers.state; changed = false; charge = g.charge })
    → x ≡ settled_to g s ((g.numbers.next_leak + n * 65536 % 2 ^ 64) % 2 ^ 64) → x ≡ relaxed_times n g
unfolding relaxed_times
timed g x n s h p =
    let at = g.numbers.next_leak in
    let e : (at + n * 65536 % 2 ^ 64) % 2 ^ 64 ≡ (at + n * 65536) % 2 ^ 64 = omega arith in
    p ∙ ap₂ (settled_to g) h e

pub returns-then-self-eq-NEVER : goal.returns-then-self-eq-NEVER
unfolding settled_to takes
returns-then-self-eq-NEVER c =
    timed c.args.self _ c.args.elapsed_steps c.relax_steps.new.self c.relax_steps.ensures
    (simp (c.if-stages.true, eq-eqb _ _ c.if-self-eq-NEVER.true, c.project-self.ensures))

pub returns-else-self-eq-NEVER : goal.returns-else-self-eq-NEVER
unfolding settled_to takes
returns-else-self-eq-NEVER c =
    timed c.args.self _ c.args.elapsed_steps c.relax_steps.new.self c.relax_steps.ensures
    (simp (c.if-stages.true, ne_eqb _ _ c.if-self-eq-NEVER.false, c.project-self.ensures))

pub returns-else-stages : goal.returns-else-stages
unfolding settled_to takes
returns-else-stages c = timed c.args.self _ c.args.elapsed_steps c.relax_steps.new.self c.relax_steps.ensures (simp c.if-stages.false)
