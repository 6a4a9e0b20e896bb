-- `FloatingBus::sample` makes the leak steps that are due on the lines, and shows the lines that they leave.
use Rattle.std.proofs.Common.{◌≡◌, ◌+◌, ◌*◌, ◌%◌, ◌^◌, sym, ◌∙◌, arith}
use Rattle.floating.specs.Floating.{leak_steps, leaked_times, sampled}
use Rattle.floating.proofs.Once.{leak_come}
use Rattle.floating.proofs.FloatingBus.sample.Goals as goal

pub returns-then-not-leaks : goal.returns-then-not-leaks
unfolding sampled
returns-then-not-leaks c = simp (sym c.leaks.ensures ∙ c.if-not-leaks.true)

pub overflow_sub-elapsed_steps : goal.overflow_sub-elapsed_steps
overflow_sub-elapsed_steps c = (leak_come c.args.self.numbers c.args.cycle (sym c.leaks.ensures ∙ c.if-not-leaks.false)).1

pub returns : goal.returns
unfolding sampled leaked_times
returns c =
    let at = c.args.self.numbers.next_leak in
    let n = leak_steps at c.args.cycle in
    let e : (at + n * 8192 % 2 ^ 64) % 2 ^ 64 ≡ (at + n * 8192) % 2 ^ 64 = omega arith in
    c.leaked-numbers.ensures ∙ simp (sym c.leaks.ensures ∙ c.if-not-leaks.false, c.leak_steps.ensures, e)
