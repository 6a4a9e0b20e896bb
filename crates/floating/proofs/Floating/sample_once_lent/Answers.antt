-- `Floating::sample_once_lent` makes one leak step on lent charges where one is due or more, and none else.
use Rattle.std.proofs.Common.{sym, ◌∙◌}
use Rattle.laws.specs.Times.{times}
use Rattle.floating.specs.Floating.{leaked_times, sampled_once}
use Rattle.floating.proofs.Floating.sample_once_lent.Goals as goal

pub returns-then-leaks : goal.returns-then-leaks
unfolding sampled_once leaked_times times
returns-then-leaks c =
    simp (sym c.leaks.ensures ∙ c.if-leaks.true) (c.leaked.ensures ∙ simp c.leak_step.ensures)

pub returns : goal.returns
unfolding sampled_once
returns c = simp (sym c.leaks.ensures ∙ c.if-leaks.false)
