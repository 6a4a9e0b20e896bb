-- For a caller's loop, which holds the lines' numbers apart from their charges and lends these only where they leak.
-- Nothing here has to be believed: there is no rule in it.
use Rattle.std.specs.Prelude.{ℕ, List}
use Rattle.floating.specs.declared.Floating.{Floating}
use Rattle.floating.specs.declared.FloatingBus.{FloatingBus}

-- the lines out of their numbers and charges
abbrev pub lines : Floating → List ℕ → FloatingBus
lines f charge = record { numbers = f; charge = charge }
