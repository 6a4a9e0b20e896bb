-- `FloatingBus::new` is lines that show nothing, hold no charge and have no leak to come.
use Rattle.std.proofs.Common.{refl}
use Rattle.laws.specs.Build.{build}
use Rattle.laws.specs.Charges.{charged}
use Rattle.floating.specs.Floating.{fresh}
use Rattle.floating.proofs.FloatingBus.new.Goals as goal

pub returns : goal.returns
unfolding fresh charged build
returns c = refl
