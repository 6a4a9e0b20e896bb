-- `Pen::operands` puts what follows a field's stamp, at most 42 bytes.
use native.Mathlib.Omega.{arith}
use mathlib.Core.Logic.{⊎_elim}
use Rattle.listing.specs.FieldText.{operands}
use Rattle.listing.proofs.Joins.{puts_then, puts_none, puts_wider}
use Rattle.listing.proofs.Pen.operands.Goals as goal

pub returns-in-Write : goal.returns-in-Write
unfolding operands
returns-in-Write c = rw c.in-Write.is (puts_then c.spaced_number.ensures c.spaced_number-in-Write.ensures)

pub returns-in-Read : goal.returns-in-Read
unfolding operands
returns-in-Read c = rw c.in-Read.is (puts_wider c.spaced_number-in-Read.ensures (omega arith))

pub returns-in-Levels : goal.returns-in-Levels
unfolding operands
returns-in-Levels c =
    let none = puts_none c.args.self.now 42 in
    ⊎_elim (λ e. rw e none) (λ more. ⊎_elim (λ e. rw e none) (λ e. rw e none) more) c.in-Levels.is
