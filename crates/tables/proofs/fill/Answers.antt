-- `fill` leaves in the lent table the settled code of every value; or refuses with 1, then 2, the table as it was.
use mathlib.Core.Path.{◌∙◌, sym}
use native.Mathlib.Omega.{arith}
use Rattle.laws.proofs.Build.{built_none, built_more, built_all}
use Rattle.waveforms.specs.Waveforms.{settled}
use Rattle.tables.proofs.Filling.{above_15, under_two, wrong_length, filled}
use Rattle.tables.proofs.fill.Goals as goal
use Rattle.tables.proofs.fill.Goals.{then-selection-gt15-via-then-selection-gt15, then-selection-gt15-via-else-selection-gt15+then-not-needs_line_loading}

pub returns-then-selection-gt15 : goal.returns-then-selection-gt15
returns-then-selection-gt15 c =
    let a = c.args in
    rw c.at.ensures
    (elim c.then-selection-gt15.branch [
      | then-selection-gt15-via-then-selection-gt15 w ↦ above_15 _ _ w.if-selection-gt15.true
      | then-selection-gt15-via-else-selection-gt15+then-not-needs_line_loading w ↦
          under_two a.selection a.table.now (omega arith) (sym w.needs_line_loading.ensures ∙ w.if-not-needs_line_loading.true)
    ])

pub returns-then-table-ne4096 : goal.returns-then-table-ne4096
returns-then-table-ne4096 c =
    let a = c.args in
    rw c.at-then-table-ne4096.ensures
    (wrong_length a.selection a.table.now (omega arith) (sym c.needs_line_loading.ensures ∙ c.if-not-needs_line_loading.false) c.if-table-ne4096.true)

pub loop-value-init : goal.loop-value-init
loop-value-init c = let a = c.args in built_none (settled a.selection) 4096 a.table.now (omega arith)

pub loop-value-preserved : goal.loop-value-preserved
unfolding settled
loop-value-preserved c = built_more (settled c.args.selection) 4096 c.loop-value.invariant (omega arith) c.settle.result (cc)

pub returns : goal.returns
returns c =
    let a = c.args in
    let f = filled a.selection a.table.now (omega arith) (sym c.needs_line_loading.ensures ∙ c.if-not-needs_line_loading.false) (omega arith) in
    (f.0, built_all (settled a.selection) 4096 c.loop-value.invariant (omega arith) ∙ f.1)
