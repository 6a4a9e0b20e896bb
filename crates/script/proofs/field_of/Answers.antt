-- `field_of` gives the field whose line a line is, and says of any other that it is no field's.
use mathlib.Core.Path.{sym, ◌∙◌}
use Rattle.script.proofs.Lines.{reads_got, reads_other, reads_none}
use Rattle.script.proofs.field_of.Goals as goal

pub returns-in_err-f : goal.returns-in_err-f
returns-in_err-f c = rw c.from_residual.ensures (reads_none (sym c.meant.ensures ∙ c.in_err-f.was))

pub returns-then-is_text : goal.returns-then-is_text
returns-then-is_text c = reads_got (sym c.meant.ensures ∙ c.in_ok-f.was) c.is_text.ensures c.if-is_text.true

pub returns-else-is_text : goal.returns-else-is_text
returns-else-is_text c = reads_other (sym c.meant.ensures ∙ c.in_ok-f.was) c.is_text.ensures c.if-is_text.false
