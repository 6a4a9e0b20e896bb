-- `is_text` compares a line with the text of a field, which it puts into a buffer of its own.
use native.Mathlib.Omega.{arith}
use Rattle.std.proofs.lemmas.Bool.Decides.{Decides-eqb}
use Rattle.std.proofs.lemmas.Slice.Eq.{slice_eq-Decides}
use Rattle.script.proofs.Lines.{line_length, text_put}
use Rattle.script.proofs.is_text.Goals as goal

pub slice_bounds-text-count : goal.slice_bounds-text-count
slice_bounds-text-count c = omega (arith, c.field_line-n.ensures.0.place, line_length c.args.f)

pub returns : goal.returns
returns c = slice_eq-Decides Decides-eqb _ _ _ (rw (text_put c.args.f c.field_line-n.ensures.0 (omega arith)) at c.eq.ensures)
