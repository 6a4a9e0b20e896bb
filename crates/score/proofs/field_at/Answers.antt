-- `field_at` gives the field at a place and the place after it, or refuses with 5, 6, 7, 12, in that order: 6 and 7 at
-- the tag, 5 and 12 at the score's length.
use native.Mathlib.Omega.{arith}
use Prim.Native.Nat.{ℕ, ◌+◌, ◌-◌}
use mathlib.Core.List.{List}
use mathlib.Core.Path.{◌≡◌, ap, ap₂, sym, ◌∙◌}
use lib.ListN.{length, drop, length-drop}
use lib.Seq.{take_all}
use Rattle.std.specs.Prelude.{Some, Ok}
use Rattle.words.specs.Words.{number_at}
use Rattle.score.specs.declared.Field.{Field}
use Rattle.score.specs.declared.What.{What}
use Rattle.score.specs.Fields.{len_of, known_what, stamped, tag_at, value_at}
use Rattle.score.proofs.Fields.{tag_back, known_is, field_whole}
use Rattle.score.proofs.field_at.Goals as goal

pub returns : goal.returns
returns c =
    let a = c.args in
    let s = a.s.now in
    let v = drop (a.at + 3) s in
    let all = take_all (length s - (a.at + 3)) v (omega (arith, length-drop (a.at + 3) s)) in
    let e = sym (c.what_of.ensures ∙ ap₂ known_what c.u8_at.ensures all) ∙ c.in-Some.is in
    let k = known_is (tag_at s a.at) v e in
    let n : c.length-n.result ≡ len_of (tag_at s a.at) = c.length-n.ensures ∙ rw (k.1, tag_back (tag_at s a.at) v k.0) in
    let f : ◌≡◌ {A = Field} (stamped c.u32_at-stamp.result c.in-Some.what) (value_at s a.at) = ap₂ stamped (c.u32_at-stamp.ensures ∙ ap (λ (x : List ℕ). number_at 4 x 0) all) k.1 in
    ap₂ (λ (g : Field) (m : ℕ). Ok (g, m)) f (omega arith) ∙ sym (field_whole s a.at (omega arith) n (λ z. k.0 (sym n ∙ z)) (omega arith) (omega arith))
