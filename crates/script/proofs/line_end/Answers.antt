-- `line_end` gives the place of the first line feed from a place on, and the text's length where there is none.
use lib.Seq.{take_all}
use borrow.Author.Tests.{ltb-false}
use Rattle.std.proofs.Common.{ℕ, ◌+◌, ◌-◌, take, ◌≤◌, ◌==◌, ◌≡◌, Bool, true, false, cond, ltb, List, ap, refl, ◌∙◌, length, drop, length-drop, arith, rules, tests, Option, Some, None}
use Rattle.std.proofs.lemmas.Iterator.{YieldsList-from_slice}
use Rattle.std.proofs.lemmas.Iterator.Search.{position_from_yields_List}
use Rattle.script.specs.Lines.{index_of}
use Rattle.script.proofs.Lines.{end_within}
use Rattle.script.proofs.Ends.{index_le}
use Rattle.script.proofs.line_end.Goals as goal

-- what `position` answers of the first place k, b saying whether it is within the list
found : {r : Option ℕ} {i k : ℕ} (b : Bool) → r ≡ cond b (Some k) None → r ≡ Some i → i ≡ k
found true e f = cc
found false e f = cc

lost : {r : Option ℕ} {k n : ℕ} (b : Bool) → ltb k n ≡ b → r ≡ cond b (Some k) None → r ≡ None → n ≤ k
lost true t e f = cc
lost {k = k} {n = n} false t e f = ltb-false k n t

-- the bytes at a place are the slice from there to the end
from_there : (text : List ℕ) (at : ℕ) {s : List ℕ} → s ≡ take (length text - at) (drop at text) → s ≡ drop at text
from_there text at e = e ∙ take_all (length text - at) (drop at text) (omega (arith, length-drop at text))

pub returns-in-Some : goal.returns-in-Some
returns-in-Some c =
    let a = c.args in
    let s = c.iter.result.rest.now in
    let first = position_from_yields_List (λ b. b == 10) _ _ c.position.result c.position.ensures.ran (YieldsList-from_slice s refl) (λ x b q k. search (rules, tests)) in
    let i = found _ first c.in-Some.is ∙ ap (index_of 10) (from_there a.text.now a.at c.iter.ensures.rest) in
    ap (λ (k : ℕ). a.at + k) i ∙ end_within _ _ c.if-text-at.false

pub returns-in-None : goal.returns-in-None
returns-in-None c =
    let a = c.args in
    let s = c.iter.result.rest.now in
    let first = position_from_yields_List (λ b. b == 10) _ _ c.position.result c.position.ensures.ran (YieldsList-from_slice s refl) (λ x b q k. search (rules, tests)) in
    let e = from_there a.text.now a.at c.iter.ensures.rest in
    let past = lost _ refl first c.in-None.is in
    omega (arith, past, ap length e, ap (index_of 10) e, index_le 10 (drop a.at a.text.now), length-drop a.at a.text.now, end_within _ _ c.if-text-at.false)
