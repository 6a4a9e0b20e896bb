-- A chain of `and` that the code asks from the left is what a rule brackets to the right; and what the answer is where
-- the last test was made, or not. Assumes nothing.
use mathlib.Core.Path.{◌≡◌, refl, sym}
use mathlib.Core.Bool.{Bool, true, false, cond, ◌&&◌, false≢true}

pub and_assoc : (a b c : Bool) → ((a && b) && c) ≡ (a && (b && c))
and_assoc true b c = refl
and_assoc false b c = refl

-- the answer is the last test's, b, where the tests before it held; else that of those, v
pub made : (v b : Bool) → v ≡ true → b ≡ (v && b)
made true b e = refl
made false b e = absurd (false≢true e)

pub left : (v b : Bool) → v ≡ false → v ≡ (v && b)
left true b e = absurd (false≢true (sym e))
left false b e = refl

pub same : {A : Type 0} (b : Bool) (x : A) → x ≡ cond b x x
same true x = refl
same false x = refl
