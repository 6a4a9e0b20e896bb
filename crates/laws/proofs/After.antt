-- What a branch without a way out leaves, for a test that says whether something is due. Assumes nothing.
use mathlib.Core.Path.{◌≡◌, refl, sym, ◌∙◌}
use mathlib.Core.Bool.{Bool, true, false, cond}

-- the branch was taken and gave `done`, or was left and kept `x`
pub data After {A : Type 0} (test : Bool) (done x z : A) : Type 0 where
  taken : test ≡ true → z ≡ done → After test done x z
  left : test ≡ false → z ≡ x → After test done x z

-- it gave y, where y is `done` if it was due and `x` if not
pub after_due
    : {A : Type 0} {test due : Bool} {done x z : A} (y : A)
    → test ≡ due → After test done x z → (due ≡ true → y ≡ done) → (due ≡ false → y ≡ x) → z ≡ y
after_due y e (taken h p) f g = p ∙ sym (f (sym e ∙ h))
after_due y e (left h p) f g = p ∙ sym (g (sym e ∙ h))

-- a value that a test chooses is what such a branch leaves
pub after_cond : {A : Type 0} (test : Bool) {done x z : A} → z ≡ cond test done x → After test done x z
after_cond true p = taken refl p
after_cond false p = left refl p
