-- Runs of clocks join: n clocks from s to t and m from t to u are n + m, and what holds before each of them still
-- does. Assumes nothing.
use Prim.Native.Nat.{ℕ, zero, suc, ◌+◌, ◌-◌, ◌<◌, ◌≤◌}
use native.Mathlib.Omega.{arith}
use native.Mathlib.Decide.{dec_lt}
use mathlib.Core.Path.{◌≡◌, ap, sym, ◌∙◌, subst}
use Rattle.laws.specs.Times.{times}
use Rattle.laws.proofs.Times.{times_add}
use Rattle.envelope.specs.declared.Envelope.{Envelope}
use Rattle.envelope.specs.Envelope.{clocked, clocks}

pub record Keeps (Q : Envelope → Type 0) (n : ℕ) (s t : Envelope) : Type 0 where
  pub arrives : clocks n s ≡ t
  pub kept : (m : ℕ) → m < n → Q (clocks m s)

module _ {Q : Envelope → Type 0} where
  -- what comes after a run
  pub after : {n : ℕ} {s t : Envelope} → Keeps Q n s t → (m : ℕ) → n ≤ m → clocks m s ≡ clocks (m - n) t
  after {n} {s} {t} a m l =
      let i : m ≡ n + (m - n) = omega arith in
      ap (λ (k : ℕ). clocks k s) i ∙ sym (times_add clocked (m - n) n s) ∙ ap (clocks (m - n)) a.arrives

  pub one : (s t : Envelope) → Q s → clocked s ≡ t → Keeps Q 1 s t
  unfolding times
  one s t q e = record { arrives = e; kept = go }
    where
      go : (m : ℕ) → m < 1 → Q (clocks m s)
      go zero l = q
      go (suc m) l = absurd (omega arith)

  pub join : {n m : ℕ} {s t u : Envelope} → Keeps Q n s t → Keeps Q m t u → Keeps Q (n + m) s u
  join {n} {m} {s} {t} {u} a b =
      record {
        arrives = sym (times_add clocked m n s) ∙ ap (clocks m) a.arrives ∙ b.arrives;
        kept = λ k l. go k l (dec_lt k n);
      }
    where
      go : (k : ℕ) → k < n + m → Dec (k < n) → Q (clocks k s)
      go k l (yes q) = a.kept k q
      go k l (no q) = subst Q (sym (after a k (omega arith))) (b.kept (k - n) (omega arith))

  -- the same run, its length written another way
  pub long : {n m : ℕ} {s t : Envelope} → n ≡ m → Keeps Q n s t → Keeps Q m s t
  long {n} {m} {s} {t} e a = subst (λ (k : ℕ). Keeps Q k s t) e a

  -- what is left of a run after m clocks
  pub rest : {n : ℕ} {s t : Envelope} (m : ℕ) → m ≤ n → Keeps Q n s t → Keeps Q (n - m) (clocks m s) t
  rest {n} {s} m l a =
      let i : m + (n - m) ≡ n = omega arith in
      record {
        arrives = times_add clocked (n - m) m s ∙ ap (λ (k : ℕ). clocks k s) i ∙ a.arrives;
        kept = λ k q. subst Q (sym (times_add clocked k m s)) (a.kept (m + k) (omega arith));
      }
