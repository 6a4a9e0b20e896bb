-- Pieces put one after the other are their join, and stand where they were put; a buffer keeps its length; bytes that
-- don't fit change nothing; a number of 64 bits has at most 20 digits. Assumes nothing.
use Prim.Native.Nat.{ℕ, zero, suc, ◌+◌, ◌*◌, ◌/◌, ◌^◌, ◌≤◌, ◌<◌}
use native.Mathlib.Nat.{add-zero, add-suc, suc-add, pow-succ'}
use native.Mathlib.Omega.{arith}
use mathlib.Core.Bool.{Bool, true, false, cond}
use mathlib.Core.List.{List, [], ◌∷◌, ◌++◌, append_assoc}
use mathlib.Core.Path.{◌≡◌, refl, ap, sym, ◌∙◌}
use lib.Dec.{ltb}
use lib.ListN.{length, set, length-append, take, drop}
use lib.Seq.{sets, sets-eq, length-sets, take_at, drop-drop}
use borrow.Rule.Slice.PartMut.{put_mid}
use borrow.Author.Tests.{lt-ltb, le-ltb, ltb-true, ltb-false, le-leb, lt-leb}
use Rattle.listing.specs.declared.Pen.{Pen}
use Rattle.listing.specs.Pens.{Puts}
use Rattle.listing.specs.Text.{Put, fits, copied, last_digit, digits, decimal}

pub sets_append : (xs ys l : List ℕ) (i : ℕ) → sets l i (xs ++ ys) ≡ sets (sets l i xs) (i + length xs) ys
sets_append [] ys l i = rw add-zero
sets_append (a ∷ xs) ys l i = sets_append xs ys (set l i a) (suc i) ∙ rw (suc-add i (length xs), add-suc i (length xs))

pub then : {l : List ℕ} {at : ℕ} {xs : List ℕ} {r : ℕ} {m ys : List ℕ} {q : ℕ} {n : List ℕ} → Put l at xs r m → Put m r ys q n → Put l at (xs ++ ys) q n
then {l} {at} {xs} {r} {m} {ys} {q} {n} p o =
    record {
      place = omega (arith, length-append xs ys, p.place, o.place);
      bytes = o.bytes ∙ rw (p.bytes, p.place, sets_append xs ys l at);
    }

pub puts_then : {p q r : Pen} {xs ys : List ℕ} {n k : ℕ} → Puts p xs n q → Puts q ys k r → Puts p (xs ++ ys) (n + k) r
puts_then a b =
    record {
      same = b.same ∙ a.same;
      kept = b.kept ∙ a.kept;
      put = then a.put b.put;
      within = omega (arith, a.within, b.within);
    }

pub puts_none : (p : Pen) (n : ℕ) → Puts p [] n p
puts_none p n = record { same = refl; kept = refl; put = record { place = omega arith; bytes = refl }; within = omega arith }

pub puts_wider : {p q : Pen} {xs : List ℕ} {n k : ℕ} → Puts p xs n q → n ≤ k → Puts p xs k q
puts_wider a h = record { same = a.same; kept = a.kept; put = a.put; within = omega (arith, a.within) }

-- a buffer keeps its length
pub put_kept : (n : ℕ) {l : List ℕ} {at : ℕ} {xs : List ℕ} {r : ℕ} {m : List ℕ} → Put l at xs r m → length l ≡ n → length m ≡ n
put_kept n {l} {at} {xs} p e = ap length p.bytes ∙ (length-sets l at xs ∙ e)

-- what was put at the start of a list that has room for it
pub take_put : {l xs : List ℕ} {r : ℕ} {m : List ℕ} → Put l 0 xs r m → r ≤ length l → take r m ≡ xs
take_put {l} {xs} {r} o h =
    let q : r ≡ length xs = omega (arith, o.place) in
    rw (o.bytes, q, sets-eq xs l 0 (omega arith)) (take_at xs (drop (0 + length xs) l) (length xs) refl)

-- it stands where it is copied to, too
pub put_copied
    : {l xs : List ℕ} {len : ℕ} {m : List ℕ}
    → Put l 0 xs len m
    → len ≤ length l
    → (out : List ℕ) (at : ℕ)
    → at + len ≤ length out
    → Put out at xs (at + len) (copied out at (take len m))
put_copied {l} {xs} {len} o h out at room =
    let e : len ≡ length xs = omega (arith, o.place) in
    rw (take_put o h) (record { place = omega arith; bytes = simp (le-leb (at + length xs) (length out) (omega arith)) })

-- a part of l written over by as many bytes
pub put_part
    : (l : List ℕ) (at k : ℕ) (xs ys : List ℕ)
    → ys ≡ xs
    → k ≡ length xs
    → at + length xs ≤ length l
    → put_mid at k l ys ≡ sets l at xs
put_part l at k xs ys e h room =
    rw (e, h, sets-eq xs l at room, drop-drop (length xs) at l) (sym (append_assoc (take at l) xs (drop (at + length xs) l)))

module _ (l : List ℕ) (at : ℕ) (xs : List ℕ) where
  pub no_room : length l < at + length xs → (false ≡ fits l at xs) × (l ≡ copied l at xs)
  no_room h = simp (lt-leb (at + length xs) (length l) h) (refl, refl)

  pub room : {m : List ℕ} → at + length xs ≤ length l → m ≡ sets l at xs → (true ≡ fits l at xs) × (m ≡ copied l at xs)
  room h e = simp (le-leb (at + length xs) (length l) h) (refl, e)

-- any number of digits from the number on gives the same
digits_enough : (k j n : ℕ) → n < k → n < j → digits k n ≡ digits j n
unfolding digits
digits_enough zero j n h g = absurd (omega arith)
digits_enough (suc k) zero n h g = absurd (omega arith)
digits_enough (suc k) (suc j) n h g = go (ltb n 10) refl (λ l. digits_enough k j (n / 10) (omega arith) (omega arith))
  where
    go
        : (b : Bool)
        → ltb n 10 ≡ b
        → (10 ≤ n → digits k (n / 10) ≡ digits j (n / 10))
        → cond b (last_digit n) (digits k (n / 10) ++ last_digit n) ≡ cond b (last_digit n) (digits j (n / 10) ++ last_digit n)
    go true e f = refl
    go false e f = ap (λ (d : List ℕ). d ++ last_digit n) (f (ltb-false n 10 e))

pub decimal_one : (n : ℕ) → n < 10 → decimal n ≡ last_digit n
unfolding decimal digits
decimal_one n h = simp (lt-ltb n 10 h)

pub decimal_more : (n : ℕ) → 10 ≤ n → decimal n ≡ decimal (n / 10) ++ last_digit n
unfolding decimal digits
decimal_more n h = simp (le-ltb n 10 h) (ap (λ (d : List ℕ). d ++ last_digit n) (digits_enough n (suc (n / 10)) (n / 10) (omega arith) (omega arith)))

pub decimal_longer : (n : ℕ) → 10 ≤ n → length (decimal n) ≡ length (decimal (n / 10)) + 1
decimal_longer n h = ap length (decimal_more n h) ∙ length-append (decimal (n / 10)) (last_digit n)

decimal_le : (k n : ℕ) → n < 10 ^ suc k → length (decimal n) ≤ suc k
decimal_le zero n h = omega (arith, ap length (decimal_one n h))
decimal_le (suc k) n h = go (ltb n 10) refl (decimal_le k (n / 10))
  where
    go : (b : Bool) → ltb n 10 ≡ b → (n / 10 < 10 ^ suc k → length (decimal (n / 10)) ≤ suc k) → length (decimal n) ≤ suc (suc k)
    go true e f = omega (arith, ap length (decimal_one n (ltb-true n 10 e)))
    go false e f =
        let p : 10 ^ suc (suc k) ≡ 10 * 10 ^ suc k = pow-succ' 10 (suc k) in
        omega (arith, decimal_longer n (ltb-false n 10 e), f (omega arith))

-- every number of 64 bits
pub decimal_twenty : (n : ℕ) → n < 2 ^ 64 → length (decimal n) ≤ 20
decimal_twenty n h = decimal_le 19 n (omega arith)
