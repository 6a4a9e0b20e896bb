-- What a pen puts into the lent buffer; only the contracts of the pen's own methods cite it, none that is public.
use Rattle.std.specs.Prelude.{ℕ, List, ◌+◌, ◌≤◌, ◌≡◌, length}
use Rattle.listing.specs.declared.Pen.{Pen}
use Rattle.listing.specs.Text.{Put}

-- n bytes are free
abbrev pub HasRoom : Pen → ℕ → Type 0
HasRoom p n = p.at + n ≤ length p.out.now

-- xs, at most n bytes: p is the pen before, q after
pub record Puts (p : Pen) (xs : List ℕ) (n : ℕ) (q : Pen) : Type 0 where
  pub same : q.out.ghost_name ≡ p.out.ghost_name
  pub kept : length q.out.now ≡ length p.out.now
  pub put : Put p.out.now p.at xs q.at q.out.now
  pub within : q.at ≤ p.at + n
