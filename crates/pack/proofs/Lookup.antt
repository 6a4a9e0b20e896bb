-- Where a voice loads its lines, a body reads the code's entry or settles the code, as `over` says. Assumes nothing.
use mathlib.Core.List.{List}
use mathlib.Core.Path.{◌≡◌}
use Prim.Native.Nat.{ℕ, ◌+◌, ◌*◌, ◌%◌, ◌<◌, ◌≤◌}
use lib.ListN.{length, get_or}
use borrow.Author.Tests.{lt-ltb, le-ltb}
use Rattle.oscillator.specs.Oscillator.{selected, loaded_code_by, loaded_code}
use Rattle.oscillator.specs.declared.Control.{Control}
use Rattle.pack.specs.Pack.{block_of, entry_at, loaded_over}

module _ (pack : List ℕ) (k : Control) (code : ℕ) {base at : ℕ} (b : base ≡ block_of (selected k).raw * 4096) (e : at ≡ base + code % 4096) where
  entry_at_lem : at ≡ entry_at (selected k).raw code
  unfolding entry_at
  entry_at_lem = rw (e, b)

  pub entry_read : at < length pack → get_or pack at 0 % 4096 ≡ loaded_code_by (loaded_over pack) k code
  unfolding loaded_code_by loaded_over
  entry_read h = rw (← entry_at_lem, lt-ltb at (length pack) h)

  pub entry_lacks : length pack ≤ at → loaded_code k code ≡ loaded_code_by (loaded_over pack) k code
  unfolding loaded_code_by loaded_over
  entry_lacks h = rw (← entry_at_lem, le-ltb at (length pack) h)
