-- For a caller's loop, which lends the floating lines' charges only where they leak, and settles lines under a test.
-- Nothing here has to be believed: proofs/Due ties `sample_due` to the rule `sampled_bus_by` (`sample_due_lem`,
-- `sample_still`), and `plain_code` to the rule `code_by` (`code_plain`, `code_loaded`).
use Rattle.std.specs.Prelude.{ℕ, ◌%◌, Bool, cond, ◌&&◌}
use Rattle.floating.specs.Floating.{leaks}
use Rattle.floating.specs.declared.Floating.{Floating}
use Rattle.oscillator.specs.Selection.{is_off}
use Rattle.oscillator.specs.Oscillator.{selected, ideal}
use Rattle.oscillator.specs.declared.Control.{Control}
use Rattle.oscillator.specs.declared.Tone.{Tone}

-- whether an evaluation leaks the floating lines
unfoldable pub sample_due : Control → Floating → ℕ → Bool
sample_due c f cycle = is_off (selected c) && leaks f cycle

-- the code before its lines are loaded, which it is where they are not
unfoldable pub plain_code : Control → Tone → ℕ → ℕ → ℕ → ℕ
plain_code c t visible floats modulator = cond (is_off (selected c)) (floats % 4096) (ideal c t visible modulator % 4096)
