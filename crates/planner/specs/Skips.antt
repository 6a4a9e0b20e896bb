-- How `held_within` skips clocks. Nothing here has to be believed: its contract is `held_within`.
use Rattle.std.specs.Prelude.{ℕ, ◌<◌, ◌≡◌, Bool, ◌&&◌, ltb, leb}
use Rattle.envelope.specs.declared.Envelope.{Envelope}
use Rattle.envelope.specs.Envelope.{clocks, quiescent}
use Rattle.planner.specs.declared.Onward.{Onward}

-- nothing is under way, and the rate counter comes to its target
unfoldable pub is_waiting : Envelope → Bool
is_waiting e = quiescent e && leb 8 e.rate_target_phase && ltb e.rate_target_phase 32767 && ltb e.rate_phase 32767

-- some clocks lead from e to another envelope, and none before the last changes whether it is held
pub record Leads (e : Envelope) (r : Onward) : Type 0 where
  pub arrives : clocks r.clocks e ≡ r.e
  pub kept : (m : ℕ) → m < r.clocks → (clocks m e).floor_hold ≡ e.floor_hold
  pub some : 0 < r.clocks
