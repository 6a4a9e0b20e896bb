-- A listing in a lent buffer.
use Rattle.std.specs.Prelude.{ℕ, cond, List, ltb, length, Result, Ok, Err}
use Rattle.std.proofs.lemmas.List.Edits.{sets}
use Rattle.oscillator.specs.Ways.{Ways}
use Rattle.refusals.specs.declared.Refused.{Refused}
use Rattle.refusals.specs.Refusals.{refused}
use Rattle.refusals.specs.declared.Refusal.TheVariants.{NoRoom}
use Rattle.player.specs.Listing.{listing_by}

-- the listing's length, or 13 at 0 where the room is less
unfoldable pub into_answer : Ways → List ℕ → ℕ → Result ℕ Refused
into_answer w s room = cond (ltb room (length (listing_by w s))) (Err (refused NoRoom 0)) (Ok (length (listing_by w s)))

-- the listing at the start of l; l as it was where the listing is longer
unfoldable pub into_buffer : Ways → List ℕ → List ℕ → List ℕ
into_buffer w s l = cond (ltb (length l) (length (listing_by w s))) l (sets l 0 (listing_by w s))
