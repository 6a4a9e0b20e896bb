-- `replay` hands on the listing of the score by the rules: its pack is a filled one.
use borrow.Author.Rules.{rules}
use mathlib.Core.List.{List}
use mathlib.Core.Path.{sym, ◌∙◌, ap}
use Prim.Native.Nat.{ℕ}
use Rattle.oscillator.specs.Ways.{stepwise}
use Rattle.player.proofs.Engines.{listing_filled}
use Rattle.player.specs.Listing.{listing_by}
use Rattle.pack.specs.Pack.{over}
use Rattle.pack.proofs.Filling.{right_length}
use Rattle.printer.proofs.Fills.{prints_same}
use Rattle.printer.proofs.replay.Goals as goal

pub returns : goal.returns
returns c =
    let s = c.args.s.now in
    let fills = c.fill.ensures.1 ∙ sym (right_length _ (search rules)).1 in
    prints_same _ stepwise s (ap (λ (pack : List ℕ). listing_by (over pack) s) fills ∙ listing_filled s) c.print_listing.result c.print_listing.ensures
