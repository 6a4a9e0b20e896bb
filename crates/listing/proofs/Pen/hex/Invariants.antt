-- `Pen::hex` puts the hex digits of numbers below 16, in order.
use Rattle.std.proofs.Common.{map, take}
use Rattle.listing.specs.Text.{hex_digit}
use Rattle.listing.specs.Pens.{Puts}
use Rattle.listing.proofs.Pen.hex.Given as goal

abbrev pub invariant-loop-d : goal.invariant-loop-d
invariant-loop-d l = Puts l.initial.self (map hex_digit (take l.d-index l.digits)) l.d-index l.self
