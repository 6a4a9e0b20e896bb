-- `Pen::decimal` calls itself with n / 10, which is below n where n has more than one digit: so the recursion ends.
use Rattle.listing.proofs.Pen.+decimal.Given as goal

abbrev pub decreases-decimal : goal.decreases-decimal
decreases-decimal l = l.n
