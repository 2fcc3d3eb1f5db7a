use Rattle.std.proofs.Common.{rules}
use Rattle.fit_numbers.proofs.decimal.Fixed.read.Goals as goal

pub returns : goal.returns
returns c = search rules
