use Rattle.fit_sum.proofs.Common.{refl, xor_into, turn, turns}
use Rattle.fit_sum.proofs.PairsOfWords.{sixteen_pairs}
use Rattle.fit_sum.proofs.wide.shifted.Goals as goal

pub returns-clause-sums : goal.returns-clause-sums
unfolding xor_into turn turns
returns-clause-sums c = rw (sixteen_pairs c.args.register.now c.told-register c.requires) refl

pub returns-clause-pairs : goal.returns-clause-pairs
returns-clause-pairs c =
    rw (sixteen_pairs c.args.register.now c.told-register c.requires)
    (refl, (refl, (refl, (refl, (refl, (refl, (refl, (refl, (refl, (refl, (refl, (refl, (refl, (refl, (refl, (refl, tt))))))))))))))))
