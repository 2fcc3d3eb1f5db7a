use Rattle.fit_sum.proofs.Common.{ap, sym, xor_into, turn, turns}
use Rattle.fit_sum.proofs.TurnsAreShifts.{sixteen}
use Rattle.fit_sum.proofs.words.shifted.Goals as goal

pub returns : goal.returns
unfolding xor_into turn turns
returns c = sym (ap (turns 0 13 16) (sixteen c.args.register.now c.told-register))
