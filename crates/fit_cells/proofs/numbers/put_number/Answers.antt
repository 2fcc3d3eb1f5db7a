use Rattle.fit_cells.proofs.Common.{◌≡◌, ℤ, pos, neg_ℤ, ◌^◌, ◌≤ℤ◌, ◌<ℤ◌, sym, subst, rules, arith, ints, FitsSigned, to_z, of_z, to_z-of_z, w128}
use Rattle.fit_cells.proofs.numbers.put_number.Goals as goal

-- a number of 65 bits is kept in 128
in_128 : (z : ℤ) → neg_ℤ (pos (2 ^ 63)) ≤ℤ z → z <ℤ pos (2 ^ 64) → to_z w128 (of_z w128 z) ≡ z
in_128 z least most = let fits : FitsSigned w128 z = omega (arith, ints, least, most) in to_z-of_z w128 z fits

pub put_text-requires-clause-least : goal.put_text-requires-clause-least
put_text-requires-clause-least c =
    subst (λ (z : ℤ). neg_ℤ (pos (2 ^ 63)) ≤ℤ z) (sym (in_128 c.args.raw c.requires.least c.requires.most)) c.requires.least

pub put_text-requires-clause-most : goal.put_text-requires-clause-most
put_text-requires-clause-most c =
    subst (λ (z : ℤ). z <ℤ pos (2 ^ 64)) (sym (in_128 c.args.raw c.requires.least c.requires.most)) c.requires.most

pub returns-clause-ok : goal.returns-clause-ok
returns-clause-ok c = search rules

pub returns-clause-kept : goal.returns-clause-kept
returns-clause-kept c = c.put_text.ensures.kept
