use Rattle.fit_numbers.proofs.triples.all_digits.Goals as goal

pub after_zeros-requires-clause-zeros : goal.after_zeros-requires-clause-zeros
after_zeros-requires-clause-zeros c = cc
