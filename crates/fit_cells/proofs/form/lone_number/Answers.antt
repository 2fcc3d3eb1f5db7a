use Rattle.fit_cells.proofs.form.lone_number.Goals as goal

pub returns-in_default-clause-some : goal.returns-in_default-clause-some
returns-in_default-clause-some c = tt
