use Rattle.fit_shown.proofs.form.FieldForm.lone.Goals as goal

pub returns-in-Lone-clause-width : goal.returns-in-Lone-clause-width
returns-in-Lone-clause-width c = c.requires.lone c.in-Lone.is
