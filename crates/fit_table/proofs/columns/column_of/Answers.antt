use Rattle.fit_table.proofs.columns.column_of.Goals as goal

pub returns-in-Some : goal.returns-in-Some
returns-in-Some c = c.placed.ensures c.args.fields.now c.args.number c.in-Some.ensures

pub returns-in-None : goal.returns-in-None
returns-in-None c = c.in-None.ensures
