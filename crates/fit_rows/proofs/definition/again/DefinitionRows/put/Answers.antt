use Rattle.fit_rows.proofs.Common.{HasRows, MessageDef, Global, on_ok_weaker, subst}
use Rattle.fit_rows.specs.ChainRows.{definition_rows}
use Rattle.fit_rows.proofs.definition.again.DefinitionRows.put.Goals as goal

pub returns-in-Some : goal.returns-in-Some
returns-in-Some c = on_ok_weaker c.put.result
    (λ put. subst (λ (d : MessageDef Global). HasRows (definition_rows d) c.args.text.now c.put.new.text) c.in-Some.ensures put) c.put.ensures
