use Rattle.fit_csv.proofs.Common.{◌≡◌, ◌∙◌, ◌++◌, sym, subst, csv_text, DefinitionFits, Define}
use Rattle.fit_rows.specs.ChainRows.{definition_rows}
use Rattle.fit_csv.specs.inner.Judging.{FileTakesRows}
use Rattle.fit_csv.proofs.WholeRecords.{definition-long, record-goes-on}
use Rattle.fit_csv.proofs.from.guess.take_definition.Goals as goal

pub returns-clause-rows : goal.returns-clause-rows
returns-clause-rows c =
    let f = c.args.file.now in
    let d = c.in-Some.definition in
    let count = c.definition_rows-count.result in
    let fits : DefinitionFits d = rw c.in-Some.is at c.in_ok-definition.ensures.fits in
    let text : c.args.text.now ≡ csv_text (definition_rows d) ++ c.in-Some.rest.now = rw c.in-Some.is at c.in_ok-definition.ensures.text in
    subst (FileTakesRows c.args.text.now c.in-Some.rest.now count f) (sym c.in_ok-add_record.ensures.ok)
    (record-goes-on f (Define d) c.args.text.now c.in-Some.rest.now count c.requires.between fits c.is_in_range.ensures text
    (c.definition_rows-count.ensures ∙ sym (definition-long f.before d)))
