use Rattle.fit_table.proofs.Common.{◌∙◌, sym}
use Rattle.fit_table.proofs.TableColumnFacts.{have_none}
use Rattle.fit_table.proofs.columns.Places.new.Goals as goal

pub returns : goal.returns
returns c = record {
  counts = λ none. have_none c.args.fields.now 8 (sym c.have.ensures ∙ none);
  position_lat = c.position_of.ensures;
  position_long = c.position_of-2.ensures;
  columns = c.columns_of.ensures;
}
