use Rattle.fit_csv_text.proofs.reader.RowReader.new.Goals as goal

pub returns : goal.returns
returns c = c.new.ensures.fields
