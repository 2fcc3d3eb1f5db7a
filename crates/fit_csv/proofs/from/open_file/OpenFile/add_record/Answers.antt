use Rattle.fit_csv.proofs.from.open_file.OpenFile.add_record.Goals as goal

pub add-requires-clause-same_records : goal.add-requires-clause-same_records
add-requires-clause-same_records c = c.requires.same_records

pub add-requires-clause-fits : goal.add-requires-clause-fits
add-requires-clause-fits c = c.requires.fits
