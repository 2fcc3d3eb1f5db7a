use Rattle.std.proofs.Common.{[], refl}
use Rattle.std.proofs.lemmas.Result.{MatchResult-weaker}
use Rattle.csv.specs.Records.{fields_of}
use Rattle.fit_csv_text.proofs.RowReads.{first-of-both}
use Rattle.fit_csv_text.proofs.reader.RowReader.read_one.Goals as goal

pub take_last-requires : goal.take_last-requires
take_last-requires c = c.begin.ensures.none_begun

pub returns : goal.returns
returns c =
    MatchResult-weaker c.take_last.result c.take_last.ensures
    (λ found h. first-of-both (λ left. left.now) c.begin.new.self c.begin.new.self [] c.args.text.now (fields_of c.take_last.new.self.row) found
    c.begin.ensures refl h)
    (λ e p. p)
