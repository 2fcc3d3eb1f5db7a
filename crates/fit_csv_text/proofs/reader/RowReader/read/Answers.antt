use Rattle.std.proofs.Common.{◌++◌}
use Rattle.std.proofs.lemmas.Result.{MatchResult-weaker}
use Rattle.csv.specs.Records.{fields_of}
use Rattle.fit_csv_text.specs.inner.RowReads.{place_state}
use Rattle.fit_csv_text.proofs.RowReads.{first-of-both, row-in-front}
use Rattle.fit_csv_text.proofs.reader.RowReader.read.Goals as goal

pub take-requires : goal.take-requires
take-requires c = c.begin.ensures.none_begun

pub returns-in-Some : goal.returns-in-Some
returns-in-Some c =
    row-in-front c.begin.new.self c.args.front.now c.in-Some.left.now c.args.back.now (fields_of c.take.new.self.row) (place_state c.take.new.self.place)
    c.begin.ensures ((rw c.in-Some.is at c.in_ok-left.ensures.reads) c.args.back.now)

pub returns-in-None : goal.returns-in-None
returns-in-None c =
    MatchResult-weaker c.read_last.result c.read_last.ensures
    (λ found h. first-of-both (λ p. p.0.now ++ p.1.now) c.begin.new.self c.take.new.self c.args.front.now c.args.back.now
    (fields_of c.read_last.new.self.row) found c.begin.ensures ((rw c.in-None.is at c.in_ok-left.ensures.reads) c.args.back.now) h)
    (λ e p. p)
