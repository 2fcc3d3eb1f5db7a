use Rattle.std.proofs.Common.{◌∙◌, sym}
use Rattle.csv.specs.Records.{fields_of}
use Rattle.fit_csv_text.specs.inner.RowReads.{place_state}
use Rattle.fit_csv_text.proofs.RowReads.{none-of-last, row-at-end, row-of-last}
use Rattle.fit_csv_text.proofs.reader.RowReader.take_last.Goals as goal

pub returns-in-Some : goal.returns-in-Some
returns-in-Some c more are =
    row-of-last c.args.self.now (fields_of c.take.new.self.row) (place_state c.take.new.self.place) c.args.text.now c.in-Some.left.now
    c.after_line.result.now more
    (rw c.in-Some.is at c.in_ok-left.ensures.reads) (c.after_line.ensures more) are

pub returns-then-not-ends_here : goal.returns-then-not-ends_here
returns-then-not-ends_here c =
    none-of-last c.args.self.now c.take.new.self c.args.text.now (rw c.in_default.is at c.in_ok-left.ensures.reads)
    (sym c.ends_here.ensures ∙ c.if-not-ends_here.true)

pub returns : goal.returns
returns c more are =
    row-at-end c.args.self.now c.take.new.self c.args.text.now (fields_of c.end_cell.new.self.row) more
    (rw c.in_default.is at c.in_ok-left.ensures.reads) (sym c.ends_here.ensures ∙ c.if-not-ends_here.false) c.in_ok-end_cell.ensures.row are
