use Rattle.std.proofs.Common.{◌∙◌, sym, ap, List, ℕ, Some}
use Rattle.csv.specs.Reading.{default_config}
use Rattle.csv.specs.Records.{fields_of}
use Rattle.csv.specs.Machine.{next_record}
use Rattle.csv.specs.declared.parser.Action.TheVariants as act
use Rattle.fit_csv_text.specs.inner.RowReads.{deed_action, place_state}
use Rattle.fit_csv_text.proofs.RowReads.{byte-read}
use Rattle.fit_csv_text.proofs.reader.RowReader.take_byte.Goals as goal

pub returns-in-EndRow-clause-reads : goal.returns-in-EndRow-clause-reads
returns-in-EndRow-clause-reads c more =
    let row = c.in_ok-end_cell-in-EndRow.ensures.row in
    let place = c.in_ok-end_cell-in-EndRow.ensures.place in
    byte-read (place_state c.args.self.now.place) (place_state c.take_step-place.result.0) act.EndRecord (fields_of c.args.self.now.row)
    c.args.self.now.cell.items c.args.b more c.take_step-place.ensures.place (ap deed_action (sym c.in-EndRow.is) ∙ c.take_step-place.ensures.deed)
    ∙ (λ i. Some (sym row i, place_state (sym place i), more))

pub returns-in-Skip-clause-reads : goal.returns-in-Skip-clause-reads
returns-in-Skip-clause-reads c more =
    byte-read (place_state c.args.self.now.place) (place_state c.take_step-place.result.0) act.Skip (fields_of c.args.self.now.row)
    c.args.self.now.cell.items c.args.b more c.take_step-place.ensures.place (ap deed_action (sym c.in-Skip.is) ∙ c.take_step-place.ensures.deed)

pub returns-in_ok-push-in-Copy-clause-reads : goal.returns-in_ok-push-in-Copy-clause-reads
returns-in_ok-push-in-Copy-clause-reads c more =
    byte-read (place_state c.args.self.now.place) (place_state c.take_step-place.result.0) act.Copy (fields_of c.args.self.now.row)
    c.args.self.now.cell.items c.args.b more c.take_step-place.ensures.place (ap deed_action (sym c.in-Copy.is) ∙ c.take_step-place.ensures.deed)
    ∙ ap (λ (cell : List ℕ). next_record default_config (place_state c.take_step-place.result.0) (fields_of c.args.self.now.row) cell more)
    (sym c.in_ok-push-in-Copy.ensures.items)

pub returns-in_ok-end_cell-in-EndCell-clause-reads : goal.returns-in_ok-end_cell-in-EndCell-clause-reads
returns-in_ok-end_cell-in-EndCell-clause-reads c more =
    let row = c.in_ok-end_cell-in-EndCell.ensures.row in
    let cell = c.in_ok-end_cell-in-EndCell.ensures.cell in
    let place = c.in_ok-end_cell-in-EndCell.ensures.place in
    byte-read (place_state c.args.self.now.place) (place_state c.take_step-place.result.0) act.EndField (fields_of c.args.self.now.row)
    c.args.self.now.cell.items c.args.b more c.take_step-place.ensures.place (ap deed_action (sym c.in-EndCell.is) ∙ c.take_step-place.ensures.deed)
    ∙ (λ i. next_record default_config (place_state (sym place i)) (sym row i) (sym cell i) more)
