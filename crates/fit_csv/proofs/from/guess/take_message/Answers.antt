use Rattle.fit_csv.proofs.Common.{◌≡◌, ◌∙◌, sym, ap, subst, known, Data, Global, Record, Values, with_record}
use Rattle.std.proofs.Common.{List}
use Rattle.fit_record.specs.Records.{IsRecord}
use Rattle.fit_profile.specs.Opened.{TellsNext}
use Rattle.fit_rows.specs.WholeMessages.{IsWholeMessage}
use Rattle.fit_csv.specs.inner.Judging.{FileTakesRows}
use Rattle.fit_csv.proofs.WholeRecords.{record-goes-on}
use Rattle.fit_csv.proofs.from.guess.take_message.Goals as goal

pub add_message-requires-clause-message : goal.add_message-requires-clause-message
add_message-requires-clause-message c =
    let f = c.args.file.now in
    let unchanged = c.whole_message.ensures.unchanged in
    let read : (v : Values Global) × IsRecord (known f.before) (Data v) c.whole_message.new.self
    × IsWholeMessage f.before v c.args.text.now c.in-Some.message = rw c.in-Some.is at c.in_ok-message.ensures.read in
    let v = read.0 in
    let is = subst (λ b. IsRecord (known f.before) (Data v) b) (sym c.bytes.ensures) read.1 in (
      v,
      subst (λ (before : List (Record Global)). IsRecord (known before) (Data v) c.bytes.result.now) (sym unchanged) is,
      subst (λ (before : List (Record Global)). TellsNext before v c.in-Some.message.tells) (sym unchanged) read.2.tells,
    )

pub returns-clause-rows : goal.returns-clause-rows
returns-clause-rows c =
    let f = c.args.file.now in
    let message = c.in-Some.message in
    let unchanged = c.whole_message.ensures.unchanged in
    let read : (v : Values Global) × IsRecord (known f.before) (Data v) c.whole_message.new.self
    × IsWholeMessage f.before v c.args.text.now message = rw c.in-Some.is at c.in_ok-message.ensures.read in
    let v = read.0 in
    let is = subst (λ b. IsRecord (known f.before) (Data v) b) (sym c.bytes.ensures) read.1 in
    let there = subst (λ (before : List (Record Global)). IsRecord (known before) (Data v) c.bytes.result.now) (sym unchanged) is in
    let new = c.in_ok-add_message.ensures.ok v there
    ∙ ap (λ (before : List (Record Global)). with_record (record f { before = before }) (Data v)) unchanged in
    subst (FileTakesRows c.args.text.now message.left.now message.rows f) (sym new)
    (record-goes-on f (Data v) c.args.text.now message.left.now message.rows c.requires.between is.0 tt read.2.text read.2.rows)
