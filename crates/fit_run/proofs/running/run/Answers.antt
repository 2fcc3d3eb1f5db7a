-- What is written of a chain, and the text that `from-csv` reads.
use Rattle.fit_run.proofs.Common.{◌≡◌, ◌++◌, ◌∙◌, ℕ, false, refl, sym, ap, subst, flat_map, Global, file_events, channel, chain_rows, table_of, ok_line}
use Rattle.fit_run.proofs.Common.{IsWritten, ◌==◌, RunsCommand, Command, Check, Show, ToCsv, FromCsv, Table}
use Rattle.std.proofs.Common.{eq-eqb}
use Rattle.std.proofs.lemmas.Bool.{true≢false}
use Rattle.fit_run.proofs.Concluded.{concluded, good_status, text_concluded}
use Rattle.fit_run.proofs.Counts.{chains_have_lines}
use Rattle.fit_run.proofs.TextRead.{text_kept, text_works}
use Rattle.fit_run.proofs.running.run.Goals as goal

-- the place of a command among the commands
abbrev place : Command → ℕ
place Check = 0
place Show = 1
place ToCsv = 2
place FromCsv = 3
place Table = 4

-- A command is not two.
apart : {P : Type 0} (command a b : Command) → (place a == place b) ≡ false → command ≡ a → command ≡ b → P
apart command a b differ is other = absurd (true≢false (sym (eq-eqb (place a) (place b) (ap place (sym is ∙ other))) ∙ differ))

pub returns-in-Check-clause-checks : goal.returns-in-Check-clause-checks
returns-in-Check-clause-checks g c = λ command fs b input are chain well good.
    subst (λ lines. IsWritten (lines ++ ok_line)
    (channel g.K.Sink.contents g.K.Sink.has_failed c.args.output.now c.run_report.new.output) c.run_report.result)
    (chains_have_lines {A = Global} fs) (c.run_report.ensures.chain fs b input are chain well good)

pub returns-in-ToCsv-clause-converts : goal.returns-in-ToCsv-clause-converts
returns-in-ToCsv-clause-converts g c = λ command fs b input are chain well good.
    concluded (chain_rows fs) (channel g.S.Source.remaining g.S.Source.has_failed c.args.source.now c.to_csv-answer.new.source)
    (channel g.K.Sink.contents g.K.Sink.has_failed c.args.output.now c.to_csv-answer.new.sink)
    (channel g.E.Sink.contents g.E.Sink.has_failed c.args.faults.now c.end_conversion.new.faults) c.end_conversion.result
    c.to_csv-answer.result well good (c.to_csv-answer.ensures.chain fs b input are chain) c.end_conversion.ensures

pub returns-in-Table-clause-tables : goal.returns-in-Table-clause-tables
returns-in-Table-clause-tables g c = λ command fs b input are chain well good.
    concluded (table_of (flat_map file_events fs))
    (channel g.S.Source.remaining g.S.Source.has_failed c.args.source.now c.table-answer.new.source)
    (channel g.K.Sink.contents g.K.Sink.has_failed c.args.output.now c.table-answer.new.sink)
    (channel g.E.Sink.contents g.E.Sink.has_failed c.args.faults.now c.end_conversion-in-Table.new.faults)
    c.end_conversion-in-Table.result c.table-answer.result well good (c.table-answer.ensures.chain fs b input are chain) c.end_conversion-in-Table.ensures

-- the pair of how the conversion went and of what was said of it
pub returns-in-ToCsv-clause-runs : goal.returns-in-ToCsv-clause-runs
returns-in-ToCsv-clause-runs g c =
    subst (λ command. RunsCommand command
    (channel g.S.Source.remaining g.S.Source.has_failed c.args.source.now c.to_csv-answer.new.source)
    (channel g.K.Sink.contents g.K.Sink.has_failed c.args.output.now c.to_csv-answer.new.sink)
    (channel g.E.Sink.contents g.E.Sink.has_failed c.args.faults.now c.end_conversion.new.faults)
    c.end_conversion.result) (sym c.in-ToCsv.is) (c.to_csv-answer.result, c.to_csv-answer.ensures.converts, c.end_conversion.ensures)

pub returns-in-Table-clause-runs : goal.returns-in-Table-clause-runs
returns-in-Table-clause-runs g c =
    subst (λ command. RunsCommand command
    (channel g.S.Source.remaining g.S.Source.has_failed c.args.source.now c.table-answer.new.source)
    (channel g.K.Sink.contents g.K.Sink.has_failed c.args.output.now c.table-answer.new.sink)
    (channel g.E.Sink.contents g.E.Sink.has_failed c.args.faults.now c.end_conversion-in-Table.new.faults)
    c.end_conversion-in-Table.result) (sym c.in-Table.is) (c.table-answer.result, c.table-answer.ensures.converts, c.end_conversion-in-Table.ensures)

pub returns-in-FromCsv-clause-runs : goal.returns-in-FromCsv-clause-runs
returns-in-FromCsv-clause-runs g c =
    subst (λ command. RunsCommand command
    (channel g.S.Source.remaining g.S.Source.has_failed c.args.source.now c.from_csv-answer.new.source)
    (channel g.K.Sink.contents g.K.Sink.has_failed c.args.output.now c.from_csv-answer.new.sink)
    (channel g.E.Sink.contents g.E.Sink.has_failed c.args.faults.now c.end_conversion-in-FromCsv.new.faults)
    c.end_conversion-in-FromCsv.result) (sym c.in-FromCsv.is) (
      c.from_csv-answer.result,
      c.from_csv-answer.ensures.reads,
      text_kept g.K.Sink.contents c.args.output.now c.from_csv-answer.new.sink c.from_csv-answer.result c.from_csv-answer.ensures.unchanged,
      c.end_conversion-in-FromCsv.ensures,
    )

pub returns-in-FromCsv-clause-from_text : goal.returns-in-FromCsv-clause-from_text
returns-in-FromCsv-clause-from_text g c = λ command text fs b input is well good.
    text_concluded b (channel g.S.Source.remaining g.S.Source.has_failed c.args.source.now c.from_csv-answer.new.source)
    (channel g.K.Sink.contents g.K.Sink.has_failed c.args.output.now c.from_csv-answer.new.sink)
    (channel g.E.Sink.contents g.E.Sink.has_failed c.args.faults.now c.end_conversion-in-FromCsv.new.faults)
    c.end_conversion-in-FromCsv.result c.from_csv-answer.result well good (c.from_csv-answer.ensures.chain text fs b input is)
    c.end_conversion-in-FromCsv.ensures

pub returns-in-ToCsv-clause-works : goal.returns-in-ToCsv-clause-works
returns-in-ToCsv-clause-works g c = λ zero.
    good_status (channel g.E.Sink.contents g.E.Sink.has_failed c.args.faults.now c.end_conversion.new.faults) c.end_conversion.result
    c.to_csv-answer.result zero c.end_conversion.ensures c.to_csv-answer.ensures.works

pub returns-in-Table-clause-works : goal.returns-in-Table-clause-works
returns-in-Table-clause-works g c = λ zero.
    good_status (channel g.E.Sink.contents g.E.Sink.has_failed c.args.faults.now c.end_conversion-in-Table.new.faults) c.end_conversion-in-Table.result
    c.table-answer.result zero c.end_conversion-in-Table.ensures c.table-answer.ensures.works

pub returns-in-FromCsv-clause-works : goal.returns-in-FromCsv-clause-works
returns-in-FromCsv-clause-works g c = λ zero.
    let source = channel g.S.Source.remaining g.S.Source.has_failed c.args.source.now c.from_csv-answer.new.source in
    let sink = channel g.K.Sink.contents g.K.Sink.has_failed c.args.output.now c.from_csv-answer.new.sink in
    good_status (channel g.E.Sink.contents g.E.Sink.has_failed c.args.faults.now c.end_conversion-in-FromCsv.new.faults) c.end_conversion-in-FromCsv.result
    c.from_csv-answer.result zero c.end_conversion-in-FromCsv.ensures (text_works source sink c.from_csv-answer.result c.from_csv-answer.ensures.reads)

pub returns-in-Check-clause-runs : goal.returns-in-Check-clause-runs
returns-in-Check-clause-runs g c =
    subst (λ command. RunsCommand command
    (channel g.S.Source.remaining g.S.Source.has_failed c.args.source.now c.run_report.new.source)
    (channel g.K.Sink.contents g.K.Sink.has_failed c.args.output.now c.run_report.new.output)
    (channel g.E.Sink.contents g.E.Sink.has_failed c.args.faults.now c.run_report.new.faults)
    c.run_report.result) (sym c.in-Check.is) c.run_report.ensures.runs

pub returns-in-Check-clause-works : goal.returns-in-Check-clause-works
returns-in-Check-clause-works g c = c.run_report.ensures.works

pub returns-in-Show-clause-runs : goal.returns-in-Show-clause-runs
returns-in-Show-clause-runs g c =
    subst (λ command. RunsCommand command
    (channel g.S.Source.remaining g.S.Source.has_failed c.args.source.now c.run_report-in-Show.new.source)
    (channel g.K.Sink.contents g.K.Sink.has_failed c.args.output.now c.run_report-in-Show.new.output)
    (channel g.E.Sink.contents g.E.Sink.has_failed c.args.faults.now c.run_report-in-Show.new.faults)
    c.run_report-in-Show.result) (sym c.in-Show.is) c.run_report-in-Show.ensures.runs

pub returns-in-Show-clause-works : goal.returns-in-Show-clause-works
returns-in-Show-clause-works g c = c.run_report-in-Show.ensures.works

pub returns-in-Show-clause-shows : goal.returns-in-Show-clause-shows
returns-in-Show-clause-shows g c = λ command. c.run_report-in-Show.ensures.chain

-- ---- what other commands do

pub returns-in-Check-clause-shows : goal.returns-in-Check-clause-shows
returns-in-Check-clause-shows g c = apart c.args.command Check Show refl c.in-Check.is

pub returns-in-Check-clause-converts : goal.returns-in-Check-clause-converts
returns-in-Check-clause-converts g c = apart c.args.command Check ToCsv refl c.in-Check.is

pub returns-in-Check-clause-tables : goal.returns-in-Check-clause-tables
returns-in-Check-clause-tables g c = apart c.args.command Check Table refl c.in-Check.is

pub returns-in-Check-clause-from_text : goal.returns-in-Check-clause-from_text
returns-in-Check-clause-from_text g c = apart c.args.command Check FromCsv refl c.in-Check.is

pub returns-in-Show-clause-checks : goal.returns-in-Show-clause-checks
returns-in-Show-clause-checks g c = apart c.args.command Show Check refl c.in-Show.is

pub returns-in-Show-clause-converts : goal.returns-in-Show-clause-converts
returns-in-Show-clause-converts g c = apart c.args.command Show ToCsv refl c.in-Show.is

pub returns-in-Show-clause-tables : goal.returns-in-Show-clause-tables
returns-in-Show-clause-tables g c = apart c.args.command Show Table refl c.in-Show.is

pub returns-in-Show-clause-from_text : goal.returns-in-Show-clause-from_text
returns-in-Show-clause-from_text g c = apart c.args.command Show FromCsv refl c.in-Show.is

pub returns-in-ToCsv-clause-checks : goal.returns-in-ToCsv-clause-checks
returns-in-ToCsv-clause-checks g c = apart c.args.command ToCsv Check refl c.in-ToCsv.is

pub returns-in-ToCsv-clause-shows : goal.returns-in-ToCsv-clause-shows
returns-in-ToCsv-clause-shows g c = apart c.args.command ToCsv Show refl c.in-ToCsv.is

pub returns-in-ToCsv-clause-tables : goal.returns-in-ToCsv-clause-tables
returns-in-ToCsv-clause-tables g c = apart c.args.command ToCsv Table refl c.in-ToCsv.is

pub returns-in-ToCsv-clause-from_text : goal.returns-in-ToCsv-clause-from_text
returns-in-ToCsv-clause-from_text g c = apart c.args.command ToCsv FromCsv refl c.in-ToCsv.is

pub returns-in-FromCsv-clause-checks : goal.returns-in-FromCsv-clause-checks
returns-in-FromCsv-clause-checks g c = apart c.args.command FromCsv Check refl c.in-FromCsv.is

pub returns-in-FromCsv-clause-shows : goal.returns-in-FromCsv-clause-shows
returns-in-FromCsv-clause-shows g c = apart c.args.command FromCsv Show refl c.in-FromCsv.is

pub returns-in-FromCsv-clause-converts : goal.returns-in-FromCsv-clause-converts
returns-in-FromCsv-clause-converts g c = apart c.args.command FromCsv ToCsv refl c.in-FromCsv.is

pub returns-in-FromCsv-clause-tables : goal.returns-in-FromCsv-clause-tables
returns-in-FromCsv-clause-tables g c = apart c.args.command FromCsv Table refl c.in-FromCsv.is

pub returns-in-Table-clause-checks : goal.returns-in-Table-clause-checks
returns-in-Table-clause-checks g c = apart c.args.command Table Check refl c.in-Table.is

pub returns-in-Table-clause-shows : goal.returns-in-Table-clause-shows
returns-in-Table-clause-shows g c = apart c.args.command Table Show refl c.in-Table.is

pub returns-in-Table-clause-converts : goal.returns-in-Table-clause-converts
returns-in-Table-clause-converts g c = apart c.args.command Table ToCsv refl c.in-Table.is

pub returns-in-Table-clause-from_text : goal.returns-in-Table-clause-from_text
returns-in-Table-clause-from_text g c = apart c.args.command Table FromCsv refl c.in-Table.is
