-- What each kind of stream makes of the bytes that are fed to it.
use Rattle.std.specs.Prelude.{ℕ, List, [], ◌∷◌, codes}
use Rattle.std.specs.declared.alloc.Global.{Global}
use Rattle.fit_report.specs.Heard.{Lines}
use Rattle.fit_cells.specs.Rows.{csv_text}
use Rattle.fit_table.specs.EventTexts.{table_text}
use Rattle.fit_table.specs.Table.{table_line}
use Rattle.fit_rows.specs.EventTexts.{csv_line}
use Rattle.fit_show.specs.ShowLines.{show_line}
use Rattle.fit_messages.specs.Blocks.{event_block}
use Rattle.fit_stream.specs.declared.kind.Kind.{Kind}
use Rattle.fit_stream.specs.declared.kind.Kind.TheVariants as kinds
use Rattle.fit_stream.specs.Answers.{no_line}
use Rattle.fit_stream.specs.Flows.{Flow}

-- the text of an event
abbrev pub line_for : Kind → Lines Global
line_for kinds.Check = no_line
line_for kinds.Show = show_line
line_for kinds.Table = table_text
line_for kinds.Rows = csv_line
line_for kinds.Messages = event_block

-- the text before that of all events
abbrev pub first_for : Kind → List ℕ
first_for kinds.Check = []
first_for kinds.Show = []
first_for kinds.Table = csv_text (table_line ∷ [])
first_for kinds.Rows = codes "row,a,b,c,d,e,f\n"
first_for kinds.Messages = []

-- what clauses see of a stream
pub record StreamNow : Type 0 where
  pub kind : Kind
  pub flow : Flow
