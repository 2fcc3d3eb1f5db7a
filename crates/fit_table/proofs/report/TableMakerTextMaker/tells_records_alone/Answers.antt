use Rattle.std.proofs.Common.{refl}
use Rattle.fit_report.specs.Heard.{latest_records}
use Rattle.fit_table.proofs.Common.{ap, csv_text, files_heard}
use Rattle.fit_table.proofs.RowsInBytes.{rows_of_other}
use Rattle.fit_table.proofs.report.TableMakerTextMaker.tells_records_alone.Goals as goal

pub returns : goal.returns
unfolding csv_text
returns c = λ _ heard v other. ap csv_text (rows_of_other (files_heard heard) (latest_records heard) v _ refl other)
