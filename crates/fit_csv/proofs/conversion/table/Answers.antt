use Rattle.fit_csv.proofs.Common.{table_of}
use Rattle.fit_csv.proofs.ReportTexts.{table_has_text}
use Rattle.fit_csv.proofs.conversion.table.Goals as goal

pub returns-clause-converts : goal.returns-clause-converts
returns-clause-converts g c = c.convert.ensures.converts table_of table_has_text

pub returns-clause-chain : goal.returns-clause-chain
returns-clause-chain g c = c.convert.ensures.chain table_of table_has_text
