use Rattle.fit_csv.proofs.OneChain.{one-record}
use Rattle.fit_csv.proofs.laws.records_have_own_rows.Goals as goal

pub returns : goal.returns
returns c = one-record c.text_has_one_number.ensures
