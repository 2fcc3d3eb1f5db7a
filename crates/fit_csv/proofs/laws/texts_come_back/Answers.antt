use Rattle.fit_csv.proofs.SevenRows.{chain-reads-back}
use Rattle.fit_csv.proofs.laws.texts_come_back.Goals as goal

pub returns : goal.returns
returns c files bytes are chain short = record { short = short; rows = chain-reads-back files; are_bytes = are; chain = chain }
