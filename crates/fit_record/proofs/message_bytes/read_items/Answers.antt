use Rattle.fit_record.proofs.Common.{rules}
use Rattle.fit_record.proofs.message_bytes.read_items.Goals as goal

pub returns : goal.returns
returns g c = search rules
