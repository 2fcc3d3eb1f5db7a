use Rattle.fit_sum.proofs.RegisterOfAdded.{IsBytes-fits}
use Rattle.fit_sum.proofs.words.add_bytes.Goals as goal

pub returns-then-bytes-lt256-clause-bytes : goal.returns-then-bytes-lt256-clause-bytes
returns-then-bytes-lt256-clause-bytes c = IsBytes-fits c.args.bytes.now c.type_inv.bytes

pub returns-else-bytes-lt256-clause-bytes : goal.returns-else-bytes-lt256-clause-bytes
returns-else-bytes-lt256-clause-bytes c = IsBytes-fits c.args.bytes.now c.type_inv.bytes
