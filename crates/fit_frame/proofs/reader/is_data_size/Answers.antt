use Rattle.std.proofs.Common.{rules}
use Rattle.fit_frame.proofs.reader.is_data_size.Goals as goal

pub returns-else-size-eq0 : goal.returns-else-size-eq0
returns-else-size-eq0 c = search rules
