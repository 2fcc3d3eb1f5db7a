use Rattle.std.proofs.Common.{rules}
use Rattle.fit_profile.proofs.by_bytes.texts_in.Goals as goal

pub returns : goal.returns
returns c = search rules
