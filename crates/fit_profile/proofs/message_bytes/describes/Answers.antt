use Rattle.std.proofs.Common.{rules}
use Rattle.fit_profile.proofs.message_bytes.describes.Goals as goal

pub returns-then-plan-clause-none : goal.returns-then-plan-clause-none
returns-then-plan-clause-none c = search rules
