use Rattle.fit_profile.proofs.SliceReads.{read_at}
use Rattle.fit_profile.proofs.Common.{rules}
use Rattle.fit_profile.proofs.message.Message.dev_name.Goals as goal

pub returns : goal.returns
returns g c = search (rules, read_at)
