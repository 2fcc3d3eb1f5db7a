use Rattle.fit_decode.proofs.Common.{refl}
use Rattle.fit_decode.proofs.decoder.let_go.Goals as goal

pub new-requires : goal.new-requires
new-requires g c = assumption

pub returns-clause-known : goal.returns-clause-known
returns-clause-known g c = c.new.ensures

pub returns-clause-idle : goal.returns-clause-idle
returns-clause-idle g c = refl
