use Rattle.fit_encode.proofs.Lengths.{definition_size, data_size, has_size}
use Rattle.fit_encode.proofs.spelled.record_size.Goals as goal

pub returns-in-Define-clause-length : goal.returns-in-Define-clause-length
returns-in-Define-clause-length c = definition_size c.args.env.now c.args.r.now c.in-Define.d _ c.in-Define.is c.definition_length.ensures.length

pub returns-in-Some-clause-length : goal.returns-in-Some-clause-length
returns-in-Some-clause-length c = data_size c.args.env.now c.args.r.now c.in-Values.v _ c.in-Values.is c.in-Some.ensures.size c.requires

pub unreachable-requires : goal.unreachable-requires
unreachable-requires c = has_size c.args.env.now c.args.r.now c.in-Values.v c.in-Values.is c.in-None.ensures.size c.requires
