use Rattle.fit_record.proofs.Common.{subst, Fits, rules}
use Rattle.fit_record.specs.Environment.{DescribesNothing}
use Rattle.fit_record.proofs.environment.Env.learn.Goals as goal

pub learn_definition-requires : goal.learn_definition-requires
learn_definition-requires g c = (assumption, subst (Fits c.args.self.now) c.in-Define.is c.requires)

pub take_in-requires : goal.take_in-requires
take_in-requires g c = (assumption, subst (Fits c.args.self.now) c.in-Values.is c.requires)

pub returns-in-Values-clause-err : goal.returns-in-Values-clause-err
returns-in-Values-clause-err g c = search rules

pub returns-in-Values-clause-free : goal.returns-in-Values-clause-free
returns-in-Values-clause-free g c = λ nothing. c.take_in.ensures.free (subst (DescribesNothing c.args.self.now) c.in-Values.is nothing)
