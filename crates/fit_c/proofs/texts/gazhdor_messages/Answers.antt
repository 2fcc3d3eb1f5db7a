use Rattle.fit_c.proofs.texts.gazhdor_messages.Goals as goal

pub returns-clause-reported : goal.returns-clause-reported
returns-clause-reported c = c.reported.ensures.reported

pub returns-clause-chain : goal.returns-clause-chain
returns-clause-chain c = c.reported.ensures.chain
