use Rattle.fit_frame.proofs.header.Header.new.Goals as goal

pub returns-clause-sum : goal.returns-clause-sum
returns-clause-sum c = cc
