use Rattle.fit_run.proofs.lines.encode_fault.Goals as goal

pub returns-in-TooLong : goal.returns-in-TooLong
returns-in-TooLong c = cc
