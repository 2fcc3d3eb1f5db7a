use Rattle.fit_record.proofs.message.Values.new.Goals as goal

pub returns : goal.returns
returns g c = cc
