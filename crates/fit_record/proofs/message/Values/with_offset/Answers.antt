use Rattle.fit_record.proofs.message.Values.with_offset.Goals as goal

pub returns : goal.returns
returns g c = cc
