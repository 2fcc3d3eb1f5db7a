use Rattle.fit_record.proofs.header.has_developer_fields.Goals as goal

pub returns : goal.returns
returns c = cc
