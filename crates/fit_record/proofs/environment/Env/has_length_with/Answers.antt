use Rattle.fit_record.proofs.environment.Env.has_length_with.Goals as goal

pub others_have-requires : goal.others_have-requires
others_have-requires g c = assumption
