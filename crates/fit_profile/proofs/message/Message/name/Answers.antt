use Rattle.fit_profile.proofs.message.Message.name.Goals as goal

pub returns-in-Some : goal.returns-in-Some
returns-in-Some g c = cc
