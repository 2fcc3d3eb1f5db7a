use Rattle.fit_profile.proofs.TakenMessages.{said_of_it}
use Rattle.fit_profile.proofs.message_bytes.said_in.Goals as goal

pub returns : goal.returns
returns c v p is known_ =
    let lone = c.has_lone_fields-lone.result in
    said_of_it c.args.env.now c.args.last c.open-message.result (record c.say_next-taken.result { has_lone_fields = lone })
    c.open-message.ensures.defined (c.say_next-taken.ensures.said lone c.has_lone_fields-lone.ensures) v p (c.open-message.ensures.read v is)
    known_
