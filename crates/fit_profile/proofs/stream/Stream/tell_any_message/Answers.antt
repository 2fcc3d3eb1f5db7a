use Rattle.fit_record.specs.declared.message.Record.TheVariants.{Values as Data}
use Rattle.fit_profile.proofs.Kept.{kept-record}
use Rattle.fit_profile.proofs.TakenMessages.{defined_inside, said_now}
use Rattle.fit_profile.proofs.stream.Stream.tell_any_message.Goals as goal

pub said_in-taken-requires : goal.said_in-taken-requires
said_in-taken-requires c = record {
  plans = c.self.invariant.1;
  message = (c.requires.0, kept-record c.args.self.now (Data c.requires.0) c.args.bytes.now c.self.invariant.0 c.self.view_is c.requires.1);
}

pub returns-clause-said : goal.returns-clause-said
returns-clause-said c v p read known_ =
    said_now c.args.self.now v p c.said_in-taken.result c.self.invariant.0 c.self.view_is known_
    (c.said_in-taken.ensures v p (kept-record c.args.self.now (Data v) c.args.bytes.now c.self.invariant.0 c.self.view_is read)
    (defined_inside c.args.self.now v p c.self.invariant.0 c.self.view_is known_))
