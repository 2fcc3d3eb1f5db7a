use Rattle.fit_csv.proofs.Common.{◌∙◌, sym, ap, subst, Data, Nothing, known}
use Rattle.fit_record.specs.Records.{IsRecord}
use Rattle.fit_profile.proofs.KnownFacts.{known_learned}
use Rattle.fit_csv.proofs.from.open_file.OpenFile.add_message.Goals as goal

pub push_message-requires-clause-known : goal.push_message-requires-clause-known
push_message-requires-clause-known c = c.env.ensures ∙ ap known (c.stream.ensures ∙ c.requires.same_records) ∙ known_learned c.args.self.now.records

pub push_message-requires-clause-message : goal.push_message-requires-clause-message
push_message-requires-clause-message c = (
  c.requires.message.0,
  subst (λ e. IsRecord e (Data c.requires.message.0) c.args.bytes.now) (sym (c.env.ensures ∙ ap known c.stream.ensures)) c.requires.message.1,
)

pub returns-clause-ok : goal.returns-clause-ok
returns-clause-ok c v is = λ i. record {
  header = c.args.self.now.header;
  records = c.in_ok-push_message.ensures.ok v (subst (λ e. IsRecord e (Data v) c.args.bytes.now) (sym (c.env.ensures ∙ ap known c.stream.ensures)) is) i;
  before = c.in_ok-take_opened.ensures.ok v is i;
  part = Nothing;
}
