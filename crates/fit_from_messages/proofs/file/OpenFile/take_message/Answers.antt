use Rattle.std.proofs.Common.{rules, ap, sym, subst, refl, List}
use Rattle.std.proofs.lemmas.Result.{err_from_is_err_and}
use Rattle.std.specs.Global.{Global}
use Rattle.fit_record.specs.Records.{IsRecord}
use Rattle.fit_record.specs.declared.message.Record.{Record}
use Rattle.fit_record.specs.declared.message.Record.TheVariants.{Values as Data}
use Rattle.fit_from_messages.specs.SaysChain.{message_said}
use Rattle.fit_from_messages.specs.inner.OpenFiles.{begun_of}
use Rattle.fit_from_messages.proofs.MessageFacts.{no_local}
use Rattle.fit_from_messages.proofs.SoundFiles.{sound_message}
use Rattle.fit_from_messages.proofs.file.OpenFile.take_message.Goals as goal

pub returns-in_default-clause-err : goal.returns-in_default-clause-err
returns-in_default-clause-err c = no_local (begun_of c.args.self.now) c.args.block.now (c.in_default.ensures.none refl)

pub returns-in_err-end-clause-err : goal.returns-in_err-end-clause-err
returns-in_err-end-clause-err c =
    let p = err_from_is_err_and c.from_residual.result c.from_residual.ensures.1 in
    rw (p.1, p.2) (c.in_err-end.ensures.err (begun_of c.args.self.now) (sym c.requires.sound.known, sym c.in-Some.ensures.some))

pub push_message-requires-clause-message : goal.push_message-requires-clause-message
push_message-requires-clause-message c =
    let f = begun_of c.args.self.now in
    let v = message_said f c.args.block.now in (
      v,
      subst (λ x. IsRecord c.args.self.now.env (Data v) x) (search rules)
          (c.in_ok-end.ensures.message f (sym c.requires.sound.known, sym c.in-Some.ensures.some)),
    )

pub learn_message-requires : goal.learn_message-requires
learn_message-requires c =
    let f = begun_of c.args.self.now in
    let v = message_said f c.args.block.now in (
      v,
      subst (λ x. IsRecord c.args.self.now.env (Data v) x) (search rules)
          (c.in_ok-end.ensures.message f (sym c.requires.sound.known, sym c.in-Some.ensures.some)),
    )

pub returns-clause-stands : goal.returns-clause-stands
returns-clause-stands c = c.in_ok-end.ensures.stands (begun_of c.args.self.now) (sym c.requires.sound.known, sym c.in-Some.ensures.some)

pub returns-clause-after : goal.returns-clause-after
returns-clause-after c =
    let f = begun_of c.args.self.now in
    let v = message_said f c.args.block.now in
    let is : IsRecord c.args.self.now.env (Data v) c.split_at.result.0.now =
    subst (λ x. IsRecord c.args.self.now.env (Data v) x) (search rules)
    (c.in_ok-end.ensures.message f (sym c.requires.sound.known, sym c.in-Some.ensures.some)) in
    ap (λ (rs : List (Record Global)). record f { records = rs }) (c.in_ok-push_message.ensures.ok v is)

pub returns-clause-sound : goal.returns-clause-sound
returns-clause-sound c =
    let f = begun_of c.args.self.now in
    let v = message_said f c.args.block.now in
    let is : IsRecord c.args.self.now.env (Data v) c.split_at.result.0.now =
    subst (λ x. IsRecord c.args.self.now.env (Data v) x) (search rules)
    (c.in_ok-end.ensures.message f (sym c.requires.sound.known, sym c.in-Some.ensures.some)) in
    sound_message c.args.self.now _ v c.requires.sound is.0 refl (c.in_ok-push_message.ensures.ok v is) (c.in_ok-learn_message.ensures.ok v is) refl
