use Rattle.fit_profile.proofs.Common.{◌≡◌, ◌∙◌, ◌++◌, ◌∷◌, [], sym, ap, subst, None}
use Rattle.fit_profile.proofs.Common.{described_by, tell, last_after}
use Rattle.fit_record.specs.MessageBytes.{message_in}
use Rattle.fit_record.specs.declared.message.Record.TheVariants.{Values as Data}
use Rattle.fit_profile.proofs.NoCounters.{tells, described_none, none_described}
use Rattle.fit_profile.proofs.TakenMessages.{said_of_it}
use Rattle.fit_profile.proofs.message_bytes.take_telling.Goals as goal

pub returns-clause-said : goal.returns-clause-said
returns-clause-said c asked v p is known_ =
    let lone = c.lone_fields-lone.result in
    said_of_it c.args.env.now c.args.last.now c.open-message.result (record c.say_next-taken.result { has_lone_fields = lone })
    c.open-message.ensures.defined (c.say_next-taken.ensures.said lone (c.lone_fields-lone.ensures.lone asked)) v p
    (c.open-message.ensures.read v is) known_

pub lone_fields-lone-requires : goal.lone_fields-lone-requires
lone_fields-lone-requires c = c.plan_of-plan.ensures.lone

pub returns-clause-plans : goal.returns-clause-plans
returns-clause-plans c =
    c.lone_fields-lone.ensures.plans c.args.env.now.places c.open-message.ensures.defined c.requires.plans

pub returns-clause-last : goal.returns-clause-last
returns-clause-last c _ v is =
    let m = c.open-message.result in
    let e = c.args.env.now in
    let last = c.args.last.now in
    subst (λ w. c.say_next-taken.new.last ≡ last_after last (tell e last (Data w))) (c.open-message.ensures.read v is)
    (c.say_next-taken.ensures.last
    ∙ sym (ap (last_after last) (tells e m.defined.now last (message_in m) c.open-message.ensures.defined)))

pub returns-clause-records : goal.returns-clause-records
returns-clause-records c _ v is =
    c.add_to.ensures ∙ ap (λ w. c.args.records.now.items ++ Data w ∷ []) (c.open-message.ensures.read v is)

pub returns-clause-nothing : goal.returns-clause-nothing
returns-clause-nothing c _ v is =
    let m = c.open-message.result in
    subst (λ w. described_by c.args.env.now w ≡ None) (c.open-message.ensures.read v is)
    (described_none c.args.env.now m.defined.now (message_in m) c.open-message.ensures.defined
    (c.describes.ensures.none c.if-describes.false))

pub returns-then-describes-clause-describes : goal.returns-then-describes-clause-describes
returns-then-describes-clause-describes c _ v is none =
    let m = c.open-message.result in
    let e = c.args.env.now in
    c.describes.ensures.some c.if-describes.true
    (none_described e m.defined.now (message_in m) c.open-message.ensures.defined
    (subst (λ w. described_by e w ≡ None) (sym (c.open-message.ensures.read v is)) none))
