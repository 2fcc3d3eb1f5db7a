use Rattle.fit_texts.proofs.Common.{◌∙◌, ◌++◌, ◌∷◌, [], ap₂, sym, arith, take_all, dev_keys, namings_at}
use Rattle.fit_texts.proofs.DevKeyFacts.{keys_taken, length-dev_keys}
use Rattle.fit_texts.proofs.kept.developer.kept_devs.Goals as goal

pub loop-place-preserved : goal.loop-place-preserved
loop-place-preserved c =
    c.in_ok-push.ensures.items ∙ ap₂ (λ keys key. keys ++ (key ∷ [])) c.loop-place.invariant c.in_ok-kept_dev.ensures
    ∙ sym (keys_taken c.args.fields.now c.args.dev_codes.now (namings_at c.args.stream.now c.args.local) c.loop-place.place c.loop-place-test.true
    c.requires.codes c.requires.namings)

pub returns : goal.returns
returns c =
    let namings = namings_at c.args.stream.now c.args.local in
    c.loop-place.invariant
    ∙ take_all c.loop-place.place (dev_keys c.args.fields.now c.args.dev_codes.now namings)
    (omega (arith, c.loop-place-test.false, length-dev_keys c.args.fields.now c.args.dev_codes.now namings c.requires.codes c.requires.namings))
