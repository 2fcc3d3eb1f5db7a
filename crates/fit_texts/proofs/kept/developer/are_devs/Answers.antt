use Rattle.fit_texts.proofs.Common.{◌∙◌, ◌++◌, ◌∷◌, [], ap, ap₂, refl, sym, arith, length, get_or, take_all, take_more, dev_keys, namings_at}
use Rattle.std.proofs.Common.{rules}
use Rattle.fit_texts.proofs.DevKeyFacts.{key_is, keys_taken, length-dev_keys}
use Rattle.fit_texts.proofs.kept.developer.are_devs.Goals as goal

pub loop-place-preserved : goal.loop-place-preserved
loop-place-preserved c =
    take_more c.args.kept.now c.loop-place.place c.index-kept-place.result (omega (arith, c.loop-place-test.true, c.if-kept-fields.false))
    ∙ ap₂ (λ keys key. keys ++ (key ∷ [])) c.loop-place.invariant (sym c.index-kept-place.is ∙ c.is_dev.ensures.0 c.if-not-is_dev.false)
    ∙ sym (keys_taken c.args.fields.now c.args.dev_codes.now (namings_at c.args.stream.now c.args.local) c.loop-place.place c.loop-place-test.true
    c.requires.codes c.requires.namings)

pub returns-then-kept-fields : goal.returns-then-kept-fields
returns-then-kept-fields c =
    let namings = namings_at c.args.stream.now c.args.local in
    let count = length-dev_keys c.args.fields.now c.args.dev_codes.now namings c.requires.codes c.requires.namings in
    (λ yes. search rules, λ is. absurd (c.if-kept-fields.true (ap length is ∙ count)))

pub returns-then-not-is_dev : goal.returns-then-not-is_dev
returns-then-not-is_dev c =
    let namings = namings_at c.args.stream.now c.args.local in
    let key = key_is c.args.fields.now c.args.dev_codes.now namings c.loop-place.place c.index-kept-place.result c.loop-place-test.true
    c.requires.codes c.requires.namings in (
      λ yes. search rules,
      λ is. sym c.if-not-is_dev.true
          ∙ c.is_dev.ensures.1 (c.index-kept-place.is ∙ ap (λ keys. get_or keys c.loop-place.place c.index-kept-place.result) is ∙ key),
    )

pub returns : goal.returns
returns c =
    let namings = namings_at c.args.stream.now c.args.local in (
      λ _.
          sym (take_all c.loop-place.place c.args.kept.now (omega (arith, c.loop-place-test.false, c.if-kept-fields.false))) ∙ c.loop-place.invariant
          ∙ take_all c.loop-place.place (dev_keys c.args.fields.now c.args.dev_codes.now namings)
          (omega (arith, c.loop-place-test.false, length-dev_keys c.args.fields.now c.args.dev_codes.now namings c.requires.codes c.requires.namings)),
      λ _. refl,
    )
