use Rattle.fit_show.proofs.Common.{length, ap, arith, namings_at, dev_defs, MessageKey}
use Rattle.fit_texts.proofs.NamingFacts.{namings_long}
use Rattle.fit_texts.proofs.DevKeyFacts.{length-dev_keys}
use Rattle.fit_show.proofs.template.LineTemplate.new.Goals as goal

pub head_and_fields-requires-clause-devs : goal.head_and_fields-requires-clause-devs
head_and_fields-requires-clause-devs c =
    let p = c.args.defined.now in
    let namings = namings_at c.args.stream.now c.args.local in
    omega (
      arith,
      ap length c.as_slice-devs.ensures.value,
      ap (λ (k : MessageKey). length k.devs) c.kept.view_is,
      ap (λ (k : MessageKey). length k.devs) c.in_ok-kept.ensures,
      length-dev_keys (dev_defs p.definition.dev) p.dev_codes namings c.requires.sound.codes
          (namings_long c.args.stream.now c.args.local p c.requires.place),
      c.requires.sound.dev_fields,
    )
