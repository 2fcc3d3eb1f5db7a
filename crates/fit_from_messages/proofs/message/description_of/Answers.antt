use Rattle.std.proofs.Common.{◌∙◌, ap, sym}
use Rattle.std.specs.Global.{Global}
use Rattle.std.specs.Prelude.{option_and_then}
use Rattle.fit_record.specs.Environment.{defined_at, description}
use Rattle.fit_record.specs.declared.environment.Defined.{Defined}
use Rattle.fit_record.specs.declared.message.Values.{Values}
use Rattle.fit_from_messages.proofs.message.description_of.Goals as goal

pub returns : goal.returns
returns c v is =
    let same = c.open-message.ensures.read v is in
    let local = ap (λ (w : Values Global). w.local) same in
    let defined = ap (defined_at c.args.env.now) (sym local) ∙ c.open-message.ensures.defined in
    c.description.ensures ∙ ap (description c.open-message.result.defined.now.definition) same
    ∙ sym (ap (option_and_then (λ (p : Defined Global). description p.definition v)) defined)
