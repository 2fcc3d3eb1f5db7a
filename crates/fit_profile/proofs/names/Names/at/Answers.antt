use Rattle.fit_profile.proofs.Common.{◌∙◌, [], ap, get_or, length, sym}
use Rattle.std.proofs.Common.{ltb-true, ltb-false}
use Rattle.std.proofs.lemmas.List.{get_or_past, get_or_read}
use Rattle.fit_profile.proofs.names.Names.at.Goals as goal

pub returns-in-Some : goal.returns-in-Some
returns-in-Some g c =
    let places = c.as_slice.result.now in
    c.as_slice-in-Some.ensures
    ∙ get_or_read places c.args.local c.in-Some.texts.now (ltb-true c.args.local (length places) (sym c.in-Some.ensures.lookup.0)) c.in-Some.ensures.lookup.1 []
    ∙ ap (λ ps. get_or ps c.args.local []) c.as_slice.ensures.value

pub returns-in-None : goal.returns-in-None
returns-in-None g c =
    let places = c.as_slice.result.now in
    sym (get_or_past places c.args.local [] (ltb-false c.args.local (length places) (sym c.in-None.ensures.lookup.0)))
    ∙ ap (λ ps. get_or ps c.args.local []) c.as_slice.ensures.value
