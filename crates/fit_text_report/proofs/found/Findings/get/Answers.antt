use Rattle.fit_text_report.proofs.Common.{◌∙◌, Bor, length, refl, sym, ap, ltb-false, ltb-true, option_and_then, slice_get}
use Rattle.std.proofs.Common.{Option, option_map}
use Rattle.std.proofs.lemmas.Option.{slice_get_read, slice_get_past}
use Rattle.fit_text_report.proofs.found.Findings.get.Goals as goal

pub returns : goal.returns
returns g c =
    let items = c.as_slice.result.now in
    let found = c.in_ok-get.ensures.lookup in
    let within = ltb-true c.args.local (length items) (sym found.0) in
    c.as_ref.ensures.value
    ∙ ap (λ (o : Option (Option g.row.T.Denot)). option_and_then (λ t. t) o)
    (sym (slice_get_read items (length items) c.args.local c.in_ok-get.field-0.now refl within found.1)
    ∙ ap (λ l. slice_get l c.args.local) c.as_slice.ensures.value)

pub returns-in_err-get : goal.returns-in_err-get
returns-in_err-get g c =
    let items = c.as_slice.result.now in
    let past = ltb-false c.args.local (length items) (sym c.in_err-get.ensures.lookup.0) in
    ap (λ (o : Option (Bor g.row.T.Denot)). option_map (λ t. t.now) o) c.from_residual.ensures
    ∙ ap (λ (o : Option (Option g.row.T.Denot)). option_and_then (λ t. t) o)
    (sym (slice_get_past items c.args.local past) ∙ ap (λ l. slice_get l c.args.local) c.as_slice.ensures.value)
