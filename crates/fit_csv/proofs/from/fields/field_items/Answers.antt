use Rattle.fit_csv.proofs.Common.{◌≡◌, ◌∙◌, ◌++◌, refl, sym, ap, MatchResult-weaker, field, meaning, row_of}
use Rattle.std.proofs.Common.{Some, codes, decimal}
use Rattle.std.specs.Prelude.{option_map, unwrap_or}
use Rattle.std.proofs.lemmas.Bool.{true≢false}
use Rattle.std.proofs.lemmas.Result.{IfOk-weaker}
use Rattle.fit_profile.specs.Names.{field_label}
use Rattle.fit_texts.specs.Words.{unit_text}
use Rattle.fit_csv.proofs.KnownRows.{field-shown, field-fault, no-field-row}
use Rattle.fit_csv.proofs.from.fields.field_items.Goals as goal

pub returns-then-not-same-clause-err : goal.returns-then-not-same-clause-err
returns-then-not-same-clause-err c =
    no-field-row c.args.global c.args.field (row_of c.args.cells.now) c.args.cells.now.kind.now refl (λ e. true≢false (sym (c.if-not-same.ensures.1 e)))

pub returns-in-Some-clause-shape : goal.returns-in-Some-clause-shape
returns-in-Some-clause-shape c = c.value_row.ensures.shape

pub returns-in-Some-clause-ok : goal.returns-in-Some-clause-ok
returns-in-Some-clause-ok c =
    let labelled : c.as_bytes-label.result.now ≡ field_label c.args.global c.args.field.number =
    c.as_bytes-label.ensures.value
    ∙ ap (λ o. unwrap_or (option_map (λ m. m.name) (option_map meaning o)) (codes "field_" ++ decimal c.args.field.number)) (sym c.in-Some.is)
    ∙ ap (λ m. unwrap_or (option_map (λ m. m.name) m) (codes "field_" ++ decimal c.args.field.number)) c.field_info-info.ensures.table in
    let known = ap (λ o. option_map meaning o) (sym c.in-Some.is) ∙ c.field_info-info.ensures.table in
    let measured = c.as_bytes-unit.ensures.value ∙ c.unit_text.ensures ∙ ap (λ o. unit_text (option_map meaning o)) c.in-Some.is in
    IfOk-weaker c.value_row.result _ _ (λ items e. e ∙ field-shown c.args.global c.args.field c.args.cells.now.kind.now c.as_bytes-label.result.now
    c.as_bytes-unit.result.now (Some (meaning c.in-Some.known))
    (c.same.ensures.0 c.if-not-same.false) labelled known measured items) c.value_row.ensures.ok

pub returns-in-Some-clause-err : goal.returns-in-Some-clause-err
returns-in-Some-clause-err c =
    let labelled : c.as_bytes-label.result.now ≡ field_label c.args.global c.args.field.number =
    c.as_bytes-label.ensures.value
    ∙ ap (λ o. unwrap_or (option_map (λ m. m.name) (option_map meaning o)) (codes "field_" ++ decimal c.args.field.number)) (sym c.in-Some.is)
    ∙ ap (λ m. unwrap_or (option_map (λ m. m.name) m) (codes "field_" ++ decimal c.args.field.number)) c.field_info-info.ensures.table in
    let known = ap (λ o. option_map meaning o) (sym c.in-Some.is) ∙ c.field_info-info.ensures.table in
    let measured = c.as_bytes-unit.ensures.value ∙ c.unit_text.ensures ∙ ap (λ o. unit_text (option_map meaning o)) c.in-Some.is in
    MatchResult-weaker c.value_row.result c.value_row.ensures.err (λ x p. p)
    (λ misfit h. field-fault c.args.global c.args.field c.args.cells.now.kind.now c.as_bytes-label.result.now c.as_bytes-unit.result.now (Some (meaning
    c.in-Some.known))
    (c.same.ensures.0 c.if-not-same.false) labelled known measured (row_of c.args.cells.now) misfit h)

pub returns-in-None-clause-shape : goal.returns-in-None-clause-shape
returns-in-None-clause-shape c = c.value_row-in-None.ensures.shape

pub returns-in-None-clause-ok : goal.returns-in-None-clause-ok
returns-in-None-clause-ok c =
    let labelled : c.as_bytes-label-in-None.result.now ≡ field_label c.args.global c.args.field.number =
    c.as_bytes-label-in-None.ensures.value ∙ c.as_str.ensures.value ∙ c.field_label-label.ensures in
    let measured = c.as_bytes-unit.ensures.value ∙ c.unit_text.ensures in
    IfOk-weaker c.value_row-in-None.result _ _ (λ items e. e ∙ field-shown c.args.global c.args.field c.args.cells.now.kind.now
    c.as_bytes-label-in-None.result.now c.as_bytes-unit.result.now (option_map meaning c.field_info-info.result)
    (c.same.ensures.0 c.if-not-same.false) labelled c.field_info-info.ensures.table measured items) c.value_row-in-None.ensures.ok

pub returns-in-None-clause-err : goal.returns-in-None-clause-err
returns-in-None-clause-err c =
    let labelled : c.as_bytes-label-in-None.result.now ≡ field_label c.args.global c.args.field.number =
    c.as_bytes-label-in-None.ensures.value ∙ c.as_str.ensures.value ∙ c.field_label-label.ensures in
    let measured = c.as_bytes-unit.ensures.value ∙ c.unit_text.ensures in
    MatchResult-weaker c.value_row-in-None.result c.value_row-in-None.ensures.err (λ x p. p)
    (λ misfit h. field-fault c.args.global c.args.field c.args.cells.now.kind.now c.as_bytes-label-in-None.result.now c.as_bytes-unit.result.now
    (option_map meaning c.field_info-info.result)
    (c.same.ensures.0 c.if-not-same.false) labelled c.field_info-info.ensures.table measured (row_of c.args.cells.now) misfit h)
