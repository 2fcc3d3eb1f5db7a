use Rattle.fit_csv.proofs.Common.{◌≡◌, ◌∙◌, ◌++◌, refl, sym, ap, MatchResult-weaker, option_and_then, slice_get, namings_at, naming_at, row_of}
use Rattle.std.proofs.Common.{codes, decimal}
use Rattle.std.specs.Prelude.{unwrap_or}
use Rattle.std.proofs.lemmas.Bool.{true≢false}
use Rattle.std.proofs.lemmas.Result.{IfOk-weaker}
use Rattle.fit_texts.specs.Words.{dev_label}
use Rattle.fit_csv.proofs.KnownRows.{dev-shown, dev-fault, measured_by, named, no-dev-row}
use Rattle.fit_csv.proofs.from.fields.dev_items.Goals as goal

pub returns-then-not-same-clause-err : goal.returns-then-not-same-clause-err
returns-then-not-same-clause-err c =
    no-dev-row c.args.field c.args.code (naming_at c.args.before.now c.args.local c.args.place) (row_of c.args.cells.now) c.args.cells.now.kind.now refl
    (λ e. true≢false (sym (c.if-not-same.ensures.1 e)))

pub returns-clause-shape : goal.returns-clause-shape
returns-clause-shape c = c.value_row.ensures.shape

pub returns-clause-ok : goal.returns-clause-ok
returns-clause-ok c =
    let naming = naming_at c.args.before.now c.args.local c.args.place in
    let there = slice_get (namings_at c.args.before.now c.args.local) c.args.place in
    let labelled : c.as_bytes-label.result.now ≡ dev_label c.args.field (naming_at c.args.before.now c.args.local c.args.place) =
    c.as_bytes-label.ensures.value ∙ c.dev_name.ensures ∙ ap (λ other. unwrap_or (option_and_then (λ t. t.name) there) other) c.numbered_label-numbered.ensures
    ∙ named there (codes "dev_" ++ decimal c.args.field.index ++ codes "_" ++ decimal c.args.field.number) in
    let measured = c.as_bytes-unit.ensures.value ∙ c.dev_unit.ensures ∙ measured_by there in
    IfOk-weaker c.value_row.result _ _ (λ items e. e ∙ dev-shown c.args.field c.args.code naming c.args.cells.now.kind.now c.as_bytes-label.result.now
    c.as_bytes-unit.result.now
    (c.same.ensures.0 c.if-not-same.false) labelled measured items) c.value_row.ensures.ok

pub returns-clause-err : goal.returns-clause-err
returns-clause-err c =
    let naming = naming_at c.args.before.now c.args.local c.args.place in
    let there = slice_get (namings_at c.args.before.now c.args.local) c.args.place in
    let labelled : c.as_bytes-label.result.now ≡ dev_label c.args.field (naming_at c.args.before.now c.args.local c.args.place) =
    c.as_bytes-label.ensures.value ∙ c.dev_name.ensures ∙ ap (λ other. unwrap_or (option_and_then (λ t. t.name) there) other) c.numbered_label-numbered.ensures
    ∙ named there (codes "dev_" ++ decimal c.args.field.index ++ codes "_" ++ decimal c.args.field.number) in
    let measured = c.as_bytes-unit.ensures.value ∙ c.dev_unit.ensures ∙ measured_by there in
    MatchResult-weaker c.value_row.result c.value_row.ensures.err (λ x p. p)
    (λ misfit h. dev-fault c.args.field c.args.code naming c.args.cells.now.kind.now c.as_bytes-label.result.now c.as_bytes-unit.result.now
    (c.same.ensures.0 c.if-not-same.false) labelled measured (row_of c.args.cells.now) misfit h)
