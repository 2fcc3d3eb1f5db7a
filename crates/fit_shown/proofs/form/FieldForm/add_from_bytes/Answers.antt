use Rattle.fit_shown.proofs.Common.{◌∙◌, ◌%◌, ap, subst, Global}
use Rattle.fit_shown.proofs.FloatCells.{field_width, float_shown}
use Rattle.fit_shown.proofs.OctetCells.{bytes_shown}
use Rattle.fit_shown.proofs.SeveralCells.{several_shown}
use Rattle.fit_shown.proofs.ShownCells.{put_both}
use Rattle.fit_shown.specs.inner.FieldForms.{IsFieldKind, field_meaning}
use Rattle.fit_shown.proofs.form.FieldForm.add_from_bytes.Goals as goal

pub add_numbers-requires-clause-whole : goal.add_numbers-requires-clause-whole
add_numbers-requires-clause-whole c = ap (λ n. n % c.in-Some.form.width) c.requires.length ∙ c.in-Some.ensures.whole

pub returns-in-Some-clause-shown : goal.returns-in-Some-clause-shown
returns-in-Some-clause-shown c =
    let f = c.args.self.now in
    let form = c.in-Some.ensures in
    put_both _ f c.args.order c.args.bytes.now _ _ _ _
    (several_shown Global c.in-Some.form c.args.order f.code.0 f.size (field_meaning f) c.args.bytes.now form.form form.whole c.requires.length)
    (c.add_numbers.ensures.text f.code.0 (field_meaning f) form.form)

pub add_float-requires-clause-width : goal.add_float-requires-clause-width
add_float-requires-clause-width c =
    let f = c.args.self.now in
    field_width f.code.0 f.size (subst (IsFieldKind f.code.0 f.size) c.in-Float.is c.requires.known.kind).1

pub returns-in-Float-clause-shown : goal.returns-in-Float-clause-shown
returns-in-Float-clause-shown c =
    let f = c.args.self.now in
    let is = subst (IsFieldKind f.code.0 f.size) c.in-Float.is c.requires.known.kind in
    put_both _ f c.args.order c.args.bytes.now _ _ _ _
    (float_shown Global c.args.order f.code.0 f.size (field_meaning f) c.args.bytes.now is.0 is.1 c.requires.length) c.add_float.ensures.text

pub returns-in-Bytes-clause-shown : goal.returns-in-Bytes-clause-shown
returns-in-Bytes-clause-shown c =
    let f = c.args.self.now in
    let is = subst (IsFieldKind f.code.0 f.size) c.in-Bytes.is c.requires.known.kind in
    put_both _ f c.args.order c.args.bytes.now _ _ _ _
    (bytes_shown Global c.args.order f.code.0 f.size (field_meaning f) c.args.bytes.now is c.requires.length) c.add_bytes.ensures.text
