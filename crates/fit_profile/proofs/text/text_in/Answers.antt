use Rattle.fit_profile.proofs.Common.{◌≡◌, ◌∙◌, ℕ, List, Option, Some, None, sym, ap, subst, cond, eq-eqb, ne_eqb, option_and_then, if◌then◌else◌}
use Rattle.fit_profile.proofs.Common.{FieldDef, Items, first_field, before_closing_zeros, printable_text}
use Rattle.std.proofs.Common.{option_map}
use Rattle.std.specs.Global.{Global}
use Rattle.std.specs.Prelude.{◌==◌}
use Rattle.std.specs.Result.{IfOk}
use Rattle.std.specs.String.{string_bytes}
use Rattle.fit_record.proofs.Gathering.{fields_front}
use Rattle.fit_record.specs.MessageBytes.{message_in}
use Rattle.fit_record.specs.ReadMessages.{field_from, fields_from}
use Rattle.fit_record.specs.declared.message_bytes.MessageBytes.{MessageBytes}
use Rattle.fit_profile.specs.Described.{text_field}
use Rattle.fit_profile.specs.inner.InBytes.{shapes}
use Rattle.fit_profile.proofs.text.text_in.Goals as goal

-- the text of a field, where it is a string
abbrev shown : FieldDef × Items Global → Option (List ℕ)
shown f = if f.0.code == 0x07 then printable_text (before_closing_zeros f.1.bits) else None

-- the text of the first field of a number
of_first : (m : MessageBytes Global) (number : ℕ) (fs : List FieldDef) (o : Option (FieldDef × Items Global))
    → o ≡ first_field fs (fields_from {A = Global} m.defined.now.definition.order (shapes fs) m.body.now) number → fs ≡ m.defined.now.definition.fields
    → option_and_then shown o ≡ text_field m.defined.now.definition (message_in m) number
of_first m number fs o first same =
    let d = m.defined.now.definition in
    ap (option_and_then shown)
    (first ∙ ap (λ f. first_field f (fields_from {A = Global} d.order (shapes f) m.body.now) number) same
    ∙ ap (λ xs. first_field d.fields xs number) (fields_front {A = Global} d.order (shapes d.fields) m.body.now))

pub returns-in_default : goal.returns-in_default
returns-in_default c =
    let m = c.args.message.now in
    of_first m c.args.number c.as_slice.result.now None (c.in_default.ensures.found m.defined.now.definition.order) c.as_slice.ensures

pub returns-then-field-ne-STRING : goal.returns-then-field-ne-STRING
returns-then-field-ne-STRING c =
    let m = c.args.message.now in
    let o = m.defined.now.definition.order in
    let f : FieldDef × Items Global =
    (c.in-Some.field.now, field_from {A = Global} o (c.in-Some.field.now.code, c.in-Some.field.now.size) c.in-Some.bytes.now) in
    sym (ap (λ b. cond b (printable_text (before_closing_zeros f.1.bits)) None) (ne_eqb f.0.code 7 c.if-field-ne-STRING.true))
    ∙ of_first m c.args.number c.as_slice.result.now (Some f) (c.in-Some.ensures.found o) c.as_slice.ensures

pub returns : goal.returns
returns c =
    let m = c.args.message.now in
    let o = m.defined.now.definition.order in
    let f : FieldDef × Items Global =
    (c.in-Some.field.now, field_from {A = Global} o (c.in-Some.field.now.code, c.in-Some.field.now.size) c.in-Some.bytes.now) in
    subst (λ t. IfOk c.text_of.result (λ text. option_map (string_bytes {Z = Global}) text ≡ t))
    (ap printable_text (c.text_len.ensures.before
    ∙ ap before_closing_zeros (c.as_slice-bytes.ensures ∙ ap (λ (i : Items Global). i.bits) c.in_ok-items.ensures))
    ∙ sym (ap (λ b. cond b (printable_text (before_closing_zeros f.1.bits)) None) (eq-eqb f.0.code 7 c.if-field-ne-STRING.false))
    ∙ of_first m c.args.number c.as_slice.result.now (Some f) (c.in-Some.ensures.found o) c.as_slice.ensures)
    c.text_of.ensures
