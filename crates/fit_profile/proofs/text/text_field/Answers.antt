use Rattle.fit_profile.proofs.Common.{◌≡◌, ◌∙◌, ℕ, List, Option, Some, None, sym, ap, ap₂, subst, cond, eq-eqb, ne_eqb, option_and_then, if◌then◌else◌}
use Rattle.fit_profile.proofs.Common.{FieldDef, Items, MessageDef, Values, first_field, before_closing_zeros, printable_text}
use Rattle.std.proofs.Common.{option_map}
use Rattle.std.specs.Prelude.{◌==◌}
use Rattle.std.specs.Result.{IfOk}
use Rattle.std.specs.String.{string_bytes}
use Rattle.fit_profile.specs.Described.{text_field}
use Rattle.fit_profile.proofs.text.text_field.Goals as goal

-- the text of a field, where it is a string
abbrev text_in : {A : Type 0} → FieldDef × Items A → Option (List ℕ)
text_in f = if f.0.code == 0x07 then printable_text (before_closing_zeros f.1.bits) else None

-- the text of the first field of a number
of_first : {A : Type 0} (d : MessageDef A) (v : Values A) (number : ℕ) (fs : List FieldDef) (xs : List (Items A)) (o : Option (FieldDef × Items A))
    → o ≡ first_field fs xs number → fs ≡ d.fields → xs ≡ v.fields → option_and_then text_in o ≡ text_field d v number
of_first d v number fs xs o first fields items = ap (option_and_then text_in) (first ∙ ap₂ (λ f x. first_field f x number) fields items)

pub returns : goal.returns
returns g c =
    let f : FieldDef × Items g.row.A.Denot = (c.in-Some.field.now, c.in-Some.items.now) in
    subst (λ t. IfOk c.text_of.result (λ text. option_map (string_bytes {Z = g.row.A.Denot}) text ≡ t))
    (ap printable_text (c.text_len.ensures.before ∙ ap before_closing_zeros c.as_slice-bytes.ensures)
    ∙ sym (ap (λ b. cond b (printable_text (before_closing_zeros f.1.bits)) None) (eq-eqb f.0.code 7 c.if-field-ne-STRING.false))
    ∙ of_first c.args.definition.now c.args.values.now c.args.number _ _ (Some f) c.in-Some.ensures c.as_slice.ensures c.as_slice-2.ensures)
    c.text_of.ensures

pub returns-in_default : goal.returns-in_default
returns-in_default g c =
    of_first c.args.definition.now c.args.values.now c.args.number _ _ None c.in_default.ensures c.as_slice.ensures c.as_slice-2.ensures

pub returns-then-field-ne-STRING : goal.returns-then-field-ne-STRING
returns-then-field-ne-STRING g c =
    let f : FieldDef × Items g.row.A.Denot = (c.in-Some.field.now, c.in-Some.items.now) in
    sym (ap (λ b. cond b (printable_text (before_closing_zeros f.1.bits)) None) (ne_eqb f.0.code 7 c.if-field-ne-STRING.true))
    ∙ of_first c.args.definition.now c.args.values.now c.args.number _ _ (Some f) c.in-Some.ensures c.as_slice.ensures c.as_slice-2.ensures
