use Rattle.std.proofs.Common.{◌≡◌, ◌∙◌, ◌++◌, ◌∷◌, [], ℕ, List, length, refl, rules, ap, ap₂, sym, subst, arith}
use Rattle.std.specs.Global.{Global}
use Rattle.fit_base.specs.declared.items.Items.{Items}
use Rattle.fit_record.specs.declared.definition.FieldDef.{FieldDef}
use Rattle.fit_from_messages.specs.declared.slot.Slot.{Slot}
use Rattle.fit_writer.proofs.PlainMessages.{last_slot, made_length, made_more, plain_more}
use Rattle.fit_writer.specs.inner.Plain.{IsMade, fields_made}
use Rattle.fit_writer.proofs.plain.Plain.with.Goals as goal
use Rattle.fit_writer.proofs.plain.Plain.with.Goals.{In_ok-extend_from_slice}

pub overflow_cast-len : goal.overflow_cast-len
overflow_cast-len c =
    let many : length c.args.self ≡ length c.self.inside.fields =
    ap length (sym c.self.view_is) ∙ made_length c.self.inside.fields c.self.inside.slots c.self.inside.block.items c.self.invariant in
    omega (arith, many, c.self.invariant.short, c.requires.few)

abbrev field : In_ok-extend_from_slice → FieldDef
field c = record { number = c.args.number; size = length c.args.bytes.now; code = c.args.code }

pub invariant_of-result : goal.invariant_of-result
invariant_of-result c =
    let a = (goal.at.invariant_of-result c).In_ok-extend_from_slice in
    let slots : c.push.new.self ≡ c.self.inside.slots ++ last_slot c.self.inside.block.items c.args.bytes.now ∷ [] = search rules in
    let fields : c.push-2.new.self ≡ c.self.inside.fields ++ field a ∷ [] = search rules in
    let block : c.extend_from_slice.new.self.items ≡ c.self.inside.block.items ++ c.args.bytes.now = search rules in
    subst (λ (fs : List FieldDef). IsMade fs c.push.new.self c.extend_from_slice.new.self.items) (sym fields)
    (subst (λ (ss : List Slot). IsMade (c.self.inside.fields ++ field a ∷ []) ss c.extend_from_slice.new.self.items) (sym slots)
    (subst (λ (bs : List ℕ). IsMade (c.self.inside.fields ++ field a ∷ [])
    (c.self.inside.slots ++ last_slot c.self.inside.block.items c.args.bytes.now ∷ []) bs)
    (sym block)
    (plain_more c.self.inside.fields c.self.inside.slots c.self.inside.block.items c.args.bytes.now (field a) c.self.invariant refl c.requires.number
    c.requires.width c.requires.short)))

pub returns : goal.returns
returns c =
    let a = (goal.at.returns c).In_ok-extend_from_slice in
    let slots : c.push.new.self ≡ c.self.inside.slots ++ last_slot c.self.inside.block.items c.args.bytes.now ∷ [] = search rules in
    let fields : c.push-2.new.self ≡ c.self.inside.fields ++ field a ∷ [] = search rules in
    let block : c.extend_from_slice.new.self.items ≡ c.self.inside.block.items ++ c.args.bytes.now = search rules in
    ap₂ (λ (fs : List FieldDef) (ss : List Slot). fields_made fs ss c.extend_from_slice.new.self.items) fields slots
    ∙ ap (fields_made (c.self.inside.fields ++ field a ∷ []) (c.self.inside.slots ++ last_slot c.self.inside.block.items c.args.bytes.now ∷ [])) block
    ∙ made_more c.self.inside.fields c.self.inside.slots c.self.inside.block.items c.args.bytes.now (field a) c.self.invariant
    ∙ ap (λ (xs : List (FieldDef × Items Global)). xs ++ (field a, record { width = 1; bits = c.args.bytes.now }) ∷ []) c.self.view_is
