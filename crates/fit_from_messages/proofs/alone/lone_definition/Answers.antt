use Rattle.std.proofs.Common.{rules, ◌≡◌, ◌∙◌, ◌++◌, ap, length, sym, subst}
use Rattle.std.proofs.lemmas.List.{length-map}
use Rattle.std.specs.Global.{Global}
use Rattle.std.specs.Prelude.{map, true}
use Rattle.std.specs.List.{list_all}
use Rattle.fit_base.proofs.ByteLists.{slice_is_bytes}
use Rattle.fit_record.specs.declared.definition.MessageDef.{MessageDef}
use Rattle.fit_record.specs.Environment.{dev_defs}
use Rattle.fit_record.specs.Records.{DefinitionFits}
use Rattle.fit_from_messages.specs.Alone.{codes_in, lone_layout}
use Rattle.fit_from_messages.specs.Parts.{byte_at, dev_entries, entries_of, entry_stands, size_fits, slots_in}
use Rattle.fit_from_messages.specs.Slots.{SlotsFit}
use Rattle.fit_from_messages.proofs.DefinedSlots.{definition_fits, lone_slots, many_codes, many_entries}
use Rattle.fit_from_messages.proofs.alone.lone_definition.Goals as goal
use Rattle.fit_from_messages.proofs.alone.lone_definition.Goals.{In_ok-codes}

many : (c : In_ok-codes) → length c.in_ok-codes.codes ≡ c.in-Some-entries_in.entries.dev_count
many c =
    ap length c.in_ok-codes.ensures.codes
    ∙ length-map (entries_of c.in-Some-entries_in.entries.dev_count c.in-Some-entries_in.entries.dev.now) (byte_at 7)
    ∙ many_entries c.in-Some-entries_in.entries.dev_count c.in-Some-entries_in.entries.dev.now

codes_are : (c : In_ok-codes) → c.in_ok-codes.codes ≡ codes_in c.args.block.now
codes_are c = c.in_ok-codes.ensures.codes ∙ ap (map (byte_at 7)) c.in-Some-entries_in.ensures.dev

pub returns-clause-dev : goal.returns-clause-dev
returns-clause-dev c =
    ap (λ n. entries_of n c.in-Some-entries_in.entries.dev.now) (many (goal.at.returns-clause-dev c).In_ok-codes)
    ∙ c.in-Some-entries_in.ensures.dev

pub returns-clause-stand : goal.returns-clause-stand
returns-clause-stand c =
    ap (λ n. list_all (entry_stands 1) (entries_of n c.in-Some-entries_in.entries.dev.now)) (many (goal.at.returns-clause-stand c).In_ok-codes)
    ∙ c.in-Some-entries_in.ensures.dev_stand

pub returns-clause-fits : goal.returns-clause-fits
returns-clause-fits c =
    subst (λ d. DefinitionFits d) (sym c.in_ok-definition.ensures.definition)
    (definition_fits c.args.block.now (slice_is_bytes c.args.block.now c.type_inv.block) c.in_ok-definition.ensures.readable)

pub returns-clause-many : goal.returns-clause-many
returns-clause-many c =
    ap length (codes_are (goal.at.returns-clause-many c).In_ok-codes) ∙ many_codes c.args.block.now c.in_ok-definition.ensures.readable
    ∙ sym (ap (λ (d : MessageDef Global). length (dev_defs d.dev)) c.in_ok-definition.ensures.definition)

pub returns-clause-slots_fit : goal.returns-clause-slots_fit
returns-clause-slots_fit c =
    let block = c.args.block.now in
    let d = c.in_ok-definition.definition in
    let fits : list_all (λ e. size_fits (byte_at 7 e) e) (dev_entries block) ≡ true =
    ap (list_all (λ e. size_fits (byte_at 7 e) e)) (sym c.in-Some-entries_in.ensures.dev) ∙ c.in_ok-codes.ensures.fit in
    subst (λ ss. SlotsFit (lone_layout d c.in_ok-codes.codes) ss) (sym c.in_ok-definition.ensures.slots)
    (subst (λ cs. SlotsFit (lone_layout d cs) (slots_in block)) (sym (codes_are (goal.at.returns-clause-slots_fit c).In_ok-codes))
    (subst (λ (x : MessageDef Global). SlotsFit (lone_layout x (codes_in block)) (slots_in block)) (sym c.in_ok-definition.ensures.definition)
    (lone_slots block c.in_ok-definition.ensures.readable fits)))
