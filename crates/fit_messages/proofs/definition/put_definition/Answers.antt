use Rattle.std.proofs.Common.{◌≡◌, ◌∙◌, ℕ, Bool, List, Option, Some, ◌+◌, ◌++◌, ap, ap₂, length, map, subst, sym}
use Rattle.std.proofs.lemmas.Result.{on_ok_weaker}
use Rattle.std.specs.Global.{Global}
use Rattle.std.specs.Prelude.{IfSome, if◌then◌else◌, sum_by}
use Rattle.fit_profile.specs.Described.{namings_at}
use Rattle.fit_record.specs.Environment.{dev_defs}
use Rattle.fit_record.specs.declared.definition.DevDef.{DevDef}
use Rattle.fit_record.specs.declared.definition.FieldDef.{FieldDef}
use Rattle.fit_record.specs.declared.environment.Defined.{Defined}
use Rattle.fit_messages.specs.Blocks.{column, columns, counts, definition_opening, entries, items_begin, sized, whole}
use Rattle.fit_messages.specs.inner.Columns.{dev_columns}
use Rattle.fit_messages.proofs.EntryFacts.{both_entries}
use Rattle.fit_profile.proofs.KnownFacts.{namings_long}
use Rattle.fit_messages.proofs.definition.put_definition.Goals as goal

pub put_devs-requires-clause-namings : goal.put_devs-requires-clause-namings
put_devs-requires-clause-namings c =
    namings_long c.args.stream.now c.args.defined.now.definition.local c.args.defined.now c.requires.place ∙ sym (ap length c.dev_slice-dev.ensures)

-- where items begin, by what a stream says of the definition
begins : (q : Option (Defined Global)) (p : Defined Global) (b : Bool) (start : ℕ) → q ≡ Some p → IfSome q (λ x. b ≡ counts x.definition)
    → start ≡ 40 + (if b then 32 else 0) → start ≡ items_begin p.definition
begins q p b start is said at =
    at ∙ ap (λ (x : Bool). 40 + (if x then 32 else 0)) (subst (λ o. IfSome o (λ (x : Defined Global). b ≡ counts x.definition)) is said)

pub put_head-requires-clause-counts : goal.put_head-requires-clause-counts
put_head-requires-clause-counts c =
    subst (λ q. IfSome q (λ (x : Defined Global). c.may_count-counts.result ≡ counts x.definition)) c.requires.place c.may_count-counts.ensures

pub put_head-requires-clause-length : goal.put_head-requires-clause-length
put_head-requires-clause-length c =
    let start = begins _ c.args.defined.now _ _ c.requires.place c.may_count-counts.ensures c.items_begin-start.ensures.place in
    c.in_ok-end.ensures.end
    ∙ ap₂ (λ m fs. m + sum_by (λ (f : DevDef). whole f.size) fs)
    (c.in_ok-middle.ensures.end ∙ ap₂ (λ s fs. s + sum_by (λ (f : FieldDef). whole f.size) fs) start c.as_slice-fields.ensures)
    c.dev_slice-dev.ensures

pub returns : goal.returns
returns c = on_ok_weaker c.put_sized.result (λ put.
    let p = c.args.defined.now in
    let d = p.definition in
    let namings = namings_at c.args.stream.now d.local in
    let b0 = c.new-entries.result.items in
    let b1 = c.put_fields.new.bytes.items in
    let b2 = c.put_devs.new.bytes.items in
    let start = c.items_begin-start.result in
    let middle = c.in_ok-middle.middle in
    let old = c.args.text.now.items in
    let head = definition_opening c.args.place.file c.args.place.place c.args.number d in
    let made = both_entries start middle d.global d.fields (dev_columns (dev_defs d.dev) p.dev_codes namings) b0 b1 b2 c.new-entries.ensures.items
    (c.in_ok-middle.ensures.entries ∙ ap (λ fs. b0 ++ entries start (map (column d.global) fs)) c.as_slice-fields.ensures)
    (c.in_ok-middle.ensures.end ∙ ap (λ fs. start + sum_by (λ (f : FieldDef). whole f.size) fs) c.as_slice-fields.ensures)
    (c.in_ok-end.ensures.entries
    ∙ ap₂ (λ fs coded. b1 ++ entries middle (dev_columns fs coded namings)) c.dev_slice-dev.ensures c.as_slice-codes.ensures) in
    let all = made ∙ ap (λ s. entries s (columns p namings)) (begins _ p _ _ c.requires.place c.may_count-counts.ensures c.items_begin-start.ensures.place) in
    let rest = c.in_ok-extend_from_slice.ensures.items
    ∙ ap₂ (λ (a b : List ℕ). a ++ b) (c.in_ok-put_head.ensures ∙ ap (λ b. b ++ head) c.new-rest.ensures.items) (c.as_slice.ensures.value ∙ all) in
    put ∙ ap (λ b. old ++ sized b) (c.as_slice-2.ensures.value ∙ rest)) c.put_sized.ensures
