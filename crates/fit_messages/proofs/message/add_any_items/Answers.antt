use Rattle.std.proofs.Common.{◌∙◌, ◌++◌, ℕ, ap, ap₂, arith, drop, sym}
use Rattle.std.proofs.lemmas.List.{append-nil}
use Rattle.std.proofs.lemmas.List.Sums.{sum_by-append}
use Rattle.fit_record.specs.Records.{dev_layout, layout, sizes}
use Rattle.fit_messages.specs.inner.Sheets.{with_sheet}
use Rattle.fit_messages.proofs.ItemFacts.{slots_empty}
use Rattle.fit_messages.proofs.message.add_any_items.Goals as goal

pub returns-then-is_empty-clause-text : goal.returns-then-is_empty-clause-text
returns-then-is_empty-clause-text c =
    let p = c.args.defined.now in
    let o = p.definition.order in
    let bytes = c.args.bytes.now in
    let before = with_sheet c.args.rest.now.items c.args.sheet.now c.args.start in
    let none = c.requires.empty c.if-is_empty.true in
    let all = sum_by-append (λ (f : ℕ × ℕ). f.1) (layout p) (dev_layout p) in
    let fields = slots_empty o (layout p) bytes (omega (arith, none, all)) in
    let dev = slots_empty o (dev_layout p) (drop (sizes (layout p)) bytes) (omega (arith, none, all)) in
    sym (ap (λ b. before ++ b) (ap₂ (λ a b. a ++ b) fields dev) ∙ append-nil before)
