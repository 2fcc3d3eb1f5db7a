use Rattle.fit_table.proofs.Common.{◌≡◌, ◌∙◌, ap, arith, subst, sym, take}
use Rattle.std.proofs.Common.{ℕ, ◌⊎◌}
use Rattle.fit_base.proofs.ByteLists.{slice_is_bytes}
use Rattle.fit_base.specs.Numbers.{number}
use Rattle.fit_cells.proofs.ClassFacts.{code_width}
use Rattle.fit_table.proofs.TableColumnFacts.{item_below}
use Rattle.fit_table.proofs.columns.Spot.bits.Goals as goal

pub bits_at-requires-clause-width : goal.bits_at-requires-clause-width
bits_at-requires-clause-width c =
    subst (λ (w : ℕ). (w ≡ 1) ⊎ (w ≡ 2) ⊎ (w ≡ 4) ⊎ (w ≡ 8)) (sym c.requires.width) (code_width c.args.self.now.field.code)

pub returns-clause-small : goal.returns-clause-small
returns-clause-small c =
    item_below c.args.order c.args.bytes.now c.args.self.now.offset c.args.width c.bits_at.result (slice_is_bytes c.args.bytes.now c.type_inv.bytes)
    (omega (arith, c.requires.spot.within, c.requires.spot.item.room, c.requires.width))
    (c.bits_at.ensures ∙ ap (number c.args.order) (c.split_at-2.ensures.front ∙ ap (take c.args.width) c.split_at.ensures.back))
