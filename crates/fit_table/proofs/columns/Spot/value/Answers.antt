use Rattle.fit_table.proofs.Common.{field, subst, sym, option_and_then}
use Rattle.std.proofs.Common.{ℤ, Option}
use Rattle.std.specs.Prelude.{option_map}
use Rattle.fit_profile.specs.Values.{IsValueOf}
use Rattle.fit_table.proofs.TableColumnFacts.{item_number}
use Rattle.fit_table.proofs.columns.Spot.value.Goals as goal

pub returns-clause-value : goal.returns-clause-value
returns-clause-value c =
    subst (λ (raw : Option ℤ). IsValueOf (option_and_then (λ r. option_map (λ m. (r, m)) (field 20 c.args.number)) raw) c.value_of.result)
    (sym (item_number c.args.self.now c.args.order c.width-width.result c.args.bytes.now c.bits-bits.result c.requires.item c.width-width.ensures
    c.bits-bits.ensures.bits)) c.value_of.ensures.value
