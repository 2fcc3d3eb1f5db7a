use Rattle.fit_table.proofs.Common.{◌∙◌, ap, base_type, first_field, fixed_text, PutsCell, degrees_text, items_at, subst, sym, take}
use Rattle.std.proofs.Common.{ℕ}
use Rattle.std.specs.Prelude.{option_map}
use Rattle.fit_table.specs.Degrees.{degrees_of}
use Rattle.fit_table.specs.inner.TableColumns.{degrees_of_first}
use Rattle.fit_table.proofs.TableColumnFacts.{first_at, is_in, placed_degrees, position_at}
use Rattle.fit_table.proofs.TableNumbers.{puts_none}
use Rattle.fit_table.proofs.numbers.in_bytes.NumbersInBytes.write_position.Goals as goal

pub bits-bits-requires-clause-spot : goal.bits-bits-requires-clause-spot
bits-bits-requires-clause-spot c =
    let d = c.requires.numbers.0 in
    let are = c.requires.numbers.3 in
    is_in d.fields c.args.number c.in-Some.spot c.args.self.now.bytes.now (c.in-Some.ensures d.fields are.places).0 are.within

pub bits-bits-requires-clause-width : goal.bits-bits-requires-clause-width
bits-bits-requires-clause-width c =
    ap (λ (code : ℕ). (base_type code).width) (sym (c.in-Some.ensures c.requires.numbers.0.fields c.requires.numbers.3.places).1)

pub returns-in-Some-clause-cell : goal.returns-in-Some-clause-cell
returns-in-Some-clause-cell c d v t are =
    let s = c.in-Some.spot in
    let o = c.args.self.now.order in
    let bytes = c.args.self.now.bytes.now in
    let position = c.in-Some.ensures d.fields are.places in
    let degrees = placed_degrees d v c.args.number s.field (items_at s o bytes) (first_at s o bytes d v c.args.number position.0 are.fields) in
    subst (λ cell. PutsCell cell c.write_degrees.result.0 (take c.args.at c.args.row.now) (take c.write_degrees.result.1 c.write_degrees.new.row))
    (ap (option_map (λ k. fixed_text (degrees_of k) 7)) c.semicircles.ensures
    ∙ position_at s o bytes c.bits-bits.result position.0.item position.1 c.bits-bits.ensures.bits ∙ sym degrees)
    c.write_degrees.ensures.cell

pub returns-in-None-clause-cell : goal.returns-in-None-clause-cell
returns-in-None-clause-cell c d v t are =
    puts_none (degrees_text d v c.args.number) (take c.args.at c.args.row.now)
    (ap (λ items. degrees_of_first (first_field d.fields items c.args.number)) are.fields
    ∙ c.in-None.ensures d.fields are.places c.args.self.now.order c.args.self.now.bytes.now)
