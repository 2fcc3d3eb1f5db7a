use Rattle.std.proofs.Common.{rules}
use Rattle.std.proofs.lemmas.List.{drop-drop}
use Rattle.fit_table.proofs.Common.{◌∙◌, arith, drop, get_or, FieldDef, ◌+◌, ap}
use Rattle.fit_table.proofs.TableColumnFacts.{first_spot, found_in, sizes_left, first_in, passed}
use Rattle.fit_table.proofs.columns.spot_of.Goals as goal

abbrev nothing : FieldDef
nothing = record { number = 0; size = 0; code = 0 }

pub returns-then-field-number : goal.returns-then-field-number
returns-then-field-number c =
    let fields = c.args.fields.now in
    let number = c.args.number in
    let i = c.loop-field.field-index in
    let offset = c.loop-field.offset in
    let within = c.loop-field-test.true in
    first_spot fields number offset (get_or fields i nothing) c.spot_at.result
    (λ o bytes. c.loop-field.invariant.first o bytes ∙ found_in o fields (drop offset bytes) number i nothing within c.if-field-number.true)
    c.if-field-number.true (omega (arith, c.loop-field.invariant.left, sizes_left fields i nothing within)) c.spot_at.ensures

pub loop-field-preserved : goal.loop-field-preserved
loop-field-preserved c =
    let fields = c.args.fields.now in
    let number = c.args.number in
    let i = c.loop-field.field-index in
    let offset = c.loop-field.offset in
    let within = c.loop-field-test.true in
    record {
      first = λ o bytes. c.loop-field.invariant.first o bytes ∙ passed o fields (drop offset bytes) number i nothing within c.if-field-number.false
          ∙ ap (λ b. first_in o (drop (i + 1) fields) b number) (drop-drop (get_or fields i nothing).size offset bytes);
      left = omega (arith, c.loop-field.invariant.left, sizes_left fields i nothing within);
      small = search rules;
    }
