use Rattle.fit_step.proofs.Common.{sym, subst, arith, length, ◌+◌, Define, MessageDef}
use Rattle.fit_step.proofs.ReadDefinitions.{read_is_record}
use Rattle.fit_step.proofs.SkippedRecords.{last_stands}
use Rattle.fit_step.specs.inner.Definitions.{definition_of}
use Rattle.fit_step.specs.inner.Whole.{StandsWhole}
use Rattle.fit_step.proofs.whole.last_definition.Goals as goal

pub returns : goal.returns
returns g c = λ e.
    let A = g.row.A.Denot in
    let found = c.in_ok-front in
    let begins = found.ensures in
    let entries = found.entries.now in
    let piece = c.args.piece.now in
    let used = 6 + length entries in
    let d : MessageDef A = definition_of found.front c.in-Ok.fields in
    subst (λ k. StandsWhole e c.args.room piece (Define k) used) (sym c.with_fields.ensures)
    (last_stands e c.args.room piece (Define d) used (omega arith) begins.begins.within (omega (arith, c.if-size-room.false))
    (read_is_record found.front entries piece begins.begins c.in-Ok.fields c.in-Ok.ensures e))
