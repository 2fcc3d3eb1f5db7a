use Rattle.fit_step.proofs.Common.{sym, subst, ap, ◌∙◌, arith, length, ◌+◌, Define, Some, MessageDef}
use Rattle.fit_step.proofs.ReadDefinitions.{wide_definition, wide_is_record}
use Rattle.fit_step.proofs.SkippedRecords.{plain_stands}
use Rattle.fit_step.specs.inner.Whole.{StandsWhole}
use Rattle.fit_step.proofs.developer_definition.developer_definition.Goals as goal

pub returns : goal.returns
returns g c = λ e.
    let A = g.row.A.Denot in
    let found = c.in_ok-front in
    let wide = found.ensures in
    let entries = found.entries.now in
    let devs = found.devs.now in
    let piece = c.args.piece.now in
    let fields = c.in-Ok.fields in
    let dev = c.in-Ok-read_dev_fields.dev in
    let read = c.in-Ok-read_dev_fields.ensures in
    let used = 7 + length entries + length devs in
    let d : MessageDef A = wide_definition found.front entries found.count devs piece wide fields c.in-Ok.ensures dev read.0 read.1 in
    let same = c.with_dev.ensures ∙ ap (λ (k : MessageDef A). record k { dev = Some dev }) c.with_fields.ensures in
    subst (λ k. StandsWhole e c.args.room piece (Define k) used) (sym same)
    (plain_stands e c.args.room piece (Define d) used (omega arith) wide.within (omega (arith, c.if-size-room.false))
    (wide_is_record found.front entries found.count devs piece wide fields c.in-Ok.ensures dev read.0 read.1 e))
