use Rattle.std.proofs.Common.{◌∙◌, ap, sym}
use Rattle.fit_record.specs.declared.message.Record.TheVariants.{Values as Data}
use Rattle.fit_writer.proofs.Grown.{are_more}
use Rattle.fit_writer.proofs.ReadAmounts.{told_by}
use Rattle.fit_writer.specs.Amounts.{latest_amounts}
use Rattle.fit_writer.proofs.data.add_message.Goals as goal

pub returns-in-Ok-clause-are : goal.returns-in-Ok-clause-are
returns-in-Ok-clause-are c =
    let v = c.requires.message.0 in
    let is = c.requires.message.1 in
    rw (c.in_ok-extend_from_slice.ensures.items, c.in-Ok.ensures.ok v is)
    (are_more c.args.stream.now (Data v) c.args.section.now.items c.args.bytes.now c.requires.are is.0 is.1 c.requires.room)

pub returns-in-Ok-clause-told : goal.returns-in-Ok-clause-told
returns-in-Ok-clause-told c =
    let v = c.requires.message.0 in
    let is = c.requires.message.1 in
    told_by c.args.stream.now v c.args.bytes.now c.in-Ok.taken is c.in-Ok.ensures.said ∙ ap latest_amounts (sym (c.in-Ok.ensures.ok v is))
