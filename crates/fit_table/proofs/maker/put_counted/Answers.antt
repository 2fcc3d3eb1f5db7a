use Rattle.fit_table.proofs.Common.{on_ok_weaker, subst, sym, HasRows}
use Rattle.fit_record.specs.MessageBytes.{message_in}
use Rattle.fit_profile.specs.Told.{told}
use Rattle.fit_table.proofs.RowsInBytes.{row_of_record}
use Rattle.fit_table.proofs.maker.put_counted.Goals as goal

pub put_placed-requires-clause-long : goal.put_placed-requires-clause-long
put_placed-requires-clause-long c = c.requires.opened.size

pub put_placed-requires-clause-some : goal.put_placed-requires-clause-some
put_placed-requires-clause-some c = (told c.args.stream.now (message_in c.args.message.now), c.of-amounts.ensures)

pub returns : goal.returns
returns c =
    let m = c.args.message.now in
    let before = c.args.stream.now in
    let v = message_in m in
    on_ok_weaker c.put_placed.result (λ put.
    subst (λ rows. HasRows rows c.args.text.now c.put_placed.new.text)
    (sym (row_of_record c.args.moment.file before v m.defined.now c.requires.opened.defined c.requires.global))
    (put (told before v) c.requires.time c.of-amounts.ensures)) c.put_placed.ensures
