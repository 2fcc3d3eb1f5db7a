use Rattle.fit_table.proofs.Common.{on_ok_weaker, subst, sym, ArePlaces, HasRows}
use Rattle.fit_record.specs.MessageBytes.{message_in}
use Rattle.fit_profile.specs.Told.{told}
use Rattle.fit_table.proofs.RowsInBytes.{row_of_record, tells_nothing}
use Rattle.fit_table.proofs.maker.put_by.Goals as goal

pub put_placed-requires-clause-long : goal.put_placed-requires-clause-long
put_placed-requires-clause-long c = c.requires.opened.size

pub put_placed-requires-clause-some : goal.put_placed-requires-clause-some
put_placed-requires-clause-some c =
    let m = c.args.message.now in
    let places = c.places-places.result.now in
    let are = subst (λ fields. ArePlaces fields places) (sym c.requires.fields) c.places-places.ensures in (
      told c.args.stream.now (message_in m),
      tells_nothing c.args.stream.now m places c.requires.opened.defined c.requires.global are c.if-places.false,
    )

pub returns : goal.returns
returns c =
    let m = c.args.message.now in
    let before = c.args.stream.now in
    let v = message_in m in
    let places = c.places-places.result.now in
    let are = subst (λ fields. ArePlaces fields places) (sym c.requires.fields) c.places-places.ensures in
    on_ok_weaker c.put_placed.result (λ put.
    subst (λ rows. HasRows rows c.args.text.now c.put_placed.new.text)
    (sym (row_of_record c.args.moment.file before v m.defined.now c.requires.opened.defined c.requires.global))
    (put (told before v) c.requires.time
    (tells_nothing before m places c.requires.opened.defined c.requires.global are c.if-places.false))) c.put_placed.ensures
