use Rattle.fit_table.proofs.Common.{on_ok_weaker}
use Rattle.std.specs.Prelude.{option_map}
use Rattle.fit_record.specs.MessageBytes.{message_in}
use Rattle.fit_table.proofs.RowsInBytes.{in_bytes}
use Rattle.fit_table.proofs.maker.put_placed.Goals as goal

pub put_row-requires : goal.put_row-requires
put_row-requires c =
    let m = c.args.message.now in
    let t = c.requires.some.0 in (
      m.defined.now.definition,
      message_in m,
      t,
      in_bytes m c.args.places.now (option_map (λ a. a.now) c.args.amounts) t c.requires.places c.requires.global c.requires.long c.requires.some.1,
    )

pub returns : goal.returns
returns c =
    let m = c.args.message.now in
    on_ok_weaker c.put_row.result (λ put t timed tells.
    put m.defined.now.definition (message_in m) t
    (in_bytes m c.args.places.now (option_map (λ a. a.now) c.args.amounts) t c.requires.places c.requires.global c.requires.long tells) timed)
    c.put_row.ensures
