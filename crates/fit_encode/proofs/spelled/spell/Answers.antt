use Rattle.fit_encode.proofs.Common.{◌∙◌, ◌++◌, sym, ap, arith, length}
use Rattle.std.proofs.lemmas.Result.{on_ok_weaker}
use Rattle.fit_encode.specs.inner.Spelling.{bytes_in_order}
use Rattle.fit_encode.proofs.Spellable.{spellable}
use Rattle.fit_encode.proofs.spelled.spell.Goals as goal

pub put_record-requires : goal.put_record-requires
put_record-requires c = record {
  spellable = spellable c.args.env.now c.args.r.now c.requires;
  size = c.record_size-size.ensures.length ∙ ap length (sym c.order_of.ensures);
  small = omega (arith, ap length c.clear.ensures.items, c.record_size-size.ensures.small);
}

pub returns : goal.returns
returns c = on_ok_weaker c.put_record.result (λ put.
    put ∙ ap (λ old. old ++ bytes_in_order c.order_of.result c.args.r.now) c.clear.ensures.items ∙ c.order_of.ensures) c.put_record.ensures.ok
