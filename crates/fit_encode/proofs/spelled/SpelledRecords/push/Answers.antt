use Rattle.fit_encode.proofs.Common.{◌∙◌, refl, sym, ap, arith, length, empty_environment, learn_all, record_bytes, bytes_in_order}
use Rattle.fit_encode.proofs.Spellable.{spellable}
use Rattle.std.specs.Global.{Global}
use Rattle.fit_encode.proofs.Kept.{MayFollow, kept-more, long-now, long-on}
use Rattle.fit_encode.proofs.spelled.SpelledRecords.push.Goals as goal

pub invariant_of-self : goal.invariant_of-self
invariant_of-self c =
    let s = c.self.inside in
    let may : MayFollow s.records.items c.args.env.now c.args.r.now =
    (c.requires.known ∙ ap (learn_all {A = Global} empty_environment) (sym c.self.view_is), c.requires.fits) in
    rw c.add.ensures (long-on s.bytes.items s.count s.too_long s.records.items c.args.env.now c.args.r.now c.self.invariant c.if-self.true may)

pub put_record-requires : goal.put_record-requires
put_record-requires c =
    let short = (c.self.invariant.all c.if-self.false).short in record {
      spellable = spellable c.args.env.now c.args.r.now c.requires.fits;
      size = c.record_size-size.ensures.length ∙ ap length (sym c.order_of.ensures);
      small = omega (arith, short, c.len.ensures, c.if-size-len.false);
    }

pub invariant_of-self-then-size-len : goal.invariant_of-self-then-size-len
invariant_of-self-then-size-len c =
    let s = c.self.inside in
    let may : MayFollow s.records.items c.args.env.now c.args.r.now =
    (c.requires.known ∙ ap (learn_all {A = Global} empty_environment) (sym c.self.view_is), c.requires.fits) in
    let short = (c.self.invariant.all c.if-self.false).short in
    rw c.add-then-size-len.ensures
    (long-now s.bytes.items (record_bytes c.args.env.now c.args.r.now) s.count s.too_long s.records.items c.args.env.now c.args.r.now
    c.self.invariant c.if-self.false may refl (omega (arith, short, c.len.ensures, c.record_size-size.ensures.length, c.if-size-len.true)))

pub invariant_of-self-2 : goal.invariant_of-self-2
invariant_of-self-2 c =
    let s = c.self.inside in
    let may : MayFollow s.records.items c.args.env.now c.args.r.now =
    (c.requires.known ∙ ap (learn_all {A = Global} empty_environment) (sym c.self.view_is), c.requires.fits) in
    let short = (c.self.invariant.all c.if-self.false).short in
    let one = c.order_of.ensures in
    rw (c.add-2.ensures, c.in_ok-put_record.ensures.ok)
    (kept-more s.bytes.items (bytes_in_order c.order_of.result c.args.r.now) s.count s.too_long s.records.items c.args.env.now c.args.r.now
    c.self.invariant c.if-self.false may one (omega (arith, short, c.len.ensures, c.record_size-size.ensures.length, ap length one, c.if-size-len.false)))
