use Rattle.fit_encode.proofs.Common.{◌≡◌, ◌∙◌, refl, take, take_all, Little, drop, length, ◌<◌, sym, ap, subst, Environment, empty_environment}
use Rattle.fit_encode.proofs.Common.{learn, learn_all, records_bytes, bytes_in_order}
use Rattle.std.proofs.Common.{◌+◌}
use Rattle.fit_record.specs.Records.{message_size}
use Rattle.fit_record.proofs.SixteenPlaces.{sixteen_places}
use Rattle.fit_encode.proofs.RecordSteps.{next_known, next_bytes}
use Rattle.fit_encode.proofs.Orders.{AreOrders, AreSizes, none_known, in_order, in_size, orders_next, sizes_next, long_after, sizes_long}
use Rattle.fit_encode.proofs.Spellable.{spellable, fits_at, record_parts}
use Rattle.fit_encode.proofs.Sendings.{Spells-none, Breaks-more, Breaks-on, Breaks-as, Spells-on, Spells-as, Sends-err}
use Rattle.fit_encode.proofs.write.spell_records.Goals as goal

pub loop-r-init : goal.loop-r-init
loop-r-init g c = record {
  spelled = Spells-none _ c.args.out.now;
  long = refl;
  orders = none_known {A = g.row.A.Denot} (λ p. p.definition.order) Little;
  sizes_long = refl;
  sizes = none_known {A = g.row.A.Denot} message_size 0;
}

pub size_in-size-requires : goal.size_in-size-requires
size_in-size-requires g c =
    let rs = c.args.records.now in
    let i = c.loop-r.r-index in
    spellable (learn_all {A = g.row.A.Denot} empty_environment (take i rs)) c.r-item.result
    (fits_at empty_environment rs i c.r-item.result c.loop-r-test.true c.r-item.is c.requires)

pub spell_record-requires : goal.spell_record-requires
spell_record-requires g c =
    let rs = c.args.records.now in
    let i = c.loop-r.r-index in
    let r = c.r-item.result in
    let e = learn_all {A = g.row.A.Denot} empty_environment (take i rs) in
    let fits = fits_at empty_environment rs i r c.loop-r-test.true c.r-item.is c.requires in
    let same = ap (λ o. bytes_in_order o r) c.order_in.ensures ∙ in_order e c.loop-r.orders r c.loop-r.invariant.orders in
    record {
      spellable = spellable e r fits;
      size = c.size_in-size.ensures ∙ in_size e c.loop-r.sizes r fits c.loop-r.invariant.sizes ∙ ap length (sym same);
    }

pub note_size-requires : goal.note_size-requires
note_size-requires g c =
    let rs = c.args.records.now in
    let i = c.loop-r.r-index in
    spellable (learn_all {A = g.row.A.Denot} empty_environment (take i rs)) c.r-item.result
    (fits_at empty_environment rs i c.r-item.result c.loop-r-test.true c.r-item.is c.requires)

pub returns-in_err-spell_record : goal.returns-in_err-spell_record
returns-in_err-spell_record g c =
    let rs = c.args.records.now in
    let i = c.loop-r.r-index in
    let r = c.r-item.result in
    let e = learn_all {A = g.row.A.Denot} empty_environment (take i rs) in
    let same = ap (λ o. bytes_in_order o r) c.order_in.ensures ∙ in_order e c.loop-r.orders r c.loop-r.invariant.orders in
    Sends-err _ _ _ _ _ c.from_residual.result c.from_residual.ensures.1 (
    Breaks-as (record_parts empty_environment rs i r c.loop-r-test.true c.r-item.is)
    (Breaks-more (records_bytes (learn e r) (drop (i + 1) rs)) (Breaks-on c.loop-r.invariant.spelled (Breaks-as same c.in_err-spell_record.ensures))))

pub loop-r-preserved : goal.loop-r-preserved
loop-r-preserved g c =
    let rs = c.args.records.now in
    let i = c.loop-r.r-index in
    let r = c.r-item.result in
    let less : i < length rs = c.loop-r-test.true in
    let inv = c.loop-r.invariant in
    let e = learn_all {A = g.row.A.Denot} empty_environment (take i rs) in
    let fits = fits_at empty_environment rs i r less c.r-item.is c.requires in
    let same = ap (λ o. bytes_in_order o r) c.order_in.ensures ∙ in_order e c.loop-r.orders r inv.orders in
    let next = next_known {A = g.row.A.Denot} empty_environment rs i r less c.r-item.is in
    let orders = orders_next e c.loop-r.orders r fits (sixteen_places (take i rs)) inv.long inv.orders in
    let sizes = sizes_next e c.loop-r.sizes r fits (sixteen_places (take i rs)) inv.sizes_long inv.sizes in
    record {
      spelled = Spells-as (sym (next_bytes empty_environment rs i r less c.r-item.is)) (Spells-on inv.spelled (Spells-as same c.in_ok-spell_record.ensures));
      long = ap length c.note_order.ensures ∙ long_after c.loop-r.orders r ∙ inv.long;
      orders = subst (λ (x : Environment g.row.A.Denot). AreOrders x c.note_order.new.orders) next
          (subst (AreOrders (learn e r)) (sym c.note_order.ensures) orders);
      sizes_long = ap length c.note_size.ensures ∙ sizes_long c.loop-r.sizes r ∙ inv.sizes_long;
      sizes = subst (λ (x : Environment g.row.A.Denot). AreSizes x c.note_size.new.sizes) next
          (subst (AreSizes (learn e r)) (sym c.note_size.ensures) sizes);
    }

pub returns : goal.returns
returns g c =
    let all : take c.loop-r.r-index c.args.records.now ≡ c.args.records.now = take_all c.loop-r.r-index c.args.records.now c.loop-r-test.false in
    Spells-as (ap (records_bytes {A = g.row.A.Denot} empty_environment) all) c.loop-r.invariant.spelled
