use Rattle.fit_encode.proofs.Common.{◌≡◌, ◌∙◌, ℕ, refl, sym, ap, subst, arith, length, err_from_is_err_and, Environment, learn, record_bytes}
use Rattle.fit_encode.proofs.Common.{Encoding, learned, CanPut}
use Rattle.fit_encode.proofs.Common.{HasPlace, IsPlaceFault, IsPutFault}
use Rattle.std.proofs.Common.{Global}
use Rattle.fit_encode.proofs.Encoders.{breaks_off, in_terms, next_open, not_written, on_err_at, small_record, some_byte, while_open}
use Rattle.fit_encode.proofs.FaultSteps.{on_ok_at, unless_write}
use Rattle.fit_encode.proofs.Sendings.{Appends-as, Breaks-as, Spells-as, went_out}
use Rattle.fit_encode.proofs.Spellable.{spellable}
use Rattle.fit_encode.proofs.encoder.Encoder.put.Goals as goal

pub record_size-requires : goal.record_size-requires
record_size-requires g c =
    let inv = while_open c.self.inside.finished c.self.inside.failed c.self.invariant c.closed_fault.ensures c.in_default.is in
    (omega arith, inv.within)

pub returns-in_err-size-clause-refused : goal.returns-in_err-size-clause-refused
returns-in_err-size-clause-refused g c =
    let p = err_from_is_err_and c.from_residual.result c.from_residual.ensures.1 in
    let inv = while_open c.self.inside.finished c.self.inside.failed c.self.invariant c.closed_fault.ensures c.in_default.is in
    let err = c.in_err-size.ensures.err in
    let here = in_terms (λ (e : Environment Global) (n m : ℕ). IsPlaceFault e n c.self.inside.declared m c.args.r.now c.in_err-size.field-0.0)
    inv err in
    λ _. rw (p.1, p.2) (unless_write c.in_err-size.field-0.0 _
    (subst (λ (e : Encoding Global). IsPutFault e c.args.r.now c.in_err-size.field-0.0) c.self.view_is here, refl, refl))

pub returns-in_err-size-clause-written : goal.returns-in_err-size-clause-written
returns-in_err-size-clause-written g c =
    let p = err_from_is_err_and c.from_residual.result c.from_residual.ensures.1 in
    λ _. rw (p.1, p.2) (not_written c.self.inside.env c.self.inside.count c.self.inside.declared c.self.inside.size c.args.r.now c.in_err-size.field-0.0 _
    c.in_err-size.ensures.err)

pub order_of-order-requires : goal.order_of-order-requires
order_of-order-requires g c = omega arith

pub learn-requires : goal.learn-requires
learn-requires g c = (omega arith, c.in_ok-size.ensures.ok.0.fits)

pub invariant_of-self : goal.invariant_of-self
invariant_of-self g c =
    let same : c.learn.new.self ≡ c.self.inside.env = on_err_at _ c.learn.result (sym c.is_err.ensures.value ∙ c.if-is_err.true) c.learn.ensures.err in
    λ failed finished. rw same (c.self.invariant failed finished)

pub returns-then-is_err-clause-refused : goal.returns-then-is_err-clause-refused
returns-then-is_err-clause-refused g c =
    let inv = while_open c.self.inside.finished c.self.inside.failed c.self.invariant c.closed_fault.ensures c.in_default.is in
    let here = in_terms (λ (e : Environment Global) (n m : ℕ). HasPlace e c.self.inside.declared m c.args.r.now) inv
    c.in_ok-size.ensures.ok.0 in
    λ _. (subst (λ (e : Encoding Global). CanPut e c.args.r.now) c.self.view_is here, c.self.view_is, refl)

pub send_record-requires : goal.send_record-requires
send_record-requires g c = record {
  spellable = spellable c.self.inside.env c.args.r.now c.in_ok-size.ensures.ok.0.fits;
  size = c.in_ok-size.ensures.ok.1 ∙ ap length (sym c.order_of-order.ensures);
}

pub returns-in-Err-clause-written : goal.returns-in-Err-clause-written
returns-in-Err-clause-written g c =
    let inv = while_open c.self.inside.finished c.self.inside.failed c.self.invariant c.closed_fault.ensures c.in_default.is in
    let r = c.args.r.now in
    let here = in_terms (λ (e : Environment Global) (n m : ℕ). HasPlace e c.self.inside.declared m r) inv c.in_ok-size.ensures.ok.0 in
    let bytes = c.order_of-order.ensures ∙ ap (λ (e : Environment Global). record_bytes e r) inv.known in
    let off = breaks_off c.self.inside.failed c.self.inside.finished inv (small_record inv here) (Breaks-as bytes c.in-Err.ensures.sends) in
    λ _. rw (← c.self.view_is) (here, off)

pub overflow_add-self-2 : goal.overflow_add-self-2
overflow_add-self-2 g c =
    let inv = while_open c.self.inside.finished c.self.inside.failed c.self.invariant c.closed_fault.ensures c.in_default.is in
    omega (arith, inv.place, inv.few, inv.data_size, inv.within, inv.small)

pub invariant_of-self-2 : goal.invariant_of-self-2
invariant_of-self-2 g c =
    let r = c.args.r.now in
    let place = c.in_ok-size.ensures.ok in
    let learned : c.learn.new.self ≡ learn c.self.inside.env r = on_ok_at _ c.learn.result (sym c.is_err.ensures.value ∙ c.if-is_err.false) c.learn.ensures.ok
    in
    λ failed finished.
    let inv = c.self.invariant failed finished in
    let spelled = c.in_default-send_record.ensures in
    let out = went_out (Spells-as c.order_of-order.ensures spelled.sends) inv.held spelled.empty in
    rw c.add.ensures (next_open c.learn.new.self c.send_record.new.out c.in_ok-size.size r inv place.0.fits place.1 (omega (arith, place.0.within, place.1))
    learned out.1 spelled.empty out.2)

pub returns-clause-ok : goal.returns-clause-ok
returns-clause-ok g c =
    let inv = while_open c.self.inside.finished c.self.inside.failed c.self.invariant c.closed_fault.ensures c.in_default.is in
    let here = in_terms (λ (e : Environment Global) (n m : ℕ). HasPlace e c.self.inside.declared m c.args.r.now) inv
    c.in_ok-size.ensures.ok.0 in
    subst (λ (e : Encoding Global). CanPut e c.args.r.now) c.self.view_is here

pub returns-clause-spelled : goal.returns-clause-spelled
returns-clause-spelled g c =
    let inv = while_open c.self.inside.finished c.self.inside.failed c.self.invariant c.closed_fault.ensures c.in_default.is in
    let r = c.args.r.now in
    let spelled = c.in_default-send_record.ensures in
    let out = went_out (Spells-as c.order_of-order.ensures spelled.sends) inv.held spelled.empty in
    Appends-as _ _ (ap (λ (e : Environment Global). record_bytes e r) inv.known ∙ ap (λ (e : Encoding Global). record_bytes (learned e) r) c.self.view_is) out.0

pub returns-clause-works : goal.returns-clause-works
returns-clause-works g c =
    let inv = while_open c.self.inside.finished c.self.inside.failed c.self.invariant c.closed_fault.ensures c.in_default.is in
    let spelled = c.in_default-send_record.ensures in
    (went_out (Spells-as c.order_of-order.ensures spelled.sends) inv.held spelled.empty).3 (some_byte c.self.inside.env c.args.r.now)
