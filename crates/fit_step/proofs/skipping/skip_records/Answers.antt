use Rattle.fit_step.proofs.Common.{◌≡◌, [], refl, ◌+◌, ◌<◌, ap, take, length, length-drop, subst, arith, IsSkipped, ◌≤◌}
use Rattle.fit_step.proofs.SkippedRecords.{one_more, no_sizes}
use Rattle.fit_step.proofs.skipping.skip_records.Goals as goal

pub loop-used-preserved : goal.loop-used-preserved
loop-used-preserved g c =
    let i = c.loop-used.invariant in
    let bytes = c.args.bytes.now in
    let used = c.loop-used.used in
    let size = c.skip_record-size.result in
    let some : 0 < size = omega (arith, c.if-size-eq0.false) in
    let back = c.split_at.ensures.back in
    let within : used + size ≤ length bytes = omega (arith, c.skip_record-size.ensures.within, ap length back, length-drop used bytes, i.within) in
    record {
      within = within;
      counted = omega (arith, i.counted, some);
      sizes = c.skip_record-size.ensures.sizes;
      records = one_more c.args.env.now c.loop-used.env c.skip_record-size.new.env bytes used size c.loop-used.count within i.records
          (subst (λ l. IsSkipped c.loop-used.env c.skip_record-size.new.env (take size l)) back (c.skip_record-size.ensures.skipped some));
    }

pub skip_record-size-requires : goal.skip_record-size-requires
skip_record-size-requires g c = assumption

pub overflow_add-used : goal.overflow_add-used
overflow_add-used g c = omega (arith, c.skip_record-size.ensures.within, c.split_at.ensures.back_len, c.loop-used.invariant.within)

pub returns-then-size-eq0 : goal.returns-then-size-eq0
returns-then-size-eq0 g c =
    let none : c.skip_record-size.result ≡ 0 = omega (arith, c.if-size-eq0.true) in
    record { within = c.loop-used.invariant.within; records = rw (c.skip_record-size.ensures.none none) c.loop-used.invariant.records }

pub returns-clause-within : goal.returns-clause-within
returns-clause-within g c = c.loop-used.invariant.within

pub overflow_add-count : goal.overflow_add-count
overflow_add-count g c =
    let i = c.loop-used.invariant in
    let some : 0 < c.skip_record-size.result = omega (arith, c.if-size-eq0.false) in
    omega (arith, c.skip_record-size.ensures.within, c.split_at.ensures.back_len, i.within, i.counted, some)

pub loop-used-smaller : goal.loop-used-smaller
loop-used-smaller g c =
    let some : 0 < c.skip_record-size.result = omega (arith, c.if-size-eq0.false) in
    omega (arith, some, c.loop-used-test.true)

pub loop-used-init : goal.loop-used-init
loop-used-init g c = record {
  within = omega arith;
  counted = omega arith;
  sizes = no_sizes c.args.env.now;
  records = ([], ((tt, refl), refl), refl);
}
