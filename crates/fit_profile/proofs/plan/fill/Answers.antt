use Rattle.fit_profile.proofs.Common.{◌∙◌, List, Option, None, ap, arith}
use Rattle.fit_profile.specs.declared.plan.Plan.{Plan}
use Rattle.std.specs.Prelude.{slice_index_or}
use Rattle.fit_profile.proofs.Planned.{one_more}
use Rattle.fit_profile.proofs.plan.fill.Goals as goal

pub loop-places-init : goal.loop-places-init
loop-places-init c = record {
  same = λ local. ap (λ (plans : List (Option Plan)). slice_index_or plans local None) c.in_ok-reserve_exact.ensures.items;
  room = omega (arith, c.len-count.ensures, c.if-count-ge16.false, c.in_ok-reserve_exact.ensures.ok);
  memory = omega (arith, c.len-count.ensures, c.if-count-ge16.false, c.in_ok-reserve_exact.ensures.capacity_exact);
}

pub loop-places-preserved : goal.loop-places-preserved
loop-places-preserved c = record {
  same = λ local. ap (λ (plans : List (Option Plan)). slice_index_or plans local None) c.push_reserved.ensures.items
      ∙ one_more c.loop-places.places.items local ∙ c.loop-places.invariant.same local;
  room = omega (arith, c.loop-places.invariant.room, c.push_reserved.ensures.capacity);
  memory = omega (arith, c.loop-places.invariant.memory, c.push_reserved.ensures.capacity);
}
