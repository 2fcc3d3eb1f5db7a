use Rattle.fit_decode.proofs.Common.{refl, arith}
use Rattle.fit_decode.proofs.section.Stage.feed_sum.Goals as goal

pub returns-in-Err : goal.returns-in-Err
returns-in-Err g c = λ placed head. (rw (c.value.ensures, c.in-Err.is) at c.scan_sum-used.ensures, refl, refl, refl)

pub new-requires : goal.new-requires
new-requires g c = assumption

pub overflow_add-self : goal.overflow_add-self
overflow_add-self g c = omega (arith, c.requires.few)

pub returns-in-Ok-false : goal.returns-in-Ok-false
returns-in-Ok-false g c = λ placed head.
    (rw (c.value.ensures, c.in-Ok-false.is, c.in-Ok-false.field-0-test) at c.scan_sum-used.ensures, refl, refl, refl)

pub returns-in-Ok-true : goal.returns-in-Ok-true
returns-in-Ok-true g c = λ placed head. (
  rw (c.value.ensures, c.in-Ok-true.is, c.in-Ok-true.field-0-test) at c.scan_sum-used.ensures,
  c.clear.ensures,
  c.new.ensures,
  refl,
)
