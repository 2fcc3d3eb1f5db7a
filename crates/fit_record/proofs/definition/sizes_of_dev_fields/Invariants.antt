use Rattle.fit_record.proofs.Common.{◌≡◌, ◌*◌, ◌≤◌, take, sum_by}
use Rattle.fit_record.proofs.definition.sizes_of_dev_fields.Given as goal

abbrev pub invariant-loop-f : goal.invariant-loop-f
invariant-loop-f l = (l.sum ≡ sum_by (λ f. f.size) (take l.f-index l.fields)) × (l.sum ≤ 255 * l.f-index)
