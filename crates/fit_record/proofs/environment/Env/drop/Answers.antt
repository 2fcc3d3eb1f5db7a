-- The places of an environment take no more memory than it.
use denote.Param.{layout}
use Rattle.fit_record.specs.contracts.environment.Env.{the_row}
use Rattle.fit_record.specs.contracts.environment.Env.drop.{A-row}
use Rattle.fit_record.proofs.Sizes.{field_is_within}
use Rattle.fit_record.proofs.environment.Env.drop.Goals as goal

pub array_drop-places-requires : goal.array_drop-places-requires
array_drop-places-requires g c = field_is_within 0 (layout (the_row (A-row g.row.A) g.A.Allocator)) _ assumption
