use Rattle.fit_decode.proofs.Common.{refl, layout}
use Rattle.fit_decode.specs.contracts.decoder.Decoder.{the_row}
use Rattle.fit_decode.specs.contracts.decoder.Decoder.new.{A-row}
use Rattle.fit_decode.proofs.Invariant.{begins_kept}
use Rattle.fit_record.proofs.Sizes.{field_is_within}
use Rattle.fit_decode.proofs.decoder.Decoder.new.Goals as goal

pub new-requires-3 : goal.new-requires-3
new-requires-3 g c = field_is_within 3 (layout (the_row (A-row g.row.A) g.A.Allocator)) _ assumption

pub invariant_of-result : goal.invariant_of-result
invariant_of-result g c = begins_kept _ refl refl c.new.ensures.seen c.new-2.ensures c.new-3.ensures refl refl refl c.new-5.ensures
