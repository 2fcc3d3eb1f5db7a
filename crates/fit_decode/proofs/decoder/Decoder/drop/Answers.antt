-- The environment takes no more memory than the decoder.
use Rattle.fit_decode.proofs.Common.{layout}
use Rattle.fit_decode.specs.contracts.decoder.Decoder.{the_row}
use Rattle.fit_decode.specs.contracts.decoder.Decoder.drop.{A-row}
use Rattle.fit_record.proofs.Sizes.{field_is_within}
use Rattle.fit_decode.proofs.decoder.Decoder.drop.Goals as goal

pub drop-env-requires : goal.drop-env-requires
drop-env-requires g c = field_is_within 3 (layout (the_row (A-row g.row.A) g.A.Allocator)) _ assumption
