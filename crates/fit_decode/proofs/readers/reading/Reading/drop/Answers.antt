-- The decoder takes no more memory than the reading.
use Rattle.fit_decode.proofs.Common.{layout}
use Rattle.fit_decode.specs.contracts.readers.reading.Reading.{the_row}
use Rattle.fit_decode.specs.contracts.readers.reading.Reading.drop.{S-row, A-row}
use Rattle.fit_record.proofs.Sizes.{field_is_within}
use Rattle.fit_decode.proofs.readers.reading.Reading.drop.Goals as goal

pub drop-decoder-requires : goal.drop-decoder-requires
drop-decoder-requires g c =
    field_is_within 3 (layout (the_row (S-row g.row.S g.row.A) (A-row g.row.S g.row.A) g.S.Source g.A.Allocator)) _ assumption
