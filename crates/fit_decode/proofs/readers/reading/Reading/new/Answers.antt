use Rattle.fit_decode.proofs.Common.{[], layout}
use Rattle.fit_decode.specs.contracts.readers.reading.Reading.{the_row}
use Rattle.fit_decode.specs.contracts.readers.reading.Reading.new.{S-row, A-row}
use Rattle.fit_decode.proofs.NextRead.{after_none}
use Rattle.fit_record.proofs.Sizes.{field_is_within}
use Rattle.fit_decode.proofs.readers.reading.Reading.new.Goals as goal

pub new-requires : goal.new-requires
new-requires g c = field_is_within 3 (layout (the_row (S-row g.row.S g.row.A) (A-row g.row.S g.row.A) g.S.Source g.A.Allocator)) _ assumption

pub invariant_of-result : goal.invariant_of-result
invariant_of-result g c = λ fresh. ([], after_none g.row.A.Denot c.new.result c.new-2.result.items c.new.ensures c.new-2.ensures)

pub returns : goal.returns
returns g c = cc
