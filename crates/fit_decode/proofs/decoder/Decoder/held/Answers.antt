use Rattle.fit_decode.proofs.Common.{layout}
use Rattle.fit_decode.specs.contracts.decoder.Decoder.{the_row}
use Rattle.fit_decode.specs.contracts.decoder.Decoder.held.{A-row}
use Rattle.fit_record.proofs.Sizes.{field_is_within}
use Rattle.fit_decode.proofs.Holding.{small_seen, held_seen, let_go_seen, ended_seen, limited_seen}
use Rattle.fit_decode.proofs.decoder.Decoder.held.Goals as goal

pub held-requires : goal.held-requires
held-requires g c = field_is_within 3 (layout (the_row (A-row g.row.A) g.A.Allocator)) _ assumption

pub in_progress_size-requires : goal.in_progress_size-requires
in_progress_size-requires g c =
    (field_is_within 3 (layout (the_row (A-row g.row.A) g.A.Allocator)) _ assumption, small_seen c.self.inside c.self.invariant)

pub returns-clause-held : goal.returns-clause-held
returns-clause-held g c = held_seen c.self.inside c.self.invariant c.held.result c.in_progress_size.result c.held.ensures.size c.in_progress_size.ensures.size
    c.args.self.now c.self.view_is

pub returns-clause-refused : goal.returns-clause-refused
returns-clause-refused g c = let_go_seen c.self.inside c.self.invariant c.held.result c.in_progress_size.result c.held.ensures.size
    c.in_progress_size.ensures.size c.args.self.now c.self.view_is

pub returns-clause-ended : goal.returns-clause-ended
returns-clause-ended g c = ended_seen c.self.inside c.self.invariant c.held.result c.in_progress_size.result c.held.ensures.size c.in_progress_size.ensures.size
    c.args.self.now c.self.view_is

pub returns-clause-limit : goal.returns-clause-limit
returns-clause-limit g c = limited_seen c.self.inside c.self.invariant c.held.result c.in_progress_size.result c.held.ensures.size
    c.in_progress_size.ensures.size
