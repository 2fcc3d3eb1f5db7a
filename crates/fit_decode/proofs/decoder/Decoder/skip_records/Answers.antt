use Rattle.fit_decode.proofs.Common.{[], ◌++◌, take, refl, ap, sym, subst, append-nil, AreEvents, layout, slice_is_bytes, refusal_of}
use Rattle.fit_decode.specs.contracts.decoder.Decoder.{the_row}
use Rattle.fit_decode.specs.contracts.decoder.Decoder.skip_records.{A-row}
use Rattle.fit_record.proofs.Sizes.{field_is_within}
use Rattle.fit_decode.proofs.Feeding.{none_refused, was_viable}
use Rattle.fit_decode.proofs.Passing.{few_passed, passed_kept, records_passed}
use Rattle.fit_decode.proofs.Skipping.{used_more, used_none}
use Rattle.fit_decode.proofs.decoder.Decoder.skip_records.Goals as goal

pub returns-in_default-clause-viable : goal.returns-in_default-clause-viable
returns-in_default-clause-viable g c = was_viable c.self.inside c.self.invariant c.args.self.now c.self.view_is

pub skip_in_section-skipped-requires : goal.skip_in_section-skipped-requires
skip_in_section-skipped-requires g c = field_is_within 3 (layout (the_row (A-row g.row.A) g.A.Allocator)) _ assumption

pub cover-requires : goal.cover-requires
cover-requires g c = c.skip_in_section-skipped.ensures.within

pub count_fed-requires-clause-within : goal.count_fed-requires-clause-within
count_fed-requires-clause-within g c = c.skip_in_section-skipped.ensures.within

pub count_fed-requires-clause-fits : goal.count_fed-requires-clause-fits
count_fed-requires-clause-fits g c =
    let s = c.skip_in_section-skipped in
    let (records, count, pass) = s.ensures.passes in
    few_passed c.self.inside c.self.invariant c.in-Data.is c.args.piece.now s.new.env (c.self.inside.sum ++ take s.result.0 c.args.piece.now) s.new.position
    s.new.in_progress s.result.0 records (slice_is_bytes c.args.piece.now c.type_inv.piece) s.ensures.within pass refl

pub invariant_of-self : goal.invariant_of-self
invariant_of-self g c =
    let s = c.skip_in_section-skipped in
    let (records, count, pass) = s.ensures.passes in
    passed_kept c.self.inside c.self.invariant c.in-Data.is c.args.piece.now s.new.env c.cover.new.sum s.new.position s.new.in_progress s.result.0 records
    (slice_is_bytes c.args.piece.now c.type_inv.piece) s.ensures.within pass c.cover.ensures _ c.count_fed.ensures.noted refl c.count_fed.ensures.counted

pub returns-clause-records : goal.returns-clause-records
returns-clause-records g c = λ events are.
    let s = c.skip_in_section-skipped in
    let (records, count, pass) = s.ensures.passes in
    let told = records_passed c.self.inside c.self.invariant c.in-Data.is c.args.piece.now s.new.env c.cover.new.sum s.new.position s.new.in_progress
    s.result.0 records (slice_is_bytes c.args.piece.now c.type_inv.piece) s.ensures.within pass c.cover.ensures
    c.args.self.now c.self.view_is c.count_fed.new.history.items c.count_fed.ensures.noted events are in
    (records, count, told)

pub returns-clause-refused : goal.returns-clause-refused
returns-clause-refused g c = none_refused c.self.inside c.self.invariant c.args.self.now c.self.view_is (ap refusal_of c.in-Data.is)

pub returns-clause-viable : goal.returns-clause-viable
returns-clause-viable g c = (invariant_of-self g c).viable

pub returns-clause-used : goal.returns-clause-used
returns-clause-used g c =
    used_more c.self.inside c.args.self.now c.self.view_is
    c.count_fed.new.history.items (take c.skip_in_section-skipped.result.0 c.args.piece.now) c.count_fed.ensures.noted

pub returns-in_default-clause-used : goal.returns-in_default-clause-used
returns-in_default-clause-used g c = used_none c.args.self.now

pub returns-in_default-clause-records : goal.returns-in_default-clause-records
returns-in_default-clause-records g c = λ events are. ([], refl, subst (AreEvents c.args.self.now.bytes) (sym (append-nil events)) are)

pub returns-in_default-clause-refused : goal.returns-in_default-clause-refused
returns-in_default-clause-refused g c = λ reason is. (refl, refl)
