use Rattle.fit_decode.proofs.Common.{[], ◌∷◌, ◌++◌, refl, ap, ◌∙◌, take, arith, append-nil, record_bytes, layout, slice_is_bytes, refusal_of}
use Rattle.fit_decode.specs.contracts.decoder.Decoder.{the_row}
use Rattle.fit_decode.specs.contracts.decoder.Decoder.skip_message.{A-row}
use Rattle.fit_record.proofs.Sizes.{field_is_within}
use Rattle.fit_record.specs.declared.message.Record.TheVariants.{Values as Message}
use Rattle.fit_chain.specs.Events.{known_after}
use Rattle.fit_decode.proofs.Feeding.{none_refused, was_viable}
use Rattle.fit_decode.proofs.Skipping.{few_skipped, skipped_kept, records_skipped, message_skipped, message_follows, message_completes, used_more, used_none}
use Rattle.fit_decode.proofs.decoder.Decoder.skip_message.Goals as goal

pub returns-in_default-clause-viable : goal.returns-in_default-clause-viable
returns-in_default-clause-viable g c = was_viable c.self.inside c.self.invariant c.args.self.now c.self.view_is

pub skip_message_in_section-size-requires : goal.skip_message_in_section-size-requires
skip_message_in_section-size-requires g c = field_is_within 3 (layout (the_row (A-row g.row.A) g.A.Allocator)) _ assumption

pub cover-requires : goal.cover-requires
cover-requires g c = c.skip_message_in_section-size.ensures.within

pub count_fed-requires-clause-within : goal.count_fed-requires-clause-within
count_fed-requires-clause-within g c = c.skip_message_in_section-size.ensures.within

pub count_fed-requires-clause-fits : goal.count_fed-requires-clause-fits
count_fed-requires-clause-fits g c =
    let s = c.skip_message_in_section-size in
    let d = c.self.inside in
    let (records, skip) = message_skipped d.env s.new.env d.position s.new.position d.in_progress c.args.piece.now s.result s.ensures.none s.ensures.known
    s.ensures.message in
    few_skipped d c.self.invariant c.in-Data.is c.args.piece.now s.new.env (d.sum ++ take s.result c.args.piece.now) s.new.position s.result records
    (slice_is_bytes c.args.piece.now c.type_inv.piece) s.ensures.within skip refl

pub invariant_of-self : goal.invariant_of-self
invariant_of-self g c =
    let s = c.skip_message_in_section-size in
    let d = c.self.inside in
    let (records, skip) = message_skipped d.env s.new.env d.position s.new.position d.in_progress c.args.piece.now s.result s.ensures.none s.ensures.known
    s.ensures.message in
    skipped_kept d c.self.invariant c.in-Data.is c.args.piece.now s.new.env c.cover.new.sum s.new.position s.result records
    (slice_is_bytes c.args.piece.now c.type_inv.piece) s.ensures.within skip c.cover.ensures _ c.count_fed.ensures.noted refl c.count_fed.ensures.counted

pub returns-clause-message : goal.returns-clause-message
returns-clause-message g c = λ some events are.
    let s = c.skip_message_in_section-size in
    let d = c.self.inside in
    let (v, skip) = s.ensures.message some in
    let told = records_skipped d c.self.invariant c.in-Data.is c.args.piece.now s.new.env c.cover.new.sum s.new.position s.result (Message v ∷ [])
    (slice_is_bytes c.args.piece.now c.type_inv.piece) s.ensures.within skip c.cover.ensures
    c.args.self.now c.self.view_is c.count_fed.new.history.items c.count_fed.ensures.noted events are in
    (v, (told.0.0.0, told.0.1 ∙ append-nil (record_bytes (known_after events) (Message v))), told.1)

pub returns-clause-completes : goal.returns-clause-completes
returns-clause-completes g c = λ some.
    let s = c.skip_message_in_section-size in
    let (v, skip) = s.ensures.message some in
    message_completes c.self.inside c.self.invariant c.in-Data.is c.args.piece.now s.new.env s.new.position s.result v
    (slice_is_bytes c.args.piece.now c.type_inv.piece) s.ensures.within skip c.args.self.now c.self.view_is some

pub returns-clause-refused : goal.returns-clause-refused
returns-clause-refused g c = none_refused c.self.inside c.self.invariant c.args.self.now c.self.view_is (ap refusal_of c.in-Data.is)

pub returns-clause-viable : goal.returns-clause-viable
returns-clause-viable g c = (invariant_of-self g c).viable

pub returns-in_default-clause-whole : goal.returns-in_default-clause-whole
returns-in_default-clause-whole g c = λ none size follows.
    absurd (c.in_default.not-Data (message_follows c.self.inside c.self.invariant c.args.self.now c.self.view_is none c.args.piece.now size follows).0)

pub returns-clause-whole : goal.returns-clause-whole
returns-clause-whole g c = λ none size follows.
    let (at, has, idle, large) = message_follows c.self.inside c.self.invariant c.args.self.now c.self.view_is none c.args.piece.now size follows in
    c.skip_message_in_section-size.ensures.whole idle size has large

pub returns-clause-used : goal.returns-clause-used
returns-clause-used g c =
    used_more c.self.inside c.args.self.now c.self.view_is
    c.count_fed.new.history.items (take c.skip_message_in_section-size.result c.args.piece.now) c.count_fed.ensures.noted

pub returns-in_default-clause-used : goal.returns-in_default-clause-used
returns-in_default-clause-used g c = used_none c.args.self.now

pub returns-in_default-clause-message : goal.returns-in_default-clause-message
returns-in_default-clause-message g c = λ some. absurd (omega (arith, some))

pub returns-in_default-clause-completes : goal.returns-in_default-clause-completes
returns-in_default-clause-completes g c = λ some. absurd (omega (arith, some))

pub returns-in_default-clause-refused : goal.returns-in_default-clause-refused
returns-in_default-clause-refused g c = λ reason is. (refl, refl)
