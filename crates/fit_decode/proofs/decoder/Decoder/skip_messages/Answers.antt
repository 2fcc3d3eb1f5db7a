use Rattle.fit_decode.proofs.Common.{◌++◌, take, refl, arith, slice_is_bytes}
use Rattle.fit_decode.proofs.LookingAhead.{messages_seen, messages_told, within, enough, few_messages, messages_kept}
use Rattle.fit_decode.proofs.Skipping.{used_more}
use Rattle.fit_decode.proofs.decoder.Decoder.skip_messages.Goals as goal

pub overflow_cast-self : goal.overflow_cast-self
overflow_cast-self g c =
    let d = c.self.inside in
    let piece = c.args.piece.now in
    let f = messages_seen d c.args.self.now c.self.view_is piece c.args.used c.requires in
    omega (arith, enough d c.self.invariant piece (slice_is_bytes piece c.type_inv.piece) c.args.used f.0 f.1)

pub overflow_sub-self : goal.overflow_sub-self
overflow_sub-self g c =
    let d = c.self.inside in
    let piece = c.args.piece.now in
    let f = messages_seen d c.args.self.now c.self.view_is piece c.args.used c.requires in
    enough d c.self.invariant piece (slice_is_bytes piece c.type_inv.piece) c.args.used f.0 f.1

pub cover-requires : goal.cover-requires
cover-requires g c =
    let d = c.self.inside in
    let piece = c.args.piece.now in
    let f = messages_seen d c.args.self.now c.self.view_is piece c.args.used c.requires in
    within d c.self.invariant piece (slice_is_bytes piece c.type_inv.piece) c.args.used f.0 f.1

pub count_fed-requires-clause-within : goal.count_fed-requires-clause-within
count_fed-requires-clause-within g c =
    let d = c.self.inside in
    let piece = c.args.piece.now in
    let f = messages_seen d c.args.self.now c.self.view_is piece c.args.used c.requires in
    within d c.self.invariant piece (slice_is_bytes piece c.type_inv.piece) c.args.used f.0 f.1

pub count_fed-requires-clause-fits : goal.count_fed-requires-clause-fits
count_fed-requires-clause-fits g c =
    let d = c.self.inside in
    let piece = c.args.piece.now in
    let f = messages_seen d c.args.self.now c.self.view_is piece c.args.used c.requires in
    few_messages d c.self.invariant piece (slice_is_bytes piece c.type_inv.piece) c.args.used f.0 f.1 (d.sum ++ take c.args.used piece) refl

pub invariant_of-self : goal.invariant_of-self
invariant_of-self g c =
    let d = c.self.inside in
    let piece = c.args.piece.now in
    let f = messages_seen d c.args.self.now c.self.view_is piece c.args.used c.requires in
    messages_kept d c.self.invariant piece (slice_is_bytes piece c.type_inv.piece) c.args.used f.0 f.1 c.cover.new.sum c.cover.ensures _
    c.count_fed.ensures.noted refl c.count_fed.ensures.counted

pub returns-clause-used : goal.returns-clause-used
returns-clause-used g c =
    used_more c.self.inside c.args.self.now c.self.view_is c.count_fed.new.history.items (take c.args.used c.args.piece.now) c.count_fed.ensures.noted

pub returns-clause-events : goal.returns-clause-events
returns-clause-events g c =
    messages_told c.self.inside c.args.self.now c.self.view_is c.args.piece.now c.args.used c.self.invariant
    (slice_is_bytes c.args.piece.now c.type_inv.piece) c.count_fed.new.history.items c.count_fed.ensures.noted

pub returns-clause-viable : goal.returns-clause-viable
returns-clause-viable g c = (invariant_of-self g c).viable
