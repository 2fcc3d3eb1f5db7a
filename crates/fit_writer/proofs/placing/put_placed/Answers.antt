use Rattle.std.proofs.Common.{◌∷◌, refl}
use Rattle.fit_base.proofs.ByteLists.{slice_is_bytes}
use Rattle.fit_record.specs.declared.message.Record.TheVariants.{Define, Values as Data}
use Rattle.fit_writer.proofs.Ends.{err_half, err_unplaced, ok_told}
use Rattle.fit_writer.proofs.LoneForms.{local_few, message_own, message_there}
use Rattle.fit_writer.proofs.Puts.{header_fits, own_found, told_both, told_known, under}
use Rattle.fit_writer.specs.Reading.{values_by}
use Rattle.fit_writer.specs.Written.{with_local}
use Rattle.fit_writer.specs.inner.Places.{form_of}
use Rattle.fit_writer.specs.inner.Puts.{IsTold}
use Rattle.fit_writer.proofs.placing.put_placed.Goals as goal
use Rattle.fit_writer.proofs.placing.put_placed.Goals.{After-free_place-local, In-Some}

pub put_known-requires-clause-front : goal.put_known-requires-clause-front
put_known-requires-clause-front c =
    header_fits c.args.offset c.in-Some.local c.limit_of-limit.result c.limit_of-limit.ensures c.in-Some.ensures.within c.requires.offset

pub put_both-requires-clause-front : goal.put_both-requires-clause-front
put_both-requires-clause-front c =
    header_fits c.args.offset c.free_place-local.result c.limit_of-limit.result c.limit_of-limit.ensures c.free_place-local.ensures.within c.requires.offset

-- what was put by a definition that was there
known : (c : In-Some) → IsTold c.args.file.now.stream (form_of c.args.lone.now) c.args.block.now c.args.offset
    (Data (values_by (form_of c.args.lone.now) c.args.block.now c.in-Some.local c.args.offset) ∷ c.args.file.now.stream)
known c =
    told_known c.args.file.now.stream c.in-Some.local (form_of c.args.lone.now) c.args.block.now c.args.offset c.in-Some.ensures.some
    (own_found c.args.file.now.stream (form_of c.args.lone.now) c.find_same.result c.in-Some.local c.limit_of-limit.result c.args.offset c.in-Some.is
    c.limit_of-limit.ensures c.find_same.ensures.own)
    (message_there c.args.file.now.stream c.in-Some.local c.args.lone.now c.args.block.now c.args.offset
    (slice_is_bytes c.args.block.now c.type_inv.block) c.requires.lone c.in-Some.ensures.some
    (header_fits c.args.offset c.in-Some.local c.limit_of-limit.result c.limit_of-limit.ensures c.in-Some.ensures.within c.requires.offset)
    c.requires.stand)

pub returns-in-Some-clause-ok : goal.returns-in-Some-clause-ok
returns-in-Some-clause-ok c =
    ok_told c.args.file.now c.put_known.new.self (form_of c.args.lone.now) c.args.block.now c.args.offset _ c.put_known.result
    (known (goal.at.returns-in-Some-clause-ok c).In-Some) c.put_known.ensures.ok

pub returns-in-Some-clause-err : goal.returns-in-Some-clause-err
returns-in-Some-clause-err c = err_half c.args.file.now c.put_known.new.self c.args.lone.now.definition c.put_known.result c.put_known.ensures.err

pub returns-in-Some-clause-refused : goal.returns-in-Some-clause-refused
returns-in-Some-clause-refused c =
    err_unplaced c.args.file.now.stream (form_of c.args.lone.now) c.args.block.now c.args.offset _ c.put_known.result
    (known (goal.at.returns-in-Some-clause-refused c).In-Some) c.put_known.ensures.refused

-- and with its own
both : (c : After-free_place-local) → IsTold c.args.file.now.stream (form_of c.args.lone.now) c.args.block.now c.args.offset
    (Data (values_by (form_of c.args.lone.now) c.args.block.now c.free_place-local.result c.args.offset)
    ∷ Define (with_local c.args.lone.now.definition c.free_place-local.result) ∷ c.args.file.now.stream)
both c =
    let limit = c.limit_of-limit.ensures in
    let fits = header_fits c.args.offset c.free_place-local.result c.limit_of-limit.result limit c.free_place-local.ensures.within c.requires.offset in
    told_both c.args.file.now.stream c.free_place-local.result (form_of c.args.lone.now) c.args.block.now c.args.offset
    (local_few c.free_place-local.result c.args.offset fits) (c.would_say_same.ensures.yes c.if-not-would_say_same.false)
    (λ k p less same. c.in-None.ensures.none refl k p (under k c.limit_of-limit.result c.args.offset limit less) same)
    (λ less none. c.free_place-local.ensures.own (under c.args.lone.now.definition.local c.limit_of-limit.result c.args.offset limit less) none)
    (λ k less none. c.free_place-local.ensures.free k (under k c.limit_of-limit.result c.args.offset limit less) none)
    (message_own c.args.file.now.stream c.free_place-local.result c.args.lone.now c.args.block.now c.args.offset
    (slice_is_bytes c.args.block.now c.type_inv.block) c.requires.lone (c.would_say_same.ensures.yes c.if-not-would_say_same.false) fits
    c.requires.stand)

pub returns-else-not-would_say_same-clause-ok : goal.returns-else-not-would_say_same-clause-ok
returns-else-not-would_say_same-clause-ok c =
    ok_told c.args.file.now c.put_both.new.self (form_of c.args.lone.now) c.args.block.now c.args.offset _ c.put_both.result
    (both (goal.at.returns-else-not-would_say_same-clause-ok c).After-free_place-local) c.put_both.ensures.ok

pub returns-else-not-would_say_same-clause-refused : goal.returns-else-not-would_say_same-clause-refused
returns-else-not-would_say_same-clause-refused c =
    err_unplaced c.args.file.now.stream (form_of c.args.lone.now) c.args.block.now c.args.offset _ c.put_both.result
    (both (goal.at.returns-else-not-would_say_same-clause-refused c).After-free_place-local) c.put_both.ensures.refused
