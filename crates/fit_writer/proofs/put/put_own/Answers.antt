use Rattle.std.proofs.Common.{◌∷◌}
use Rattle.fit_base.proofs.ByteLists.{slice_is_bytes}
use Rattle.fit_record.specs.declared.message.Record.TheVariants.{Values as Data}
use Rattle.fit_writer.proofs.Ends.{err_known, ok_known, refused_known}
use Rattle.fit_writer.proofs.LoneForms.{message_there}
use Rattle.fit_writer.proofs.Puts.{header_fits, told_known}
use Rattle.fit_writer.specs.Reading.{values_by}
use Rattle.fit_writer.specs.inner.Places.{form_of}
use Rattle.fit_writer.specs.inner.Puts.{IsTold, limit_of}
use Rattle.fit_writer.proofs.put.put_own.Goals as goal
use Rattle.fit_writer.proofs.put.put_own.Goals.{After-put_known}

-- what was put by the definition that is known
known : (c : After-put_known) → IsTold c.args.file.now.stream (form_of c.args.lone.now) c.args.block.now c.args.offset
    (Data (values_by (form_of c.args.lone.now) c.args.block.now c.in-Some.local c.args.offset) ∷ c.args.file.now.stream)
known c =
    told_known c.args.file.now.stream c.in-Some.local (form_of c.args.lone.now) c.args.block.now c.args.offset c.in-Some.ensures.some.same
    (λ p less says. c.in-Some.ensures.some.own p says)
    (message_there c.args.file.now.stream c.in-Some.local c.args.lone.now c.args.block.now c.args.offset
    (slice_is_bytes c.args.block.now c.type_inv.block) c.requires.lone c.in-Some.ensures.some.same
    (header_fits c.args.offset c.in-Some.local c.limit_of.result c.limit_of.ensures c.if-local-limit_of.true c.requires.offset) c.requires.stand)

pub returns-in-Some-clause-ok : goal.returns-in-Some-clause-ok
returns-in-Some-clause-ok c =
    ok_known c.args.file.now c.put_known.new.self (form_of c.args.lone.now) c.args.block.now c.args.offset _ c.put_known.result
    (known c) c.put_known.ensures.ok

pub returns-in-Some-clause-err : goal.returns-in-Some-clause-err
returns-in-Some-clause-err c =
    err_known c.args.file.now c.put_known.new.self (form_of c.args.lone.now) (limit_of c.args.offset) c.put_known.result c.put_known.ensures.err

pub returns-in-Some-clause-refused : goal.returns-in-Some-clause-refused
returns-in-Some-clause-refused c =
    refused_known c.args.file.now.stream (form_of c.args.lone.now) c.args.block.now c.args.offset _ c.put_known.result
    (known c) c.put_known.ensures.refused
