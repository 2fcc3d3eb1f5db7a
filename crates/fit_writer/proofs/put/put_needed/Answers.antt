use Rattle.std.proofs.Common.{◌≡◌, ◌<◌, subst}
use Rattle.fit_writer.proofs.DescribedPuts.{err_there, half_at_once, needs_there, ok_there, refused_there, why_at_once}
use Rattle.fit_writer.specs.Written.{NeedsDescriptions}
use Rattle.fit_writer.specs.declared.refusal.Refusal.{Refusal}
use Rattle.fit_writer.specs.inner.OpenFiles.{IsHalfPut, current_of}
use Rattle.fit_writer.specs.inner.Places.{form_of}
use Rattle.fit_writer.specs.inner.Puts.{IsUnplaced, limit_of}
use Rattle.fit_writer.proofs.put.put_needed.Goals as goal
use Rattle.fit_writer.proofs.put.put_needed.Goals.{In-Described}

-- nothing has changed where no definition message can be put
same : (c : In-Described) → current_of c.put_placed.new.file ≡ current_of c.args.file.now
same c = subst (λ (why : Refusal). IsHalfPut c.args.file.now c.put_placed.new.file c.args.lone.now.definition why) c.in-Described.is c.in-Err.ensures.err

needs : (c : In-Described) → NeedsDescriptions c.args.file.now.stream (form_of c.args.lone.now) (λ k. k < limit_of c.args.offset)
needs c =
    subst (λ (why : Refusal). IsUnplaced c.args.file.now.stream (form_of c.args.lone.now) c.args.block.now c.args.offset why) c.in-Described.is
    c.in-Err.ensures.refused

pub put_described-requires-clause-needs : goal.put_described-requires-clause-needs
put_described-requires-clause-needs c =
    let a = (goal.at.put_described-requires-clause-needs c).In-Described in
    needs_there c.args.file.now c.put_placed.new.file c.put_placed.new.file (form_of c.args.lone.now) c.args.block.now c.args.offset (same a) (needs a)

pub returns-in-Described-clause-ok : goal.returns-in-Described-clause-ok
returns-in-Described-clause-ok c =
    let a = (goal.at.returns-in-Described-clause-ok c).In-Described in
    ok_there c.args.file.now c.put_placed.new.file c.put_described.new.file (form_of c.args.lone.now) c.args.block.now c.args.offset (same a)
    c.put_described.result c.put_described.ensures.ok

pub returns-in-Described-clause-err : goal.returns-in-Described-clause-err
returns-in-Described-clause-err c =
    let a = (goal.at.returns-in-Described-clause-err c).In-Described in
    err_there c.args.file.now c.put_placed.new.file c.put_described.new.file (form_of c.args.lone.now) c.args.block.now c.args.offset (same a)
    c.put_described.result c.put_described.ensures.err

pub returns-in-Described-clause-refused : goal.returns-in-Described-clause-refused
returns-in-Described-clause-refused c =
    let a = (goal.at.returns-in-Described-clause-refused c).In-Described in
    refused_there c.args.file.now c.put_placed.new.file c.put_described.new.file (form_of c.args.lone.now) c.args.block.now c.args.offset (same a)
    c.put_described.result c.put_described.ensures.refused

pub returns-in_default-refusal : goal.returns-in_default-refusal
returns-in_default-refusal c = record {
  ok = tt;
  good = c.put_placed.ensures.good;
  err = half_at_once c.args.file.now c.put_placed.new.file (form_of c.args.lone.now) (limit_of c.args.offset) c.in-Err.refusal c.in-Err.ensures.err;
  refused = why_at_once c.args.file.now.stream (form_of c.args.lone.now) c.args.block.now c.args.offset c.in-Err.refusal
      c.in_default-refusal.not-Described c.in-Err.ensures.refused;
}
