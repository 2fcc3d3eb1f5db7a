use Rattle.std.specs.Prelude.{◌↔◌, IsTrue}
use Rattle.fit_writer.specs.Amounts.{amounts_by}
use Rattle.fit_writer.specs.Amounts.{latest_amounts}
use Rattle.std.proofs.Common.{[], ◌≡◌, ◌∙◌, ◌+◌, ℕ, arith, refl, subst, sym}
use Rattle.fit_writer.proofs.Runs.{run_more}
use Rattle.fit_writer.specs.inner.Places.{form_of}
use Rattle.fit_writer.specs.inner.Runs.{HasRunInto}
use Rattle.fit_writer.proofs.run.put_run.Goals as goal

pub loop-rest-init : goal.loop-rest-init
loop-rest-init c = (
  record { blocks = []; are_joined = refl; counted = refl; few = omega arith; read = []; put = refl; told = tt },
  c.requires.good,
  c.requires.found,
)

pub returns-in-Err-clause-err : goal.returns-in-Err-clause-err
returns-in-Err-clause-err c = record {
  between = c.loop-rest.file;
  rest = c.loop-rest.rest.now;
  run = c.loop-rest.invariant.0;
  at = let few = c.loop-rest.invariant.0.few in omega arith;
  next = c.in-Err.ensures.err;
}

pub loop-rest-preserved : goal.loop-rest-preserved
loop-rest-preserved c =
    let f = form_of c.args.lone.now in
    let has = c.args.first.has in
    let known = c.put_first.ensures.good.told in
    let read : IsTrue c.is_told-is_read.result ↔ (latest_amounts c.put_first.new.file.stream ≡ amounts_by has c.in-Ok.block.now) =
    (λ t. sym known ∙ c.is_told-is_read.ensures.0 t, λ e. c.is_told-is_read.ensures.1 (known ∙ e)) in (
      subst (λ (n : ℕ). HasRunInto c.args.file.now c.put_first.new.file f has c.args.blocks.now (c.loop-rest.count + 1) n c.in-Ok.after.now)
          (sym c.first_told-accumulated.ensures)
          (run_more c.args.file.now c.loop-rest.file c.put_first.new.file f has c.args.blocks.now c.loop-rest.rest.now c.in-Ok.after.now
          c.in-Ok.block.now c.loop-rest.count c.loop-rest.accumulated c.is_told-is_read.result c.loop-rest.invariant.0 c.in-Ok.ensures.block
          c.in-Ok.ensures.begins c.in-Ok.ensures.put read),
      c.put_first.ensures.good,
      c.put_first.ensures.found,
    )
