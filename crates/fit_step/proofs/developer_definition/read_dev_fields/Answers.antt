use Rattle.fit_step.proofs.Common.{◌∙◌, ◌+◌, ap, arith, length, length-append, refl}
use Rattle.fit_step.proofs.ReadDefinitions.{dev_more}
use Rattle.std.proofs.lemmas.Result.{IfOk-from_err}
use Rattle.fit_step.proofs.developer_definition.read_dev_fields.Goals as goal

pub returns-in_err-fields : goal.returns-in_err-fields
returns-in_err-fields g c = IfOk-from_err c.from_residual.result _ c.from_residual.ensures.0

pub returns-in_err-push : goal.returns-in_err-push
returns-in_err-push g c = IfOk-from_err c.from_residual-in_err-push.result _ c.from_residual-in_err-push.ensures.0

pub loop-preserved : goal.loop-preserved
loop-preserved g c =
    let i = c.loop.invariant in
    let split = c.split_at in
    let pushed = c.in_ok-push.ensures.ok in
    record {
      told = dev_more c.loop.fields c.push.new.self c.args.bytes.now c.loop.rest.now split.result.0.now split.result.1.now _ refl pushed
          split.ensures.by_index.0 split.ensures.front_len i.told;
      counted = ap length pushed ∙ length-append c.loop.fields _ ∙ ap (λ n. n + 1) i.counted;
      long = omega (arith, c.loop-test.true, i.long, split.ensures.back_len);
    }
