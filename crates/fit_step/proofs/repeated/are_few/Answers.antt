use Rattle.fit_step.proofs.Common.{arith}
use Rattle.fit_step.proofs.RepeatedDefinitions.{field_told, fields_told}
use Rattle.fit_step.proofs.repeated.are_few.Goals as goal

pub loop-field-preserved : goal.loop-field-preserved
loop-field-preserved c =
    record {
      told = field_told c.args.fields.now c.loop-field.field-index c.loop-field.rest.now c.split_at.result.0.now c.split_at.result.1.now c.args.bytes.now _
          c.loop-field-test.true c.loop-field.invariant.told c.split_at.ensures.front c.split_at.ensures.back
          (c.is_field.ensures c.if-not-is_field.false);
      long = omega (arith, c.split_at.ensures.back_len, c.loop-field.invariant.long, c.loop-field-test.true);
    }

pub returns : goal.returns
returns c = λ yes.
    fields_told c.args.fields.now c.loop-field.field-index c.loop-field.rest.now c.args.bytes.now c.loop-field-test.false c.loop-field.invariant.told
    c.loop-field.invariant.long
