use Rattle.fit_step.proofs.Common.{arith}
use Rattle.fit_record.specs.MessageBytes.{message_in}
use Rattle.fit_step.proofs.SkippedRecords.{one_learned}
use Rattle.fit_step.proofs.skipping.size_ahead.Goals as goal

pub returns-in-Some : goal.returns-in-Some
returns-in-Some g c =
    let e = c.args.env.now in
    let m = c.in-Some.message in
    let told = c.in-Some.ensures.plain in
    record {
      within = told.stands.within;
      message = λ some. (told.left, message_in m, one_learned e e (message_in m) _ told.stands.spelled told.learned);
      whole = c.in-Some.ensures.whole;
    }

pub returns-in-None : goal.returns-in-None
returns-in-None g c = record {
  within = omega arith;
  message = λ some. absurd (omega (arith, some));
  whole = λ size has large. absurd (c.in-None.ensures.whole size has large);
}
