use Rattle.fit_step.proofs.Common.{sym, subst, ◌∙◌}
use Rattle.std.specs.Prelude.{IfSome}
use Rattle.fit_step.specs.inner.Whole.{IsPlain}
use Rattle.fit_step.proofs.whole.plain_message.Goals as goal

pub returns-in-Some : goal.returns-in-Some
returns-in-Some g c = record {
  plain = tt;
  whole = λ idle size has large. absurd (let some = sym c.in-Some.is ∙ idle in cc);
}

pub returns-in-None : goal.returns-in-None
returns-in-None g c = record {
  plain = subst (λ o. IfSome c.next_message.result (IsPlain c.args.env.now c.args.room o c.args.piece.now)) (sym c.in-None.is) c.next_message.ensures.plain;
  whole = λ idle size has large. c.next_message.ensures.whole size has large;
}
