use Rattle.fit_rows.proofs.Common.{◌≡◌, ◌+◌, length, take, subst, arith, Data, defined_at, Fits}
use Rattle.std.proofs.Common.{Some}
use Rattle.std.proofs.lemmas.List.{take_all}
use Rattle.std.proofs.lemmas.Result.{IfOk-weaker}
use Rattle.std.proofs.lemmas.Option.{IfSome_then}
use Rattle.fit_record.specs.MessageBytes.{message_in}
use Rattle.fit_record.specs.Records.{IsRecord}
use Rattle.fit_rows.proofs.whole.whole_in.Goals as goal

pub opened_whole-requires-clause-opened : goal.opened_whole-requires-clause-opened
opened_whole-requires-clause-opened c =
    let m = c.in-Some.message in record {
      defined = subst (λ e. defined_at e m.local ≡ Some m.defined.now) c.env.ensures c.in-Some.ensures.defined;
      sound = c.in-Some.ensures.sound;
      size = c.in-Some.ensures.size;
      fits = subst (λ e. Fits e (Data (message_in m))) c.env.ensures c.in-Some.ensures.spelled.0;
    }

pub returns-clause-read : goal.returns-clause-read
returns-clause-read c = IfOk-weaker c.opened_whole.result _ _ (λ found h. IfSome_then found h (λ p whole.
    let bytes = c.args.bytes.now in
    let m = c.in-Some.message in
    let all : take (1 + length m.body.now) bytes ≡ bytes =
    take_all (1 + length m.body.now) bytes (omega (arith, c.if-size-bytes.false)) in
    let is = subst (λ e. IsRecord e (Data (message_in m)) bytes) c.env.ensures
    (subst (λ b. IsRecord c.env.result.now (Data (message_in m)) b) all c.in-Some.ensures.spelled) in
    (message_in m, is, whole))) c.opened_whole.ensures.whole
