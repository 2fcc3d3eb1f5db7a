use Rattle.fit_profile.proofs.Common.{◌≡◌, refl, subst, Defined, Some, Values, defined_at, known, told}
use Rattle.std.specs.Global.{Global}
use Rattle.fit_record.specs.Records.{IsRecord}
use Rattle.fit_record.specs.declared.message.Record.TheVariants.{Values as Data}
use Rattle.fit_profile.specs.Taken.{IsTaken}
use Rattle.fit_profile.proofs.stream.Stream.take_and_tell.Goals as goal

pub returns-in-Some-clause-said : goal.returns-in-Some-clause-said
returns-in-Some-clause-said c = c.in-Some.ensures.said refl

pub returns-in_ok-taken-in-None-clause-said : goal.returns-in_ok-taken-in-None-clause-said
returns-in_ok-taken-in-None-clause-said c =
    let bytes = c.args.bytes.now in
    subst (λ old. (v : Values Global) (p : Defined Global) → IsRecord (known old) (Data v) bytes
    → defined_at (known old) v.local ≡ Some p → IsTaken (told old v) v p.definition c.in_ok-taken-in-None.taken)
    (c.in-None.ensures.kept refl) c.in_ok-taken-in-None.ensures.said
