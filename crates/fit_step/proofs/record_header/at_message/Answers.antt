use Rattle.fit_step.proofs.Common.{◌∙◌, ◌-◌, ap, sym, Ok, Data, entered, arith, subst, IsSomeAnd}
use Rattle.fit_step.proofs.HeaderSteps.{begun_entered}
use Rattle.fit_record.specs.Sizes.{HasNoFields}
use Rattle.fit_step.proofs.record_header.at_message.Goals as goal

pub defined_for-requires : goal.defined_for-requires
defined_for-requires g c = assumption

pub overflow_sub-room : goal.overflow_sub-room
overflow_sub-room g c = omega (arith, c.requires.room)

pub returns-in-Err : goal.returns-in-Err
returns-in-Err g c = record { made = c.in-Err.ensures.err; free = λ _. tt }

pub returns : goal.returns
returns g c =
    let whole = c.begin_fields-whole.result in
    let phase = c.begin_fields-whole.new.phase in
    let room = c.args.room.now - 1 in
    record {
      made = c.in-Ok.ensures.goes
          ∙ ap Ok (c.begin_fields-whole.ensures room _ ∙ begun_entered whole phase room _
          ∙ ap (λ v. entered whole phase room (Data v)) (sym c.in-Ok-new_message.ensures.made));
      free = λ _. tt;
    }

pub returns-in_default-clause-free : goal.returns-in_default-clause-free
returns-in_default-clause-free g c = λ none.
    let refused = c.in_default.ensures.free (subst (λ o. IsSomeAnd o (λ p. HasNoFields p.definition)) c.in-Ok.ensures.ok.0 none) in cc
