use Rattle.fit_step.proofs.Common.{◌≡◌, ◌∙◌, ap, sym, subst, Some, Define, tests_of, Bool, Data, refl, TakesNone}
use Rattle.fit_step.proofs.InPlace.{stands_nothing, stands_define, stands_values, definition_taken, message_taken, header_taken, header_refused, wants_none}
use Rattle.std.proofs.lemmas.Result.{err_from_is_err_and, on_err_weaker}
use Rattle.fit_step.proofs.one_byte.take.Goals as goal

pub in_message-requires : goal.in_message-requires
in_message-requires g c =
    let is = c.in-Some-Values.is ∙ ap Some c.in-Some-Values.field-0-is in (
      assumption,
      (
        c.requires.room,
        stands_values c.args.env.now c.args.phase.now c.args.room.now c.args.partial.now c.args.in_progress.now c.in-Some-Values.values is c.requires.stands,
      ),
    )

pub returns-in-Some-Values : goal.returns-in-Some-Values
returns-in-Some-Values g c =
    let e = c.args.env.now in
    let v = c.in-Some-Values.values in
    let made = c.in_message in
    let is : c.args.in_progress.now ≡ Some (Data v) = c.in-Some-Values.is ∙ ap Some c.in-Some-Values.field-0-is in
    record {
      made = message_taken e (tests_of e) c.args.phase.now made.new.phase c.args.room.now made.new.room c.args.partial.now c.args.byte
          c.args.in_progress.now v made.new.values made.new.partial made.result is made.ensures.made;
      err = on_err_weaker made.result (λ same. ap (λ w. Some (Data w)) same ∙ sym is) made.ensures.err;
      free = made.ensures.free;
    }

pub in_definition-requires : goal.in_definition-requires
in_definition-requires g c =
    let is = c.in-Some-Define.is ∙ ap Some c.in-Some-Define.field-0-is in
    let stands = stands_define c.args.env.now c.args.phase.now c.args.room.now c.args.partial.now c.args.in_progress.now c.in-Some-Define.definition is
    c.requires.stands in
    (assumption, (c.requires.room, stands.0))

pub returns-in-Some-Define : goal.returns-in-Some-Define
returns-in-Some-Define g c =
    let e = c.args.env.now in
    let phase = c.args.phase.now in
    let d = c.in-Some-Define.definition in
    let made = c.in_definition in
    let is : c.args.in_progress.now ≡ Some (Define d) = c.in-Some-Define.is ∙ ap Some c.in-Some-Define.field-0-is in
    let stands = stands_define e phase c.args.room.now c.args.partial.now c.args.in_progress.now d is c.requires.stands in
    record {
      made = definition_taken e (tests_of e) phase made.new.phase c.args.room.now made.new.room c.args.partial.now c.args.byte c.args.in_progress.now
          d made.new.definition made.result is stands.1 made.ensures.made;
      err = on_err_weaker made.result (λ same. ap (λ k. Some (Define k)) same ∙ sym is) made.ensures.err;
      free = λ none. made.ensures.free (subst (λ p. TakesNone e phase p c.args.byte) stands.1 none);
    }

pub at_record_header-requires : goal.at_record_header-requires
at_record_header-requires g c = assumption

pub returns-in_ok-record-in-None : goal.returns-in_ok-record-in-None
returns-in_ok-record-in-None g c =
    let e = c.args.env.now in
    let at = c.at_record_header.new in
    let told = c.in_ok-record-in-None in
    record {
      made = header_taken e (tests_of e) c.args.phase.now at.phase c.args.room.now at.room c.args.partial.now c.args.byte c.args.in_progress.now
          c.in-None.is c.requires.stands told.record told.whole told.ensures.made;
      err = tt;
      free = λ _. tt;
    }

pub returns-in_err-record-in-None : goal.returns-in_err-record-in-None
returns-in_err-record-in-None g c =
    let e = c.args.env.now in
    let at = c.at_record_header.new in
    let refused = c.in_err-record-in-None in
    let why = refused.field-0.0 in
    let stands = stands_nothing e c.args.phase.now c.args.room.now c.args.partial.now c.args.in_progress.now c.in-None.is c.requires.stands in
    let exit = err_from_is_err_and c.from_residual.result c.from_residual.ensures.1 in
    rw (exit.1, exit.2) (record {
      made = header_refused e (tests_of e) c.args.phase.now at.phase c.args.room.now at.room c.args.partial.now c.args.byte c.args.in_progress.now
          c.in-None.is c.requires.stands why refused.ensures.made;
      err = refl;
      free = λ none. wants_none Bool Bool why (refused.ensures.free (subst (λ k. TakesNone e k c.args.partial.now c.args.byte) stands.0 none));
    })
