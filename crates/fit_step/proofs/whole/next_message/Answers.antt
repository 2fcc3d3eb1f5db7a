use Rattle.fit_step.proofs.Common.{◌≡◌, ◌+◌, length, ◌∙◌, subst, arith, refl, None, Some, defined_at, length-take-le, ne_eqb, Data}
use Rattle.fit_record.specs.MessageBytes.{message_in}
use Rattle.fit_step.proofs.PlainMessages.{stands_there, describes_nothing_of, message_found}
use Rattle.fit_step.proofs.SkippedRecords.{learns_nothing, plain_stands}
use Rattle.fit_step.proofs.whole.next_message.Goals as goal

pub returns : goal.returns
returns g c =
    let e = c.args.env.now in
    let piece = c.args.piece.now in
    let m = c.in-Some.message in
    let told = c.in-Some.ensures in
    let used = 1 + length m.body.now in
    let other = c.if-message-eq-FIELD_DESCRIPTION.false in
    record {
      plain = record {
        idle = refl;
        sound = told.sound;
        size = told.size;
        stands = plain_stands e c.args.room piece (Data (message_in m)) used (omega arith) told.within (omega (arith, c.if-used-room.false)) told.spelled;
        left = omega (arith, c.if-used-room.false);
        message = stands_there e (message_in m) m.defined.now told.defined used piece other told.within told.spelled;
        learned = learns_nothing e (message_in m) m.defined.now told.defined (ne_eqb m.defined.now.definition.global 206 other);
      };
      whole = λ size has large.
          let (same, long) = message_found e piece size (Some m) has told.found in
          long ∙ length-take-le size piece has.1;
    }

pub returns-in_default : goal.returns-in_default
returns-in_default g c = record {
  plain = tt;
  whole = λ size has large. absurd (message_found c.args.env.now c.args.piece.now size None has c.in_default.ensures.found);
}

pub returns-then-message-eq-FIELD_DESCRIPTION : goal.returns-then-message-eq-FIELD_DESCRIPTION
returns-then-message-eq-FIELD_DESCRIPTION g c = record {
  plain = tt;
  whole = λ size has large.
      let m = c.in-Some.message in
      let e = c.args.env.now in
      let (same, long) = message_found e c.args.piece.now size (Some m) has c.in-Some.ensures.found in
      absurd (describes_nothing_of e has.0 m.defined.now (subst (λ v. defined_at e v.local ≡ Some m.defined.now) same c.in-Some.ensures.defined)
      has.3 c.if-message-eq-FIELD_DESCRIPTION.true);
}

pub returns-then-used-room : goal.returns-then-used-room
returns-then-used-room g c = record {
  plain = tt;
  whole = λ size has large.
      let (same, long) = message_found c.args.env.now c.args.piece.now size (Some c.in-Some.message) has c.in-Some.ensures.found in
      absurd (omega (arith, large, long, length-take-le size c.args.piece.now has.1, c.if-used-room.true));
}
