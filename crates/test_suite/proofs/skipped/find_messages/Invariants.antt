use Rattle.std.specs.Prelude.{◌≡◌, List}
use Rattle.std.specs.Global.{Global}
use Rattle.fit_record.specs.declared.message.Record.{Record}
use Rattle.fit_decode.specs.Answers.{LookedAhead, MessagesFollow}
use Rattle.test_suite.proofs.skipped.find_messages.Given as goal

abbrev pub invariant-messages : goal.invariant-messages
invariant-messages l = record {
  is : l.ahead ≡ record { fed = l.decoder; piece = l.bytes; used = l.ahead.used };
  follow : (records : List (Record Global)) × MessagesFollow Global l.decoder l.bytes l.ahead.used records;
}
