use Rattle.std.proofs.Common.{◌<◌, ◌^◌, ap, subst, sym}
use Rattle.std.proofs.lemmas.Result.{on_ok_weaker}
use Rattle.fit_chain.specs.Events.{file_end, header, item}
use Rattle.fit_decode.specs.Answers.{event_of}
use Rattle.fit_profile.specs.Looks.{known}
use Rattle.fit_record.specs.Records.{Fits}
use Rattle.fit_report.specs.Heard.{AreHeard, hear}
use Rattle.fit_messages.specs.Kept.{KeptHeard}
use Rattle.fit_messages.proofs.ToldEvents.{few_definitions, few_files, record_fits, told_kept, told_text}
use Rattle.fit_messages.proofs.report.MessagesReportReport.tell.Goals as goal

pub take_header-requires : goal.take_header-requires
take_header-requires c =
    let heard = c.requires.0 in
    let h = header c.in-Header.header c.in-Header.size in
    let are = subst (λ a. AreHeard (hear a heard)) c.in-Header.is c.requires.2 in
    record {
      few = subst (λ n. n < 2 ^ 60) (sym (ap (λ (k : KeptHeard). k.files) c.requires.1)) (few_files c.heard_are_few.ensures heard h are);
    }

pub take_definition-requires-clause-fits : goal.take_definition-requires-clause-fits
take_definition-requires-clause-fits c =
    let heard = c.requires.0 in
    let r = c.in-Item.record_ in
    let are = subst (λ a. AreHeard (hear a heard)) c.in-Item.is c.requires.2 in
    subst (λ before. Fits (known before) r) (sym (ap (λ (k : KeptHeard). k.records) c.requires.1))
    (record_fits c.heard_records_fit.ensures c.looking_back_is_learning.ensures heard r are)

pub take_definition-requires-clause-few : goal.take_definition-requires-clause-few
take_definition-requires-clause-few c =
    let heard = c.requires.0 in
    let are = subst (λ a. AreHeard (hear a heard)) c.in-Item.is c.requires.2 in
    subst (λ n. n < 2 ^ 60) (sym (ap (λ (k : KeptHeard). k.definitions) c.requires.1))
    (few_definitions c.heard_are_few.ensures heard (item c.in-Item.record_) are)

pub take_values-requires-clause-fits : goal.take_values-requires-clause-fits
take_values-requires-clause-fits c =
    let heard = c.requires.0 in
    let r = c.in-Item.record_ in
    let are = subst (λ a. AreHeard (hear a heard)) c.in-Item.is c.requires.2 in
    subst (λ before. Fits (known before) r) (sym (ap (λ (k : KeptHeard). k.records) c.requires.1))
    (record_fits c.heard_records_fit.ensures c.looking_back_is_learning.ensures heard r are)

pub returns-in-Header-clause-heard : goal.returns-in-Header-clause-heard
returns-in-Header-clause-heard c = on_ok_weaker c.take_header.result (λ taken heard has are.
    told_kept c.args.self.now c.take_header.new.self c.args.event.now (header c.in-Header.header c.in-Header.size) (ap event_of c.in-Header.is) taken heard has)
    c.take_header.ensures.kept

pub returns-in-Define-clause-heard : goal.returns-in-Define-clause-heard
returns-in-Define-clause-heard c = on_ok_weaker c.take_definition.result (λ taken heard has are.
    told_kept c.args.self.now c.take_definition.new.self c.args.event.now (item c.in-Item.record_) (ap event_of c.in-Item.is) taken heard has)
    c.take_definition.ensures.kept

pub returns-in-Values-clause-heard : goal.returns-in-Values-clause-heard
returns-in-Values-clause-heard c = on_ok_weaker c.take_values.result (λ taken heard has are.
    told_kept c.args.self.now c.take_values.new.self c.args.event.now (item c.in-Item.record_) (ap event_of c.in-Item.is) taken heard has)
    c.take_values.ensures.kept

pub returns-in-FileEnd-clause-heard : goal.returns-in-FileEnd-clause-heard
returns-in-FileEnd-clause-heard c = on_ok_weaker c.take_end.result (λ taken heard has are.
    told_kept c.args.self.now c.take_end.new.self c.args.event.now file_end (ap event_of c.in-FileEnd.is) taken heard has) c.take_end.ensures.kept

pub returns-in-Header-clause-text : goal.returns-in-Header-clause-text
returns-in-Header-clause-text c = on_ok_weaker c.take_header.result (λ put heard has are.
    told_text c.args.self.now c.args.event.now (header c.in-Header.header c.in-Header.size) c.args.text.now.items c.take_header.new.text.items
    (ap event_of c.in-Header.is) put heard has) c.take_header.ensures.text

pub returns-in-Define-clause-text : goal.returns-in-Define-clause-text
returns-in-Define-clause-text c = on_ok_weaker c.take_definition.result (λ put heard has are.
    told_text c.args.self.now c.args.event.now (item c.in-Item.record_) c.args.text.now.items c.take_definition.new.text.items
    (ap event_of c.in-Item.is) put heard has) c.take_definition.ensures.text

pub returns-in-Values-clause-text : goal.returns-in-Values-clause-text
returns-in-Values-clause-text c = on_ok_weaker c.take_values.result (λ put heard has are.
    told_text c.args.self.now c.args.event.now (item c.in-Item.record_) c.args.text.now.items c.take_values.new.text.items
    (ap event_of c.in-Item.is) put heard has) c.take_values.ensures.text

pub returns-in-FileEnd-clause-text : goal.returns-in-FileEnd-clause-text
returns-in-FileEnd-clause-text c = on_ok_weaker c.take_end.result (λ put heard has are.
    told_text c.args.self.now c.args.event.now file_end c.args.text.now.items c.take_end.new.text.items (ap event_of c.in-FileEnd.is) put heard has)
    c.take_end.ensures.text
