use Rattle.fit_report.proofs.Common.{channel, refl}
use Rattle.fit_report.proofs.Documents.{puts_ending}
use Rattle.fit_report.proofs.document.put_ending.Goals as goal

pub end-requires : goal.end-requires
end-requires g c = c.requires

pub returns-in_default-clause-puts : goal.returns-in_default-clause-puts
returns-in_default-clause-puts g c = λ heard has all. refl

pub returns-clause-puts : goal.returns-clause-puts
returns-clause-puts g c = λ heard has all.
    puts_ending c.new-text.result.items c.end.new.text.items c.as_slice.result.now (g.R.Document.ending heard)
    (channel g.K.Sink.contents g.K.Sink.has_failed c.args.sink.now c.put_text.new.sink) c.args.written c.put_text.new.written c.put_text.result
    c.new-text.ensures.items (c.in-Ok.ensures.text heard has all) c.as_slice.ensures.value c.put_text.ensures.puts
