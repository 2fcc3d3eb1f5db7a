-- The heart rate of an event stands after those before it.
use Rattle.fit_examples.proofs.RatesTold.{next_line, next_some, next_stream}
use Rattle.fit_examples.specs.HeartRates.{moments_in}
use Rattle.fit_examples.proofs.document.RatesReportReport.tell.Goals as goal

pub moment_told-requires : goal.moment_told-requires
moment_told-requires c = (c.requires.0, c.requires.1.0, c.requires.2)

pub returns-clause-heard : goal.returns-clause-heard
returns-clause-heard c = λ heard has all.
    let self = c.args.self.now in
    let moments = moments_in c.in_ok-moment.moment in (
      next_stream self.stream self.some heard c.args.event.now moments has.0 has.1 c.in_ok-moment.ensures.moment c.moment_told.new.stream
          c.in_ok-moment.ensures.stream,
      next_some self.stream self.some heard c.args.event.now moments has.0 has.1 c.in_ok-moment.ensures.moment c.in_ok-self.field-0
          c.in_ok-self.ensures.some,
    )

pub returns-clause-text : goal.returns-clause-text
returns-clause-text c = λ heard has all.
    let self = c.args.self.now in
    next_line self.stream self.some heard c.args.event.now (moments_in c.in_ok-moment.moment) has.0 has.1 c.in_ok-moment.ensures.moment
    c.args.text.now.items c.put_rate.new.text.items c.in_ok-self.ensures.text
