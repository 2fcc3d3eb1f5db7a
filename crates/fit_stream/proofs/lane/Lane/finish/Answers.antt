-- What the telling says at the end is found of all bytes.
use Rattle.fit_stream.proofs.Common.{◌≡◌, ℕ, ◌++◌, None, Ok, Err, Result, length, sym, ap, subst, rules, refl, IsFound, EndsFlow, Flow, LaneNow, ReportFault}
use Rattle.std.specs.Prelude.{IfErr}
use Rattle.fit_chain.specs.declared.event.Fault.TheVariants as faults
use Rattle.fit_report.specs.declared.fault.ReportFault.TheVariants as reports
use Rattle.fit_stream.proofs.Flowing.{chain_found, ended_again, ends_short, ends_well, short_found}
use Rattle.fit_stream.proofs.lane.Lane.finish.Goals as goal
use Rattle.fit_stream.proofs.lane.Lane.finish.Goals.{in-Ok, in-Err}

pub returns-in-Some-clause-ends : goal.returns-in-Some-clause-ends
returns-in-Some-clause-ends g c =
    let l = g.R.Report.line in
    let text = c.new.result.items in
    let fault = c.in-Some.fault in
    let inside : Flow = record { bytes = c.self.inside.fed.items; text = c.self.inside.taken.items; fault = c.self.inside.fault } in
    subst (λ (o : LaneNow). EndsFlow l o.first o.flow o.flow text (Err fault)) c.self.view_is
    (ended_again l c.self.inside.first.items inside text fault c.new.ensures.items c.in-Some.is (c.self.invariant.stopped fault c.in-Some.is))

pub returns-clause-ends : goal.returns-clause-ends
returns-clause-ends g c =
    let fresh : c.self.inside.fault ≡ None = search rules in
    let i = c.self.invariant.goes_on fresh in
    let l = g.R.Report.line in
    let first = c.self.inside.first.items in
    let text = c.take-text.result.items in
    let now = c.self.inside.telling.seen in
    let new : Flow = record { bytes = c.self.inside.fed.items; text = c.take-text.new.taken.items; fault = c.self.inside.fault } in
    let ends : (answer : Result ℕ ReportFault) → IsFound l first now.bytes (c.self.inside.taken.items ++ text) answer
    → IfErr answer (λ fault. fault ≡ reports.Decode (faults.Truncated (length now.bytes)))
    → EndsFlow l c.args.self.now.first c.args.self.now.flow new text answer = λ answer found short.
    subst (λ (o : LaneNow). EndsFlow l o.first o.flow new text answer) c.self.view_is (record {
      handed = c.take-text.ensures.taken;
      same = (refl, refl);
      latched = λ fault was. absurd cc;
      found = subst (λ b. IsFound l first b c.take-text.new.taken.items answer) i.fed
          (subst (λ t. IsFound l first now.bytes t answer) (sym c.take-text.ensures.taken) found);
      short = λ none. subst (λ b. IfErr answer (λ fault. fault ≡ reports.Decode (faults.Truncated (length b)))) i.fed short;
    }) in
    elim c.match-finish.branch [
      | in-Ok w ↦
          subst (λ r. EndsFlow l c.args.self.now.first c.args.self.now.flow new r.0.items r.1) (sym w.result-is)
          (ends (Ok w.files.result)
          (ends_well first c.self.inside.taken.items i.kept i.told i.stands i.is_kept i.joined text c.take-text.ensures.text w.files.result
          (chain_found c.finish.result now w.in-Ok.field-0 c.finish.ensures.good w.in-Ok.is) (w.files.ensures.files i.fresh)) tt)
      | in-Err w ↦
          let found = short_found c.finish.result now w.in-Err.fault c.finish.ensures.good c.finish.ensures.truncated i.fresh w.in-Err.is in
          subst (λ r. EndsFlow l c.args.self.now.first c.args.self.now.flow new r.0.items r.1) (sym w.result-is)
          (ends (Err (reports.Decode w.in-Err.fault))
          (ends_short first c.self.inside.taken.items i.kept i.told i.stands i.is_kept i.joined text c.take-text.ensures.text w.in-Err.fault i.viable
          found.0 found.1) (ap reports.Decode found.1))
    ]
