-- What the telling told is what flows through the lane.
use Rattle.fit_stream.proofs.Common.{◌≡◌, ◌∙◌, [], ◌++◌, None, Some, Ok, Err, ap, sym, subst, append-nil, Channel, IsFound, IsGoodSoFar, FeedsFlow, Flow}
use Rattle.fit_stream.proofs.Common.{ℕ, ◌≢◌, LaneNow, ReportFault, Seen, StopsIn, text_of, refl, rules}
use Rattle.fit_chain.specs.declared.event.Fault.TheVariants as faults
use Rattle.fit_report.specs.declared.fault.ReportFault.TheVariants as reports
use Rattle.fit_stream.proofs.Flowing.{all_taken, fed_again, goes_well, may_go_on, stands_anew, stop_found, stops_in}
use Rattle.fit_stream.proofs.lane.Lane.feed.Goals as goal

pub returns-in-Some-clause-feeds : goal.returns-in-Some-clause-feeds
returns-in-Some-clause-feeds g c =
    let l = g.R.Report.line in
    let piece = c.args.piece.now in
    let text = c.new.result.items in
    let fault = c.in-Some.fault in
    let inside : Flow = record { bytes = c.self.inside.fed.items; text = c.self.inside.taken.items; fault = c.self.inside.fault } in
    subst (λ (o : LaneNow). FeedsFlow l o.first o.flow o.flow piece text (Err fault)) c.self.view_is
    (fed_again l c.self.inside.first.items inside text fault c.new.ensures.items c.in-Some.is (c.self.invariant.stopped fault c.in-Some.is)
    (c.self.invariant.may_go_on fault c.in-Some.is) piece)

pub invariant_of-self : goal.invariant_of-self
invariant_of-self g c =
    let fresh : c.self.inside.fault ≡ None = search rules in
    let i = c.self.invariant.goes_on fresh in
    let first = c.self.inside.first.items in
    let taken = c.self.inside.taken.items in
    let text = c.take-text.result.items in
    let s = c.in-Ok.ensures.passes i.told c.self.inside.sink.held i.stands in
    let all = all_taken first taken i.kept i.told s i.is_kept i.joined text c.take-text.ensures.text in
    record {
      goes_on = λ none. record {
        fresh = ap (λ (v : Seen). v.refusal) c.in-Ok.ensures.all;
        fed = ap (λ (v : Seen). v.bytes) c.in-Ok.ensures.all ∙ ap (λ b. b ++ c.args.piece.now) i.fed ∙ sym c.note.ensures;
        viable = c.in-Ok.ensures.viable;
        kept = [];
        is_kept = c.take-text.ensures.none;
        told = text_of g.R.Report.line s.heard;
        joined = append-nil c.take-text.new.taken.items ∙ c.take-text.ensures.taken ∙ all;
        stands = stands_anew first taken i.kept i.told s i.is_kept i.joined text c.take-text.ensures.text c.take-text.new.sink.held c.take-text.ensures.none;
      };
      stopped = λ f was. absurd cc;
      may_go_on = λ f was. absurd cc;
    }

pub returns-in-Ok-clause-feeds : goal.returns-in-Ok-clause-feeds
returns-in-Ok-clause-feeds g c =
    let fresh : c.self.inside.fault ≡ None = search rules in
    let i = c.self.invariant.goes_on fresh in
    let s = c.in-Ok.ensures.passes i.told c.self.inside.sink.held i.stands in
    let l = g.R.Report.line in
    let first = c.self.inside.first.items in
    let piece = c.args.piece.now in
    let text = c.take-text.result.items in
    let now = c.feed-told.new.self.seen in
    let files = c.files.result in
    let is : now.bytes ≡ c.note.new.self.items =
    ap (λ (v : Seen). v.bytes) c.in-Ok.ensures.all ∙ ap (λ b. b ++ piece) i.fed ∙ sym c.note.ensures in
    let good : IsGoodSoFar l first now.bytes (c.self.inside.taken.items ++ text) files =
    goes_well first c.self.inside.taken.items i.kept i.told s i.is_kept i.joined text c.take-text.ensures.text files c.in-Ok.ensures.viable
    (c.files.ensures.files (ap (λ (v : Seen). v.refusal) c.in-Ok.ensures.all)) in
    let new : Flow = record { bytes = c.note.new.self.items; text = c.take-text.new.taken.items; fault = c.self.inside.fault } in
    subst (λ (o : LaneNow). FeedsFlow l o.first o.flow new piece text (Ok files)) c.self.view_is (record {
      handed = c.take-text.ensures.taken;
      latched = λ fault was. absurd cc;
      fed = λ none. c.note.ensures;
      good = (
        fresh,
        subst (λ b. IsGoodSoFar l first b c.take-text.new.taken.items files) is
            (subst (λ t. IsGoodSoFar l first now.bytes t files) (sym c.take-text.ensures.taken) good),
      );
      bad = tt;
      stops = λ none. tt;
      may_go_on = tt;
    })

pub invariant_of-self-in-Err : goal.invariant_of-self-in-Err
invariant_of-self-in-Err g c =
    let fresh : c.self.inside.fault ≡ None = search rules in
    let i = c.self.invariant.goes_on fresh in
    let l = g.R.Report.line in
    let first = c.self.inside.first.items in
    let piece = c.args.piece.now in
    let text = c.take-text.result.items in
    let bytes = c.self.inside.telling.seen.bytes in
    let sink : Channel = record { before = c.self.inside.sink.held; after = c.feed-told.new.sink.held; failed = c.feed-told.new.sink.failed } in
    let all = c.self.inside.taken.items ++ text in
    let stops : StopsIn l first bytes piece all c.in-Err.fault =
    stops_in g.R.Report.has_heard l first bytes piece c.self.inside.taken.items i.kept i.told text c.feed-told.new.reporter sink i.is_kept i.joined
    c.take-text.ensures.text c.in-Err.fault (c.in-Err.ensures.passes i.told c.self.inside.sink.held i.stands) in
    let found : IsFound l first (bytes ++ piece) all (Err c.in-Err.fault) = stop_found l first bytes piece all c.in-Err.fault stops in
    record {
      goes_on = λ none. absurd cc;
      stopped = λ f was.
          subst (λ e. IsFound l first c.note.new.self.items c.take-text.new.taken.items (Err e)) (let same : c.in-Err.fault ≡ f = cc in same)
          (subst (λ b. IsFound l first b c.take-text.new.taken.items (Err c.in-Err.fault)) (ap (λ b. b ++ piece) i.fed ∙ sym c.note.ensures)
          (subst (λ t. IsFound l first (bytes ++ piece) t (Err c.in-Err.fault)) (sym c.take-text.ensures.taken) found));
      may_go_on = λ f was.
          subst (λ (e : ReportFault). (place : ℕ) → e ≢ reports.Decode (faults.Truncated place)) (let same : c.in-Err.fault ≡ f = cc in same)
          (may_go_on l first bytes piece all c.in-Err.fault stops);
    }

pub returns-in-Err-clause-feeds : goal.returns-in-Err-clause-feeds
returns-in-Err-clause-feeds g c =
    let fresh : c.self.inside.fault ≡ None = search rules in
    let i = c.self.invariant.goes_on fresh in
    let l = g.R.Report.line in
    let first = c.self.inside.first.items in
    let piece = c.args.piece.now in
    let text = c.take-text.result.items in
    let bytes = c.self.inside.telling.seen.bytes in
    let fault = c.in-Err.fault in
    let sink : Channel = record { before = c.self.inside.sink.held; after = c.feed-told.new.sink.held; failed = c.feed-told.new.sink.failed } in
    let all = c.self.inside.taken.items ++ text in
    let stops : StopsIn l first bytes piece all fault =
    stops_in g.R.Report.has_heard l first bytes piece c.self.inside.taken.items i.kept i.told text c.feed-told.new.reporter sink i.is_kept i.joined
    c.take-text.ensures.text fault (c.in-Err.ensures.passes i.told c.self.inside.sink.held i.stands) in
    let found : IsFound l first (bytes ++ piece) all (Err fault) = stop_found l first bytes piece all fault stops in
    let new : Flow = record { bytes = c.note.new.self.items; text = c.take-text.new.taken.items; fault = Some fault } in
    subst (λ (o : LaneNow). FeedsFlow l o.first o.flow new piece text (Err fault)) c.self.view_is (record {
      handed = c.take-text.ensures.taken;
      latched = λ other was. absurd cc;
      fed = λ none. c.note.ensures;
      good = tt;
      bad = (
        refl,
        subst (λ b. IsFound l first b c.take-text.new.taken.items (Err fault)) (ap (λ b. b ++ piece) i.fed ∙ sym c.note.ensures)
            (subst (λ t. IsFound l first (bytes ++ piece) t (Err fault)) (sym c.take-text.ensures.taken) found),
      );
      stops = λ none.
          subst (λ b. StopsIn l first b piece c.take-text.new.taken.items fault) i.fed
          (subst (λ t. StopsIn l first bytes piece t fault) (sym c.take-text.ensures.taken) stops);
      may_go_on = may_go_on l first bytes piece all fault stops;
    })
