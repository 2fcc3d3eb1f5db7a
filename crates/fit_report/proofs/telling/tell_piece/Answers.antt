-- A piece is told event by event, but for what the reporter skips.
use Rattle.fit_report.proofs.Common.{◌+◌, ◌++◌, ◌∙◌, List, ℕ, None, [], sym, ap, arith, append-nil, Seen, channel, err_from_is_err_and}
use Rattle.std.proofs.lemmas.List.{take_all}
use Rattle.fit_report.proofs.Pieces.{within_after, fed_after, keeps_after, stops_after}
use Rattle.fit_report.proofs.Skipped.{fed_so}
use Rattle.fit_report.proofs.telling.tell_piece.Goals as goal

pub returns-in_err-skipped-clause-passes : goal.returns-in_err-skipped-clause-passes
returns-in_err-skipped-clause-passes g c =
    let p = err_from_is_err_and c.from_residual.result c.from_residual.ensures.1 in
    let i = c.loop-at.invariant in
    rw (p.1, p.2) (λ told start s.
    stops_after g.R.Report.has_heard g.R.Report.line c.args.decoder.now c.loop-at.decoder told c.args.piece.now c.split_at.result.1.now c.loop-at.at
    c.tell_skipped.new.reporter (record (channel g.K.Sink.contents g.K.Sink.has_failed c.args.sink.now c.tell_skipped.new.sink) { before = start })
    i.within i.is_fed c.split_at.ensures.back c.in_err-skipped.field-0.0 (c.in_err-skipped.ensures.passes told start (i.stands told start s)))

pub returns-in_err-at-clause-passes : goal.returns-in_err-at-clause-passes
returns-in_err-at-clause-passes g c =
    let p = err_from_is_err_and c.from_residual-in_err-at.result c.from_residual-in_err-at.ensures.1 in
    let i = c.loop-at.invariant in
    let piece = c.args.piece.now in
    let used = c.in_ok-skipped.ensures.used in
    rw (p.1, p.2) (λ told start s.
    stops_after g.R.Report.has_heard g.R.Report.line c.args.decoder.now c.tell_skipped.new.decoder told piece c.split_at-in-loop-at.result.1.now
    (c.loop-at.at + c.in_ok-skipped.skipped) c.tell_next.new.reporter
    (record (channel g.K.Sink.contents g.K.Sink.has_failed c.args.sink.now c.tell_next.new.sink) { before = start })
    (within_after piece c.split_at.result.1.now c.loop-at.at c.in_ok-skipped.skipped i.within c.split_at.ensures.back used.0)
    (fed_after c.args.decoder.now c.loop-at.decoder c.tell_skipped.new.decoder piece c.split_at.result.1.now c.loop-at.at c.in_ok-skipped.skipped i.is_fed
    c.split_at.ensures.back used.1)
    c.split_at-in-loop-at.ensures.back c.in_err-at.field-0.0 (c.in_err-at.ensures.passes told start (c.in_ok-skipped.ensures.passes told start (i.stands
    told start s))))

pub loop-at-preserved : goal.loop-at-preserved
loop-at-preserved g c =
    let i = c.loop-at.invariant in
    let piece = c.args.piece.now in
    let skipped = c.in_ok-skipped.ensures in
    let told = c.in_ok-at.ensures in
    let at = c.loop-at.at + c.in_ok-skipped.skipped in
    record {
      within = within_after piece c.split_at-in-loop-at.result.1.now at c.in_ok-at.field-0
          (within_after piece c.split_at.result.1.now c.loop-at.at c.in_ok-skipped.skipped i.within c.split_at.ensures.back skipped.used.0)
          c.split_at-in-loop-at.ensures.back told.used.0;
      is_fed = fed_after c.args.decoder.now c.tell_skipped.new.decoder c.tell_next.new.decoder piece c.split_at-in-loop-at.result.1.now at c.in_ok-at.field-0
          (fed_after c.args.decoder.now c.loop-at.decoder c.tell_skipped.new.decoder piece c.split_at.result.1.now c.loop-at.at c.in_ok-skipped.skipped i.is_fed
          c.split_at.ensures.back skipped.used.1)
          c.split_at-in-loop-at.ensures.back told.used.1;
      stands = λ text start s. told.passes text start (skipped.passes text start (i.stands text start s));
      works = λ good. told.works (skipped.works (i.works good));
      viable = told.viable;
    }

pub loop-at-preserved-then-len-ge-FULL_TEXT : goal.loop-at-preserved-then-len-ge-FULL_TEXT
loop-at-preserved-then-len-ge-FULL_TEXT g c =
    let i = c.loop-at.invariant in
    let piece = c.args.piece.now in
    let skipped = c.in_ok-skipped.ensures in
    record {
      within = within_after piece c.split_at.result.1.now c.loop-at.at c.in_ok-skipped.skipped i.within c.split_at.ensures.back skipped.used.0;
      is_fed = fed_after c.args.decoder.now c.loop-at.decoder c.tell_skipped.new.decoder piece c.split_at.result.1.now c.loop-at.at
          c.in_ok-skipped.skipped i.is_fed c.split_at.ensures.back skipped.used.1;
      stands = λ text start s. skipped.passes text start (i.stands text start s);
      works = λ good. skipped.works (i.works good);
      viable = skipped.viable;
    }

pub tell_next-requires-clause-told : goal.tell_next-requires-clause-told
tell_next-requires-clause-told g c =
    let (text, start, s) = c.requires.told in
    (text, start, c.in_ok-skipped.ensures.passes text start (c.loop-at.invariant.stands text start s))

pub loop-at-init : goal.loop-at-init
loop-at-init g c =
    let old : Seen = c.args.decoder.now in
    record {
      within = omega arith;
      is_fed = fed_so old old c.args.piece.now 0 (ap (λ (b : List ℕ). record old { bytes = b }) (sym (append-nil old.bytes))) c.requires.fresh;
      stands = λ text start s. s;
      works = λ good. good;
      viable = c.requires.viable;
    }

pub tell_skipped-requires-clause-fresh : goal.tell_skipped-requires-clause-fresh
tell_skipped-requires-clause-fresh g c = ap (λ (v : Seen). v.refusal) c.loop-at.invariant.is_fed

pub tell_skipped-requires-clause-told : goal.tell_skipped-requires-clause-told
tell_skipped-requires-clause-told g c = let (text, start, s) = c.requires.told in (text, start, c.loop-at.invariant.stands text start s)

pub tell_next-requires-clause-fresh : goal.tell_next-requires-clause-fresh
tell_next-requires-clause-fresh g c = ap (λ (v : Seen). v.refusal) c.in_ok-skipped.ensures.used.1

pub returns-clause-all : goal.returns-clause-all
returns-clause-all g c =
    let whole : List ℕ → Seen = λ l. record { bytes = c.args.decoder.now.bytes ++ l; refusal = None } in
    c.loop-at.invariant.is_fed ∙ ap whole (take_all c.loop-at.at c.args.piece.now c.loop-at-test.false)

pub returns-clause-passes : goal.returns-clause-passes
returns-clause-passes g c = c.loop-at.invariant.stands

pub returns-clause-viable : goal.returns-clause-viable
returns-clause-viable g c = c.loop-at.invariant.viable

pub returns-clause-works : goal.returns-clause-works
returns-clause-works g c = c.loop-at.invariant.works

pub returns-in_err-skipped-clause-viable : goal.returns-in_err-skipped-clause-viable
returns-in_err-skipped-clause-viable g c = c.tell_skipped.ensures.viable

pub returns-in_err-at-clause-viable : goal.returns-in_err-at-clause-viable
returns-in_err-at-clause-viable g c = c.tell_next.ensures.viable

pub split_at-requires : goal.split_at-requires
split_at-requires g c = c.loop-at.invariant.within

pub split_at-requires-in-loop-at : goal.split_at-requires-in-loop-at
split_at-requires-in-loop-at g c =
    within_after c.args.piece.now c.split_at.result.1.now c.loop-at.at c.in_ok-skipped.skipped c.loop-at.invariant.within c.split_at.ensures.back
    c.in_ok-skipped.ensures.used.0

pub tell_skipped-requires-clause-viable : goal.tell_skipped-requires-clause-viable
tell_skipped-requires-clause-viable g c = c.loop-at.invariant.viable

pub returns-in_err-skipped-clause-refused : goal.returns-in_err-skipped-clause-refused
returns-in_err-skipped-clause-refused g c =
    let p = err_from_is_err_and c.from_residual.result c.from_residual.ensures.1 in
    let i = c.loop-at.invariant in
    rw (p.1, p.2) (keeps_after g.R.Report.has_heard g.R.Report.line c.args.decoder.now c.loop-at.decoder [] c.args.piece.now c.split_at.result.1.now
    c.loop-at.at c.tell_skipped.new.reporter (channel g.K.Sink.contents g.K.Sink.has_failed c.args.sink.now c.tell_skipped.new.sink)
    i.within i.is_fed c.split_at.ensures.back c.tell_skipped.new.decoder c.in_err-skipped.field-0.0 c.in_err-skipped.ensures.refused)

pub returns-in_err-at-clause-refused : goal.returns-in_err-at-clause-refused
returns-in_err-at-clause-refused g c =
    let p = err_from_is_err_and c.from_residual-in_err-at.result c.from_residual-in_err-at.ensures.1 in
    let i = c.loop-at.invariant in
    let piece = c.args.piece.now in
    let used = c.in_ok-skipped.ensures.used in
    rw (p.1, p.2) (keeps_after g.R.Report.has_heard g.R.Report.line c.args.decoder.now c.tell_skipped.new.decoder [] piece
    c.split_at-in-loop-at.result.1.now (c.loop-at.at + c.in_ok-skipped.skipped) c.tell_next.new.reporter
    (channel g.K.Sink.contents g.K.Sink.has_failed c.args.sink.now c.tell_next.new.sink)
    (within_after piece c.split_at.result.1.now c.loop-at.at c.in_ok-skipped.skipped i.within c.split_at.ensures.back used.0)
    (fed_after c.args.decoder.now c.loop-at.decoder c.tell_skipped.new.decoder piece c.split_at.result.1.now c.loop-at.at c.in_ok-skipped.skipped i.is_fed
    c.split_at.ensures.back used.1)
    c.split_at-in-loop-at.ensures.back c.tell_next.new.decoder c.in_err-at.field-0.0 c.in_err-at.ensures.refused)
