-- The records skipped have no text.
use Rattle.fit_stream.proofs.Common.{ℕ, [], refl, sym, ap, ◌∙◌, reverse, append-nil, hear_records, text_of, no_line}
use Rattle.fit_report.proofs.Skipped.{records_heard}
use Rattle.fit_stream.proofs.Silence.{no_text}
use Rattle.fit_stream.proofs.silent.SilentReportReport.skip.Goals as goal

pub returns-clause-skips : goal.returns-clause-skips
returns-clause-skips c = record {
  within = c.skip_records-used.ensures.within;
  is_fed = c.skip_records-used.ensures.used;
  refused = λ reason is.
      let none = c.skip_records-used.ensures.refused reason is in
      (ap (λ (r : ℕ × ℕ). r.0) none.0, none.1, refl, refl);
  told = λ heard has are.
      let t = c.skip_records-used.ensures.records (reverse heard) are in (
        hear_records t.0 heard,
        tt,
        records_heard c.skip_records-used.new.self.bytes t.0 heard t.2,
        [],
        sym (append-nil c.args.text.now.items),
        no_text (hear_records t.0 heard) ∙ sym (no_text heard) ∙ sym (append-nil (text_of no_line heard)),
      );
}
