-- The records skipped are counted, and have no text.
use Rattle.fit_run.proofs.Common.{ℕ, [], ◌+◌, ◌∙◌, refl, sym, add-zero, ap, reverse, arith, hear_records, text_of, check_line}
use Rattle.std.proofs.lemmas.List.{append-nil}
use Rattle.fit_report.proofs.Skipped.{records_heard}
use Rattle.fit_run.proofs.Counts.{few_counted, records_counted, silent_over}
use Rattle.fit_run.proofs.check.CheckReportReport.skip.Goals as goal

pub overflow_add-self : goal.overflow_add-self
overflow_add-self c =
    let self = c.args.self.now in
    let (heard, has, are) = c.requires.told in
    let t = c.skip_records-used.ensures.records (reverse heard) are in
    let new = c.skip_records-used.new.self.bytes in
    let count = c.skip_records-used.result.1 in
    let records = t.0 in
    let few = few_counted self.files self.data_size (self.records + count) (hear_records records heard)
    (records_counted heard records self.files self.data_size self.records count t.1 has)
    (new, c.skip_records-used.ensures.viable, records_heard new records heard t.2) in
    omega (arith, few.1)

pub returns-clause-skips : goal.returns-clause-skips
returns-clause-skips c = record {
  within = c.skip_records-used.ensures.within;
  is_fed = c.skip_records-used.ensures.used;
  refused = λ reason is.
      let none = c.skip_records-used.ensures.refused reason is in (
        ap (λ (r : ℕ × ℕ). r.0) none.0,
        none.1,
        ap (λ (r : ℕ × ℕ). record c.args.self.now { records = c.args.self.now.records + r.1 }) none.0
            ∙ ap (λ n. record c.args.self.now { records = n }) (add-zero c.args.self.now.records),
        refl,
      );
  told = λ heard has are.
      let self = c.args.self.now in
      let t = c.skip_records-used.ensures.records (reverse heard) are in
      let records = t.0 in (
        hear_records records heard,
        records_counted heard records self.files self.data_size self.records c.skip_records-used.result.1 t.1 has,
        records_heard c.skip_records-used.new.self.bytes records heard t.2,
        [],
        sym (append-nil c.args.text.now.items),
        silent_over heard records ∙ sym (append-nil (text_of check_line heard)),
      );
}
