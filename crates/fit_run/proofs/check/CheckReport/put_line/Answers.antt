use Rattle.fit_run.proofs.Common.{◌++◌, ◌∙◌, ap, file_line}
use Rattle.fit_run.proofs.Counts.{line_put}
use Rattle.fit_run.proofs.check.CheckReport.put_line.Goals as goal

pub returns : goal.returns
returns c =
    let self = c.args.self.now in
    line_put c.args.text.now.items c.put_numbered.new.text.items c.put_numbered-2.new.text.items c.put_numbered-3.new.text.items self.files c.from.result
    self.records
    c.in_ok-put_numbered.ensures c.in_ok-put_numbered-2.ensures c.in_ok-put_numbered-3.ensures
    ∙ ap (λ size. c.args.text.now.items ++ file_line self.files size self.records) c.from.ensures
