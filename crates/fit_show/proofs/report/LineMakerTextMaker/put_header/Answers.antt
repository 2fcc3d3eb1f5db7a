use Rattle.fit_show.proofs.Common.{◌∙◌, ◌++◌, ◌+◌, ap, on_ok_weaker, header_line}
use Rattle.fit_show.proofs.report.LineMakerTextMaker.put_header.Goals as goal

pub returns : goal.returns
returns c = on_ok_weaker c.put_header.result (λ put heard files.
    put ∙ ap (λ k. c.args.text.now.items ++ header_line (k + 1) c.args.header.now c.args.size) files) c.put_header.ensures
