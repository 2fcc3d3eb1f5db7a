use Rattle.fit_rows.proofs.Common.{◌∙◌, ◌+◌, [], length, ap, frames_of, frame_keys, MessageKey}
use Rattle.fit_rows.proofs.FramedRows.{frames_counted}
use Rattle.fit_rows.proofs.template.Template.row_count.Goals as goal

pub returns : goal.returns
returns c =
    let frames = c.as_slice.ensures.value ∙ c.self.invariant.3 ∙ ap (λ (k : MessageKey). frames_of [] (frame_keys k)) c.self.view_is in
    ap (λ n. 1 + n) (ap length frames ∙ frames_counted [] (frame_keys c.args.self.now))
