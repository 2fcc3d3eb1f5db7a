use Rattle.fit_rows.proofs.Common.{◌∙◌, ◌++◌, [], map, sym, ap, ap₂, dev_frame_key, end_of, field_key, frames_of}
use Rattle.fit_rows.proofs.FramedRows.{end_append, frames_append}
use Rattle.fit_rows.proofs.template.all_frames.Goals as goal

pub returns-clause-frames : goal.returns-clause-frames
returns-clause-frames c =
    let fields = map (field_key c.args.global) c.args.fields.now in
    let devs = map dev_frame_key c.args.devs.now in
    c.in_ok-push_devs.ensures.frames
    ∙ ap₂ (λ fs end. fs ++ frames_of end devs) c.in_ok-frames.ensures.frames c.in_ok-frames.ensures.end ∙ sym (frames_append [] fields devs)

pub returns-clause-end : goal.returns-clause-end
returns-clause-end c =
    let fields = map (field_key c.args.global) c.args.fields.now in
    let devs = map dev_frame_key c.args.devs.now in
    c.in_ok-push_devs.ensures.end ∙ ap (λ end. end_of end devs) c.in_ok-frames.ensures.end ∙ sym (end_append [] fields devs)
