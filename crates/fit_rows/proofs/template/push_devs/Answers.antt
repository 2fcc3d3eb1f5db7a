use Rattle.fit_rows.proofs.Common.{◌∙◌, ◌++◌, ◌∷◌, [], map, sym, ap, ap₂, take, append_assoc, take_more, map-append}
use Rattle.fit_rows.proofs.Common.{DevKey, FrameKey, dev_frame_key, end_of, frame_text, frames_of}
use Rattle.std.proofs.lemmas.List.{take_all}
use Rattle.fit_rows.proofs.FramedRows.{end_more, frames_more}
use Rattle.fit_rows.proofs.template.push_devs.Goals as goal

pub loop-dev-preserved : goal.loop-dev-preserved
loop-dev-preserved c =
    let k = c.loop-dev.dev-index in
    let devs = c.args.devs.now in
    let front = c.args.frames.now.items in
    let before = c.args.end.now.items in
    let keys = map dev_frame_key (take k devs) in
    let d : DevKey = c.dev-item.result in
    let key : FrameKey = dev_frame_key d in
    let more = ap (map dev_frame_key) (take_more devs k d c.loop-dev-test.true ∙ ap (λ x. take k devs ++ (x ∷ [])) (sym c.dev-item.is))
    ∙ map-append dev_frame_key (take k devs) (d ∷ []) in (
      c.in_ok-push_dev.ensures.frames
          ∙ ap₂ (λ fs end. fs ++ (frame_text end key ∷ [])) c.loop-dev.invariant.0 c.loop-dev.invariant.1
          ∙ append_assoc front (frames_of before keys) (frame_text (end_of before keys) key ∷ [])
          ∙ ap (λ fs. front ++ fs) (sym (frames_more before keys key) ∙ ap (frames_of before) (sym more)),
      c.in_ok-push_dev.ensures.end ∙ sym (end_more before keys key) ∙ ap (end_of before) (sym more),
    )

pub returns-clause-frames : goal.returns-clause-frames
returns-clause-frames c =
    c.loop-dev.invariant.0
    ∙ ap (λ ds. c.args.frames.now.items ++ frames_of c.args.end.now.items (map dev_frame_key ds))
    (take_all c.loop-dev.dev-index c.args.devs.now c.loop-dev-test.false)

pub returns-clause-end : goal.returns-clause-end
returns-clause-end c =
    c.loop-dev.invariant.1
    ∙ ap (λ ds. end_of c.args.end.now.items (map dev_frame_key ds)) (take_all c.loop-dev.dev-index c.args.devs.now c.loop-dev-test.false)
