use Rattle.fit_rows.proofs.Common.{◌∙◌, ◌++◌, ◌∷◌, [], map, get_or, sym, ap, ap₂, take, FieldDef, FrameKey, end_of, field_key, frame_text, frames_of}
use Rattle.std.proofs.lemmas.List.{take_all}
use Rattle.fit_rows.proofs.FramedRows.{end_more, frames_more, keys_more}
use Rattle.fit_rows.proofs.template.field_frames.Goals as goal

abbrev nothing : FieldDef
nothing = record { number = 0; size = 0; code = 0 }

pub loop-field-preserved : goal.loop-field-preserved
loop-field-preserved c =
    let k = c.loop-field.field-index in
    let fields = c.args.fields.now in
    let keys = map (field_key c.args.global) (take k fields) in
    let key : FrameKey = field_key c.args.global (get_or fields k nothing) in
    let more = keys_more c.args.global fields k nothing c.loop-field-test.true in (
      c.in_ok-push_field.ensures.frames
          ∙ ap₂ (λ fs end. fs ++ (frame_text end key ∷ [])) c.loop-field.invariant.0 c.loop-field.invariant.1
          ∙ sym (frames_more [] keys key) ∙ ap (frames_of []) (sym more),
      c.in_ok-push_field.ensures.end ∙ sym (end_more [] keys key) ∙ ap (end_of []) (sym more),
    )

pub returns-clause-frames : goal.returns-clause-frames
returns-clause-frames c =
    c.loop-field.invariant.0
    ∙ ap (λ fs. frames_of [] (map (field_key c.args.global) fs)) (take_all c.loop-field.field-index c.args.fields.now c.loop-field-test.false)

pub returns-clause-end : goal.returns-clause-end
returns-clause-end c =
    c.loop-field.invariant.1
    ∙ ap (λ fs. end_of [] (map (field_key c.args.global) fs)) (take_all c.loop-field.field-index c.args.fields.now c.loop-field-test.false)
