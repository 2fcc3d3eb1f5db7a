use Rattle.fit_rows.proofs.Common.{◌≤◌, ◌∙◌, ◌++◌, [], length, map, drop, sym, ap, subst, arith, length-map, on_ok_weaker, and_sheet}
use Rattle.fit_rows.proofs.Common.{HasItems, MessageKey, end_of, frame_keys, frames_of, value_rows, values_text, row, optional_number}
use Rattle.fit_rows.proofs.Common.{message_label, instant_text}
use Rattle.std.proofs.Common.{ℕ, List, codes, decimal}
use Rattle.std.specs.Prelude.{option_map, unwrap_or}
use Rattle.fit_shown.proofs.FieldWalks.{shape}
use Rattle.fit_rows.proofs.ValueRows.{values_rows}
use Rattle.fit_rows.proofs.FramedRows.{frames_shape}
use Rattle.fit_texts.proofs.Sheets.{rows_after}
use Rattle.fit_rows.proofs.template.Template.put.Goals as goal

pub put_frames-requires-clause-fields : goal.put_frames-requires-clause-fields
put_frames-requires-clause-fields c =
    let key : MessageKey = c.args.self.now in
    let frames = c.as_slice-frames.ensures.value ∙ c.self.invariant.3 ∙ ap (λ (k : MessageKey). frames_of [] (frame_keys k)) c.self.view_is in
    let same = ap (map shape) frames ∙ frames_shape [] (frame_keys key) in
    (c.requires.0, c.requires.1, subst (λ fs. HasItems c.args.items.now (fs ++ c.requires.0) c.requires.1) (sym same) c.requires.2)

pub returns : goal.returns
returns c = on_ok_weaker c.put_frames.result (λ takes more all h.
    let key : MessageKey = c.args.self.now in
    let keys = frame_keys key in
    let first = and_sheet c.put_first.new.text.items c.put_first.new.sheet c.in_ok-at.at in
    let frames = c.as_slice-frames.ensures.value ∙ c.self.invariant.3 ∙ ap (λ (k : MessageKey). frames_of [] (frame_keys k)) c.self.view_is in
    let end = c.self.invariant.4 ∙ ap (λ (k : MessageKey). end_of [] (frame_keys k)) c.self.view_is in
    let same = ap (map shape) frames ∙ frames_shape [] keys in
    let t = takes more all (subst (λ fs. HasItems c.args.items.now (fs ++ more) all) (sym same) h) in
    let long = subst (λ (fs : List (ℕ × ℕ)). length fs ≤ length all) same t.0 in
    let text = t.2 ∙ (λ i. first ++ values_text (frames i) (end i) all)
    ∙ ap (λ u. first ++ u) (values_rows keys [] all (omega (arith, long, length-map {B = ℕ × ℕ} keys (λ f. (f.code, f.size))))) in
    let begun = row (codes "data") (decimal key.own.local) (optional_number c.args.offset) (message_label key.own.global)
    (unwrap_or (option_map instant_text c.args.time) []) [] [] in (
      long,
      subst (λ (fs : List (ℕ × ℕ)). HasItems c.put_frames.new.items more (drop (length fs) all)) same t.1,
      record { text = rows_after c.args.text.now.items first c.put_frames.new.text.items begun (value_rows keys all) c.in_ok-at.ensures.rows text },
    )) c.put_frames.ensures
