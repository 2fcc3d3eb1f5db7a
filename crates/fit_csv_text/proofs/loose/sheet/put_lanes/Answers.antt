use Rattle.std.proofs.Common.{◌≡◌, ◌-◌, arith, drop, length, take}
use Rattle.std.proofs.lemmas.List.{length-drop, length-take-le}
use Rattle.fit_csv_text.proofs.Lanes.{lanes-put}
use borrow.Rule.Slice.PartMut.{mid_of, post_of}
use Rattle.fit_csv_text.proofs.loose.sheet.put_lanes.Goals as goal

pub returns : goal.returns
returns c few short =
    let sheet = c.args.sheet.now in
    let at = c.args.at in
    let size : length sheet ≡ 2048 = c.told-sheet in
    let wide : length (drop at sheet) ≡ 2048 - at = omega (arith, length-drop at sheet, size) in
    lanes-put (take at sheet) (mid_of at (2048 - at) sheet) (post_of at (2048 - at) sheet) c.args.text.now at few
    (length-take-le at sheet (omega (arith, size, c.requires.room))) short c.requires.long
    (omega (arith, length-take-le (2048 - at) (drop at sheet) (omega (arith, wide)), c.requires.room))
