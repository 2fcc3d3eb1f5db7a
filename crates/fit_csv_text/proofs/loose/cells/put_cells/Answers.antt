use Rattle.std.proofs.Common.{◌∙◌, ◌++◌, ◌+◌, List, ℕ, arith, drop, refl, subst, sym, take}
use Rattle.std.proofs.lemmas.List.{length-drop, length-take-le, take_rest}
use Rattle.fit_csv_text.specs.declared.loose.Spot.{Spot}
use Rattle.fit_csv_text.specs.inner.Loose.{Opens, WritesOn}
use Rattle.fit_csv_text.proofs.PlainTexts.{plain-left}
use Rattle.fit_csv_text.proofs.ShortCells.{end-byte, more-cells, short-goes-on}
use Rattle.fit_csv_text.proofs.loose.cells.put_cells.Goals as goal

pub end_spot-spot-requires : goal.end_spot-spot-requires
end_spot-spot-requires c =
    let left = c.loop-place.left.now in
    let cell = c.in-Some.cell in
    end-byte (drop (cell.shown + 2) left) (drop cell.size left) cell.end c.in-Some.ensures.ends

pub loop-place-preserved : goal.loop-place-preserved
loop-place-preserved c =
    let written = c.args.written.now in
    let start = written ++ take c.args.at c.args.sheet.now in
    let front = take c.loop-place.place c.loop-place.sheet in
    let left = c.loop-place.left.now in
    let cell = c.in-Some.cell in
    let short = c.in-Some.ensures in
    let bare = take cell.shown (drop 1 left) in
    let size = length-take-le cell.shown (drop 1 left) (omega (arith, short.few, short.enough, length-drop 1 left)) in
    let opens = subst (λ (spot : Spot). Opens spot bare) c.loop-place.invariant.spot (c.if-not-opens_bare.ensures bare refl (sym size)) in
    let more = take c.put_cell-place.result c.put_cell-place.new.sheet in
    let goes = more-cells c.args.text.now left (drop cell.size left) start written front bare more cell.end c.loop-place.invariant.goes
    (short-goes-on (written ++ front) left cell.shown cell.end cell.size short opens) c.put_cell-place.ensures.put in record {
      place = (
        omega (arith, c.put_cell-place.ensures.place, c.loop-place.invariant.place.0),
        omega (arith, c.put_cell-place.ensures.place, short.few, c.loop-place-test.true, c.requires.room),
      );
      spot = c.end_spot-spot.ensures ∙ goes.0;
      goes = subst (λ (l : List ℕ). WritesOn c.args.text.now l start (written ++ more)) (sym (take_rest left cell.size)) goes.1;
      lines = λ plain. plain-left left cell.size (c.loop-place.invariant.lines plain);
    }
