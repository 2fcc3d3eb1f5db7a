use Rattle.fit_cells.proofs.Common.{◌≡◌, ◌++◌, take, map, option_map, meaning, barred, item_text}
use Rattle.fit_cells.proofs.numbers.put_items.Given as goal

abbrev pub invariant-loop-place : goal.invariant-loop-place
invariant-loop-place l = l.text.items ≡ l.initial.text.items
    ++ barred (map (item_text l.class l.code.0 (option_map meaning l.info) l.width) (take l.place l.bits))
