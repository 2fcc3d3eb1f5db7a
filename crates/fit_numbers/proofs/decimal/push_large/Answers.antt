use Rattle.fit_numbers.proofs.Common.{◌<◌, ◌≤◌, ◌/◌, arith, length, inl, inr, cases_eq, length-decimal-le_wide}
use Rattle.fit_numbers.proofs.DigitFacts.{short-whole}
use Rattle.fit_numbers.proofs.decimal.push_large.Goals as goal

pub push_fraction-requires-clause-room : goal.push_fraction-requires-clause-room
push_fraction-requires-clause-room c = elim (cases_eq c.args.decimals 0) [
  | inl none ↦ omega (arith, none, c.format.ensures.short, c.push_str.ensures.len, c.requires.room)
  | inr some ↦
      let above : 0 < c.args.decimals = omega (arith, some) in
      let whole = short-whole c.args.size c.power-unit.result (omega (arith, c.ranges.size)) (c.power-unit.ensures.ten above) in
      let short : length c.format.result.now ≤ 38 =
      rw c.format.ensures.text (length-decimal-le_wide 38 (c.args.size / c.power-unit.result) (omega arith) whole (omega (arith, whole))) in
      omega (arith, short, c.push_str.ensures.len, c.requires.room, c.requires.few)
]
