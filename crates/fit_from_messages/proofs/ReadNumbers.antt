-- Numbers that stand in a block.
use Rattle.std.proofs.Common.{ℕ, ◌+◌, ◌<◌, ◌≤◌, ◌^◌, List, length, take, drop, subst, arith, length-take-le, length-drop}
use Rattle.fit_base.specs.Numbers.{IsBytes}
use Rattle.fit_base.specs.declared.number.Order.TheVariants.{Little}
use Rattle.fit_base.proofs.ByteLists.{IsBytes-take, IsBytes-drop}
use Rattle.fit_base.proofs.NumberLaws.{number-below}
use Rattle.fit_from_messages.specs.Parts.{number_read}

pub number_at_below : (width place : ℕ) (bytes : List ℕ) → IsBytes bytes → place + width ≤ length bytes → number_read width place bytes < 256 ^ width
number_at_below width place bytes are room =
    let rest : List ℕ = drop place bytes in
    let enough : width ≤ length rest = omega (arith, room, length-drop place bytes) in
    subst (λ n. number_read width place bytes < 256 ^ n) (length-take-le width rest enough)
    (number-below Little (take width rest) (IsBytes-take width rest (IsBytes-drop place bytes are)))
