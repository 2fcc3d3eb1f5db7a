-- What holds of numbers, their bytes and the items of a field.
use Rattle.std.specs.Prelude.{◌≡◌, ◌↔◌, ◌⊎◌, ℕ, ◌^◌, ◌<◌, List, length, ℤ, pos, neg_ℤ, ◌+ℤ◌, ◌≤ℤ◌, ◌<ℤ◌}
use Rattle.fit_base.specs.declared.items.Items.{Items}
use Rattle.fit_base.specs.declared.number.Order.{Order}
use Rattle.fit_base.specs.Numbers.{IsBytes, number, number_bytes, twos_complement}
use Rattle.fit_base.specs.Fields.{HasShape, AreItemsOf, items_bytes}

-- As many bytes as a width has, and the numbers below 256 ^ width, determine each other.
pub record NumbersAndBytes : Type 0 where
  pub are_bytes : (order : Order) (width n : ℕ) → IsBytes (number_bytes order width n)
  pub as_long : (order : Order) (width n : ℕ) → length (number_bytes order width n) ≡ width
  pub one_number :
      (order : Order) (width n : ℕ) (bytes : List ℕ) → IsBytes bytes → length bytes ≡ width →
      (n ≡ number order bytes) ↔ ((n < 256 ^ width) × (bytes ≡ number_bytes order width n))

-- Items are those of a field's bytes just where they have the field's shape and the bytes are theirs, one after another.
abbrev pub ItemsAndBytes : Type 0 → Type 0
ItemsAndBytes A =
    (order : Order) (code size : ℕ) (items : Items A) (bytes : List ℕ) → IsBytes bytes →
    AreItemsOf order code size bytes items ↔ (HasShape code size items × (bytes ≡ items_bytes order items))

-- A number of two's complement lies from - 2 ^ (8 * width - 1) to 2 ^ (8 * width - 1) - 1, and is the bits, or those less 256 ^ width.
pub record IsTwosComplement (width bits : ℕ) (z : ℤ) : Type 0 where
  pub from : neg_ℤ (pos (256 ^ width)) ≤ℤ (z +ℤ z)
  pub below : (z +ℤ z) <ℤ pos (256 ^ width)
  pub same_bits : (z ≡ pos bits) ⊎ (z +ℤ pos (256 ^ width) ≡ pos bits)

-- Bits stand for one number of two's complement.
abbrev pub SignedNumbers : Type 0
SignedNumbers = (width bits : ℕ) (z : ℤ) → bits < 256 ^ width → IsTwosComplement width bits z ↔ (z ≡ twos_complement width bits)
