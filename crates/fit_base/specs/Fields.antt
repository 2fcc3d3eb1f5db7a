-- The bytes of one field of a data message (section "Data Message").
use Rattle.std.specs.Prelude.{◌≡◌, ℕ, ◌*◌, ◌<◌, ◌^◌, ◌==◌, ◌&&◌, Bool, nat_lt, List, length, flat_map, slice_index, take, drop}
use Rattle.std.specs.List.{AllByRecursion, list_all}
use Rattle.fit_base.specs.declared.items.Items.{Items}
use Rattle.fit_base.specs.declared.number.Order.{Order}
use Rattle.fit_base.specs.BaseTypes.{item_width}
use Rattle.fit_base.specs.Numbers.{number, number_bytes}

-- the items, one after another
abbrev pub items_bytes : {A : Type 0} → Order → Items A → List ℕ
items_bytes order items = flat_map (number_bytes order items.width) items.bits

-- The items are as many and as wide as a field of this base type and size has.
pub record HasShape {A : Type 0} (code size : ℕ) (items : Items A) : Type 0 where
  pub width : items.width ≡ item_width code size
  pub whole : length items.bits * items.width ≡ size
  pub fits : AllByRecursion (λ n. n < 256 ^ items.width) items.bits

-- the same as a test
abbrev pub has_shape : {A : Type 0} → ℕ → ℕ → Items A → Bool
has_shape code size items =
    (items.width == item_width code size) && ((length items.bits * items.width == size) && list_all (λ n. nat_lt n (256 ^ items.width)) items.bits)

-- A field's bytes are cut into pieces as wide as its items, and each item is the number of its piece.
pub record AreItemsOf {A : Type 0} (order : Order) (code size : ℕ) (bytes : List ℕ) (items : Items A) : Type 0 where
  pub as_long : length bytes ≡ size
  pub width : items.width ≡ item_width code size
  pub whole : length items.bits * items.width ≡ size
  pub pieces : (k : ℕ) → k < length items.bits → slice_index items.bits k ≡ number order (take items.width (drop (k * items.width) bytes))
