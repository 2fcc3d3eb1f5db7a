-- Items of any shape.
use Rattle.fit_csv.proofs.Common.{◌≡◌, zero, suc, ◌^◌, ◌/◌, [], ◌∷◌, length, refl, arith, AllByRecursion, Global, item_width, HasShape, Items}
use Rattle.std.proofs.Common.{ℕ, ◌<◌, List}
use Rattle.std.proofs.Math.Nat.{pow-suc}
use Rattle.fit_cells.proofs.ItemFacts.{shape_whole}

power_above : (w : ℕ) → 0 < 256 ^ w
power_above zero = omega arith
power_above (suc w) = let h = power_above w in rw (pow-suc 256 w) (omega (arith, h))

zeros : ℕ → List ℕ
zeros zero = []
zeros (suc n) = 0 ∷ zeros n

length-zeros : (n : ℕ) → length (zeros n) ≡ n
unfolding zeros
length-zeros zero = refl
length-zeros (suc n) = let h = length-zeros n in omega (arith, h)

zeros-below : (n limit : ℕ) → 0 < limit → AllByRecursion (λ m. m < limit) (zeros n)
unfolding zeros
zeros-below zero limit h = tt
zeros-below (suc n) limit h = (h, zeros-below n limit h)

-- there are items of each shape
pub zero-items : (code size : ℕ) → (items : Items Global) × HasShape code size items
zero-items code size =
    let w = item_width code size in (
      record { width = item_width code size; bits = zeros (size / item_width code size) },
      record {
        width = refl;
        whole = shape_whole code size (item_width code size) (zeros (size / item_width code size)) refl (length-zeros (size / item_width code size));
        fits = zeros-below (size / item_width code size) (256 ^ item_width code size) (power_above (item_width code size));
      },
    )
