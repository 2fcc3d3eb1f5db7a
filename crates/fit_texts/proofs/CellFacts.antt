-- What cells show.
use Rattle.fit_texts.proofs.Common.{◌≡◌, ◌^◌, length, refl, ap, arith, optional_number}
use Rattle.std.proofs.Common.{ℕ, ◌<◌, Option, Some, None}
use Rattle.std.specs.Prelude.{IfSome}
use Rattle.std.proofs.lemmas.Fmt.{decimal_nonempty}
use Rattle.fit_cells.specs.Rows.{Cell}
use Rattle.fit_record.specs.Records.{DataHeaderFits}

-- an empty cell shows no number
pub none-shown : (cell : Cell) (count : Option ℕ) → IfSome count (λ n. n < 2 ^ 8) → optional_number count ≡ cell → length cell ≡ 0 → None ≡ count
none-shown cell None small e none = refl
none-shown cell (Some n) small e none = let some = decimal_nonempty n (omega (arith, small)) in let l = ap length e in absurd (omega (arith, some, l, none))

pub small-offset : (local : ℕ) (offset : Option ℕ) → DataHeaderFits local offset → IfSome offset (λ n. n < 2 ^ 8)
small-offset local None fits = tt
small-offset local (Some n) fits = omega (arith, fits.1)

pub small-local : (local : ℕ) (offset : Option ℕ) → DataHeaderFits local offset → local < 16
small-local local None fits = fits
small-local local (Some n) fits = omega (arith, fits.0)

-- an empty cell shows no time offset
pub no-offset : (cell : Cell) (local : ℕ) (offset : Option ℕ) → DataHeaderFits local offset → optional_number offset ≡ cell → length cell ≡ 0 → None ≡ offset
no-offset cell local offset fits = none-shown cell offset (small-offset local offset fits)
