-- Fields of bytes.
use Rattle.std.specs.Prelude.{◌≡◌, ◌<◌, ℕ}
use Rattle.fit_base.specs.declared.code.Class.TheVariants.{Bytes}
use Rattle.fit_base.specs.BaseTypes.{item_width}
use Rattle.fit_cells.specs.Cells.{class_of}

-- A field of this base type code and size has items, and they stand for bytes.
pub record IsOfBytes (code size : ℕ) : Type 0 where
  pub class : class_of code (item_width code size) ≡ Bytes
  pub some : 0 < size
