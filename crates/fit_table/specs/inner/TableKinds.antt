-- The kinds of numbers that most recordings have in the cells of the table. No public contract names these definitions.
use Rattle.std.specs.Prelude.{◌≡◌, ℕ, false, true}
use Rattle.fit_cells.specs.declared.form.NumberForm.{NumberForm}
use Rattle.fit_table.specs.declared.kinds.Kind.{Kind}
use Rattle.fit_table.specs.declared.kinds.Kind.TheVariants.{Other, Byte, SignedByte, Short, ShortHeight, LongHeight}
use Rattle.fit_table.specs.declared.kinds.Kind.TheVariants.{ShortThousandths, LongThousandths, LongHundredths}

-- the code of the base type
abbrev pub kind_code : Kind → ℕ
kind_code Other = 0x00
kind_code Byte = 0x02
kind_code SignedByte = 0x01
kind_code Short = 0x84
kind_code ShortHeight = 0x84
kind_code LongHeight = 0x86
kind_code ShortThousandths = 0x84
kind_code LongThousandths = 0x86
kind_code LongHundredths = 0x86

-- how the numbers are shown
abbrev pub kind_form : Kind → NumberForm
kind_form Other = record { signed = false; width = 1; invalid = 0xFF; factor = 1; shift = 0; decimals = 0 }
kind_form Byte = record { signed = false; width = 1; invalid = 0xFF; factor = 1; shift = 0; decimals = 0 }
kind_form SignedByte = record { signed = true; width = 1; invalid = 0x7F; factor = 1; shift = 0; decimals = 0 }
kind_form Short = record { signed = false; width = 2; invalid = 0xFFFF; factor = 1; shift = 0; decimals = 0 }
kind_form ShortHeight = record { signed = false; width = 2; invalid = 0xFFFF; factor = 2; shift = 2500; decimals = 1 }
kind_form LongHeight = record { signed = false; width = 4; invalid = 0xFFFFFFFF; factor = 2; shift = 2500; decimals = 1 }
kind_form ShortThousandths = record { signed = false; width = 2; invalid = 0xFFFF; factor = 1; shift = 0; decimals = 3 }
kind_form LongThousandths = record { signed = false; width = 4; invalid = 0xFFFFFFFF; factor = 1; shift = 0; decimals = 3 }
kind_form LongHundredths = record { signed = false; width = 4; invalid = 0xFFFFFFFF; factor = 1; shift = 0; decimals = 2 }

-- The numbers of a field of this base type that are shown so are of a kind, where that isn't `Other`.
abbrev pub IsOfKind : Kind → ℕ → NumberForm → Type 0
IsOfKind kind code form = (kind ≡ Other → ⊥) → (code ≡ kind_code kind) × (form ≡ kind_form kind)
