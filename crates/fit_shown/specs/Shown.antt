-- The cells of fields as a line shows them.
use Rattle.std.specs.Prelude.{ℕ, ◌==◌, ◌&&◌, not, if◌then◌else◌, List, Option, None}
use Rattle.std.specs.List.{list_all}
use Rattle.fit_base.specs.declared.items.Items.{Items}
use Rattle.fit_profile.specs.Profile.{Meaning}
use Rattle.fit_profile.specs.Described.{is_printable}
use Rattle.fit_cells.specs.Cells.{cell}

-- The cell of a field, but of a text with a control character all its bytes.
abbrev pub shown_cell : {A : Type 0} → ℕ → Option Meaning → Items A → List ℕ
shown_cell code info items = if (items.width == 1) && not (list_all is_printable (cell code info items)) then cell 0x0D None items else cell code info items
