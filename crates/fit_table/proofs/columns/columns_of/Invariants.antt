use Rattle.std.proofs.Common.{ℕ, ◌≡◌, ◌<◌, length, slice_index_or}
use Rattle.fit_table.specs.inner.TableColumns.{IsColumn, shown_number}
use Rattle.fit_table.specs.declared.columns.Column.TheVariants.{Absent}
use Rattle.fit_table.specs.declared.rows.TheConstants.{SHOWN}
use Rattle.fit_table.proofs.columns.columns_of.Given as goal

abbrev pub invariant-loop-place : goal.invariant-loop-place
invariant-loop-place l = (length l.columns ≡ SHOWN)
    × ((field : ℕ) → field < l.place → IsColumn l.fn.fields (shown_number field) (slice_index_or l.columns field Absent))
