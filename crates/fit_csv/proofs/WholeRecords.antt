-- A chain goes on with the rows of a record.
use Rattle.fit_csv.proofs.Common.{◌≡◌, ◌∙◌, ◌+◌, ◌++◌, length, map, ap, arith, subst, zip, Defined, Global, IsSomeAnd, length-map, length-zip, Record}
use Rattle.fit_csv.proofs.Common.{Define, Data, Values, MessageDef, DataFits, Fits, defined_at, dev_defs, known, namings_at, layout, dev_layout}
use Rattle.fit_csv.proofs.Common.{csv_text, dev_def_row, dev_row, dev_rows, field_def_row, field_row, field_rows, record_rows}
use Rattle.fit_csv.proofs.Common.{RecordInRange, with_record, OpenFile, Nothing}
use Rattle.std.proofs.Common.{ℕ, ◌<◌, List, Some, length-append}
use Rattle.fit_csv.specs.inner.Judging.{FileTakesRows}
use Rattle.fit_profile.proofs.KnownFacts.{codes-long}
use Rattle.fit_texts.proofs.NamingFacts.{namings_long}
use Rattle.fit_texts.proofs.Shapes.{as_long}
use Rattle.fit_csv.proofs.SevenRows.{none-empty, record-seven}
use Rattle.fit_csv.proofs.SoFar.{data-rows-at, some-at}
use Rattle.fit_csv.proofs.SoundSteps.{dev-layout-long, layout-long}
use Rattle.fit_csv.proofs.WholeRuns.{lifted-run, record-run}

-- how many rows a definition has
pub definition-long : (before : List (Record Global)) (d : MessageDef Global)
    → length (record_rows before (Define d)) ≡ 1 + length d.fields + length (dev_defs d.dev)
definition-long before d =
    omega (
      arith,
      length-append (map field_def_row d.fields) (map dev_def_row (dev_defs d.dev)),
      length-map d.fields field_def_row,
      length-map (dev_defs d.dev) dev_def_row,
    )

-- how many rows a data message has
pub message-long : (before : List (Record Global)) (v : Values Global) → Fits (known before) (Data v)
    → length (record_rows before (Data v)) ≡ 1 + length v.fields + length v.dev
message-long before v fits =
    let (p, is, data_fits) = some-at (defined_at (known before) v.local) (DataFits v) fits in
    let namings = namings_at before v.local in
    let devs = dev_defs p.definition.dev in
    let coded = codes-long before v.local p is in
    ap length (data-rows-at before v p is)
    ∙ omega (
      arith,
      coded,
      as_long (layout p) v.fields data_fits.fields ∙ layout-long p,
      as_long (dev_layout p) v.dev data_fits.dev_fields ∙ dev-layout-long p (codes-long before v.local p is),
      namings_long before v.local p is,
      length-zip p.definition.fields v.fields,
      length-zip devs p.dev_codes,
      length-zip namings v.dev,
      length-zip (zip devs p.dev_codes) (zip namings v.dev),
      length-append (field_rows p.definition.global p.definition.fields v.fields) (dev_rows (dev_defs p.definition.dev) p.dev_codes namings v.dev),
      length-map (zip p.definition.fields v.fields) (λ x. field_row p.definition.global x.0 x.1),
      length-map (zip (zip devs p.dev_codes) (zip namings v.dev)) (λ x. dev_row {A = Global} x.0.0 x.0.1 x.1.0 x.1.1),
    )

some-rows : (before : List (Record Global)) (r : Record Global) → Fits (known before) r → 0 < length (record_rows before r)
some-rows before (Define d) fits = omega (arith, definition-long before d)
some-rows before (Data v) fits = omega (arith, message-long before v fits)

-- one more record
pub record-goes-on : (f : OpenFile) (r : Record Global) (text left : List ℕ) (count : ℕ) → f.part ≡ Nothing → Fits (known f.before) r → RecordInRange r
    → text ≡ csv_text (record_rows f.before r) ++ left → count ≡ length (record_rows f.before r) → FileTakesRows text left count f (with_record f r)
record-goes-on f r text left count none fits range begins many files = record {
  rows = record_rows f.before r;
  begins = begins;
  some = none-empty (record_rows f.before r) (record-seven f.before r);
  run = lifted-run files f (record_rows f.before r) (with_record f r) (record-run f r none fits range);
  many = many;
  more = omega (arith, many, some-rows f.before r fits);
}
