-- The row of a record message in its bytes.
use Rattle.fit_table.proofs.Common.{◌≡◌, ◌∙◌, ◌∷◌, [], length, Bool, false, sym, ap, arith, eq-eqb, ne_eqb, option_and_then, Global, Items, Defined, FieldDef}
use Rattle.fit_table.proofs.Common.{Record, Data, Values, defined_at, known, first_field, layout, dev_layout, Row, AreInBytes, ArePlaces, TellsAmounts, shapes}
use Rattle.fit_table.proofs.Common.{table_message_rows}
use Rattle.fit_table.proofs.Common.{IsSomeAnd, table_row}
use Rattle.std.proofs.Common.{◌%◌, ◌^◌, ◌≤◌, ◌==◌, ℕ, List, Option, Some, None, if◌then◌else◌}
use Rattle.std.proofs.lemmas.List.Sums.{sum_by-append}
use Rattle.std.specs.Prelude.{option_map, unwrap_or}
use Rattle.fit_record.proofs.Gathering.{fields_front}
use Rattle.fit_record.specs.MessageBytes.{message_in}
use Rattle.fit_record.specs.Records.{message_size, sizes}
use Rattle.fit_record.specs.declared.message_bytes.MessageBytes.{MessageBytes}
use Rattle.fit_profile.specs.Accumulated as sums
use Rattle.fit_profile.specs.Told.{told}
use Rattle.fit_profile.specs.declared.told.Told.{Told}
use Rattle.fit_table.specs.declared.amounts.Amounts.{Amounts}
use Rattle.fit_table.specs.declared.columns.Places.{Places}

sizes_within : (m : MessageBytes Global) → length m.body.now ≡ message_size m.defined.now → sizes (shapes m.defined.now.definition.fields) ≤ length m.body.now
sizes_within m long = omega (arith, long, sum_by-append (λ (f : ℕ × ℕ). f.1) (layout m.defined.now) (dev_layout m.defined.now))

-- the numbers of a message stand in its bytes
pub in_bytes : (m : MessageBytes Global) (places : Places) (a : Option Amounts) (t : Told) → ArePlaces m.defined.now.definition.fields places
    → m.defined.now.definition.global ≡ 20 → length m.body.now ≡ message_size m.defined.now → TellsAmounts a t
    → AreInBytes places m.defined.now.definition.order m.body.now a m.defined.now.definition (message_in m) t
in_bytes m places a t are global long tells = record {
  places = are;
  global = global;
  fields = sym (fields_front {A = Global} m.defined.now.definition.order (layout m.defined.now) m.body.now);
  within = sizes_within m long;
  tells = tells;
}

-- no field with a distance to accumulate
counts_nothing : (m : MessageBytes Global) (places : Places) → ArePlaces m.defined.now.definition.fields places → places.counts ≡ false
    → first_field m.defined.now.definition.fields (message_in m).fields 8 ≡ None
counts_nothing m places are none =
    let d = m.defined.now.definition in
    ap (λ (items : List (Items Global)). first_field d.fields items 8) (sym (fields_front {A = Global} d.order (layout m.defined.now) m.body.now))
    ∙ are.counts none d.order m.body.now

no_component : (before : List (Record Global)) (v : Values Global) (p : Defined Global) → defined_at (known before) v.local ≡ Some p
    → p.definition.global ≡ 20 → first_field p.definition.fields v.fields 8 ≡ None → sums.component (known before) sums.distance (Data v) ≡ None
no_component before v p defined global none =
    ap (option_and_then (λ (q : Defined Global). sums.number_of sums.distance q.definition v)) defined
    ∙ ap (λ (b : Bool). if b then option_and_then (λ (f : FieldDef × Items Global). sums.number_in sums.distance f.1)
    (first_field p.definition.fields v.fields 8) else None) (eq-eqb p.definition.global 20 global)
    ∙ ap (option_and_then (λ (f : FieldDef × Items Global). sums.number_in sums.distance f.1)) none

no_distance : (before : List (Record Global)) (v : Values Global) (p : Defined Global) → defined_at (known before) v.local ≡ Some p
    → p.definition.global ≡ 20 → first_field p.definition.fields v.fields 8 ≡ None → (told before v).distance ≡ None
no_distance before v p defined global none =
    ap (option_and_then (sums.next_from (sums.previous_value sums.distance before) sums.distance)) (no_component before v p defined global none)

no_speed : (before : List (Record Global)) (v : Values Global) (p : Defined Global) → defined_at (known before) v.local ≡ Some p
    → p.definition.global ≡ 20 → first_field p.definition.fields v.fields 8 ≡ None → (told before v).speed ≡ None
no_speed before v p defined global none = ap (option_map (λ (x : ℕ). x % 2 ^ 12)) (no_component before v p defined global none)

pub tells_nothing : (before : List (Record Global)) (m : MessageBytes Global) (places : Places) → defined_at (known before) m.local ≡ Some m.defined.now
    → m.defined.now.definition.global ≡ 20 → ArePlaces m.defined.now.definition.fields places → places.counts ≡ false
    → TellsAmounts None (told before (message_in m))
tells_nothing before m places defined global are none =
    let absent = counts_nothing m places are none in
    (no_speed before (message_in m) m.defined.now defined global absent, no_distance before (message_in m) m.defined.now defined global absent)

abbrev row_by : ℕ → List (Record Global) → Values Global → Defined Global → Bool → List Row
row_by file before v p is_record = if is_record then table_row file p.definition v (told before v) ∷ [] else []

by_definition : (file : ℕ) (before : List (Record Global)) (v : Values Global) (p : Defined Global) → defined_at (known before) v.local ≡ Some p
    → table_message_rows file before v ≡ row_by file before v p (p.definition.global == 20)
by_definition file before v p defined =
    ap (λ (o : Option (Defined Global)). unwrap_or (option_map (λ q. row_by file before v q (q.definition.global == 20)) o) []) defined

pub row_of_record : (file : ℕ) (before : List (Record Global)) (v : Values Global) (p : Defined Global) → defined_at (known before) v.local ≡ Some p
    → p.definition.global ≡ 20 → table_message_rows file before v ≡ table_row file p.definition v (told before v) ∷ []
row_of_record file before v p defined global =
    by_definition file before v p defined ∙ ap (row_by file before v p) (eq-eqb p.definition.global 20 global)

pub row_of_other : (file : ℕ) (before : List (Record Global)) (v : Values Global) (p : Defined Global) → defined_at (known before) v.local ≡ Some p
    → (p.definition.global ≡ 20 → ⊥) → table_message_rows file before v ≡ []
row_of_other file before v p defined other =
    by_definition file before v p defined ∙ ap (row_by file before v p) (ne_eqb p.definition.global 20 other)

pub rows_of_other : (file : ℕ) (before : List (Record Global)) (v : Values Global) (o : Option (Defined Global)) → defined_at (known before) v.local ≡ o
    → IsSomeAnd o (λ p. p.definition.global ≡ 20 → ⊥) → table_message_rows file before v ≡ []
rows_of_other file before v None here other = absurd other
rows_of_other file before v (Some p) here other = row_of_other file before v p here other
