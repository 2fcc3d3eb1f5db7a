-- The entries of fields, one after another.
use Rattle.std.proofs.Common.{◌≡◌, ◌∙◌, ℕ, zero, suc, ◌+◌, ◌<◌, List, [], ◌∷◌, ◌++◌, length, map, take, get_or, refl, sym, ap, ap₂, arith, append_assoc}
use Rattle.std.proofs.lemmas.List.{append-nil, take_more, map-append}
use Rattle.std.proofs.lemmas.Option.{slice_get-get_or}
use Rattle.std.specs.Prelude.{Option, Some, None, option_and_then, slice_get, sum_by, unwrap_or}
use Rattle.std.proofs.lemmas.List.Sums.{sum_by-append, sum_by-cons}
use Rattle.fit_profile.specs.Described.{Naming, nameless}
use Rattle.fit_record.specs.declared.definition.DevDef.{DevDef}
use Rattle.fit_record.specs.declared.definition.FieldDef.{FieldDef}
use Rattle.fit_messages.specs.Blocks.{Column, column, dev_column, entries, entry, whole}
use Rattle.fit_messages.specs.inner.Columns.{dev_columns, widths}

widths-cons : (c : Column) (columns : List Column) → widths (c ∷ columns) ≡ whole c.size + widths columns
widths-cons c columns = sum_by-cons (λ (c : Column). whole c.size) c columns

-- one entry more
pub entries_more : (at : ℕ) (columns : List Column) (c : Column) → entries at (columns ++ c ∷ []) ≡ entries at columns ++ entry (at + widths columns) c
entries_more at [] c = append-nil (entry at c) ∙ ap (λ a. entry a c) (let same : at ≡ at + 0 = omega arith in same)
entries_more at (d ∷ columns) c =
    ap (λ b. entry at d ++ b) (entries_more (at + whole d.size) columns c)
    ∙ sym (append_assoc (entry at d) (entries (at + whole d.size) columns) (entry (at + whole d.size + widths columns) c))
    ∙ ap (λ a. (entry at d ++ entries (at + whole d.size) columns) ++ entry a c)
    (let same : at + whole d.size + widths columns ≡ at + widths (d ∷ columns) = omega (arith, widths-cons d columns) in same)

-- entries one after another
pub entries-append : (at : ℕ) (columns more : List Column) → entries at (columns ++ more) ≡ entries at columns ++ entries (at + widths columns) more
entries-append at [] more = ap (λ a. entries a more) (let same : at ≡ at + 0 = omega arith in same)
entries-append at (d ∷ columns) more =
    ap (λ b. entry at d ++ b) (entries-append (at + whole d.size) columns more)
    ∙ sym (append_assoc (entry at d) (entries (at + whole d.size) columns) (entries (at + whole d.size + widths columns) more))
    ∙ ap (λ a. (entry at d ++ entries (at + whole d.size) columns) ++ entries a more)
    (let same : at + whole d.size + widths columns ≡ at + widths (d ∷ columns) = omega (arith, widths-cons d columns) in same)

-- ---- fields

-- their items are as wide as the fields are
pub widths_of_fields : (global : ℕ) (fields : List FieldDef) → widths (map (column global) fields) ≡ sum_by (λ f. whole f.size) fields
widths_of_fields global [] = refl
widths_of_fields global (f ∷ fields) =
    omega (
      arith,
      widths-cons (column global f) (map (column global) fields),
      widths_of_fields global fields,
      sum_by-cons (λ (f : FieldDef). whole f.size) f fields,
    )

-- ---- developer fields

abbrev pub nothing : DevDef
nothing = record { number = 0; size = 0; index = 0 }

-- a naming by its parts
pub naming_parts : (o : Option Naming)
    → record { name = option_and_then (λ (t : Naming). t.name) o; unit = option_and_then (λ (t : Naming). t.unit) o } ≡ unwrap_or o nameless
naming_parts None = refl
naming_parts (Some n) = refl

pub length-dev_columns : (fields : List DevDef) (coded : List ℕ) (namings : List Naming) → length coded ≡ length fields → length namings ≡ length fields
    → length (dev_columns fields coded namings) ≡ length fields
length-dev_columns [] coded namings more long = refl
length-dev_columns (f ∷ fields) [] namings more long = absurd (omega (arith, more))
length-dev_columns (f ∷ fields) (code ∷ coded) [] more long = absurd (omega (arith, long))
length-dev_columns (f ∷ fields) (code ∷ coded) (n ∷ namings) more long =
    ap suc (length-dev_columns fields coded namings (omega (arith, more)) (omega (arith, long)))

column_at : (fields : List DevDef) (coded : List ℕ) (namings : List Naming) (k : ℕ) (e : Column) → k < length fields
    → length coded ≡ length fields → length namings ≡ length fields
    → get_or (dev_columns fields coded namings) k e ≡ dev_column (get_or fields k nothing) (get_or coded k 0) (get_or namings k nameless)
column_at [] coded namings k e within more long = absurd (omega (arith, within))
column_at (f ∷ fields) [] namings k e within more long = absurd (omega (arith, more))
column_at (f ∷ fields) (code ∷ coded) [] k e within more long = absurd (omega (arith, long))
column_at (f ∷ fields) (code ∷ coded) (n ∷ namings) zero e within more long = refl
column_at (f ∷ fields) (code ∷ coded) (n ∷ namings) (suc k) e within more long =
    column_at fields coded namings k e (omega (arith, within)) (omega (arith, more)) (omega (arith, long))

-- one developer field more
pub columns_taken : (fields : List DevDef) (coded : List ℕ) (namings : List Naming) (k : ℕ) → k < length fields
    → length coded ≡ length fields → length namings ≡ length fields
    → take (k + 1) (dev_columns fields coded namings)
    ≡ take k (dev_columns fields coded namings) ++ (dev_column (get_or fields k nothing) (get_or coded k 0) (unwrap_or (slice_get namings k) nameless) ∷ [])
columns_taken fields coded namings k within more long =
    let all = dev_columns fields coded namings in
    let none = dev_column nothing 0 nameless in
    let there = slice_get-get_or namings k nameless (omega (arith, within, long)) in
    take_more all k none (omega (arith, within, length-dev_columns fields coded namings more long))
    ∙ ap (λ (x : Column). take k all ++ (x ∷ [])) (column_at fields coded namings k none within more long
    ∙ ap (λ o. dev_column (get_or fields k nothing) (get_or coded k 0) (unwrap_or o nameless)) (sym there))

pub widths_of_devs : (fields : List DevDef) (coded : List ℕ) (namings : List Naming) (k : ℕ) → length coded ≡ length fields → length namings ≡ length fields
    → widths (take k (dev_columns fields coded namings)) ≡ sum_by (λ f. whole f.size) (take k fields)
widths_of_devs fields coded namings zero more long = refl
widths_of_devs [] coded namings (suc k) more long = refl
widths_of_devs (f ∷ fields) [] namings (suc k) more long = absurd (omega (arith, more))
widths_of_devs (f ∷ fields) (code ∷ coded) [] (suc k) more long = absurd (omega (arith, long))
widths_of_devs (f ∷ fields) (code ∷ coded) (n ∷ namings) (suc k) more long =
    omega (
      arith,
      widths-cons (dev_column f code n) (take k (dev_columns fields coded namings)),
      widths_of_devs fields coded namings k (omega (arith, more)) (omega (arith, long)),
      sum_by-cons (λ (f : DevDef). whole f.size) f (take k fields),
    )

-- ---- one field more

pub sum_taken : {X : Type 0} (f : X → ℕ) (xs : List X) (k : ℕ) (d : X) → k < length xs
    → sum_by f (take (k + 1) xs) ≡ sum_by f (take k xs) + f (get_or xs k d)
sum_taken f xs k d within =
    let x = get_or xs k d in
    ap (sum_by f) (take_more xs k d within) ∙ sum_by-append f (take k xs) (x ∷ []) ∙ ap (λ n. sum_by f (take k xs) + n) (sum_by-cons f x [] ∙ omega arith)

-- an entry more
entry_told : (at : ℕ) (columns more : List Column) (c : Column) (old bytes now : List ℕ) (end : ℕ) → more ≡ columns ++ c ∷ []
    → bytes ≡ old ++ entries at columns
    → end ≡ at + widths columns
    → now ≡ bytes ++ entry end c
    → now ≡ old ++ entries at more
entry_told at columns more c old bytes now end is told far put =
    put ∙ ap₂ (λ b e. b ++ entry e c) told far ∙ append_assoc old (entries at columns) (entry (at + widths columns) c)
    ∙ ap (λ b. old ++ b) (sym (entries_more at columns c) ∙ ap (entries at) (sym is))

pub field_told : (global at : ℕ) (fields : List FieldDef) (k : ℕ) (d : FieldDef) (old bytes now : List ℕ) (end : ℕ) → k < length fields
    → bytes ≡ old ++ entries at (map (column global) (take k fields))
    → end ≡ at + sum_by (λ f. whole f.size) (take k fields)
    → now ≡ bytes ++ entry end (column global (get_or fields k d))
    → now ≡ old ++ entries at (map (column global) (take (k + 1) fields))
field_told global at fields k d old bytes now end within told far put =
    let some = take k fields in
    let f = get_or fields k d in
    entry_told at (map (column global) some) (map (column global) (take (k + 1) fields)) (column global f) old bytes now end
    (ap (map (column global)) (take_more fields k d within) ∙ map-append (column global) some (f ∷ [])) told
    (far ∙ ap (λ n. at + n) (sym (widths_of_fields global some))) put

pub dev_told : (at : ℕ) (fields : List DevDef) (coded : List ℕ) (namings : List Naming) (k : ℕ) (old bytes now : List ℕ) (end : ℕ) (c : Column)
    → k < length fields → length coded ≡ length fields → length namings ≡ length fields
    → bytes ≡ old ++ entries at (take k (dev_columns fields coded namings))
    → end ≡ at + sum_by (λ f. whole f.size) (take k fields)
    → c ≡ dev_column (get_or fields k nothing) (get_or coded k 0) (unwrap_or (slice_get namings k) nameless)
    → now ≡ bytes ++ entry end c
    → now ≡ old ++ entries at (take (k + 1) (dev_columns fields coded namings))
dev_told at fields coded namings k old bytes now end c within more long told far is put =
    let all = dev_columns fields coded namings in
    entry_told at (take k all) (take (k + 1) all) c old bytes now end
    (columns_taken fields coded namings k within more long ∙ ap (λ (x : Column). take k all ++ (x ∷ [])) (sym is)) told
    (far ∙ ap (λ n. at + n) (sym (widths_of_devs fields coded namings k more long))) put

-- the entries of fields and of developer fields
pub both_entries : (start middle global : ℕ) (fields : List FieldDef) (devs : List Column) (b0 b1 b2 : List ℕ) → b0 ≡ []
    → b1 ≡ b0 ++ entries start (map (column global) fields)
    → middle ≡ start + sum_by (λ f. whole f.size) fields
    → b2 ≡ b1 ++ entries middle devs
    → b2 ≡ entries start (map (column global) fields ++ devs)
both_entries start middle global fields devs b0 b1 b2 none first far second =
    let columns = map (column global) fields in
    second
    ∙ ap₂ (λ b m. b ++ entries m devs) (first ∙ ap (λ b. b ++ entries start columns) none)
    (far ∙ ap (λ n. start + n) (sym (widths_of_fields global fields)))
    ∙ sym (entries-append start columns devs)
