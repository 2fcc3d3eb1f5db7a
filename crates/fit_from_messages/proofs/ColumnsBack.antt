-- The entries of the fields that a definition has.
use Rattle.std.proofs.Common.{◌≡◌, ◌∙◌, ℕ, suc, ◌+◌, ◌<◌, List, [], ◌∷◌, ◌++◌, Bool, true, false, refl, ap, ap₂, arith, length}
use Rattle.std.proofs.lemmas.List.{length-append, length-map, map-append}
use Rattle.std.specs.Global.{Global}
use Rattle.std.specs.List.{AllByRecursion, list_all}
use Rattle.std.specs.Prelude.{if◌then◌else◌, map, nat_lt, unwrap_or, zip}
use Rattle.fit_messages.specs.Blocks.{Column, column, dev_column, meaning_by_kind, unnamed, value_kind, whole}
unfoldable use Rattle.fit_messages.specs.Blocks.{low}
use Rattle.fit_profile.specs.Described.{Naming}
use Rattle.fit_profile.specs.Names.{field}
use Rattle.fit_profile.specs.Profile.{Meaning}
use Rattle.fit_record.specs.Environment.{Environment, defined_by, dev_code, dev_defs}
use Rattle.fit_record.specs.Records.{DefinitionFits, dev_layout, layout}
use Rattle.fit_record.specs.declared.definition.DevDef.{DevDef}
use Rattle.fit_record.specs.declared.definition.FieldDef.{FieldDef}
use Rattle.fit_record.specs.declared.definition.MessageDef.{MessageDef}
use Rattle.fit_from_messages.proofs.ProfileNames.{field_named}
use Rattle.fit_from_messages.proofs.ReadBack.{IsShortColumn, entry_list, fits_back, layout_of, size_back}
use Rattle.fit_from_messages.proofs.SmallSizes.{IsShort, SizesAreSmall}
use Rattle.fit_from_messages.specs.Parts.{dev_in, field_in, size_fits}

-- A definition that a block has: its numbers have the width of their places, and so have the names of its developer fields.
pub record IsWritten (d : MessageDef Global) (namings : List Naming) : Type 0 where
  pub fits : DefinitionFits d
  pub small : SizesAreSmall d
  pub named : AllByRecursion IsShort namings
  pub each : length namings ≡ length (dev_defs d.dev)

-- developer fields, each with its code and its naming
abbrev pub dev_columns : List DevDef → List ℕ → List Naming → List Column
dev_columns fields codes namings = map (λ x. dev_column x.0.0 x.0.1 x.1) (zip (zip fields codes) namings)

abbrev pub own_columns : MessageDef Global → List Column
own_columns d = map (column d.global) d.fields

abbrev pub dev_columns_of : Environment Global → MessageDef Global → List Naming → List Column
dev_columns_of e d namings = dev_columns (dev_defs d.dev) (map (dev_code e) (dev_defs d.dev)) namings

both_all : {X : Type 0} (P : X → Type 0) (xs ys : List X) → AllByRecursion P xs → AllByRecursion P ys → AllByRecursion P (xs ++ ys)
both_all P [] ys first second = second
both_all P (x ∷ xs) ys first second = (first.0, both_all P xs ys first.1 second)

-- ---- fields

named_either : (b : Bool) (m other : Meaning) → length m.name < 256 → length m.unit < 256 → length other.name < 256 → length other.unit < 256
    → (length (if b then m else other).name < 256) × (length (if b then m else other).unit < 256)
named_either true m other name unit p q = (name, unit)
named_either false m other name unit p q = (p, q)

named_by_kind : (kind : ℕ) (m : Meaning) → length m.name < 256 → length m.unit < 256
    → (length (meaning_by_kind kind m).name < 256) × (length (meaning_by_kind kind m).unit < 256)
named_by_kind kind m name unit =
    named_either (nat_lt kind 2) m (record { name = m.name; unit = m.unit; scale = 1; offset = 0 }) name unit name unit

short_field : (global : ℕ) (f : FieldDef) → IsShortColumn (column global f)
short_field global f =
    let m = unwrap_or (field global f.number) unnamed in
    let known = field_named global f.number in
    let named = named_by_kind (value_kind f.code f.size) m known.0 known.1 in
    record { name = named.0; unit = named.1 }

pub short_fields : (global : ℕ) (fields : List FieldDef) → AllByRecursion IsShortColumn (map (column global) fields)
short_fields global [] = tt
short_fields global (f ∷ fields) = (short_field global f, short_fields global fields)

pub are_fields : (global : ℕ) (fields : List FieldDef) → AllByRecursion (λ (c : Column). c.developer ≡ 0) (map (column global) fields)
are_fields global [] = tt
are_fields global (f ∷ fields) = (refl, are_fields global fields)

small_fields : (global : ℕ) (fields : List FieldDef) → AllByRecursion (λ (f : FieldDef). f.size < 256) fields
    → AllByRecursion (λ (c : Column). c.size < 256) (map (column global) fields)
small_fields global [] small = tt
small_fields global (f ∷ fields) small = (small.0, small_fields global fields small.1)

-- the entries say the fields
pub fields_back : (global at : ℕ) (fields : List FieldDef) → map field_in (entry_list at (map (column global) fields)) ≡ fields
unfolding low
fields_back global at [] = refl
fields_back global at (f ∷ fields) =
    let with_size : ℕ → FieldDef = λ n. record { number = f.number; size = n; code = f.code } in
    ap₂ (λ n x. with_size n ∷ x) (size_back f.code f.size) (fields_back global (at + whole f.size) fields)

pub field_sizes_back : (global at : ℕ) (fields : List FieldDef) → AllByRecursion (λ (f : FieldDef). f.size < 256) fields
    → list_all (λ x. size_fits (field_in x).code x) (entry_list at (map (column global) fields)) ≡ true
unfolding low
field_sizes_back global at [] small = refl
field_sizes_back global at (f ∷ fields) small =
    rw (fits_back at (column global f) small.0) (field_sizes_back global (at + whole f.size) fields small.1)

layout_fields : (global : ℕ) (fields : List FieldDef) → layout_of (map (column global) fields) ≡ map (λ f. (f.code, f.size)) fields
layout_fields global [] = refl
layout_fields global (f ∷ fields) = ap (λ x. (f.code, f.size) ∷ x) (layout_fields global fields)

-- ---- developer fields

pub short_devs : (fields : List DevDef) (codes : List ℕ) (namings : List Naming) → AllByRecursion IsShort namings
    → AllByRecursion IsShortColumn (dev_columns fields codes namings)
short_devs [] codes namings short = tt
short_devs (f ∷ fields) [] namings short = tt
short_devs (f ∷ fields) (code ∷ codes) [] short = tt
short_devs (f ∷ fields) (code ∷ codes) (n ∷ namings) short = (record { name = short.0.0; unit = short.0.1 }, short_devs fields codes namings short.1)

pub are_devs : (fields : List DevDef) (codes : List ℕ) (namings : List Naming)
    → AllByRecursion (λ (c : Column). c.developer ≡ 1) (dev_columns fields codes namings)
are_devs [] codes namings = tt
are_devs (f ∷ fields) [] namings = tt
are_devs (f ∷ fields) (code ∷ codes) [] = tt
are_devs (f ∷ fields) (code ∷ codes) (n ∷ namings) = (refl, are_devs fields codes namings)

as_many_devs : (fields : List DevDef) (code : DevDef → ℕ) (namings : List Naming) → length namings ≡ length fields
    → length (dev_columns fields (map code fields) namings) ≡ length fields
as_many_devs [] code namings each = refl
as_many_devs (f ∷ fields) code [] each = absurd (omega (arith, each))
as_many_devs (f ∷ fields) code (n ∷ namings) each = ap suc (as_many_devs fields code namings (omega (arith, each)))

small_devs : (fields : List DevDef) (codes : List ℕ) (namings : List Naming) → AllByRecursion (λ (f : DevDef). f.size < 256) fields
    → AllByRecursion (λ (c : Column). c.size < 256) (dev_columns fields codes namings)
small_devs [] codes namings small = tt
small_devs (f ∷ fields) [] namings small = tt
small_devs (f ∷ fields) (code ∷ codes) [] small = tt
small_devs (f ∷ fields) (code ∷ codes) (n ∷ namings) small = (small.0, small_devs fields codes namings small.1)

pub devs_back : (at : ℕ) (fields : List DevDef) (code : DevDef → ℕ) (namings : List Naming) → length namings ≡ length fields
    → map dev_in (entry_list at (dev_columns fields (map code fields) namings)) ≡ fields
unfolding low
devs_back at [] code namings each = refl
devs_back at (f ∷ fields) code [] each = absurd (omega (arith, each))
devs_back at (f ∷ fields) code (n ∷ namings) each =
    let with_size : ℕ → DevDef = λ k. record { number = f.number; size = k; index = f.index } in
    ap₂ (λ k x. with_size k ∷ x) (size_back (code f) f.size) (devs_back (at + whole f.size) fields code namings (omega (arith, each)))

pub dev_sizes_back : (at : ℕ) (e : Environment Global) (fields : List DevDef) (namings : List Naming) → AllByRecursion (λ (f : DevDef). f.size < 256) fields
    → list_all (λ x. size_fits (dev_code e (dev_in x)) x) (entry_list at (dev_columns fields (map (dev_code e) fields) namings)) ≡ true
unfolding low
dev_sizes_back at e [] namings small = refl
dev_sizes_back at e (f ∷ fields) [] small = refl
dev_sizes_back at e (f ∷ fields) (n ∷ namings) small =
    rw (fits_back at (dev_column f (dev_code e f) n) small.0) (dev_sizes_back (at + whole f.size) e fields namings small.1)

layout_devs : (fields : List DevDef) (code : DevDef → ℕ) (namings : List Naming) → length namings ≡ length fields
    → layout_of (dev_columns fields (map code fields) namings) ≡ zip (map code fields) (map (λ f. f.size) fields)
layout_devs [] code namings each = refl
layout_devs (f ∷ fields) code [] each = absurd (omega (arith, each))
layout_devs (f ∷ fields) code (n ∷ namings) each = ap (λ x. (code f, f.size) ∷ x) (layout_devs fields code namings (omega (arith, each)))

-- ---- both

pub short_both : (e : Environment Global) (d : MessageDef Global) (namings : List Naming) → IsWritten d namings
    → AllByRecursion IsShortColumn (own_columns d ++ dev_columns_of e d namings)
short_both e d namings w =
    both_all IsShortColumn (own_columns d) (dev_columns_of e d namings) (short_fields d.global d.fields)
    (short_devs (dev_defs d.dev) (map (dev_code e) (dev_defs d.dev)) namings w.named)

pub small_both : (e : Environment Global) (d : MessageDef Global) (namings : List Naming) → IsWritten d namings
    → AllByRecursion (λ (c : Column). c.size < 256) (own_columns d ++ dev_columns_of e d namings)
small_both e d namings w =
    both_all (λ (c : Column). c.size < 256) (own_columns d) (dev_columns_of e d namings) (small_fields d.global d.fields w.small.fields)
    (small_devs (dev_defs d.dev) (map (dev_code e) (dev_defs d.dev)) namings w.small.dev_fields)

pub length-devs : (e : Environment Global) (d : MessageDef Global) (namings : List Naming) → IsWritten d namings
    → length (dev_columns_of e d namings) ≡ length (dev_defs d.dev)
length-devs e d namings w = as_many_devs (dev_defs d.dev) (dev_code e) namings w.each

pub length-both : (e : Environment Global) (d : MessageDef Global) (namings : List Naming) → IsWritten d namings
    → length (own_columns d ++ dev_columns_of e d namings) ≡ length d.fields + length (dev_defs d.dev)
length-both e d namings w =
    omega (
      arith,
      length-append (own_columns d) (dev_columns_of e d namings),
      length-map d.fields (column d.global),
      length-devs e d namings w,
    )

pub layout_both : (e : Environment Global) (d : MessageDef Global) (namings : List Naming) → IsWritten d namings
    → layout_of (own_columns d ++ dev_columns_of e d namings) ≡ layout (defined_by e d) ++ dev_layout (defined_by e d)
layout_both e d namings w =
    map-append (λ (c : Column). (c.code, c.size)) (own_columns d) (dev_columns_of e d namings)
    ∙ ap₂ (λ x y. x ++ y) (layout_fields d.global d.fields) (layout_devs (dev_defs d.dev) (dev_code e) namings w.each)
