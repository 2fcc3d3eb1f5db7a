-- What has been read of a chain is a place in it, and the rows that can stand next are those of the table there.
use Rattle.fit_csv.proofs.Common.{length-zip, ◌≡◌, ◌∙◌, ◌≤◌, ◌+◌, ◌-◌, true, false, [], ◌∷◌, ◌++◌, length, map, take, refl, sym, ap, subst, inl, inr, arith}
use Rattle.fit_csv.proofs.Common.{eqb-true, ◌↔◌, IsSome, IsSomeAnd, flat_map, slice_get, zip, Global, AllByRecursion, option_map_or, length-map, take_at}
use Rattle.fit_csv.proofs.Common.{slice_get_within, Defined, FitFile, Record, Define, Data, Values, defined_at, dev_defs, DataFits, dev_layout, layout}
use Rattle.fit_csv.proofs.Common.{TextHasOneNumber, known, header_time, previous_time, namings_at, Row, first_line, chain_rows, data_row, data_rows}
use Rattle.fit_csv.proofs.Common.{definition_rows, dev_def_row, dev_row, dev_rows, field_def_row, field_row, field_rows, file_row, file_rows, records_rows}
use Rattle.fit_csv.proofs.Common.{IsChainOfRows, IsFileOfRows, IsHeadRow, IsMessageRow, global_at, built_definition, dev_total, has_all, is_whole, IsDataRow}
use Rattle.fit_csv.proofs.Common.{IsDefinitionRow, IsDevRow, IsEndRow, IsFieldRow, naming_at, chain_limit, IsSoundCurrent, IsSoundDefinition, IsSoundMessage}
use Rattle.fit_csv.proofs.Common.{IsSoundPart, current_rows, open_rows, part_rows, Chain, DefinitionHead, OpenDefinition, OpenFile, Part, Nothing, Definition}
use Rattle.std.proofs.Math.Logic.{⊎_map}
use Rattle.std.proofs.Common.{ℕ, ◌<◌, List, Option, Some, None, length-append}
use Rattle.std.specs.Prelude.{◌==◌, ◌⊎◌, option_map, reverse, unwrap_or}
use Rattle.std.proofs.lemmas.List.{append-nil}
use Rattle.fit_csv.specs.Follows.{CanCome, CanComeInDefinition, CanComeInMessage, IsPlace, Place, RowsThatFollow, between_files, between_records}
use Rattle.fit_csv.specs.Follows.{in_record, rows_to}
use Rattle.fit_csv.specs.declared.from.open_file.Part.TheVariants.{Message}
use Rattle.fit_csv.proofs.Completed.{complete-definition, complete-message, left, to_come}
use Rattle.fit_csv.proofs.Following.{NextIn, NextInDefinition, NextInFile, NextInMessage, next-rows}
use Rattle.fit_profile.proofs.KnownFacts.{codes-long}
use Rattle.fit_texts.proofs.NamingFacts.{namings_long}
use Rattle.fit_csv.proofs.SoFar.{both-true, data-rows-at, definition-whole, some-at}
use Rattle.fit_csv.proofs.SoundSteps.{all-last, at-some, definition-fits, definition-range, dev-layout-long, is-some-at, layout-long}
use Rattle.fit_csv.proofs.SoundSteps.{length-last, message-fits, shapes-few, some-left}

-- ---- the first row of a record

head-kind : (r : Row) → IsHeadRow r → IsDefinitionRow r
head-kind r (h, range, e) =
    (h.local, h.reserved, h.order, h.global, h.fields, h.dev, range.local, range.reserved, range.global, range.fields, range.dev, e)

kind-head : (r : Row) → IsDefinitionRow r → IsHeadRow r
kind-head r (local, reserved, order, global, fields, dev, a, b, c, d, f, e) = (
  record { local = local; reserved = reserved; order = order; global = global; fields = fields; dev = dev },
  record { local = a; reserved = b; global = c; fields = d; dev = f },
  e,
)

global-is : (before : List (Record Global)) (local : ℕ) (p : Defined Global) → defined_at (known before) local ≡ Some p
    → global_at before local ≡ p.definition.global
global-is before local p is = ap (λ q. unwrap_or (option_map (λ (d : Defined Global). d.definition.global) q) 0) is

message-kind : (before : List (Record Global)) (r : Row) → IsMessageRow before r → IsDataRow before r
message-kind before r (v, start, e) =
    let (p, is) = is-some-at (defined_at (known before) v.local) start.defined in (
      v,
      start.header,
      at-some (defined_at (known before) v.local) p
          (λ p. r ≡ data_row v p.definition.global (header_time (previous_time before) v.offset)) is
          (e ∙ ap (λ g. data_row v g (header_time (previous_time before) v.offset)) (global-is before v.local p is)),
    )

some-there : {X : Type 0} (o : Option X) (x : X) → o ≡ Some x → IsSome o
some-there o x e = subst IsSome (sym e) refl

kind-message : (before : List (Record Global)) (r : Row) → IsDataRow before r → IsMessageRow before r
kind-message before r (v, header, h) =
    let (p, is, e) = some-at (defined_at (known before) v.local)
    (λ p. r ≡ data_row v p.definition.global (header_time (previous_time before) v.offset)) h in (
      record v { fields = []; dev = [] },
      record { header = header; defined = some-there (defined_at (known before) v.local) p is; no_fields = refl; no_dev_fields = refl },
      e ∙ ap (λ g. data_row v g (header_time (previous_time before) v.offset)) (sym (global-is before v.local p is)),
    )

first-row : (before : List (Record Global)) (r : Row) → NextInFile before Nothing r → IsDefinitionRow r ⊎ (IsDataRow before r ⊎ IsEndRow r)
first-row before r h = ⊎_map (head-kind r) (⊎_map (message-kind before r) (λ x. x)) h

row-first : (before : List (Record Global)) (r : Row) → IsDefinitionRow r ⊎ (IsDataRow before r ⊎ IsEndRow r) → NextInFile before Nothing r
row-first before r h = ⊎_map (kind-head r) (⊎_map (kind-message before r) (λ x. x)) h

-- a list is full where others have come that come after it
full-when : (have all others : ℕ) → have ≤ all → (have < all → others ≡ 0) → all ≤ have + others → have ≡ all
full-when have all others few none past = grind arith

-- ---- definitions

open-long : (o : OpenDefinition) → length (open_rows o) ≡ length o.fields + length o.dev + 1
open-long o =
    omega (arith, length-append (map field_def_row o.fields) (map dev_def_row o.dev), length-map o.fields field_def_row, length-map o.dev dev_def_row)

definition-left : (o : OpenDefinition) → IsSoundDefinition o → is_whole o ≡ false → length o.fields + length o.dev < o.head.fields + dev_total o.head
definition-left o sound going = some-left _ _ _ _ going sound.few sound.few_dev_fields

module _ (o q : OpenDefinition) (sound : IsSoundDefinition o) (whole : is_whole q ≡ true) (head : q.head ≡ o.head) where
  all-fields : length q.fields ≡ o.head.fields
  all-fields =
      eqb-true (length q.fields) q.head.fields (both-true (length q.fields == q.head.fields) (length q.dev == dev_total q.head) whole).0
      ∙ ap (λ (h : DefinitionHead). h.fields) head

  all-dev : length q.dev ≡ dev_total o.head
  all-dev =
      eqb-true (length q.dev) (dev_total q.head) (both-true (length q.fields == q.head.fields) (length q.dev == dev_total q.head) whole).1
      ∙ ap dev_total head

  none-before : length o.fields < o.head.fields → length o.dev ≡ 0
  none-before less = ap length (sound.in_order less)

  definition-next : (r : Row) → NextInDefinition o r → CanComeInDefinition (built_definition q) (length o.fields + length o.dev) r
  definition-next r (inl (less, kind)) = inl (omega (arith, all-fields, none-before less, less), kind)
  definition-next r (inr (all, kind)) = inr (omega (arith, all-fields, all), kind)

  next-definition : (r : Row) → CanComeInDefinition (built_definition q) (length o.fields + length o.dev) r → NextInDefinition o r
  next-definition r (inl (less, kind)) = inl (omega (arith, all-fields, less), kind)
  next-definition r (inr (past, kind)) = inr
      (full-when (length o.fields) o.head.fields (length o.dev) sound.few none-before (omega (arith, all-fields, past)), kind)

-- ---- data messages

module _ (before : List (Record Global)) (v : Values Global) (p : Defined Global) (is : defined_at (known before) v.local ≡ Some p)
    (sound : IsSoundMessage v p) where
  few : length v.fields ≤ length p.definition.fields
  few = omega (arith, shapes-few (layout p) v.fields sound.fields, layout-long p)

  few-dev : length v.dev ≤ length (dev_defs p.definition.dev)
  few-dev = omega (arith, shapes-few (dev_layout p) v.dev sound.dev_fields, dev-layout-long p (codes-long before v.local p is))

  data-long : length (data_rows before v) ≡ length v.fields + length v.dev + 1
  data-long =
      let namings = namings_at before v.local in
      let devs = dev_defs p.definition.dev in
      let coded = codes-long before v.local p is in
      ap length (data-rows-at before v p is)
      ∙ omega (
        arith,
        coded,
        few,
        few-dev,
        namings_long before v.local p is,
        length-zip p.definition.fields v.fields,
        length-zip devs p.dev_codes,
        length-zip namings v.dev,
        length-zip (zip devs p.dev_codes) (zip namings v.dev),
        length-append (field_rows p.definition.global p.definition.fields v.fields) (dev_rows (dev_defs p.definition.dev) p.dev_codes namings v.dev),
        length-map (zip p.definition.fields v.fields) (λ x. field_row p.definition.global x.0 x.1),
        length-map (zip (zip devs p.dev_codes) (zip namings v.dev)) (λ x. dev_row {A = Global} x.0.0 x.0.1 x.1.0 x.1.1),
      )

  message-left : has_all v p ≡ false → length v.fields + length v.dev < length p.definition.fields + length (dev_defs p.definition.dev)
  message-left going = some-left _ _ _ _ going few few-dev

  no-dev : length v.fields < length p.definition.fields → length v.dev ≡ 0
  no-dev less = ap length (sound.in_order less)

  message-next : (r : Row) → NextInMessage before v p r → CanComeInMessage before v.local p (length v.fields + length v.dev) r
  message-next r (inl h) =
      let (f, next, kind) = some-at (slice_get p.definition.fields (length v.fields)) (λ f. IsFieldRow p.definition.global f r) h in
      let none = no-dev (slice_get_within p.definition.fields (length v.fields) f next) in
      let same : length v.fields ≡ length v.fields + length v.dev = omega (arith, none) in
      inl (subst (λ n. IsSomeAnd (slice_get p.definition.fields n) (λ f. IsFieldRow p.definition.global f r)) same h)
  message-next r (inr (all, h)) =
      let same : length v.dev ≡ length v.fields + length v.dev - length p.definition.fields = omega (arith, all) in
      inr (
        omega (arith, all),
        subst (λ n. IsSomeAnd (slice_get (dev_defs p.definition.dev) n) (λ f.
            IsSomeAnd (slice_get p.dev_codes n) (λ code. IsDevRow f code (naming_at before v.local n) r))) same h,
      )

  next-message : (r : Row) → CanComeInMessage before v.local p (length v.fields + length v.dev) r → NextInMessage before v p r
  next-message r (inl h) =
      let (f, next, kind) = some-at (slice_get p.definition.fields (length v.fields + length v.dev)) (λ f. IsFieldRow p.definition.global f r) h in
      let within = slice_get_within p.definition.fields (length v.fields + length v.dev) f next in
      let same : length v.fields + length v.dev ≡ length v.fields = omega (arith, no-dev (omega (arith, within))) in
      inl (subst (λ n. IsSomeAnd (slice_get p.definition.fields n) (λ f. IsFieldRow p.definition.global f r)) same h)
  next-message r (inr (past, h)) =
      let all = full-when (length v.fields) (length p.definition.fields) (length v.dev) few no-dev past in
      let same : length v.fields + length v.dev - length p.definition.fields ≡ length v.dev = omega (arith, all) in
      inr (
        all,
        subst (λ n. IsSomeAnd (slice_get (dev_defs p.definition.dev) n) (λ f.
            IsSomeAnd (slice_get p.dev_codes n) (λ code. IsDevRow f code (naming_at before v.local n) r))) same h,
      )

-- ---- files

-- what has come of a file is a place in it
abbrev PlacedIn : List (FitFile Global) → FitFile Global → List (Record Global) → Part → Type 0
PlacedIn files g before part =
    (place : Place) × IsPlace place
    × (chain_rows files ++ (file_row g.header ∷ (records_rows [] g.records ++ part_rows before part)) ≡ rows_to place)
    × ((r : Row) → NextInFile before part r ↔ CanCome place r)

-- the first rows of a record
first-rows-of : (all part more : List Row) (n : ℕ) → all ≡ part ++ more → length part ≡ n → take n all ≡ part
first-rows-of all part more n e long = ap (take n) e ∙ take_at part more n long

module _ (files : List (FitFile Global)) (g : FitFile Global) (good : IsChainOfRows (files ++ g ∷ [])) where
  placed-definition : (o : OpenDefinition) → IsSoundDefinition o → is_whole o ≡ false → PlacedIn files g (reverse g.records) (Definition o)
  placed-definition o sound going =
      let (q, sound_q, whole, head, (more, rows)) = complete-definition (left o) o sound refl in
      let come = length o.fields + length o.dev in
      let d = built_definition q in
      let same : definition_rows (built_definition q) ≡ open_rows q = sym (definition-whole q whole) in
      let front : take (length o.fields + length o.dev + 1) (definition_rows (built_definition q)) ≡ open_rows o =
      first-rows-of (definition_rows (built_definition q)) (open_rows o) more (length o.fields + length o.dev + 1) (same ∙ rows) (open-long o) in
      let long : length (definition_rows (built_definition q)) ≡ length q.fields + length q.dev + 1 = ap length same ∙ open-long q in
      let room : length o.fields + length o.dev + 1 < length (definition_rows (built_definition q)) =
      omega (arith, long, definition-left o sound going, all-fields o q sound whole head, all-dev o q sound whole head) in (
        in_record files g (Define d) come,
        (good, definition-fits q sound_q, definition-range q sound_q, room),
        ap (λ (l : List Row). chain_rows files ++ (file_row g.header ∷ (records_rows [] g.records ++ l))) (sym front),
        (λ r. (definition-next o q sound whole head r, next-definition o q sound whole head r)),
      )

  placed-message : (v : Values Global) (p : Defined Global) → defined_at (known (reverse g.records)) v.local ≡ Some p → IsSoundMessage v p
      → has_all v p ≡ false → PlacedIn files g (reverse g.records) (Message v)
  placed-message v p is sound going =
      let b = reverse g.records in
      let (w, sound_w, place, all, (more, rows)) = complete-message (to_come p v) (reverse g.records) p v is sound refl in
      let come = length v.fields + length v.dev in
      let known_w : defined_at (known (reverse g.records)) w.local ≡ Some p = ap (λ l. defined_at (known (reverse g.records)) l) place ∙ is in
      let both = both-true (length w.fields == length p.definition.fields) (length w.dev == length (dev_defs p.definition.dev)) all in
      let of_fields = eqb-true (length w.fields) (length p.definition.fields) both.0 in
      let of_dev = eqb-true (length w.dev) (length (dev_defs p.definition.dev)) both.1 in
      let front : take (length v.fields + length v.dev + 1) (data_rows (reverse g.records) w) ≡ data_rows (reverse g.records) v =
      first-rows-of (data_rows (reverse g.records) w) (data_rows (reverse g.records) v) more (length v.fields + length v.dev + 1) rows
      (data-long (reverse g.records) v p is sound) in
      let room : length v.fields + length v.dev + 1 < length (data_rows (reverse g.records) w) =
      omega (arith, data-long (reverse g.records) w p known_w sound_w, message-left (reverse g.records) v p is sound going, of_fields, of_dev) in (
        in_record files g (Data w) come,
        (good, at-some (defined_at (known b) w.local) p (DataFits w) known_w (message-fits b w p known_w sound_w all), tt, room),
        ap (λ (l : List Row). chain_rows files ++ (file_row g.header ∷ (records_rows [] g.records ++ l))) (sym front),
        (λ r. (
          (λ h. at-some (defined_at (known b) w.local) p (λ p. CanComeInMessage b w.local p come r) known_w
              (subst (λ l. CanComeInMessage b l p come r) (sym place)
              (message-next b v p is sound r (subst (λ o. IsSomeAnd o (λ p. NextInMessage b v p r)) is h)))),
          (λ h. at-some (defined_at (known b) v.local) p (λ p. NextInMessage b v p r) is (next-message b v p is sound r
              (subst (λ l. CanComeInMessage b l p come r) place
              (subst (λ o. IsSomeAnd o (λ p. CanComeInMessage b w.local p come r)) known_w h)))),
        )),
      )

  placed-part : (part : Part) → IsSoundPart (reverse g.records) part → PlacedIn files g (reverse g.records) part
  placed-part Nothing sound = (
    between_records files g,
    good,
    ap (λ (l : List Row). chain_rows files ++ l) (append-nil (file_row g.header ∷ records_rows [] g.records)),
    (λ r. (first-row (reverse g.records) r, row-first (reverse g.records) r)),
  )
  placed-part (Definition o) sound = placed-definition o sound.0 sound.1
  placed-part (Message v) sound =
      let (p, is, sound_v) = some-at (defined_at (known (reverse g.records)) v.local) (IsSoundMessage v) sound.0 in
      placed-message v p is sound_v (sym (ap (λ o. option_map_or (has_all v) o true) is) ∙ sound.1)

-- ---- chains

abbrev Placed : Chain → Option OpenFile → Type 0
Placed c m =
    (place : Place) × IsPlace place × (first_line ∷ (flat_map file_rows c.files ++ current_rows m) ≡ rows_to place)
    × ((r : Row) → NextIn (length c.files) m r ↔ CanCome place r)

placed : (c : Chain) (m : Option OpenFile) → AllByRecursion IsFileOfRows c.files → IsSoundCurrent (length c.files) m → Placed c m
placed c None files count = (
  between_files c.files,
  (count, files),
  ap (λ (l : List Row). first_line ∷ l) (append-nil (flat_map file_rows c.files)),
  (λ r. ((λ h. h), (λ h. h))),
)
placed c (Some f) files (room, sound) =
    let g : FitFile Global = record { header = f.header; records = f.records } in
    let good : IsFileOfRows g = record { header = sound.header; records = sound.fit; numbers = sound.numbers } in
    let count : length (c.files ++ g ∷ []) ≤ chain_limit = omega (arith, length-last c.files g, room) in
    let part : IsSoundPart (reverse g.records) f.part = subst (λ b. IsSoundPart b f.part) sound.same_records sound.part in
    subst (λ b. PlacedIn c.files g b f.part) (sym sound.same_records)
    (placed-part c.files g (count, all-last IsFileOfRows c.files g files good) f.part part)

pub rows-that-follow : TextHasOneNumber → RowsThatFollow
rows-that-follow law rows may =
    let (c, sound, so_far, next) = next-rows law rows may in
    let (place, is, to, kinds) = placed c c.current sound.files sound.current in (
      place,
      is,
      ap (λ (l : List Row). first_line ∷ l) (sym so_far) ∙ to,
      (λ r. ((λ h. (kinds r).0 ((next r).0 h)), (λ h. (next r).1 ((kinds r).1 h)))),
    )
