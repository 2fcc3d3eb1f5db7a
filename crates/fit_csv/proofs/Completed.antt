-- What has been read of a chain can be completed.
use Rattle.fit_csv.proofs.Common.{◌≡◌, ◌∙◌, zero, suc, ◌≤◌, ◌+◌, ◌-◌, true, false, [], ◌∷◌, ◌++◌, length, refl, sym, ap, inl, inr, arith, append_assoc, eq-eqb}
use Rattle.fit_csv.proofs.Common.{eqb-true, flat_map, slice_get, Global, AllByRecursion, cases_lt, false_from_ne_true, both_true, DevDef, FieldDef, Defined}
use Rattle.fit_csv.proofs.Common.{FitFile, Record, Define, Data, Values, defined_at, dev_defs, DataFits, Fits, dev_layout, layout, chain_limit, known}
use Rattle.fit_csv.proofs.Common.{chain_rows, data_rows, dev_def_row, dev_row, end_row, field_def_row, field_row, file_row, file_rows, record_rows}
use Rattle.fit_csv.proofs.Common.{records_rows, DevDefInRange, FieldDefInRange, IsFileOfRows, MayGoOn, RecordInRange, DefinitionStep, DevStep, FieldStep}
use Rattle.fit_csv.proofs.Common.{built_definition, dev_total, has_all, is_whole, with_dev_field, with_dev_items, with_field, with_items, with_record}
use Rattle.fit_csv.proofs.Common.{naming_at, Row, first_line, IsSoundChain, IsSoundCurrent, IsSoundDefinition, IsSoundFile, IsSoundMessage, IsSoundSoFar}
use Rattle.fit_csv.proofs.Common.{current_rows, open_file_rows, open_rows, part_rows, rows_so_far, Chain, OpenDefinition, OpenFile, Part, Nothing, Definition}
use Rattle.std.proofs.Common.{ℕ, ◌<◌, List, Option, Some, None}
use Rattle.std.specs.Prelude.{◌==◌, ◌⊎◌}
use Rattle.std.proofs.lemmas.List.{append-nil}
use Rattle.fit_csv.specs.declared.from.open_file.Part.TheVariants.{Message}
use Rattle.fit_profile.proofs.KnownFacts.{codes-long}
use Rattle.fit_csv.proofs.MoreRows.{ended-rows, flat-last, record-added}
use Rattle.fit_csv.proofs.SoFar.{both-true, definition-more, definition-whole, message-more, some-at}
use Rattle.fit_csv.proofs.SoundSteps.{all-last, at-some, definition-fits, definition-range, definition-sound, length-last, message-fits, message-sound}
use Rattle.fit_csv.proofs.SoundSteps.{with-record-sound, shapes-few, layout-long, dev-layout-long}
use Rattle.fit_csv.proofs.ValueSteps.{dev-step, field-step}
use Rattle.fit_csv.proofs.ZeroItems.{zero-items}

-- one row, and others
one-and-others : (a b c more : List Row) (r : Row) → b ≡ a ++ r ∷ [] → c ≡ b ++ more → c ≡ a ++ (r ∷ more)
one-and-others a b c more r e f = f ∙ ap (λ (rows : List Row). rows ++ more) e ∙ append_assoc a (r ∷ []) more

-- ---- definitions

abbrev pub CompletedDefinition : OpenDefinition → Type 0
CompletedDefinition o =
    (q : OpenDefinition) × IsSoundDefinition q × (is_whole q ≡ true) × (q.head ≡ o.head) × ((more : List Row) × (open_rows q ≡ open_rows o ++ more))

abbrev pub left : OpenDefinition → ℕ
left o = (o.head.fields - length o.fields) + (dev_total o.head - length o.dev)

unfinished : (o : OpenDefinition) → 0 < left o → is_whole o ≡ false
unfinished o some = false_from_ne_true (is_whole o) (λ whole.
    let both = both-true (length o.fields == o.head.fields) (length o.dev == dev_total o.head) whole in
    let fields = eqb-true (length o.fields) o.head.fields both.0 in
    let dev = eqb-true (length o.dev) (dev_total o.head) both.1 in
    omega (arith, fields, dev, some))

same-head : (o : OpenDefinition) (r : Row) (q : OpenDefinition) → DefinitionStep o r q → q.head ≡ o.head
same-head o r q (inl (room, (f, range, e, is))) = ap (λ (x : OpenDefinition). x.head) is
same-head o r q (inr (all, (f, range, e, is))) = ap (λ (x : OpenDefinition). x.head) is

go-on : (o q : OpenDefinition) (r : Row) → IsSoundDefinition o → DefinitionStep o r q → CompletedDefinition q → CompletedDefinition o
go-on o q r sound step (whole, sound_whole, is, head, (more, rows)) = (
  whole,
  sound_whole,
  is,
  head ∙ same-head o r q step,
  (r ∷ more, one-and-others (open_rows o) (open_rows q) (open_rows whole) more r (definition-more o r q sound step) rows),
)

pub complete-definition : (n : ℕ) (o : OpenDefinition) → IsSoundDefinition o → left o ≡ n → CompletedDefinition o
complete-definition zero o sound none =
    let fields : length o.fields ≡ o.head.fields = omega (arith, sound.few, none) in
    let dev : length o.dev ≡ dev_total o.head = omega (arith, sound.few_dev_fields, none) in (
      o,
      sound,
      both_true (eq-eqb (length o.fields) o.head.fields fields) (eq-eqb (length o.dev) (dev_total o.head) dev),
      refl,
      ([], sym (append-nil (open_rows o))),
    )
complete-definition (suc n) o sound some =
    let going = unfinished o (omega (arith, some)) in
    elim (cases_lt (length o.fields) o.head.fields) [
      | inl room ↦
          let f : FieldDef = record { number = 0; size = 0; code = 0 } in
          let range : FieldDefInRange f = record { number = omega arith; size = omega arith; code = omega arith } in
          let step : DefinitionStep o (field_def_row f) (with_field o f) = inl (room, (f, range, refl, refl)) in
          let next = definition-sound o (field_def_row f) (with_field o f) sound going step in
          go-on o (with_field o f) (field_def_row f) sound step
          (complete-definition n (with_field o f) next (omega (arith, some, room, length-last o.fields f)))
      | inr full ↦
          let all : length o.fields ≡ o.head.fields = omega (arith, full, sound.few) in
          let f : DevDef = record { number = 0; size = 0; index = 0 } in
          let range : DevDefInRange f = record { number = omega arith; size = omega arith; index = omega arith } in
          let step : DefinitionStep o (dev_def_row f) (with_dev_field o f) = inr (all, (f, range, refl, refl)) in
          let next = definition-sound o (dev_def_row f) (with_dev_field o f) sound going step in
          go-on o (with_dev_field o f) (dev_def_row f) sound step
          (complete-definition n (with_dev_field o f) next (omega (arith, some, all, length-last o.dev f)))
    ]

-- ---- data messages

abbrev pub CompletedMessage : List (Record Global) → Defined Global → Values Global → Type 0
CompletedMessage before p v =
    (w : Values Global) × IsSoundMessage w p × (w.local ≡ v.local) × (has_all w p ≡ true)
    × ((more : List Row) × (data_rows before w ≡ data_rows before v ++ more))

abbrev pub to_come : Defined Global → Values Global → ℕ
to_come p v = (length p.definition.fields - length v.fields) + (length (dev_defs p.definition.dev) - length v.dev)

go-on-message : (before : List (Record Global)) (p : Defined Global) (v w : Values Global) (r : Row) → defined_at (known before) v.local ≡ Some p
    → IsSoundMessage v p
    → FieldStep p v r w ⊎ DevStep before p v r w → CompletedMessage before p w → CompletedMessage before p v
go-on-message before p v w r is sound step (whole, sound_whole, place, all, (more, rows)) =
    let next = message-sound before p v r w sound step in (
      whole,
      sound_whole,
      place ∙ next.1,
      all,
      (r ∷ more, one-and-others (data_rows before v) (data_rows before w) (data_rows before whole) more r (message-more before p v r w is sound step) rows),
    )

there : {X : Type 0} (xs : List X) (k : ℕ) → k < length xs → (x : X) × (slice_get xs k ≡ Some x)
there [] k h = absurd (omega (arith, h))
there (x ∷ xs) zero h = (x, refl)
there (x ∷ xs) (suc k) h = there xs k (omega (arith, h))

pub complete-message : (n : ℕ) (before : List (Record Global)) (p : Defined Global) (v : Values Global) → defined_at (known before) v.local ≡ Some p
    → IsSoundMessage v p → to_come p v ≡ n
    → CompletedMessage before p v
complete-message zero before p v is sound none =
    let few : length v.fields ≤ length p.definition.fields = omega (arith, shapes-few (layout p) v.fields sound.fields, layout-long p) in
    let few_dev : length v.dev ≤ length (dev_defs p.definition.dev) =
    omega (arith, shapes-few (dev_layout p) v.dev sound.dev_fields, dev-layout-long p (codes-long before v.local p is)) in
    let fields : length v.fields ≡ length p.definition.fields = omega (arith, few, none) in
    let dev : length v.dev ≡ length (dev_defs p.definition.dev) = omega (arith, few_dev, none) in (
      v,
      sound,
      refl,
      both_true (eq-eqb (length v.fields) (length p.definition.fields) fields)
          (eq-eqb (length v.dev) (length (dev_defs p.definition.dev)) dev),
      ([], sym (append-nil (data_rows before v))),
    )
complete-message (suc n) before p v is sound some =
    elim (cases_lt (length v.fields) (length p.definition.fields)) [
      | inl room ↦
          let (f, next) = there p.definition.fields (length v.fields) room in
          let (i, shape) = zero-items f.code f.size in
          let r = field_row p.definition.global f i in
          let step : FieldStep p v (field_row p.definition.global f i) (with_items v i)
          ⊎ DevStep before p v (field_row p.definition.global f i) (with_items v i) = inl (field-step p v f r i next shape refl) in
          let sound_next = message-sound before p v r (with_items v i) sound step in
          go-on-message before p v (with_items v i) r is sound step
          (complete-message n before p (with_items v i) is sound_next.0 (omega (arith, some, room, length-last v.fields i)))
      | inr full ↦
          let few : length v.fields ≤ length p.definition.fields = omega (arith, shapes-few (layout p) v.fields sound.fields, layout-long p) in
          let all : length v.fields ≡ length p.definition.fields = omega (arith, full, few) in
          let coded_long = codes-long before v.local p is in
          let room : length v.dev < length (dev_defs p.definition.dev) = omega (arith, some, all) in
          let (f, next) = there (dev_defs p.definition.dev) (length v.dev) room in
          let (code, coded) = there p.dev_codes (length v.dev) (omega (arith, room, coded_long)) in
          let (i, shape) = zero-items code f.size in
          let r = dev_row f code (naming_at before v.local (length v.dev)) i in
          let step : FieldStep p v (dev_row f code (naming_at before v.local (length v.dev)) i) (with_dev_items v i)
          ⊎ DevStep before p v (dev_row f code (naming_at before v.local (length v.dev)) i) (with_dev_items v i) =
          inr (dev-step before p v f code r i all next coded shape refl) in
          let sound_next = message-sound before p v r (with_dev_items v i) sound step in
          go-on-message before p v (with_dev_items v i) r is sound step
          (complete-message n before p (with_dev_items v i) is sound_next.0 (omega (arith, some, all, room, length-last v.dev i)))
    ]

-- ---- files

abbrev CompletedFile : OpenFile → Type 0
CompletedFile f = (g : FitFile Global) × IsFileOfRows g × ((more : List Row) × (file_rows g ≡ open_file_rows f ++ more))

complete-by : (f : OpenFile) (r : Record Global) (more : List Row) → IsSoundFile f → Fits (known f.before) r → RecordInRange r
    → record_rows f.before r ≡ part_rows f.before f.part ++ more → CompletedFile f
complete-by f r more sound fits range rows =
    let next = with-record-sound f r sound fits range in
    let front = file_row f.header ∷ records_rows [] f.records in
    let part = part_rows f.before f.part in (
      record { header = f.header; records = f.records ++ r ∷ [] },
      record { header = next.header; records = next.fit; numbers = next.numbers },
      (
        more ++ end_row ∷ [],
        ended-rows (with_record f r) refl ∙ ap (λ (l : List Row). l ++ end_row ∷ []) (record-added f r sound)
            ∙ ap (λ (l : List Row). (front ++ l) ++ end_row ∷ []) rows
            ∙ ap (λ (l : List Row). l ++ end_row ∷ []) (sym (append_assoc front part more))
            ∙ append_assoc (front ++ part) more (end_row ∷ []),
      ),
    )

complete-file : (f : OpenFile) (part : Part) → f.part ≡ part → IsSoundFile f → IsSoundSoFar f.before part → CompletedFile f
complete-file f Nothing is sound so_far = (
  record { header = f.header; records = f.records },
  record { header = sound.header; records = sound.fit; numbers = sound.numbers },
  (end_row ∷ [], ended-rows f is),
)
complete-file f (Definition o) is sound so_far =
    let (q, sound_q, whole, head, (more, rows)) = complete-definition (left o) o so_far refl in
    complete-by f (Define (built_definition q)) more sound (definition-fits q sound_q) (definition-range q sound_q)
    (sym (definition-whole q whole) ∙ rows ∙ ap (λ (x : Part). part_rows f.before x ++ more) (sym is))
complete-file f (Message v) is sound so_far =
    let (p, known_p, sound_v) = some-at (defined_at (known f.before) v.local) (IsSoundMessage v) so_far in
    let (w, sound_w, place, all, (more, rows)) = complete-message (to_come p v) f.before p v known_p sound_v refl in
    let known_w : defined_at (known f.before) w.local ≡ Some p = ap (λ l. defined_at (known f.before) l) place ∙ known_p in
    complete-by f (Data w) more sound (at-some (defined_at (known f.before) w.local) p (DataFits w) known_w (message-fits f.before w p known_w sound_w all)) tt
    (rows ∙ ap (λ (x : Part). part_rows f.before x ++ more) (sym is))

-- ---- chains

complete-current : (c : Chain) (m : Option OpenFile) → c.current ≡ m → AllByRecursion IsFileOfRows c.files → IsSoundCurrent (length c.files) m
    → MayGoOn (first_line ∷ rows_so_far c)
complete-current c None is files count = (
  c.files,
  [],
  (count, files),
  sym (append-nil (chain_rows c.files)) ∙ sym (append-nil (chain_rows c.files ++ []))
      ∙ ap (λ m. (chain_rows c.files ++ current_rows m) ++ []) (sym is),
)
complete-current c (Some f) is files sound =
    let (g, good, (more, rows)) = complete-file f f.part refl sound.1 sound.1.part.0 in
    let count : length (c.files ++ g ∷ []) ≤ chain_limit = omega (arith, length-last c.files g, sound.0) in (
      c.files ++ g ∷ [],
      more,
      (count, all-last IsFileOfRows c.files g files good),
      ap (λ (l : List Row). first_line ∷ l) (flat-last c.files g ∙ ap (λ (l : List Row). flat_map file_rows c.files ++ l) rows
          ∙ sym (append_assoc (flat_map file_rows c.files) (open_file_rows f) more)
          ∙ ap (λ m. (flat_map file_rows c.files ++ current_rows m) ++ more) (sym is)),
    )

pub may-go-on : (c : Chain) → IsSoundChain c → MayGoOn (first_line ∷ rows_so_far c)
may-go-on c sound = complete-current c c.current refl sound.files sound.current
