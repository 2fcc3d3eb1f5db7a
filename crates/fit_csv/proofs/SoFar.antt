-- One more row stands after the rows that a chain was read from.
use Rattle.fit_csv.proofs.Common.{◌≡◌, ◌∙◌, zero, suc, ◌≤◌, true, [], ◌∷◌, ◌++◌, length, map, refl, sym, ap, ap₂, inl, inr, arith, append_assoc}
use Rattle.fit_csv.proofs.Common.{eqb-true, zip, slice_get, IsSomeAnd, Global, map-append, nil_from_length, reverse-append, length-zip, Items}
use Rattle.fit_csv.proofs.Common.{slice_get_within, slice_get-get_or, HasShape, DevDef, FieldDef, Defined, Record, Values, defined_at, dev_defs, Naming}
use Rattle.fit_csv.proofs.Common.{namings_at, nameless, known, header_time, previous_time, data_row, data_rows, def_row, definition_rows, dev_count}
use Rattle.fit_csv.proofs.Common.{dev_def_row, dev_row, dev_rows, field_def_row, field_row, field_rows, message_rows, optional_number, order_word, record_rows}
use Rattle.fit_csv.proofs.Common.{records_rows, row, head_row, DefinitionStep, DevStep, FieldStep, built_definition, dev_total, is_whole, with_dev_items}
use Rattle.fit_csv.proofs.Common.{with_items, naming_at, Row, IsSoundDefinition, IsSoundMessage, open_rows, OpenDefinition}
use Rattle.std.proofs.Common.{ℕ, ◌<◌, List, Option, Some, None}
use Rattle.std.specs.Prelude.{codes, decimal, ◌⊎◌, ◌==◌, reverse, option_map, unwrap_or}
use Rattle.std.proofs.lemmas.List.{append-nil}
use Rattle.fit_texts.proofs.NamingFacts.{namings_long}
pub use Rattle.fit_base.proofs.Bytes.{both as both-true}

-- ---- lists

zip-none : {X Y : Type 0} (xs : List X) → zip {K = X} {X = Y} xs [] ≡ []
zip-none [] = refl
zip-none (x ∷ xs) = refl

pub zip-last : {X Y : Type 0} (xs : List X) (ys : List Y) (x : X) (y : Y) → slice_get xs (length ys) ≡ Some x → zip xs (ys ++ y ∷ []) ≡ zip xs ys ++ (x, y) ∷ []
zip-last [] [] x y e = cc e
zip-last [] (b ∷ ys) x y e = cc e
zip-last (a ∷ xs) [] x y e = let same : a ≡ x = cc e in ap (λ l. (a, y) ∷ l) (zip-none xs) ∙ ap (λ z. (z, y) ∷ []) same
zip-last (a ∷ xs) (b ∷ ys) x y e = ap (λ l. (a, b) ∷ l) (zip-last xs ys x y e)

pub get-zip : {X Y : Type 0} (xs : List X) (ys : List Y) (k : ℕ) (x : X) (y : Y) → slice_get xs k ≡ Some x → slice_get ys k ≡ Some y
    → slice_get (zip xs ys) k ≡ Some (x, y)
get-zip [] ys k x y e f = cc e
get-zip (a ∷ xs) [] k x y e f = cc f
get-zip (a ∷ xs) (b ∷ ys) zero x y e f = let p : a ≡ x = cc e in let q : b ≡ y = cc f in ap₂ (λ u v. Some (u, v)) p q
get-zip (a ∷ xs) (b ∷ ys) (suc k) x y e f = get-zip xs ys k x y e f

pub zip-long : {X Y : Type 0} (xs : List X) (ys : List Y) → length ys ≤ length xs → length (zip xs ys) ≡ length ys
zip-long xs ys h = omega (arith, length-zip xs ys)

pub rows-of-more : (before records : List (Record Global)) (r : Record Global)
    → records_rows before (records ++ r ∷ []) ≡ records_rows before records ++ record_rows (reverse records ++ before) r
unfolding records_rows
rows-of-more before [] r = append-nil (record_rows before r)
rows-of-more before (x ∷ records) r =
    let place : reverse records ++ (x ∷ before) ≡ reverse (x ∷ records) ++ before =
    sym (append_assoc (reverse records) (x ∷ []) before) ∙ ap (λ b. b ++ before) (sym (reverse-append (x ∷ []) records)) in
    ap (λ rows. record_rows before x ++ rows) (rows-of-more (x ∷ before) records r)
    ∙ sym (append_assoc (record_rows before x) (records_rows (x ∷ before) records) (record_rows (reverse records ++ (x ∷ before)) r))
    ∙ ap (λ b. (record_rows before x ++ records_rows (x ∷ before) records) ++ record_rows b r) place

-- ---- definitions

pub definition-more : (o : OpenDefinition) (r : Row) (q : OpenDefinition) → IsSoundDefinition o → DefinitionStep o r q → open_rows q ≡ open_rows o ++ r ∷ []
definition-more o r q sound (inl (room, (f, range, e, is))) =
    let none : o.dev ≡ [] = sound.in_order room in
    ap open_rows is
    ∙ ap (λ (rows : List Row). (head_row o.head ∷ rows) ++ map dev_def_row o.dev) (map-append field_def_row o.fields (f ∷ []))
    ∙ ap (λ (dev : List DevDef). (head_row o.head ∷ (map field_def_row o.fields ++ field_def_row f ∷ [])) ++ map dev_def_row dev) none
    ∙ append-nil (head_row o.head ∷ (map field_def_row o.fields ++ field_def_row f ∷ []))
    ∙ ap (λ (x : Row). (head_row o.head ∷ map field_def_row o.fields) ++ x ∷ []) (sym e)
    ∙ ap (λ (rows : List Row). rows ++ r ∷ []) (sym (append-nil (head_row o.head ∷ map field_def_row o.fields)))
    ∙ ap (λ (dev : List DevDef). ((head_row o.head ∷ map field_def_row o.fields) ++ map dev_def_row dev) ++ r ∷ []) (sym none)
definition-more o r q sound (inr (all, (f, range, e, is))) =
    ap open_rows is
    ∙ ap (λ (rows : List Row). (head_row o.head ∷ map field_def_row o.fields) ++ rows) (map-append dev_def_row o.dev (f ∷ []))
    ∙ sym (append_assoc (head_row o.head ∷ map field_def_row o.fields) (map dev_def_row o.dev) (dev_def_row f ∷ []))
    ∙ ap (λ (x : Row). open_rows o ++ x ∷ []) (sym e)

dev-whole : (m : Option ℕ) (dev : List DevDef) → length dev ≡ unwrap_or m 0
    → (optional_number m ≡ dev_count (option_map (λ _. dev) m)) × (dev ≡ dev_defs (option_map (λ _. dev) m))
dev-whole None dev e = (refl, nil_from_length dev e)
dev-whole (Some n) dev e = (ap decimal (sym e), refl)

-- a whole definition has come from its rows
pub definition-whole : (o : OpenDefinition) → is_whole o ≡ true → open_rows o ≡ definition_rows (built_definition o)
definition-whole o whole =
    let both = both-true (length o.fields == o.head.fields) (length o.dev == dev_total o.head) whole in
    let fields : length o.fields ≡ o.head.fields = eqb-true (length o.fields) o.head.fields both.0 in
    let dev = dev-whole o.head.dev o.dev (eqb-true (length o.dev) (dev_total o.head) both.1) in
    let first : head_row o.head ≡ def_row (built_definition o) =
    ap₂ (λ n m. row (codes "def") (decimal o.head.local) (decimal o.head.reserved) (order_word o.head.order) (decimal o.head.global) n m)
    (ap decimal (sym fields)) dev.0 in
    ap₂ (λ (r : Row) (d : List DevDef). r ∷ (map field_def_row o.fields ++ map dev_def_row d)) first dev.1

-- ---- data messages

pub data-rows-at : (before : List (Record Global)) (v : Values Global) (p : Defined Global) → defined_at (known before) v.local ≡ Some p
    → data_rows before v ≡ message_rows v p (header_time (previous_time before) v.offset) (namings_at before v.local)
data-rows-at before v p is =
    ap (λ d. unwrap_or (option_map (λ q. message_rows v q (header_time (previous_time before) v.offset) (namings_at before v.local)) d) []) is

no-rows : (fields : List DevDef) (dev_codes : List ℕ) (namings : List Naming) → dev_rows {A = Global} fields dev_codes namings [] ≡ []
no-rows fields dev_codes namings =
    ap (λ l. map (λ x. dev_row {A = Global} x.0.0 x.0.1 x.1.0 x.1.1) (zip (zip fields dev_codes) l)) (zip-none namings)
    ∙ ap (λ l. map (λ x. dev_row {A = Global} x.0.0 x.0.1 x.1.0 x.1.1) l) (zip-none (zip fields dev_codes))

field-rows-more : (global : ℕ) (fields : List FieldDef) (items : List (Items Global)) (f : FieldDef) (i : Items Global)
    → slice_get fields (length items) ≡ Some f
    → field_rows global fields (items ++ i ∷ []) ≡ field_rows global fields items ++ field_row global f i ∷ []
field-rows-more global fields items f i e =
    ap (map (λ x. field_row global x.0 x.1)) (zip-last fields items f i e) ∙ map-append (λ x. field_row global x.0 x.1) (zip fields items) ((f, i) ∷ [])

named : (namings : List Naming) (k : ℕ) → k < length namings → slice_get namings k ≡ Some (unwrap_or (slice_get namings k) nameless)
named namings k h = rw (slice_get-get_or namings k nameless h) refl

dev-rows-more : (fields : List DevDef) (dev_codes : List ℕ) (namings : List Naming) (items : List (Items Global)) (f : DevDef) (code : ℕ) (i : Items Global)
    → length items < length namings
    → slice_get fields (length items) ≡ Some f → slice_get dev_codes (length items) ≡ Some code
    → dev_rows fields dev_codes namings (items ++ i ∷ [])
    ≡ dev_rows fields dev_codes namings items ++ dev_row f code (unwrap_or (slice_get namings (length items)) nameless) i ∷ []
dev-rows-more fields dev_codes namings items f code i long e coded =
    let n = unwrap_or (slice_get namings (length items)) nameless in
    let same : length (zip namings items) ≡ length items = zip-long namings items (omega (arith, long)) in
    let both : slice_get (zip fields dev_codes) (length (zip namings items)) ≡ Some (f, code) =
    ap (λ k. slice_get (zip fields dev_codes) k) same ∙ get-zip fields dev_codes (length items) f code e coded in
    ap (λ l. map (λ x. dev_row x.0.0 x.0.1 x.1.0 x.1.1) (zip (zip fields dev_codes) l))
    (zip-last namings items (unwrap_or (slice_get namings (length items)) nameless) i (named namings (length items) long))
    ∙ ap (map (λ x. dev_row x.0.0 x.0.1 x.1.0 x.1.1)) (zip-last (zip fields dev_codes) (zip namings items) (f, code) (n, i) both)
    ∙ map-append (λ x. dev_row x.0.0 x.0.1 x.1.0 x.1.1) (zip (zip fields dev_codes) (zip namings items)) (((f, code), (n, i)) ∷ [])

pub without-dev-rows : (rows : List Row) (fields : List DevDef) (dev_codes : List ℕ) (namings : List Naming) (dev : List (Items Global)) → dev ≡ []
    → rows ++ dev_rows fields dev_codes namings dev ≡ rows
without-dev-rows rows fields dev_codes namings dev none =
    ap (λ (d : List (Items Global)). rows ++ dev_rows fields dev_codes namings d) none ∙ ap (λ (l : List Row). rows ++ l) (no-rows fields dev_codes namings)
    ∙ append-nil rows

pub some-at : {X : Type 0} (o : Option X) (P : X → Type 0) → IsSomeAnd o P → (x : X) × (o ≡ Some x) × P x
some-at None P h = absurd h
some-at (Some x) P h = (x, refl, h)

pub message-more : (before : List (Record Global)) (p : Defined Global) (v : Values Global) (r : Row) (w : Values Global)
    → defined_at (known before) v.local ≡ Some p → IsSoundMessage v p
    → FieldStep p v r w ⊎ DevStep before p v r w → data_rows before w ≡ data_rows before v ++ r ∷ []
message-more before p v r w is sound (inl step) =
    let (f, next, (i, shape, e, same)) = some-at (slice_get p.definition.fields (length v.fields))
    (λ f. (i : Items Global) × HasShape f.code f.size i × (r ≡ field_row p.definition.global f i) × (w ≡ with_items v i)) step in
    let none = sound.in_order (slice_get_within p.definition.fields (length v.fields) f next) in
    let g = p.definition.global in
    let time = header_time (previous_time before) v.offset in
    let namings = namings_at before v.local in
    let first = data_row v p.definition.global (header_time (previous_time before) v.offset) in
    let rows = field_rows g p.definition.fields v.fields in
    ap (data_rows before) same ∙ data-rows-at before (with_items v i) p is
    ∙ without-dev-rows (first ∷ field_rows g p.definition.fields (v.fields ++ i ∷ [])) (dev_defs p.definition.dev) p.dev_codes namings v.dev none
    ∙ ap (λ (l : List Row). first ∷ l) (field-rows-more g p.definition.fields v.fields f i next)
    ∙ ap (λ (x : Row). (first ∷ rows) ++ x ∷ []) (sym e)
    ∙ ap (λ (l : List Row). l ++ r ∷ []) (sym
    (data-rows-at before v p is ∙ without-dev-rows (first ∷ rows) (dev_defs p.definition.dev) p.dev_codes namings v.dev none))
message-more before p v r w is sound (inr (all, step)) =
    let k = length v.dev in
    let (f, next, step') = some-at (slice_get (dev_defs p.definition.dev) (length v.dev))
    (λ f. IsSomeAnd (slice_get p.dev_codes (length v.dev)) (λ code. (i : Items Global) ×
    HasShape code f.size i × (r ≡ dev_row f code (naming_at before v.local (length v.dev)) i) × (w ≡ with_dev_items v i))) step in
    let (code, coded, (i, shape, e, same)) = some-at (slice_get p.dev_codes (length v.dev)) (λ code. (i : Items Global) ×
    HasShape code f.size i × (r ≡ dev_row f code (naming_at before v.local (length v.dev)) i) × (w ≡ with_dev_items v i)) step' in
    let within = slice_get_within (dev_defs p.definition.dev) (length v.dev) f next in
    let long : length v.dev < length (namings_at before v.local) = omega (arith, within, namings_long before v.local p is) in
    let namings = namings_at before v.local in
    let front = data_row v p.definition.global (header_time (previous_time before) v.offset) ∷ field_rows p.definition.global p.definition.fields v.fields in
    let rows = dev_rows (dev_defs p.definition.dev) p.dev_codes (namings_at before v.local) v.dev in
    ap (data_rows before) same ∙ data-rows-at before (with_dev_items v i) p is
    ∙ ap (λ (l : List Row). front ++ l) (dev-rows-more (dev_defs p.definition.dev) p.dev_codes namings v.dev f code i long next coded)
    ∙ sym (append_assoc front rows (dev_row f code (naming_at before v.local (length v.dev)) i ∷ []))
    ∙ ap (λ (x : Row). (front ++ rows) ++ x ∷ []) (sym e)
    ∙ ap (λ (l : List Row). l ++ r ∷ []) (sym (data-rows-at before v p is))
