-- The rows of a message by what is kept of its definition.
use Rattle.fit_rows.proofs.Common.{◌≡◌, ◌∙◌, ◌++◌, [], ◌∷◌, length, map, zip, refl, sym, ap, subst, arith, length-map, map-append}
use Rattle.fit_rows.proofs.Common.{Global, Items, FieldDef, DevDef, Naming, Defined, Record, Values}
use Rattle.fit_rows.proofs.Common.{defined_at, known, dev_defs, dev_layout, layout, namings_at, header_time, previous_time, HasRows}
use Rattle.fit_rows.proofs.Common.{data_row, data_rows, dev_row, dev_rows, field_row, field_rows, message_rows}
use Rattle.fit_rows.proofs.Common.{FrameKey, dev_frame_key, dev_keys, field_key, frame_keys, frame_shapes, key_rows, message_key, value_row}
use Rattle.fit_rows.proofs.Common.{value_rows}
use Rattle.std.proofs.Common.{ℕ, List, Option, Some, option_map, unwrap_or}
use Rattle.std.specs.Prelude.{Vec}
use Rattle.fit_shown.proofs.FieldWalks.{field_shape}

-- ---- codes and sizes

shapes_of_fields : (global : ℕ) (fields : List FieldDef)
    → map {B = ℕ × ℕ} (λ f. (f.code, f.size)) (map (field_key global) fields) ≡ map field_shape fields
shapes_of_fields global [] = refl
shapes_of_fields global (f ∷ fields) = ap (λ xs. field_shape f ∷ xs) (shapes_of_fields global fields)

shapes_of_devs : (fields : List DevDef) (coded : List ℕ) (namings : List Naming) → length coded ≡ length fields → length namings ≡ length fields
    → map {B = ℕ × ℕ} (λ f. (f.code, f.size)) (map dev_frame_key (dev_keys fields coded namings)) ≡ zip coded (map (λ f. f.size) fields)
shapes_of_devs [] [] namings long named = refl
shapes_of_devs [] (c ∷ coded) namings long named = absurd (omega (arith, long))
shapes_of_devs (f ∷ fields) [] namings long named = absurd (omega (arith, long))
shapes_of_devs (f ∷ fields) (c ∷ coded) [] long named = absurd (omega (arith, named))
shapes_of_devs (f ∷ fields) (c ∷ coded) (n ∷ namings) long named =
    ap (λ xs. (c, f.size) ∷ xs) (shapes_of_devs fields coded namings (omega (arith, long)) (omega (arith, named)))

-- the codes and sizes by which the items of a definition's messages are known
pub shapes_are : (before : List (Record Global)) (local : ℕ) (p : Defined Global) → length p.dev_codes ≡ length (dev_defs p.definition.dev)
    → length (namings_at before local) ≡ length (dev_defs p.definition.dev) → frame_shapes (message_key before local p) ≡ layout p ++ dev_layout p
shapes_are before local p coded named =
    let fields = map (field_key p.definition.global) p.definition.fields in
    let devs = map dev_frame_key (dev_keys (dev_defs p.definition.dev) p.dev_codes (namings_at before local)) in
    map-append {B = ℕ × ℕ} (λ f. (f.code, f.size)) fields devs
    ∙ (λ i. shapes_of_fields p.definition.global p.definition.fields i ++ shapes_of_devs (dev_defs p.definition.dev) p.dev_codes (namings_at before local)
    coded named i)

-- ---- rows

rows_of_both : {A : Type 0} (keys more : List FrameKey) (items others : List (Items A)) → length items ≡ length keys
    → value_rows (keys ++ more) (items ++ others) ≡ value_rows keys items ++ value_rows more others
rows_of_both [] more [] others long = refl
rows_of_both [] more (i ∷ items) others long = absurd (omega (arith, long))
rows_of_both (k ∷ keys) more [] others long = absurd (omega (arith, long))
rows_of_both (k ∷ keys) more (i ∷ items) others long = ap (λ rows. value_row k i ∷ rows) (rows_of_both keys more items others (omega (arith, long)))

rows_of_fields : {A : Type 0} (global : ℕ) (fields : List FieldDef) (items : List (Items A))
    → value_rows (map (field_key global) fields) items ≡ field_rows global fields items
rows_of_fields global [] items = refl
rows_of_fields global (f ∷ fields) [] = refl
rows_of_fields global (f ∷ fields) (i ∷ items) = ap (λ rows. field_row global f i ∷ rows) (rows_of_fields global fields items)

rows_of_devs : {A : Type 0} (fields : List DevDef) (coded : List ℕ) (namings : List Naming) (items : List (Items A))
    → value_rows (map dev_frame_key (dev_keys fields coded namings)) items ≡ dev_rows fields coded namings items
rows_of_devs [] coded namings items = refl
rows_of_devs (f ∷ fields) [] namings items = refl
rows_of_devs (f ∷ fields) (c ∷ coded) [] items = refl
rows_of_devs (f ∷ fields) (c ∷ coded) (n ∷ namings) [] = refl
rows_of_devs (f ∷ fields) (c ∷ coded) (n ∷ namings) (i ∷ items) = ap (λ rows. dev_row f c n i ∷ rows) (rows_of_devs fields coded namings items)

-- the rows of a message
pub message_rows_are : (before : List (Record Global)) (p : Defined Global) (local : ℕ) (offset time : Option ℕ) (v : Values Global)
    → defined_at (known before) local ≡ Some p → v.local ≡ local → v.offset ≡ offset → length v.fields ≡ length p.definition.fields
    → time ≡ header_time (previous_time before) offset → key_rows (message_key before local p) offset time (v.fields ++ v.dev) ≡ data_rows before v
message_rows_are before p local offset time v place at since long timed =
    let global = p.definition.global in
    let fields = p.definition.fields in
    let devs = dev_keys (dev_defs p.definition.dev) p.dev_codes (namings_at before local) in
    let beyond = header_time (previous_time before) v.offset in
    let times : time ≡ beyond = timed ∙ ap (header_time (previous_time before)) (sym since) in
    let values : value_rows (frame_keys (message_key before local p)) (v.fields ++ v.dev)
    ≡ field_rows global fields v.fields ++ dev_rows (dev_defs p.definition.dev) p.dev_codes (namings_at before v.local) v.dev =
    rows_of_both (map (field_key global) fields) (map dev_frame_key devs) v.fields v.dev (long ∙ sym (length-map fields (field_key global)))
    ∙ (λ i. rows_of_fields global fields v.fields i ++ rows_of_devs (dev_defs p.definition.dev) p.dev_codes (namings_at before local) v.dev i)
    ∙ ap (λ l. field_rows global fields v.fields ++ dev_rows (dev_defs p.definition.dev) p.dev_codes (namings_at before l) v.dev) (sym at) in
    let same : key_rows (message_key before local p) offset time (v.fields ++ v.dev) ≡ message_rows v p beyond (namings_at before v.local) =
    (λ i. key_rows (record (message_key before local p) { own = record { local = sym at i; global = global; fields = fields } }) (sym since i) (times i)
    (v.fields ++ v.dev))
    ∙ ap (λ rows. data_row v global beyond ∷ rows) values in
    subst (λ o. key_rows (message_key before local p) offset time (v.fields ++ v.dev)
    ≡ unwrap_or (option_map (λ q. message_rows v q beyond (namings_at before v.local)) o) [])
    (sym (ap (defined_at (known before)) at ∙ place)) same

pub message_whole : (before : List (Record Global)) (p : Defined Global) (local : ℕ) (offset time : Option ℕ) (v : Values Global) (u w : Vec ℕ Global)
    → defined_at (known before) local ≡ Some p → v.local ≡ local → v.offset ≡ offset → length v.fields ≡ length p.definition.fields
    → time ≡ header_time (previous_time before) offset
    → HasRows (key_rows (message_key before local p) offset time (v.fields ++ v.dev)) u w → HasRows (data_rows before v) u w
message_whole before p local offset time v u w place at since long timed put =
    subst (λ rows. HasRows rows u w) (message_rows_are before p local offset time v place at since long timed) put
