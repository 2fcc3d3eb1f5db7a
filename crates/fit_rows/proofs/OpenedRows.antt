-- The rows of a data message that is opened in its bytes.
use Rattle.fit_rows.proofs.Common.{◌≡◌, ◌∙◌, ◌+◌, ◌++◌, [], length, take, zip, refl, sym, ap, subst, arith, length-map, Global, Items, Record}
use Rattle.fit_rows.proofs.Common.{data_rows, dev_layout, layout, header_time, previous_time, frame_keys, frame_shapes, key_rows, message_key, value_row}
use Rattle.fit_rows.proofs.Common.{HasItems, MessageKey}
use Rattle.std.proofs.Common.{ℕ, List, Option}
use Rattle.std.proofs.lemmas.Slice.Zip.{length-zip}
use Rattle.std.proofs.lemmas.List.{append-nil}
use Rattle.fit_shown.proofs.FieldWalks.{field_shape}
use Rattle.fit_shown.specs.declared.items.ItemBytes.{ItemBytes}
use Rattle.fit_profile.proofs.KnownFacts.{codes-long}
use Rattle.fit_profile.specs.Opened.{IsOpened}
use Rattle.fit_record.specs.MessageBytes.{message_in}
use Rattle.fit_record.specs.ReadMessages.{fields_from}
use Rattle.fit_record.specs.Records.{sizes}
use Rattle.fit_record.specs.declared.message_bytes.MessageBytes.{MessageBytes}
use Rattle.fit_texts.proofs.ItemFacts.{fields_both, fields_long}
use Rattle.fit_texts.proofs.NamingFacts.{namings_long}
use Rattle.fit_rows.proofs.KeyRows.{message_rows_are, shapes_are}

-- what is kept of its definition
abbrev pub opened_key : List (Record Global) → MessageBytes Global → MessageKey
opened_key before m = message_key before m.local m.defined.now

-- its items, those of the fields and of the developer fields
abbrev pub all_items : MessageBytes Global → List (Items Global)
all_items m = (message_in m).fields ++ (message_in m).dev

-- it has as many fields as its definition
pub fields_counted : (m : MessageBytes Global) → length (message_in m).fields ≡ length m.defined.now.definition.fields
fields_counted m =
    let p = m.defined.now in
    fields_long Global p.definition.order (layout p) (take (sizes (layout p)) m.body.now) ∙ length-map p.definition.fields field_shape

-- the codes and sizes by which it is read are those that are kept
pub opened_shapes : (before : List (Record Global)) (m : MessageBytes Global) → IsOpened before m
    → frame_shapes (opened_key before m) ≡ layout m.defined.now ++ dev_layout m.defined.now
opened_shapes before m opened =
    let p = m.defined.now in
    shapes_are before m.local p (codes-long before m.local p opened.defined) (namings_long before m.local p opened.defined)

-- its items stand in its bytes
pub opened_items : (before : List (Record Global)) (m : MessageBytes Global) (s : ItemBytes) → IsOpened before m → s.order ≡ m.defined.now.definition.order
    → s.rest.now ≡ m.body.now → HasItems s (frame_shapes (opened_key before m) ++ []) (all_items m)
opened_items before m s opened ordered is =
    let p = m.defined.now in
    let both : layout p ++ dev_layout p ≡ frame_shapes (opened_key before m) ++ [] =
    sym (opened_shapes before m opened) ∙ sym (append-nil (frame_shapes (opened_key before m))) in
    let long : length s.rest.now ≡ sizes (layout p ++ dev_layout p) = ap length is ∙ opened.size in
    let read : all_items m ≡ fields_from {A = Global} s.order (layout p ++ dev_layout p) s.rest.now =
    sym (fields_both p.definition.order (layout p) (dev_layout p) m.body.now)
    ∙ (λ i. fields_from (sym ordered i) (layout p ++ dev_layout p) (sym is i)) in
    subst (λ fs. HasItems s fs (all_items m)) both (long, read)

-- its rows, by what is kept of its definition
pub opened_rows : (before : List (Record Global)) (m : MessageBytes Global) (time : Option ℕ) → IsOpened before m
    → time ≡ header_time (previous_time before) m.offset → key_rows (opened_key before m) m.offset time (all_items m) ≡ data_rows before (message_in m)
opened_rows before m time opened timed =
    message_rows_are before m.defined.now m.local m.offset time (message_in m) opened.defined refl refl (fields_counted m) timed

rows_counted : (k : MessageKey) (offset time : Option ℕ) (all : List (Items Global)) → length all ≡ length (frame_shapes k)
    → length (key_rows k offset time all) ≡ 1 + length (frame_keys k)
rows_counted k offset time all long =
    omega (
      arith,
      long,
      length-map {B = ℕ × ℕ} (frame_keys k) (λ f. (f.code, f.size)),
      length-zip (frame_keys k) all,
      length-map (zip (frame_keys k) all) (λ x. value_row {A = Global} x.0 x.1),
    )

-- how many they are
pub opened_counted : (before : List (Record Global)) (m : MessageBytes Global) → IsOpened before m
    → length (data_rows before (message_in m)) ≡ 1 + length (frame_keys (opened_key before m))
opened_counted before m opened =
    let p = m.defined.now in
    let fields = layout p ++ dev_layout p in
    let items : length (all_items m) ≡ length (frame_shapes (opened_key before m)) =
    ap length (sym (fields_both p.definition.order (layout p) (dev_layout p) m.body.now)) ∙ fields_long Global p.definition.order fields m.body.now
    ∙ ap length (sym (opened_shapes before m opened)) in
    let time = header_time (previous_time before) m.offset in
    ap length (sym (opened_rows before m time opened refl)) ∙ rows_counted (opened_key before m) m.offset time (all_items m) items
