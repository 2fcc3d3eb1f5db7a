-- How long blocks are.
use Rattle.std.proofs.Common.{◌≡◌, ◌∙◌, ℕ, ◌+◌, ◌*◌, ◌%◌, List, [], ◌∷◌, ◌++◌, Bool, true, false, length, map, refl, ap, arith, replicate}
use Rattle.std.proofs.lemmas.List.{length-append, length-replicate}
use Rattle.std.proofs.lemmas.List.Sums.{sum_by-cons}
use Rattle.std.proofs.Math.Nat.{suc-mul}
use Rattle.std.specs.Prelude.{Option, Some, None, flat_map, slice_index_or, if◌then◌else◌, option_map, sum_by, unwrap_or, zip}
use Rattle.fit_base.proofs.Bytes.{length-little_bytes}
use Rattle.fit_base.specs.Fields.{items_bytes}
use Rattle.fit_base.specs.Numbers.{little_bytes}
use Rattle.fit_base.specs.declared.items.Items.{Items}
use Rattle.fit_base.specs.declared.number.Order.TheVariants.{Little}
use Rattle.fit_chain.specs.Events.{header, item, file_end}
use Rattle.fit_profile.specs.Looks.{known}
use Rattle.fit_profile.specs.Told.{told}
use Rattle.fit_profile.specs.declared.told.Told.{Told}
use Rattle.fit_record.specs.Environment.{defined_at, defined_by, dev_defs}
use Rattle.fit_record.specs.Records.{HaveShape, architecture, dev_layout, layout}
use Rattle.fit_record.specs.declared.definition.DevDef.{DevDef}
use Rattle.fit_record.specs.declared.definition.FieldDef.{FieldDef}
use Rattle.fit_record.specs.declared.environment.Defined.{Defined}
use Rattle.fit_record.specs.declared.message.Record.TheVariants.{Define, Values as Data}
use Rattle.fit_record.specs.declared.message.Values.{Values}
use Rattle.fit_record.specs.declared.definition.MessageDef.{MessageDef}
use Rattle.fit_frame.specs.declared.header.Header.{Header}
use Rattle.fit_profile.specs.Described.{Naming, namings_at}
use Rattle.fit_profile.specs.Names.{message_name}
use Rattle.fit_report.specs.Heard.{latest_records}
use Rattle.fit_messages.specs.Blocks as blocks
use Rattle.fit_messages.specs.Blocks.{Column, amounts, counts, entries, entry, front, gap, message_block, message_head, rounded}
use Rattle.fit_messages.specs.Blocks.{begun_files, bytes_heard, columns, counts_bytes, definition_block, definitions_heard, end_block, header_block}
use Rattle.fit_messages.specs.Blocks.{items_begin, kind_bytes, message_length, numbers_heard, scale_bytes, sized, slot, sum_kind, whole}
unfoldable use Rattle.fit_messages.specs.Blocks.{low}
use Rattle.fit_messages.specs.Laws.{BlocksAreWhole, MessagesHaveOneLength}

-- ---- lengths of parts

length-low : (w n : ℕ) → length (low w n) ≡ w
unfolding low
length-low w n = length-little_bytes w n

length-front : (kind a b c file n place : ℕ) → length (front kind a b c file n place) ≡ 20
unfolding low
length-front kind a b c file n place = refl

length-sized : (rest : List ℕ) → length (sized rest) ≡ 4 + length rest
length-sized rest = omega (arith, length-append (low 4 (4 + length rest)) rest, length-low 4 (4 + length rest))

length-rounded : (bytes : List ℕ) → length (rounded bytes) ≡ whole (length bytes)
length-rounded bytes =
    length-append bytes (replicate (gap (length bytes)) 0) ∙ ap (λ n. length bytes + n) (length-replicate (gap (length bytes)) 0)

whole_is : (n : ℕ) → whole n % 8 ≡ 0
whole_is n = omega arith

rounded_whole : (bytes : List ℕ) → length (rounded bytes) % 8 ≡ 0
rounded_whole bytes = ap (λ n. n % 8) (length-rounded bytes) ∙ whole_is (length bytes)

both_whole : (a b : List ℕ) → length a % 8 ≡ 0 → length b % 8 ≡ 0 → length (a ++ b) % 8 ≡ 0
both_whole a b first second = omega (arith, length-append a b, first, second)

-- ---- messages

length-amounts : (t : Told) → length (amounts t) ≡ 32
unfolding low
length-amounts t = refl

length-head : (file place number local : ℕ) (offset : Option ℕ) (counted : Bool) (t : Told)
    → length (message_head file place number local offset counted t) ≡ 36 + (if counted then 32 else 0)
unfolding low
length-head file place number local offset true t = refl
length-head file place number local offset false t = refl

slots_whole : {A : Type 0} (items : List (Items A)) → length (flat_map slot items) % 8 ≡ 0
slots_whole [] = refl
slots_whole (i ∷ items) = both_whole (slot i) (flat_map slot items) (rounded_whole (items_bytes Little i)) (slots_whole items)

message_whole : {A : Type 0} (file place number : ℕ) (v : Values A) (p : Defined A) (t : Told)
    → length (message_block file place number v p.definition t) % 8 ≡ 0
message_whole file place number v p t =
    let head = message_head file place number v.local v.offset (counts p.definition) t in
    let bits = if_8 (counts p.definition) in
    omega (
      arith,
      length-sized (head ++ flat_map slot v.fields ++ flat_map slot v.dev),
      length-append (head ++ flat_map slot v.fields) (flat_map slot v.dev),
      length-append head (flat_map slot v.fields),
      length-head file place number v.local v.offset (counts p.definition) t,
      bits,
      slots_whole v.fields,
      slots_whole v.dev,
    )
  where
    if_8 : (b : Bool) → (if b then 32 else 0) % 8 ≡ 0
    if_8 true = refl
    if_8 false = refl

-- ---- definitions

length-fixed : (a b at : ℕ) (c : Column) → length (low 2 a ++ low 2 b ++ kind_bytes c ++ scale_bytes at c) % 8 ≡ 0
unfolding low
length-fixed a b at c = refl

entry_whole : (at : ℕ) (c : Column) → length (entry at c) % 8 ≡ 0
entry_whole at c =
    let name = blocks.text c.meaning.name in
    let unit = blocks.text c.meaning.unit in
    let fixed = low 2 (32 + length name + length unit) ++ low 2 (32 + length name) ++ kind_bytes c ++ scale_bytes at c in
    both_whole (fixed ++ name) unit
    (both_whole fixed name (length-fixed (32 + length name + length unit) (32 + length name) at c) (rounded_whole (c.meaning.name ++ 0 ∷ [])))
    (rounded_whole (c.meaning.unit ++ 0 ∷ []))

entries_whole : (at : ℕ) (columns : List Column) → length (entries at columns) % 8 ≡ 0
entries_whole at [] = refl
entries_whole at (c ∷ columns) = both_whole (entry at c) (entries (at + whole c.size) columns) (entry_whole at c) (entries_whole (at + whole c.size) columns)

-- ---- blocks

length-counts : {A : Type 0} (number : ℕ) (d : MessageDef A) → length (counts_bytes number d) ≡ 16
unfolding low
length-counts number d = refl

header_whole : (file place : ℕ) (h : Header) (n : ℕ) → length (header_block file place h n) % 8 ≡ 0
header_whole file place h n =
    let f = front 1 h.size h.protocol (sum_kind h.sum) file n place in
    let p = low 8 h.profile in
    let r = rounded h.rest.items in
    omega (
      arith,
      length-sized (f ++ p ++ r),
      length-append (f ++ p) r,
      length-append f p,
      length-front 1 h.size h.protocol (sum_kind h.sum) file n place,
      length-low 8 h.profile,
      rounded_whole h.rest.items,
    )

definition_whole : {A : Type 0} (file place number : ℕ) (p : Defined A) (namings : List Naming)
    → length (definition_block file place number p namings) % 8 ≡ 0
definition_whole file place number p namings =
    let d = p.definition in
    let f = front 2 d.local (architecture d.order) d.reserved file (message_length d) place in
    let c = counts_bytes number d in
    let t = blocks.text (unwrap_or (message_name d.global) []) in
    let e = entries (items_begin d) (columns p namings) in
    omega (
      arith,
      length-sized (f ++ c ++ t ++ e),
      length-append (f ++ c ++ t) e,
      length-append (f ++ c) t,
      length-append f c,
      length-front 2 d.local (architecture d.order) d.reserved file (message_length d) place,
      length-counts number d,
      rounded_whole (unwrap_or (message_name d.global) [] ++ 0 ∷ []),
      entries_whole (items_begin d) (columns p namings),
    )

after_whole : {A : Type 0} (file place number : ℕ) (v : Values A) (t : Told) (o : Option (Defined A))
    → length (unwrap_or (option_map (λ p. message_block file place number v p.definition t) o) []) % 8 ≡ 0
after_whole file place number v t None = refl
after_whole file place number v t (Some p) = message_whole file place number v p t

end_whole : (file place : ℕ) → length (end_block file place) % 8 ≡ 0
end_whole file place = omega (arith, length-sized (front 4 0 0 0 file 0 place), length-front 4 0 0 0 file 0 place)

pub blocks_whole : {A : Type 0} → BlocksAreWhole A
blocks_whole heard (header h n) = header_whole (begun_files heard + 1) (bytes_heard heard) h n
blocks_whole heard (item (Define d)) =
    let before = latest_records heard in
    definition_whole (begun_files heard) (bytes_heard heard) (definitions_heard heard) (defined_by (known before) d) (namings_at (Define d ∷ before) d.local)
blocks_whole heard (item (Data v)) =
    let before = latest_records heard in
    after_whole (begun_files heard) (bytes_heard heard) (slice_index_or (numbers_heard heard) v.local 0) v (told before v) (defined_at (known before) v.local)
blocks_whole heard file_end = end_whole (begun_files heard) (bytes_heard heard)

-- ---- the messages of a definition

length-items : (w : ℕ) (numbers : List ℕ) → length (flat_map (little_bytes w) numbers) ≡ length numbers * w
length-items w [] = omega arith
length-items w (n ∷ numbers) =
    omega (
      arith,
      length-append (little_bytes w n) (flat_map (little_bytes w) numbers),
      length-little_bytes w n,
      length-items w numbers,
      suc-mul (length numbers) w,
    )

slots_long : {A : Type 0} (fs : List (ℕ × ℕ)) (items : List (Items A)) → HaveShape fs items
    → length (flat_map slot items) ≡ sum_by (λ f. whole f.1) fs
slots_long [] [] shape = refl
slots_long [] (i ∷ items) shape = absurd shape
slots_long (f ∷ fs) [] shape = absurd shape
slots_long (f ∷ fs) (i ∷ items) shape =
    let here : length (slot i) ≡ whole f.1 = length-rounded (items_bytes Little i) ∙ ap whole (length-items i.width i.bits ∙ shape.0.whole) in
    omega (
      arith,
      length-append (slot i) (flat_map slot items),
      here,
      slots_long fs items shape.1,
      sum_by-cons (λ (g : ℕ × ℕ). whole g.1) f fs,
    )

layout_sum : (fields : List FieldDef) → sum_by (λ (f : ℕ × ℕ). whole f.1) (map (λ f. (f.code, f.size)) fields) ≡ sum_by (λ f. whole f.size) fields
layout_sum [] = refl
layout_sum (f ∷ fields) =
    omega (
      arith,
      sum_by-cons (λ (g : ℕ × ℕ). whole g.1) (f.code, f.size) (map (λ f. (f.code, f.size)) fields),
      sum_by-cons (λ (g : FieldDef). whole g.size) f fields,
      layout_sum fields,
    )

dev_sum : (coded : List ℕ) (fields : List DevDef) → length coded ≡ length fields
    → sum_by (λ (f : ℕ × ℕ). whole f.1) (zip coded (map (λ f. f.size) fields)) ≡ sum_by (λ f. whole f.size) fields
dev_sum [] [] long = refl
dev_sum [] (f ∷ fields) long = absurd (omega (arith, long))
dev_sum (code ∷ coded) [] long = absurd (omega (arith, long))
dev_sum (code ∷ coded) (f ∷ fields) long =
    omega (
      arith,
      sum_by-cons (λ (g : ℕ × ℕ). whole g.1) (code, f.size) (zip coded (map (λ f. f.size) fields)),
      sum_by-cons (λ (g : DevDef). whole g.size) f fields,
      dev_sum coded fields (omega (arith, long)),
    )

pub one_length : {A : Type 0} → MessagesHaveOneLength A
one_length file place number v p t sound fits =
    let d = p.definition in
    let head = message_head file place number v.local v.offset (counts d) t in
    omega (
      arith,
      length-sized (head ++ flat_map slot v.fields ++ flat_map slot v.dev),
      length-append (head ++ flat_map slot v.fields) (flat_map slot v.dev),
      length-append head (flat_map slot v.fields),
      length-head file place number v.local v.offset (counts d) t,
      slots_long (layout p) v.fields fits.fields,
      slots_long (dev_layout p) v.dev fits.dev_fields,
      layout_sum d.fields,
      dev_sum p.dev_codes (dev_defs d.dev) sound.codes,
    )
