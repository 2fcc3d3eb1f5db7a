-- How much there is of a record in progress, by its bytes.
use Rattle.fit_step.proofs.Common.{◌≡◌, ℕ, suc, ◌+◌, ◌-◌, ◌*◌, ◌/◌, ◌<◌, List, [], ◌∷◌, ◌++◌, length, refl, sym, ap, ◌∙◌, arith, append_assoc, Some, None}
use Rattle.fit_step.proofs.Common.{Option, flat_map, option_map_or, cond_both, get_or-append_right, sum_by-cons, div-mul-add, Items, item_width, IsBytes}
use Rattle.fit_step.proofs.Common.{number_bytes, HasShape, item_width_positive, DevDef, MessageDef, Defined, Environment, defined_at, dev_defs, is_definition}
use Rattle.fit_step.proofs.Common.{has_developer_fields, local_type, architecture, field_bytes, dev_field_bytes, definition_header, HaveShape, entry_count}
use Rattle.fit_step.proofs.Common.{no_items, HasNone, counts_so_far, item_count, part_size, items_in, ◌≤◌, map, sum_by, slice_index, length-append, min}
use Rattle.fit_step.proofs.Common.{div-le_self, append-nil, length-map, sum_by-append, Order, items_bytes, layout, dev_layout, data_header, DataHeaderFits}
use Rattle.fit_step.proofs.Common.{order_at, sizes, TakenFields, width_of, taken, all_items, IsTaking, length-dev_layout, items_so_far, held_of_record}
use Rattle.fit_step.proofs.Common.{values_size, le-div, length-items, Record, Define, Data}
use Rattle.fit_step.proofs.HeaderBits.{is_some_dev, definition_bits, data_bits}
use Rattle.fit_step.proofs.Limits.{IsLimited, AreLimited, items_of}
use Rattle.std.proofs.Math.Nat.{div-mul-le_self}
use Rattle.fit_step.proofs.Lengths.{taken_rest}
use Rattle.fit_step.proofs.Takes.{as_many}
use Rattle.fit_step.proofs.Preconditions.{as_defined}

-- ---- the items of a data message

items_of_field : {A : Type 0} (code size : ℕ) (i : Items A) → HasShape code size i → length i.bits ≡ size / item_width code size
items_of_field code size i h =
    let w : ℕ = item_width code size in
    let whole : length i.bits * w + 0 ≡ size = omega (arith, ap (λ n. length i.bits * n) (sym h.width), h.whole) in
    sym (div-mul-add (length i.bits) w 0 (item_width_positive code size)) ∙ ap (λ n. n / w) whole

pub whole_items : {A : Type 0} (fields : List (ℕ × ℕ)) (items : List (Items A)) → HaveShape fields items → items_in items ≡ sum_by items_of fields
whole_items [] [] h = refl
whole_items {A} (f ∷ fields) (i ∷ items) h =
    sum_by-cons (λ (j : Items A). length j.bits) i items ∙ ap (λ n. n + items_in items) (items_of_field f.0 f.1 i h.0)
    ∙ ap (λ n. items_of f + n) (whole_items fields items h.1) ∙ sym (sum_by-cons items_of f fields)
whole_items fields items h = absurd h

pub no_items_yet : (A : Type 0) (fields : List (ℕ × ℕ)) → items_in (map (no_items {A = A}) fields) ≡ 0
no_items_yet A [] = refl
no_items_yet A (f ∷ fields) = omega (arith, sum_by-cons (λ (j : Items A). length j.bits) (no_items f) (map no_items fields), no_items_yet A fields)

-- ---- by the bytes of a definition message

pub no_dev_fields : (dev : Option (List DevDef)) → HasNone dev → length (dev_defs dev) ≡ 0
no_dev_fields None none = refl
no_dev_fields (Some fields) none = ap length none

module _ {A : Type 0} (e : Environment A) (d : MessageDef A) (local : d.local < 16) (more : List ℕ) where
  definition_size : part_size e (definition_header d ∷ more) ≡ counts_so_far (definition_header d) more
  definition_size = let kind = (definition_bits (definition_header d) d.local d.dev refl local).kind in rw kind refl

  -- no developer field has come
  pub fields_counted : HasNone d.dev → length d.fields ≤ slice_index more 4 → entry_count d ≤ part_size e (definition_header d ∷ more)
  fields_counted none within = omega (arith, definition_size, within, no_dev_fields d.dev none)

  -- all fields have come, and some developer fields
  pub dev_counted : (defs : List DevDef) (count : ℕ) → d.dev ≡ Some defs → slice_index more 4 ≡ length d.fields
      → slice_index more (5 + 3 * length d.fields) ≡ count
      → length (dev_defs d.dev) ≤ count
      → entry_count d ≤ part_size e (definition_header d ∷ more)
  dev_counted defs count dev at_fields at_count within =
      let some = (definition_bits (definition_header d) d.local d.dev refl local).with_dev ∙ ap is_some_dev dev in
      let both : counts_so_far (definition_header d) more ≡ length d.fields + count = rw (some, at_fields, at_count) refl in
      omega (arith, definition_size, both, within)

-- the number after that many bytes
beyond : (front : List ℕ) (n count : ℕ) (more : List ℕ) → length front ≡ n → slice_index (front ++ count ∷ more) n ≡ count
beyond front n count more long = get_or-append_right front (count ∷ more) n n 0 long (omega arith)
    ∙ ap (slice_index (count ∷ more)) (let none : n - n ≡ 0 = omega arith in none)

pub after_both : (front : List ℕ) (n count : ℕ) (more last : List ℕ) → length front ≡ n → slice_index ((front ++ count ∷ more) ++ last) n ≡ count
after_both front n count more last long = ap (λ l. slice_index l n) (append_assoc front (count ∷ more) last) ∙ beyond front n count (more ++ last) long

-- the bytes of the fields after the record header
abbrev pub front_of : {A : Type 0} → MessageDef A → ℕ → List ℕ
front_of d count = d.reserved ∷ architecture d.order ∷ number_bytes d.order 2 d.global ++ count ∷ flat_map field_bytes d.fields

-- the number of developer fields, and those that have come
abbrev pub devs_of : {A : Type 0} → MessageDef A → ℕ → List ℕ
devs_of d left = (length (dev_defs d.dev) + left) ∷ flat_map dev_field_bytes (dev_defs d.dev)

-- ---- all of it

place_items : {A : Type 0} (o : Option (Defined A)) → IsLimited o → option_map_or (λ p. entry_count p.definition + item_count p) o 0 ≤ 130560
place_items None h = omega arith
place_items (Some p) h = omega (arith, h.0, h.1)

pub part_limited : {A : Type 0} (e : Environment A) (part : List ℕ) → AreLimited e → IsBytes part → part_size e part ≤ 130560
part_limited e [] known are = omega arith
part_limited e (b ∷ more) known are =
    let fields : slice_index more 4 < 256 = are 5 in
    let dev : slice_index more (5 + 3 * slice_index more 4) < 256 = are (suc (5 + 3 * slice_index more 4)) in
    cond_both (is_definition b) _ _ (λ n. n ≤ 130560)
    (λ _. cond_both (has_developer_fields b) _ _ (λ n. slice_index more 4 + n ≤ 130560) (λ _. omega (arith, fields, dev)) (λ _. omega (arith, fields)))
    (λ _. place_items (defined_at e (local_type b)) (known.places (local_type b)))

-- ---- items

items_none : (fields : List (ℕ × ℕ)) → items_so_far fields 0 ≡ 0
items_none [] = refl
items_none (f ∷ fields) =
    let least : min 0 f.1 ≡ 0 = omega arith in
    let none : 0 - f.1 ≡ 0 = omega arith in
    let first : min 0 f.1 / item_width f.0 f.1 ≡ 0 =
    ap (λ n. n / item_width f.0 f.1) least ∙ (let below = div-le_self 0 (item_width f.0 f.1) in omega (arith, below)) in
    let rest : items_so_far fields (0 - f.1) ≡ 0 = ap (items_so_far fields) none ∙ items_none fields in
    omega (arith, first, rest)

pub items_within : (fields : List (ℕ × ℕ)) (count : ℕ) → items_so_far fields count ≤ sum_by items_of fields
items_within [] count = omega arith
items_within (f ∷ fields) count =
    let w : ℕ = item_width f.0 f.1 in
    let first = le-div (min count f.1 / w) f.1 w (item_width_positive f.0 f.1) (omega (arith, div-mul-le_self (min count f.1) w)) in
    omega (arith, first, items_within fields (count - f.1), sum_by-cons items_of f fields)

items_after : (done rest : List (ℕ × ℕ)) (count : ℕ) → items_so_far (done ++ rest) (sizes done + count) ≡ sum_by items_of done + items_so_far rest count
items_after [] rest count = ap (items_so_far rest) (let none : sum_by (λ (f : ℕ × ℕ). f.1) [] + count ≡ count = omega arith in none)
    ∙ (let none : items_so_far rest count ≡ sum_by items_of [] + items_so_far rest count = omega arith in none)
items_after (f ∷ done) rest count =
    let all = sum_by-cons (λ (g : ℕ × ℕ). g.1) f done in
    let items = sum_by-cons items_of f done in
    let n : ℕ = sum_by (λ (g : ℕ × ℕ). g.1) (f ∷ done) + count in
    let least : min n f.1 ≡ f.1 = omega (arith, all) in
    let left : n - f.1 ≡ sum_by (λ (g : ℕ × ℕ). g.1) done + count = omega (arith, all) in
    let first : min n f.1 / item_width f.0 f.1 ≡ items_of f = ap (λ k. k / item_width f.0 f.1) least in
    let beyond : items_so_far (done ++ rest) (n - f.1) ≡ sum_by items_of done + items_so_far rest count =
    ap (items_so_far (done ++ rest)) left ∙ items_after done rest count in
    omega (arith, first, beyond, items)

module _ {A : Type 0} (o : Order) (all : List (ℕ × ℕ)) (t : TakenFields A) (h : IsTaking all t) where
  abbrev now : Items A
  now = record { width = width_of t; bits = t.bits }

  abbrev here : ℕ
  here = length t.bits * width_of t + length t.partial

  -- the bytes of the whole fields, and of the one that is read
  bytes_so_far : length (flat_map (items_bytes o) (taken t) ++ t.partial) ≡ sizes t.done + here
  bytes_so_far =
      let size = h.size in
      omega (
        arith,
        taken_rest o all t h,
        ap sizes h.layout,
        sum_by-append (λ (f : ℕ × ℕ). f.1) t.done (t.field ∷ t.to_come),
        sum_by-cons (λ (f : ℕ × ℕ). f.1) t.field t.to_come,
        size,
      )

  field_so_far : min here t.field.1 / width_of t ≡ length t.bits
  field_so_far =
      let size = h.size in
      let least : min here t.field.1 ≡ here = omega (arith, size) in
      ap (λ n. n / width_of t) least ∙ div-mul-add (length t.bits) (width_of t) (length t.partial) h.short

  items_taken : items_in (all_items t) ≡ sum_by items_of t.done + length t.bits
  items_taken =
      let whole = whole_items t.done t.whole h.shapes in
      let first = sum_by-append (λ (j : Items A). length j.bits) (taken t) (map no_items t.to_come) in
      let second = sum_by-append (λ (j : Items A). length j.bits) t.whole (now ∷ []) in
      let third = sum_by-cons (λ (j : Items A). length j.bits) now [] in
      omega (arith, whole, first, second, third, no_items_yet A t.to_come)

  pub taking_so_far : (more : List (ℕ × ℕ)) → items_so_far (all ++ more) (length (flat_map (items_bytes o) (taken t) ++ t.partial)) ≡ items_in (all_items t)
  taking_so_far more =
      let size = h.size in
      let left : here - t.field.1 ≡ 0 = omega (arith, size) in
      let none : items_so_far (t.to_come ++ more) (here - t.field.1) ≡ 0 = ap (items_so_far (t.to_come ++ more)) left ∙ items_none (t.to_come ++ more) in
      let beyond = items_after t.done (t.field ∷ (t.to_come ++ more)) here in
      let fields : all ++ more ≡ t.done ++ (t.field ∷ (t.to_come ++ more)) = ap (λ l. l ++ more) h.layout ∙ append_assoc t.done (t.field ∷ t.to_come) more in
      let start : items_so_far (all ++ more) (length (flat_map (items_bytes o) (taken t) ++ t.partial))
      ≡ sum_by items_of t.done + items_so_far (t.field ∷ (t.to_come ++ more)) here =
      ap (λ n. items_so_far (all ++ more) n) bytes_so_far ∙ ap (λ l. items_so_far l (sizes t.done + here)) fields ∙ beyond in
      omega (arith, start, field_so_far, none, items_taken)

-- ---- data messages

module _ {A : Type 0} (e : Environment A) (local : ℕ) (offset : Option ℕ) (p : Defined A) (known : defined_at e local ≡ Some p)
    (fits : DataHeaderFits local offset) (more : List ℕ) where
  message_held : held_of_record e (data_header local offset ∷ more) ≡ entry_count p.definition + items_so_far (layout p ++ dev_layout p) (length more)
  message_held =
      let bits = data_bits (data_header local offset) local offset refl fits in rw (bits.kind, bits.type, known) refl

  message_part : part_size e (data_header local offset ∷ more) ≡ entry_count p.definition + item_count p
  message_part =
      let bits = data_bits (data_header local offset) local offset refl fits in rw (bits.kind, bits.type, known) refl

  -- what is whole is no more than the bytes allow
  pub message_within : (n : ℕ) → n ≡ held_of_record e (data_header local offset ∷ more) → n ≤ part_size e (data_header local offset ∷ more)
  message_within n is = omega (arith, is, message_held, message_part, items_within (layout p ++ dev_layout p) (length more))

module _ {A : Type 0} (e : Environment A) (local : ℕ) (offset : Option ℕ) (p : Defined A) (known : defined_at e local ≡ Some p)
    (fits : DataHeaderFits local offset) (codes : length p.dev_codes ≡ length (dev_defs p.definition.dev)) where
  abbrev order : Order
  order = order_at e local

  pub in_fields_held : (t : TakenFields A) → IsTaking (layout p) t
      → values_size (record { local = local; offset = offset; fields = all_items t; dev = map (no_items {A = A}) (dev_layout p) })
      ≡ held_of_record e (data_header local offset ∷ flat_map (items_bytes order) (taken t) ++ t.partial)
  in_fields_held t taking =
      omega (
        arith,
        message_held e local offset p known fits (flat_map (items_bytes order) (taken t) ++ t.partial),
        taking_so_far order (layout p) t taking (dev_layout p),
        as_defined (layout p) t taking,
        no_items_yet A (dev_layout p),
        length-map (dev_layout p) (no_items {A = A}),
        length-dev_layout p.dev_codes (dev_defs p.definition.dev) codes,
        length-map {B = ℕ × ℕ} p.definition.fields (λ f. (f.code, f.size)),
      )

  pub in_dev_held : (items : List (Items A)) (t : TakenFields A) → HaveShape (layout p) items → IsTaking (dev_layout p) t
      → values_size (record { local = local; offset = offset; fields = items; dev = all_items t })
      ≡ held_of_record e (data_header local offset ∷ flat_map (items_bytes order) items ++ (flat_map (items_bytes order) (taken t) ++ t.partial))
  in_dev_held items t shape taking =
      let front : List ℕ = flat_map (items_bytes order) items in
      let back : List ℕ = flat_map (items_bytes order) (taken t) ++ t.partial in
      let long : length (front ++ back) ≡ sizes (layout p) + length back = omega (arith, length-append front back, length-items order (layout p) items shape)
      in
      let beyond = items_after (layout p) (dev_layout p) (length back) in
      let dev : items_so_far (dev_layout p) (length back) ≡ items_in (all_items t) =
      ap (λ l. items_so_far l (length back)) (sym (append-nil (dev_layout p))) ∙ taking_so_far order (dev_layout p) t taking [] in
      let all : items_so_far (layout p ++ dev_layout p) (length (front ++ back)) ≡ sum_by items_of (layout p) + items_in (all_items t) =
      ap (items_so_far (layout p ++ dev_layout p)) long ∙ beyond ∙ ap (λ n. sum_by items_of (layout p) + n) dev in
      omega (
        arith,
        message_held e local offset p known fits (front ++ back),
        all,
        whole_items (layout p) items shape,
        as_many (layout p) items shape,
        as_defined (dev_layout p) t taking,
        length-dev_layout p.dev_codes (dev_defs p.definition.dev) codes,
        length-map {B = ℕ × ℕ} p.definition.fields (λ f. (f.code, f.size)),
      )

-- ---- what is made of a record in progress

abbrev pub made_size : {A : Type 0} → Option (Record A) → ℕ
made_size None = 0
made_size (Some (Define d)) = entry_count d
made_size (Some (Data v)) = values_size v

abbrev pub IsMadeCountable : {A : Type 0} → Option (Record A) → Type 0
IsMadeCountable None = Unit {0}
IsMadeCountable (Some (Define d)) = (length d.fields < 256) × (length (dev_defs d.dev) < 256)
IsMadeCountable (Some (Data v)) = values_size v ≤ 130560
