-- The block of a definition is read as that definition.
use Rattle.std.proofs.Common.{◌≡◌, ◌∙◌, ℕ, ◌+◌, ◌%◌, ◌<◌, ◌==◌, List, [], ◌++◌, Bool, true, false, refl, sym, ap, ap₂, arith, length}
use Rattle.std.proofs.Common.{take, drop, lit<}
use Rattle.std.proofs.lemmas.Bool.{and_parts, eq-eqb, le-leb, lt-ltb, ltb-true}
use Rattle.std.proofs.lemmas.List.{drop-drop, drop_at, length-append, length-map, take_at}
use Rattle.std.specs.Global.{Global}
use Rattle.std.specs.List.{list_all}
use Rattle.std.specs.Prelude.{◌&&◌, ◌||◌, Option, Some, None, if◌then◌else◌, map, nat_le, nat_lt, not, sum_by, unwrap_or}
use Rattle.std.specs.Option.{is_some}
use Rattle.fit_base.proofs.Bytes.{little-little_bytes}
use Rattle.fit_base.specs.declared.number.Order.{Order}
use Rattle.fit_base.specs.declared.number.Order.TheVariants.{Little, Big}
use Rattle.fit_messages.specs.Blocks as blocks
use Rattle.fit_messages.specs.Blocks.{counts, definition_block, definition_opening, entries, flag, items_begin, whole}
unfoldable use Rattle.fit_messages.specs.Blocks.{low}
use Rattle.fit_profile.specs.Described.{Naming}
use Rattle.fit_profile.specs.Names.{message_name}
use Rattle.fit_record.specs.Environment.{Environment, defined_by, dev_code, dev_defs}
use Rattle.fit_record.specs.HeaderByte.{bit}
use Rattle.fit_record.specs.Records.{architecture, dev_layout, layout}
use Rattle.fit_record.specs.declared.definition.DevDef.{DevDef}
use Rattle.fit_record.specs.declared.definition.MessageDef.{MessageDef}
use Rattle.fit_from_messages.proofs.ColumnsBack.{IsWritten, are_devs, are_fields, dev_columns_of, dev_sizes_back, devs_back, field_sizes_back, fields_back}
use Rattle.fit_from_messages.proofs.ColumnsBack.{layout_both, length-both, own_columns, short_both, short_devs, short_fields, small_both}
use Rattle.fit_from_messages.proofs.ProfileNames.{message_named}
use Rattle.fit_from_messages.proofs.ReadBack.{entries_back, entries_cut, entries_fill, entries_short, entry_list, entry_list-append, length-entry_list}
use Rattle.fit_from_messages.proofs.ReadBack.{length-text, sized_block, slots_back, slots_from, text_back, three, widths, widths_few}
use Rattle.fit_from_messages.specs.Parts as parts
use Rattle.fit_from_messages.specs.Parts.{byte_at, counts_stand, definition_in, dev_field_count, dev_entries, dev_in, entries_begin, entries_of, entries_stand}
use Rattle.fit_from_messages.specs.Parts.{entry_stands, field_count, field_entries, field_in, says_dev, order_read, size_fits, sizes_fit, slot_in, slots_in}
use Rattle.fit_from_messages.specs.SaysChain.{Begun, IsBlock, why_no_definition, known_to}
use Rattle.fit_from_messages.specs.declared.fault.BlockReason.TheVariants.{Architecture, Entries, Local, Size}

-- the name of a message, or none
abbrev name_of : MessageDef Global → List ℕ
name_of d = unwrap_or (message_name d.global) []

-- ---- tests that pass

five : (a b c d e : Bool) → a ≡ true → b ≡ true → c ≡ true → d ≡ true → e ≡ true → (a && b && c && d && e) ≡ true
five a b c d e p q r s t = rw (p, q, r, s, t) refl

no_reason : (a b c d : Bool) → a ≡ true → b ≡ true → c ≡ true → d ≡ true
    → (if not a then Some Local else if not b then Some Architecture else if not c then Some Entries else if not d then Some Size else None) ≡ None
no_reason a b c d p q r s = rw (p, q, r, s) refl

architecture_stands : (o : Order) → nat_lt (architecture o) 2 ≡ true
architecture_stands Little = refl
architecture_stands Big = refl

order_back : (o : Order) → (if architecture o == 0 then Little else Big) ≡ o
order_back Little = refl
order_back Big = refl

dev_bit : (dev : Option (List DevDef)) (c : Bool) → bit 0 ((flag 1 dev + (if c then 2 else 0)) % 256) ≡ is_some dev
dev_bit None true = refl
dev_bit None false = refl
dev_bit (Some fields) true = refl
dev_bit (Some fields) false = refl

dev_back : (dev : Option (List DevDef)) (b : Bool) (fields : List DevDef) → b ≡ is_some dev → fields ≡ dev_defs dev
    → (if b then Some fields else None) ≡ dev
dev_back None b fields is same = ap (λ c. if c then Some fields else None) is
dev_back (Some own) b fields is same = ap (λ c. if c then Some fields else None) is ∙ ap (λ l. Some l) same

dev_stands : (dev : Option (List DevDef)) (b : Bool) (n : ℕ) → b ≡ is_some dev → n ≡ length (dev_defs dev) → (b || (n == 0)) ≡ true
dev_stands None b n is none = ap₂ (λ c k. c || (k == 0)) is none
dev_stands (Some fields) b n is many = ap (λ c. c || (n == 0)) is

-- ---- what is read of the block

module _ (file place number : ℕ) (e : Environment Global) (d : MessageDef Global) (namings : List Naming) (w : IsWritten d namings) where
  abbrev block : List ℕ
  block = definition_block file place number (defined_by e d) namings

  abbrev start : ℕ
  start = items_begin d

  abbrev own : List blocks.Column
  own = own_columns d

  abbrev dev : List blocks.Column
  dev = dev_columns_of e d namings

  abbrev name : List ℕ
  name = blocks.text (name_of d)

  after_front : drop 40 block ≡ name ++ entries start (own ++ dev)
  unfolding low
  after_front = refl

  length-block : length block ≡ 40 + length name + length (entries start (own ++ dev))
  unfolding low
  length-block = omega (arith, length-append name (entries start (own ++ dev)))

  begins : entries_begin block ≡ 40 + length name
  begins =
      let full = (and_parts (nat_lt (length (name_of d)) 256) (list_all (λ b. not (b == 0)) (name_of d)) (message_named d.global)).1 in
      ap (λ n. 40 + whole (n + 1)) (ap parts.text_length after_front ∙ text_back (name_of d) (entries start (own ++ dev)) full)
      ∙ ap (λ n. 40 + n) (sym (length-text (name_of d)))

  after_name : drop (entries_begin block) block ≡ entries start (own ++ dev)
  after_name =
      ap (λ n. drop n block) begins ∙ sym (drop-drop (length name) 40 block) ∙ ap (drop (length name)) after_front
      ∙ drop_at name (entries start (own ++ dev)) (length name) refl

  fields_counted : field_count block ≡ length d.fields
  unfolding low
  fields_counted = little-little_bytes 2 (length d.fields) (let few = w.fits.fields in omega (arith, few))

  devs_counted : dev_field_count block ≡ length (dev_defs d.dev)
  unfolding low
  devs_counted = little-little_bytes 2 (length (dev_defs d.dev)) (let few = w.fits.dev_fields in omega (arith, few))

  entries_are : parts.block_entries block ≡ entry_list start (own ++ dev)
  entries_are =
      ap₂ entries_of (ap₂ (λ m n. m + n) fields_counted devs_counted ∙ sym (length-both e d namings w)) after_name
      ∙ entries_cut start (own ++ dev) (short_both e d namings w)

  length-own : length (entry_list start own) ≡ length d.fields
  length-own = length-entry_list start own ∙ length-map d.fields (blocks.column d.global)

  entries_parted : parts.block_entries block ≡ entry_list start own ++ entry_list (start + widths own) dev
  entries_parted = entries_are ∙ entry_list-append start own dev

  field_entries_are : field_entries block ≡ entry_list start own
  field_entries_are =
      ap₂ take fields_counted entries_parted ∙ take_at (entry_list start own) (entry_list (start + widths own) dev) (length d.fields) length-own

  pub dev_entries_are : dev_entries block ≡ entry_list (start + widths own) dev
  dev_entries_are =
      ap₂ drop fields_counted entries_parted ∙ drop_at (entry_list start own) (entry_list (start + widths own) dev) (length d.fields) length-own

  has_dev_is : says_dev block ≡ is_some d.dev
  unfolding low
  has_dev_is = dev_bit d.dev (counts d)

  filled : entries_begin block + sum_by length (parts.block_entries block) ≡ length block
  filled =
      ap₂ (λ m n. m + n) begins (ap (sum_by length) entries_are ∙ entries_fill start (own ++ dev)) ∙ sym length-block

  counts_pass : counts_stand block ≡ true
  counts_pass =
      three (nat_lt (field_count block) 256) (nat_lt (dev_field_count block) 256) (says_dev block || (dev_field_count block == 0))
      (lt-ltb (field_count block) 256 (let few = w.fits.fields in omega (arith, few, fields_counted)))
      (lt-ltb (dev_field_count block) 256 (let few = w.fits.dev_fields in omega (arith, few, devs_counted)))
      (dev_stands d.dev (says_dev block) (dev_field_count block) has_dev_is devs_counted)

  entries_pass : entries_stand block ≡ true
  entries_pass =
      five (nat_le (entries_begin block) (length block)) (counts_stand block) (list_all (entry_stands 0) (field_entries block))
      (list_all (entry_stands 1) (dev_entries block)) (entries_begin block + sum_by length (parts.block_entries block) == length block)
      (le-leb (entries_begin block) (length block) (omega (arith, begins, length-block))) counts_pass
      (ap (list_all (entry_stands 0)) field_entries_are
      ∙ entries_back 0 start own (short_fields d.global d.fields) (are_fields d.global d.fields))
      (ap (list_all (entry_stands 1)) dev_entries_are
      ∙ entries_back 1 (start + widths own) dev (short_devs (dev_defs d.dev) (map (dev_code e) (dev_defs d.dev)) namings w.named)
      (are_devs (dev_defs d.dev) (map (dev_code e) (dev_defs d.dev)) namings))
      (eq-eqb (entries_begin block + sum_by length (parts.block_entries block)) (length block) filled)

  sizes_pass : sizes_fit e block ≡ true
  sizes_pass =
      ap₂ (λ a b. a && b)
      (ap (list_all (λ x. size_fits (byte_at 7 x) x)) field_entries_are ∙ field_sizes_back d.global start d.fields w.small.fields)
      (ap (list_all (λ x. size_fits (dev_code e (dev_in x)) x)) dev_entries_are
      ∙ dev_sizes_back (start + widths own) e (dev_defs d.dev) namings w.small.dev_fields)

  local_passes : nat_lt (byte_at 5 block) 16 ≡ true
  unfolding low
  local_passes = lt-ltb d.local 16 w.fits.local

  architecture_passes : nat_lt (byte_at 6 block) 2 ≡ true
  unfolding low
  architecture_passes = architecture_stands d.order

  -- it can stand where this is known
  pub definition_stands : (f : Begun) → known_to f ≡ e → why_no_definition f block ≡ None
  definition_stands f known_ =
      no_reason (nat_lt (byte_at 5 block) 16) (nat_lt (byte_at 6 block) 2) (entries_stand block) (sizes_fit (known_to f) block)
      local_passes architecture_passes entries_pass (ap (λ k. sizes_fit k block) known_ ∙ sizes_pass)

  own_are : map field_in (field_entries block) ≡ d.fields
  own_are = ap (map field_in) field_entries_are ∙ fields_back d.global start d.fields

  devs_are : map dev_in (dev_entries block) ≡ dev_defs d.dev
  devs_are = ap (map dev_in) dev_entries_are ∙ devs_back (start + widths own) (dev_defs d.dev) (dev_code e) namings w.each

  global_is : parts.number_read 2 32 block ≡ d.global
  unfolding low
  global_is = little-little_bytes 2 d.global (let few = w.fits.global in omega (arith, few))

  -- it says the definition
  pub definition_back : definition_in block ≡ d
  unfolding low
  definition_back = λ i. record {
    local = d.local;
    reserved = d.reserved;
    order = order_back d.order i;
    global = global_is i;
    fields = own_are i;
    dev = dev_back d.dev (says_dev block) (map dev_in (dev_entries block)) has_dev_is devs_are i;
  }

  -- and where the items of its messages are
  pub slots_are : slots_in block ≡ slots_from start (layout (defined_by e d) ++ dev_layout (defined_by e d))
  slots_are =
      ap (map slot_in) entries_are
      ∙ slots_back start (own ++ dev) (omega (
        arith,
        start_small (counts d),
        widths_few (own ++ dev) (small_both e d namings w),
        length-both e d namings w,
        w.fits.fields,
        w.fits.dev_fields,
      ))
      ∙ ap (slots_from start) (layout_both e d namings w)
    where
      start_small : (c : Bool) → 40 + (if c then 32 else 0) < 100
      start_small true = lit< tt
      start_small false = lit< tt

  length-rest : length block ≡ 4 + length (definition_opening file place number d ++ entries start (own ++ dev))
  unfolding low
  length-rest = omega arith

  -- it is a block
  pub is_definition_block : length block % 8 ≡ 0 → IsBlock block
  is_definition_block multiple =
      let full = ltb-true (length (name_of d)) 256
      (and_parts (nat_lt (length (name_of d)) 256) (list_all (λ b. not (b == 0)) (name_of d)) (message_named d.global)).0 in
      let rest = definition_opening file place number d ++ entries start (own ++ dev) in
      sized_block rest (omega (arith, length-rest, length-block)) (omega (
        arith,
        length-rest,
        length-block,
        length-text (name_of d),
        full,
        entries_short start (own ++ dev) (short_both e d namings w),
        length-both e d namings w,
        w.fits.fields,
        w.fits.dev_fields,
      )) multiple
