-- What the entries of a definition's block say fits the definition that is read of it.
use Rattle.std.proofs.Common.{◌≡◌, ◌∙◌, ℕ, zero, suc, ◌+◌, ◌<◌, ◌≤◌, Bool, true, false, cond, List, [], ◌∷◌, ◌++◌, length, map, drop, get_or, refl}
use Rattle.std.proofs.Common.{sym, ap, subst, arith}
use Rattle.std.proofs.Math.Bool.{and-false}
use Rattle.std.proofs.Math.Seq.{drop-append_seam}
use Rattle.std.proofs.lemmas.Bool.{and_parts, and_from, eqb-true}
use Rattle.std.proofs.lemmas.List.{length-append, length-map, length-take, length-drop, map-append, take-append-drop}
use Rattle.std.proofs.lemmas.Option.{slice_get-get_or}
use Rattle.std.specs.Global.{Global}
use Rattle.std.specs.Prelude.{◌==◌, ◌&&◌, nat_le, slice_get, slice_set, sum_by, zip, Some, None}
use Rattle.std.specs.List.{list_all}
use Rattle.fit_base.specs.BaseTypes.{item_width}
use Rattle.fit_base.specs.Numbers.{IsBytes}
use Rattle.fit_record.proofs.FirstOfNumber.{dropped}
use Rattle.fit_record.specs.Environment.{Environment, defined_at, defined_by, dev_code, dev_defs, empty_environment, learn}
use Rattle.fit_record.specs.declared.definition.DevDef.{DevDef}
use Rattle.fit_record.specs.declared.definition.FieldDef.{FieldDef}
use Rattle.fit_record.specs.Records.{DefinitionFits, dev_layout, layout}
use Rattle.fit_from_messages.proofs.CutEntries.{later_entries}
use Rattle.fit_from_messages.proofs.ReadNumbers.{number_at_below}
use Rattle.fit_from_messages.specs.declared.fault.BlockReason.TheVariants.{Size}
use Rattle.fit_from_messages.proofs.SoundFiles.{defined_then, sound_definition}
use Rattle.fit_from_messages.specs.declared.file.OpenFile.{OpenFile}
use Rattle.fit_from_messages.specs.inner.OpenFiles.{IsGoodFile, begun_of}
use Rattle.fit_record.specs.declared.definition.MessageDef.{MessageDef}
use Rattle.fit_record.specs.declared.environment.Defined.{Defined}
use Rattle.fit_record.specs.declared.message.Record.TheVariants.{Define}
use Rattle.fit_from_messages.specs.declared.slot.Slot.{Slot}
use Rattle.fit_from_messages.specs.Parts.{block_entries, byte_at, counts_stand, definition_in, dev_entries, dev_field_count, dev_in, entries_begin}
use Rattle.fit_from_messages.specs.Parts.{entries_of, entries_stand, entry_size, entry_stands, field_count, field_entries, field_in, number_read}
use Rattle.fit_from_messages.specs.Parts.{says_dev, size_fits, slot_in, slots_in}
use Rattle.fit_from_messages.specs.Alone.{codes_in, lone_layout}
use Rattle.fit_from_messages.specs.SaysChain.{Begun, known_to, why_no_definition}
use Rattle.fit_from_messages.specs.inner.Cutting.{is_small, left_of, widths_fit}
use Rattle.fit_from_messages.specs.inner.Definitions.{IsReadable}
use Rattle.fit_from_messages.specs.Slots.{SlotsFit}

-- ---- the entries

pub many_entries : (n : ℕ) (bytes : List ℕ) → length (entries_of n bytes) ≡ n
many_entries zero bytes = refl
many_entries (suc n) bytes = ap suc (many_entries n (drop (number_read 2 0 bytes) bytes))

slots_split : (block : List ℕ) → slots_in block ≡ map slot_in (field_entries block) ++ map slot_in (dev_entries block)
slots_split block =
    ap (map slot_in) (sym (take-append-drop (field_count block) (block_entries block))) ∙ map-append slot_in (field_entries block) (dev_entries block)

-- there are developer fields just where the definition has such a part
devs_are : (block : List ℕ) → counts_stand block ≡ true → dev_defs (definition_in block).dev ≡ map dev_in (dev_entries block)
devs_are block counts = go (says_dev block) refl
  where
    go : (b : Bool) → says_dev block ≡ b → dev_defs (definition_in block).dev ≡ map dev_in (dev_entries block)
    go true is = ap (λ b. dev_defs (cond b (Some (map dev_in (dev_entries block))) None)) is
    go false is =
        let none : dev_field_count block ≡ 0 = grind (arith, is, counts) in
        let empty : dev_entries block ≡ [] =
        later_entries (field_count block) (dev_field_count block) (drop (entries_begin block) block)
        ∙ ap (λ n. entries_of n (left_of (field_count block) (drop (entries_begin block) block))) none in
        ap (λ b. dev_defs (cond b (Some (map dev_in (dev_entries block))) None)) is ∙ ap (map dev_in) (sym empty)

-- ---- codes and sizes

layout_is : (e : Environment Global) (block : List ℕ) → layout (defined_by e (definition_in block)) ≡ map (λ x. (byte_at 7 x, entry_size x))
    (field_entries block)
layout_is e block = go (field_entries block)
  where
    go : (es : List (List ℕ)) → map {B = ℕ × ℕ} (λ (f : FieldDef). (f.code, f.size)) (map field_in es) ≡ map {B = ℕ × ℕ} (λ x. (byte_at 7 x, entry_size x)) es
    go [] = refl
    go (x ∷ es) = ap (λ fs. (byte_at 7 x, entry_size x) ∷ fs) (go es)

dev_layout_is : (e : Environment Global) (block : List ℕ) → counts_stand block ≡ true
    → dev_layout (defined_by e (definition_in block)) ≡ map (λ x. (dev_code e (dev_in x), entry_size x)) (dev_entries block)
dev_layout_is e block counts =
    ap (λ (ds : List DevDef). zip (map (dev_code e) ds) (map (λ (f : DevDef). f.size) ds)) (devs_are block counts) ∙ go (dev_entries block)
  where
    go : (es : List (List ℕ)) → zip (map (dev_code e) (map dev_in es)) (map (λ (f : DevDef). f.size) (map dev_in es))
        ≡ map {B = ℕ × ℕ} (λ x. (dev_code e (dev_in x), entry_size x)) es
    go [] = refl
    go (x ∷ es) = ap (λ fs. (dev_code e (dev_in x), entry_size x) ∷ fs) (go es)

-- ---- widths

widths_are : (code : List ℕ → ℕ) (es : List (List ℕ)) → list_all is_small es ≡ true
    → widths_fit (map (λ x. (code x, entry_size x)) es) (map slot_in es) ≡ list_all (λ x. size_fits (code x) x) es
widths_are code [] small = refl
widths_are code (x ∷ es) small =
    let both = and_parts (is_small x) (list_all is_small es) small in
    ap (λ b. (item_width (code x) (entry_size x) == byte_at 9 x) && b) (widths_are code es both.1)
    ∙ ap (λ b. (b && (item_width (code x) (entry_size x) == byte_at 9 x)) && list_all (λ x. size_fits (code x) x) es) (sym both.0)

slots_fit : (code : List ℕ → ℕ) (es : List (List ℕ)) → list_all (λ x. size_fits (code x) x) es ≡ true
    → SlotsFit (map (λ x. (code x, entry_size x)) es) (map slot_in es)
slots_fit code [] fit = tt
slots_fit code (x ∷ es) fit =
    let both = and_parts (size_fits (code x) x) (list_all (λ x. size_fits (code x) x) es) fit in
    let wide = and_parts (is_small x) (item_width (code x) (entry_size x) == byte_at 9 x) both.0 in
    (sym (eqb-true (item_width (code x) (entry_size x)) (byte_at 9 x) wide.1), refl, slots_fit code es both.1)

fit-append : (fs gs : List (ℕ × ℕ)) (ss ts : List Slot) → SlotsFit fs ss → SlotsFit gs ts → SlotsFit (fs ++ gs) (ss ++ ts)
fit-append [] gs [] ts p q = q
fit-append (f ∷ fs) gs (s ∷ ss) ts p q = (p.0, p.1, fit-append fs gs ss ts p.2 q)
fit-append [] gs (s ∷ ss) ts p q = absurd p
fit-append (f ∷ fs) gs [] ts p q = absurd p

dev_slots : (block : List ℕ) → drop (length (definition_in block).fields) (slots_in block) ≡ map slot_in (dev_entries block)
dev_slots block =
    ap (drop (length (definition_in block).fields)) (slots_split block)
    ∙ ap (λ n. drop n (map slot_in (field_entries block) ++ map slot_in (dev_entries block)))
    (length-map (field_entries block) field_in ∙ sym (length-map (field_entries block) slot_in))
    ∙ drop-append_seam (map slot_in (field_entries block)) (map slot_in (dev_entries block))

begins_and_counts : (block : List ℕ) → entries_stand block ≡ true → (nat_le (entries_begin block) (length block) ≡ true) × (counts_stand block ≡ true)
begins_and_counts block stand =
    let begins : Bool = nat_le (entries_begin block) (length block) in
    let fields : Bool = list_all (entry_stands 0) (field_entries block) in
    let dev : Bool = list_all (entry_stands 1) (dev_entries block) in
    let sum : Bool = entries_begin block + sum_by length (block_entries block) == length block in
    and_parts begins (counts_stand block) (and_parts (begins && counts_stand block) fields
    (and_parts (begins && counts_stand block && fields) dev (and_parts (begins && counts_stand block && fields && dev) sum stand).0).0).0

-- the test of developer fields by what is defined
pub dev_sizes : (e : Environment Global) (block : List ℕ) → IsReadable block
    → widths_fit (dev_layout (defined_by e (definition_in block))) (drop (length (definition_in block).fields) (slots_in block))
    ≡ list_all (λ x. size_fits (dev_code e (dev_in x)) x) (dev_entries block)
dev_sizes e block r =
    ap (λ fs. widths_fit fs (drop (length (definition_in block).fields) (slots_in block))) (dev_layout_is e block (begins_and_counts block r.entries).1)
    ∙ ap (widths_fit (map (λ x. (dev_code e (dev_in x), entry_size x)) (dev_entries block))) (dev_slots block)
    ∙ widths_are (λ x. dev_code e (dev_in x)) (dev_entries block) r.dev

pub many_slots : (e : Environment Global) (block : List ℕ) → IsReadable block
    → length (slots_in block) ≡ length (definition_in block).fields + length (dev_layout (defined_by e (definition_in block)))
many_slots e block r =
    let devs = ap length (dev_layout_is e block (begins_and_counts block r.entries).1)
    ∙ length-map (dev_entries block) (λ x. (dev_code e (dev_in x), entry_size x)) in
    omega (
      arith,
      ap length (slots_split block),
      length-append (map slot_in (field_entries block)) (map slot_in (dev_entries block)),
      length-map (field_entries block) slot_in,
      length-map (dev_entries block) slot_in,
      length-map (field_entries block) field_in,
      devs,
    )

-- where all widths fit, the slots are of the definition
pub defined_slots : (e : Environment Global) (block : List ℕ) → IsReadable block
    → list_all (λ x. size_fits (dev_code e (dev_in x)) x) (dev_entries block) ≡ true
    → SlotsFit (layout (defined_by e (definition_in block)) ++ dev_layout (defined_by e (definition_in block))) (slots_in block)
defined_slots e block r fit =
    subst (λ ss. SlotsFit (layout (defined_by e (definition_in block)) ++ dev_layout (defined_by e (definition_in block))) ss) (sym (slots_split block))
    (fit-append (layout (defined_by e (definition_in block))) (dev_layout (defined_by e (definition_in block))) (map slot_in (field_entries block))
    (map slot_in (dev_entries block))
    (subst (λ fs. SlotsFit fs (map slot_in (field_entries block))) (sym (layout_is e block)) (slots_fit (byte_at 7) (field_entries block) r.fields))
    (subst (λ fs. SlotsFit fs (map slot_in (dev_entries block))) (sym (dev_layout_is e block (begins_and_counts block r.entries).1))
    (slots_fit (λ x. dev_code e (dev_in x)) (dev_entries block) fit)))

-- the same by the base types that the block itself says
lone_dev_layout : (block : List ℕ) → counts_stand block ≡ true
    → zip (codes_in block) (map (λ (f : DevDef). f.size) (dev_defs (definition_in block).dev)) ≡ map (λ x. (byte_at 7 x, entry_size x)) (dev_entries block)
lone_dev_layout block counts =
    ap (λ (ds : List DevDef). zip (codes_in block) (map (λ (f : DevDef). f.size) ds)) (devs_are block counts) ∙ go (dev_entries block)
  where
    go : (es : List (List ℕ)) → zip (map (byte_at 7) es) (map (λ (f : DevDef). f.size) (map dev_in es))
        ≡ map {B = ℕ × ℕ} (λ x. (byte_at 7 x, entry_size x)) es
    go [] = refl
    go (x ∷ es) = ap (λ fs. (byte_at 7 x, entry_size x) ∷ fs) (go es)

pub lone_slots : (block : List ℕ) → IsReadable block → list_all (λ x. size_fits (byte_at 7 x) x) (dev_entries block) ≡ true
    → SlotsFit (lone_layout (definition_in block) (codes_in block)) (slots_in block)
lone_slots block r fit =
    let d = definition_in block in
    let fields : List (ℕ × ℕ) = map (λ (f : FieldDef). (f.code, f.size)) d.fields in
    let dev : List (ℕ × ℕ) = zip (codes_in block) (map (λ (f : DevDef). f.size) (dev_defs d.dev)) in
    subst (λ ss. SlotsFit (fields ++ dev) ss) (sym (slots_split block))
    (fit-append fields dev (map slot_in (field_entries block)) (map slot_in (dev_entries block))
    (subst (λ fs. SlotsFit fs (map slot_in (field_entries block))) (sym (layout_is empty_environment block))
    (slots_fit (byte_at 7) (field_entries block) r.fields))
    (subst (λ fs. SlotsFit fs (map slot_in (dev_entries block))) (sym (lone_dev_layout block (begins_and_counts block r.entries).1))
    (slots_fit (byte_at 7) (dev_entries block) fit)))

pub many_codes : (block : List ℕ) → IsReadable block → length (codes_in block) ≡ length (dev_defs (definition_in block).dev)
many_codes block r =
    length-map (dev_entries block) (byte_at 7) ∙ sym (length-map (dev_entries block) dev_in)
    ∙ sym (ap length (devs_are block (begins_and_counts block r.entries).1))

-- ---- the definition

pub definition_fits : (block : List ℕ) → IsBytes block → IsReadable block → DefinitionFits (definition_in block)
definition_fits block are r =
    let counts = (begins_and_counts block r.entries).1 in
    let begins = (begins_and_counts block r.entries).0 in
    let few : field_count block < 256 = grind (arith, counts) in
    let few_dev : dev_field_count block < 256 = grind (arith, counts) in
    let long : 34 ≤ length block = grind (arith, begins) in
    let all = many_entries (field_count block + dev_field_count block) (drop (entries_begin block) block) in record {
      local = grind (arith, r.local);
      global = number_at_below 2 32 block are long;
      fields = omega (arith, few, length-map (field_entries block) field_in, length-take (field_count block) (block_entries block));
      dev_fields = omega (
        arith,
        few_dev,
        ap length (devs_are block counts),
        length-map (dev_entries block) dev_in,
        length-drop (field_count block)
            (block_entries block),
        all,
      );
    }

pub stands_by : (f : Begun) (block : List ℕ) → IsReadable block → list_all (λ x. size_fits (dev_code (known_to f) (dev_in x)) x) (dev_entries block) ≡ true
    → why_no_definition f block ≡ None
stands_by f block r fit =
    let both : (list_all (λ x. size_fits (byte_at 7 x) x) (field_entries block)
    && list_all (λ x. size_fits (dev_code (known_to f) (dev_in x)) x) (dev_entries block)) ≡ true = and_from _ _ r.fields fit in
    rw (r.local, r.architecture, r.entries, both) refl

pub fails_by : (f : Begun) (block : List ℕ) → IsReadable block → list_all (λ x. size_fits (dev_code (known_to f) (dev_in x)) x) (dev_entries block) ≡ false
    → why_no_definition f block ≡ Some Size
fails_by f block r fails =
    let both : (list_all (λ x. size_fits (byte_at 7 x) x) (field_entries block)
    && list_all (λ x. size_fits (dev_code (known_to f) (dev_in x)) x) (dev_entries block)) ≡ false =
    ap (λ b. list_all (λ x. size_fits (byte_at 7 x) x) (field_entries block) && b) fails ∙ and-false _ in
    rw (r.local, r.architecture, r.entries, both) refl

-- ---- a walk over the widths

pub fit_more : (fields : List (ℕ × ℕ)) (slots : List Slot) (n : ℕ) (f : ℕ × ℕ) (d : Slot) (fits : Bool) → slice_get fields n ≡ Some f → n < length slots
    → (item_width f.0 f.1 == (get_or slots n d).width) ≡ fits
    → widths_fit (drop n fields) (drop n slots) ≡ (fits && widths_fit (drop (n + 1) fields) (drop (n + 1) slots))
fit_more fields slots n f d fits got less is =
    let first : drop n slots ≡ get_or slots n d ∷ drop (n + 1) slots = dropped slots n (get_or slots n d) (slice_get-get_or slots n d less) in
    ap (λ fs. widths_fit fs (drop n slots)) (dropped fields n f got) ∙ ap (widths_fit (f ∷ drop (n + 1) fields)) first
    ∙ ap (λ b. b && widths_fit (drop (n + 1) fields) (drop (n + 1) slots)) is

-- ---- in a file

module _ (f : OpenFile) (block : List ℕ) (env : Environment Global) (slots : List Slot) (definition : MessageDef Global) (sound : IsGoodFile f)
    (r : IsReadable block) (are : IsBytes block) (read : definition ≡ definition_in block) (learned : env ≡ learn f.env (Define definition))
    (told : slots ≡ slots_in block) where
  defined : defined_at env (byte_at 5 block) ≡ Some (defined_by f.env (definition_in block))
  defined =
      ap (λ e. defined_at e (byte_at 5 block)) (learned ∙ ap (λ d. learn f.env (Define d)) read)
      ∙ defined_then f (definition_in block) sound (definition_fits block are r).local

  pub asked : (p : Defined Global) × (defined_at env (byte_at 5 block) ≡ Some p)
      × (length slots ≡ length p.definition.fields + length (dev_layout p))
  asked = (defined_by f.env (definition_in block), defined, ap length told ∙ many_slots f.env block r)

  pub tested : (result : Bool)
      → ((p : Defined Global) → defined_at env (byte_at 5 block) ≡ Some p → result ≡ widths_fit (dev_layout p) (drop (length p.definition.fields) slots))
      → list_all (λ x. size_fits (dev_code (known_to (begun_of f)) (dev_in x)) x) (dev_entries block) ≡ result
  tested result test =
      let p = defined_by f.env (definition_in block) in
      ap (λ e. list_all (λ x. size_fits (dev_code e (dev_in x)) x) (dev_entries block)) (sym sound.known)
      ∙ sym (test p defined ∙ ap (λ ss. widths_fit (dev_layout p) (drop (length p.definition.fields) ss)) told ∙ dev_sizes f.env block r)

  pub sound_then : (g : OpenFile) → list_all (λ x. size_fits (dev_code (known_to (begun_of f)) (dev_in x)) x) (dev_entries block) ≡ true
      → g.header ≡ f.header → g.records ≡ f.records ++ Define definition ∷ [] → g.env ≡ env → g.slots ≡ slice_set f.slots (byte_at 5 block) slots
      → IsGoodFile g
  sound_then g fit header records same set_slots =
      sound_definition f g (definition_in block) (slots_in block) sound (definition_fits block are r) header
      (records ∙ ap (λ d. f.records ++ Define d ∷ []) read) (same ∙ learned ∙ ap (λ d. learn f.env (Define d)) read)
      (set_slots ∙ ap (slice_set f.slots (byte_at 5 block)) told)
      (defined_slots f.env block r
      (ap (λ e. list_all (λ x. size_fits (dev_code e (dev_in x)) x) (dev_entries block)) sound.known ∙ fit))
