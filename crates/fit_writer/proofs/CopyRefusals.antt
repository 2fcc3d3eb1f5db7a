-- Why the next block of a chain isn't put.
use Rattle.std.proofs.Common.{◌≡◌, ◌∙◌, ◌+◌, ◌<◌, ◌%◌, ◌==◌, ℕ, Bool, true, false, List, [], ◌∷◌, refl, sym, ap, ap₂, length, lit<}
use Rattle.std.proofs.lemmas.Bool.{and_parts, eq-eqb, le-leb}
use Rattle.std.proofs.lemmas.Option.{none-some}
use Rattle.std.specs.Global.{Global}
use Rattle.std.specs.List.{AllByRecursion, list_all}
use Rattle.std.specs.Prelude.{Some, None, if◌then◌else◌, is_none, nat_le, nat_lt, not, slice_index_or}
use Rattle.fit_chain.specs.Events.{Event, header, item}
use Rattle.fit_frame.specs.Header.{HeaderFits}
use Rattle.fit_frame.specs.declared.header.Header.{Header}
use Rattle.fit_messages.specs.Blocks.{begun_files, bytes_heard, event_block, items_begin, message_block, numbers_heard}
use Rattle.fit_messages.specs.Blocks.{whole, dev_column}
unfoldable use Rattle.fit_messages.specs.Blocks.{low}
use Rattle.fit_profile.specs.Described.{Naming}
use Rattle.fit_profile.specs.Told.{told}
use Rattle.fit_record.specs.Environment.{defined_at, dev_defs}
use Rattle.fit_record.specs.Faults.{or_else}
use Rattle.fit_record.specs.declared.definition.DevDef.{DevDef}
use Rattle.fit_record.specs.declared.message.Record.TheVariants.{Values as Data}
use Rattle.fit_record.specs.declared.message.Values.{Values}
use Rattle.fit_report.specs.Heard.{latest_records}
use Rattle.fit_from_messages.proofs.ColumnsBack.{dev_columns, own_columns}
use Rattle.fit_from_messages.proofs.DefinitionBack.{dev_entries_are}
use Rattle.fit_from_messages.proofs.EventsBack.{header_stands_there, record_stands}
use Rattle.fit_from_messages.proofs.HeaderBack.{header_passes}
use Rattle.fit_from_messages.proofs.ReadBack.{entry_list, fits_back, three, widths}
use Rattle.fit_from_messages.proofs.SmallSizes.{AreSmall}
use Rattle.fit_from_messages.specs.Alone.{why_no_kind, why_no_lone_definition, why_no_lone_header, why_no_lone_message}
use Rattle.fit_from_messages.specs.Parts.{byte_at, dev_entries, entries_stand, field_entries, header_in, kind, offset_stands, size_fits, slot_stands, slots_in}
use Rattle.fit_from_messages.specs.Parts.{local_stands}
use Rattle.fit_from_messages.specs.SaysChain.{IsBlock, known_to, slots_at}
use Rattle.fit_from_messages.specs.declared.fault.BlockReason.TheVariants.{Cut, Kind, Header as NoHeader, Local, Architecture, Entries, Size, Offset}
use Rattle.fit_from_messages.specs.declared.fault.BlockReason.TheVariants.{Undefined, Items as NoItems}
use Rattle.fit_writer.proofs.SaidTold.{IsDefinedBy, IsSaid, file_said, few_types, message_passes, slots_there}
use Rattle.fit_writer.specs.Laws.{latest_definition}
use Rattle.fit_writer.specs.Reading.{Form}

-- ---- blocks by themselves

of_kind : (n : ℕ) (block : List ℕ) → IsBlock block → kind block ≡ n → why_no_kind n block ≡ None
of_kind n block is same =
    ap₂ (λ a b. if not a then Some Cut else if not b then Some Kind else None)
    (three (nat_le 24 (length block)) _ (length block % 8 == 0) (le-leb 24 (length block) is.front)
    (eq-eqb _ (length block) is.own_length) (eq-eqb (length block % 8) 0 is.multiple))
    (eq-eqb (kind block) n same)

pub lone_header : (heard : List (Event Global)) (h : Header) (n : ℕ) → HeaderFits h n → why_no_lone_header (event_block heard (header h n)) ≡ None
unfolding low
lone_header heard h n fits =
    let block = event_block heard (header h n) in
    ap₂ (λ o b. or_else o (if not b then Some NoHeader else None))
    (of_kind 1 block (header_stands_there [] h n heard fits (lit< tt)).is refl) (header_passes (begun_files heard + 1) (bytes_heard heard) n n h fits)

-- tests of a definition that pass
all_pass : (a b c d : Bool) → (if not a then Some Local else if not b then Some Architecture else if not c then Some Entries else
    if not d then Some Size else None) ≡ None → (a ≡ true) × (b ≡ true) × (c ≡ true) × (d ≡ true)
all_pass true true true true is = (refl, refl, refl, refl)
all_pass false b c d is = absurd (none-some Local (sym is))
all_pass true false c d is = absurd (none-some Architecture (sym is))
all_pass true true false d is = absurd (none-some Entries (sym is))
all_pass true true true false is = absurd (none-some Size (sym is))

sizes_alone : (at : ℕ) (fields : List DevDef) (codes : List ℕ) (namings : List Naming) → AllByRecursion (λ (f : DevDef). f.size < 256) fields
    → list_all (λ x. size_fits (byte_at 7 x) x) (entry_list at (dev_columns fields codes namings)) ≡ true
unfolding low
sizes_alone at [] codes namings small = refl
sizes_alone at (f ∷ fields) [] namings small = refl
sizes_alone at (f ∷ fields) (code ∷ codes) [] small = refl
sizes_alone at (f ∷ fields) (code ∷ codes) (n ∷ namings) small =
    rw (fits_back at (dev_column f code n) small.0) (sizes_alone (at + whole f.size) fields codes namings small.1)

dev_alone : (namings : List Naming) (local : ℕ) (p : _) (block : List ℕ) → (by : IsDefinedBy namings local p block)
    → list_all (λ x. size_fits (byte_at 7 x) x) (dev_entries block) ≡ true
dev_alone namings local p block by =
    let d = p.definition in
    ap (λ b. list_all (λ x. size_fits (byte_at 7 x) x) (dev_entries b)) by.block_is
    ∙ ap (list_all (λ x. size_fits (byte_at 7 x) x)) (dev_entries_are by.file by.place by.number by.env d namings by.written)
    ∙ sizes_alone (items_begin d + widths (own_columns d)) (dev_defs d.dev) _ namings by.written.small.dev_fields

pub lone_definition : (namings : List Naming) (local : ℕ) (p : _) (block : List ℕ) → IsDefinedBy namings local p block
    → why_no_lone_definition block ≡ None
lone_definition namings local p block by =
    let (place, architecture, entries, sizes) = all_pass (nat_lt (byte_at 5 block) 16) (nat_lt (byte_at 6 block) 2) (entries_stand block) _ by.stands in
    let own : list_all (λ x. size_fits (byte_at 7 x) x) (field_entries block) ≡ true = (and_parts _ _ sizes).0 in
    rw (of_kind 2 block by.is_block by.kind, place, architecture, entries, own, dev_alone namings local p block by) refl

-- of a message
passes : (a b c d : Bool) → (if not a then Some Local else if not b then Some Offset else if c then Some Undefined else
    if not d then Some NoItems else None) ≡ None → (b ≡ true) × (d ≡ true)
passes true true false true is = (refl, refl)
passes false b c d is = absurd (none-some Local (sym is))
passes true false c d is = absurd (none-some Offset (sym is))
passes true true true d is = absurd (none-some Undefined (sym is))
passes true true false false is = absurd (none-some NoItems (sym is))

pub lone_message : (heard : List (Event Global)) (v : Values Global) → AreSmall (Data v ∷ latest_records heard) → (s : IsSaid heard v)
    → why_no_lone_message (latest_definition heard v.local) (event_block heard (item (Data v))) ≡ None
unfolding low
lone_message heard v are s =
    let before = latest_records heard in
    let file = begun_files heard in
    let place = bytes_heard heard in
    let nth = slice_index_or (numbers_heard heard) v.local 0 in
    let t = told before v in
    let few = few_types v.local v.offset s.fits.header in
    let block = event_block heard (item (Data v)) in
    let made = message_block file place nth v s.p.definition t in
    let in_file = file_said file place nth before v s.p t s.fits s.defined few in
    let there = slots_there file place nth before v s.p t s.fits s.defined few in
    let (offset, items) = passes (local_stands made) (offset_stands made) (is_none (defined_at (known_to in_file) v.local))
    (list_all (slot_stands made) (slots_at in_file v.local)) (message_passes file place nth before v s.p t s.fits s.defined few) in
    let slots : slots_in (latest_definition heard v.local) ≡ slots_at in_file v.local = ap (λ (f : Form). f.slots) s.form ∙ sym there in
    let its_kind : kind block ≡ 3 = ap kind s.block_is in
    let its_offset : offset_stands block ≡ true = ap offset_stands s.block_is ∙ offset in
    let its_items : list_all (slot_stands block) (slots_in (latest_definition heard v.local)) ≡ true =
    ap₂ (λ b ss. list_all (slot_stands b) ss) s.block_is slots ∙ items in
    rw (of_kind 3 block (record_stands [] (header_in []) heard (Data v) are).is its_kind, its_offset, its_items) refl
