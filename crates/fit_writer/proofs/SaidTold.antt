-- The block of a message, by that of its definition, says what a reader is told of the message.
use Rattle.std.proofs.Common.{◌≡◌, ◌∙◌, ℕ, zero, suc, ◌+◌, ◌<◌, ◌==◌, List, [], ◌∷◌, Bool, inl, inr, refl, sym, ap, ap₂, subst, arith}
use Rattle.std.proofs.Common.{length, take, drop, get_or, replicate}
use Rattle.std.proofs.lemmas.Bool.{cases_Bool, eq-eqb, eqb-true}
use Rattle.std.proofs.lemmas.List.{get_or-replicate, get_or-set_other, reverse-reverse}
use Rattle.std.specs.Global.{Global}
use Rattle.std.specs.List.{AllByRecursion}
use Rattle.std.specs.Prelude.{Option, Some, None, IfSome, IsSomeAnd, if◌then◌else◌, map, option_and_then, option_map, reverse}
use Rattle.std.specs.Prelude.{slice_index_or, unwrap_or}
use Rattle.fit_chain.specs.Events.{Event, header, item, file_end}
use Rattle.fit_messages.specs.Blocks.{begun_files, bytes_heard, definition_block, definitions_heard, event_block, items_begin, message_block, numbers_heard}
unfoldable use Rattle.fit_messages.specs.Blocks.{low}
use Rattle.fit_profile.proofs.KnownFacts.{just_defined, known_learned}
use Rattle.fit_profile.specs.Described.{Naming, naming_of, namings_at}
use Rattle.fit_profile.specs.Looks.{known}
use Rattle.fit_profile.specs.Times.{field_time, header_time, previous_time, time}
use Rattle.fit_profile.specs.Told.{told}
use Rattle.fit_profile.specs.declared.told.Told.{Told}
use Rattle.fit_record.proofs.FilledRooms.{same_places}
use Rattle.fit_record.specs.Environment.{Environment, defined_at, defined_by, dev_code, dev_defs}
use Rattle.fit_record.specs.Faults.{or_else}
use Rattle.fit_record.specs.Records.{DataFits, DataHeaderFits}
use Rattle.fit_record.specs.declared.definition.MessageDef.{MessageDef}
use Rattle.fit_record.specs.declared.environment.Defined.{Defined}
use Rattle.fit_record.specs.declared.message.Record.{Record}
use Rattle.fit_record.specs.declared.message.Record.TheVariants.{Define, Values as Data}
use Rattle.fit_record.specs.declared.message.Values.{Values}
use Rattle.fit_report.specs.Heard.{latest_records}
use Rattle.fit_from_messages.proofs.ColumnsBack.{IsWritten, own_columns}
use Rattle.fit_from_messages.proofs.DefinitionBack.{definition_back, dev_entries_are, slots_are}
use Rattle.fit_from_messages.proofs.EventsBack.{begun, record_stands, slots_of, written}
use Rattle.fit_from_messages.proofs.MessageBack.{message_back, message_stands}
use Rattle.fit_from_messages.proofs.ReadBack.{widths}
use Rattle.fit_from_messages.proofs.SmallSizes.{AreSmall}
use Rattle.fit_from_messages.specs.Alone.{codes_in}
use Rattle.fit_from_messages.specs.Parts.{byte_at, header_in, items_read, kind, offset_in}
use Rattle.fit_from_messages.specs.SaysChain.{Begun, IsBlock, begun_by, fields_of, known_to, message_said, slots_at, why_no_definition, why_no_message}
use Rattle.fit_writer.proofs.SaidNames.{HasTexts, codes_back, namings_back, namings_texts}
use Rattle.fit_writer.proofs.SaidTimes.{header_said, offset_said, previous_short}
use Rattle.fit_writer.specs.Laws.{latest_definition}
use Rattle.fit_writer.specs.Reading.{Form, entry_naming, entry_namings, form_in, header_time_in, reading_after, reading_by, said_reading}
use Rattle.fit_writer.specs.Reading.{values_by}

-- ---- definitions

-- what a definition with these namings says
abbrev pub form_by : Defined Global → List Naming → Form
form_by p namings = record { definition = p.definition; codes = p.dev_codes; namings = namings; slots = slots_of p }

-- The block is that of the definition of a local message type.
pub record IsDefinedBy (namings : List Naming) (local : ℕ) (p : Defined Global) (block : List ℕ) : Type 0 where
  pub env : Environment Global
  pub file : ℕ
  pub place : ℕ
  pub number : ℕ
  pub is : p ≡ defined_by env p.definition
  pub local_is : p.definition.local ≡ local
  pub written : IsWritten p.definition namings
  pub block_is : block ≡ definition_block file place number (defined_by env p.definition) namings
  pub is_block : IsBlock block
  pub kind : kind block ≡ 2
  pub begun : Begun
  pub stands : why_no_definition begun block ≡ None

module _ (file place number : ℕ) (e : Environment Global) (d : MessageDef Global) (namings : List Naming) (w : IsWritten d namings)
    (texts : AllByRecursion HasTexts namings) where
  codes_said : codes_in (definition_block file place number (defined_by e d) namings) ≡ map (dev_code e) (dev_defs d.dev)
  codes_said =
      ap (map (byte_at 7)) (dev_entries_are file place number e d namings w)
      ∙ codes_back (items_begin d + widths (own_columns d)) (dev_defs d.dev) (dev_code e) namings w.each

  namings_said : entry_namings (definition_block file place number (defined_by e d) namings) ≡ namings
  namings_said =
      ap (map entry_naming) (dev_entries_are file place number e d namings w)
      ∙ namings_back (items_begin d + widths (own_columns d)) (dev_defs d.dev) (dev_code e) namings w.each w.named texts

  pub form_back : form_in (definition_block file place number (defined_by e d) namings) ≡ form_by (defined_by e d) namings
  form_back = λ i. record {
    definition = definition_back file place number e d namings w i;
    codes = codes_said i;
    namings = namings_said i;
    slots = slots_are file place number e d namings w i;
  }

pub form_said : (namings : List Naming) (local : ℕ) (p : Defined Global) (block : List ℕ) → IsDefinedBy namings local p block
    → AllByRecursion HasTexts namings → form_in block ≡ form_by p namings
form_said namings local p block by texts =
    ap form_in by.block_is ∙ form_back by.file by.place by.number by.env p.definition namings by.written texts
    ∙ ap (λ q. form_by q namings) (sym by.is)

-- ---- messages

module _ (file place number : ℕ) (before : List (Record Global)) (v : Values Global) (p : Defined Global) (t : Told) (fits : DataFits v p)
    (defined : defined_at (known before) v.local ≡ Some p) (few : v.local < 16) where
  abbrev block : List ℕ
  block = message_block file place number v p.definition t

  -- a file with these records, where each local message type has the items of this one
  abbrev pub file_said : Begun
  file_said = record (begun_by []) { records = reverse before; slots = replicate 16 (slots_of p) }

  there : defined_at (known_to file_said) v.local ≡ Some p
  there = ap (λ e. defined_at e v.local) (sym (known_learned (reverse before)) ∙ ap known (reverse-reverse before)) ∙ defined

  pub slots_there : slots_at file_said v.local ≡ slots_of p
  slots_there = get_or-replicate 16 v.local (slots_of p) [] few

  counted : fields_of file_said v.local ≡ length p.definition.fields
  counted = ap (λ o. unwrap_or (option_map (λ (q : Defined Global). length q.definition.fields) o) 0) there

  back : message_said file_said block ≡ v
  back = message_back file place number v p t fits file_said there slots_there

  fields_said : map (items_read block) (take (length p.definition.fields) (slots_of p)) ≡ v.fields
  unfolding low
  fields_said =
      ap₂ (λ n s. map (items_read block) (take n s)) (sym counted) (sym slots_there) ∙ ap (λ (w : Values Global). w.fields) back

  dev_said : map (items_read block) (drop (length p.definition.fields) (slots_of p)) ≡ v.dev
  unfolding low
  dev_said =
      ap₂ (λ n s. map (items_read block) (drop n s)) (sym counted) (sym slots_there) ∙ ap (λ (w : Values Global). w.dev) back

  pub values_said : (namings : List Naming) (local : ℕ) (offset : Option ℕ)
      → values_by (form_by p namings) block local offset ≡ record { local = local; offset = offset; fields = v.fields; dev = v.dev }
  values_said namings local offset = λ i. record { local = local; offset = offset; fields = fields_said i; dev = dev_said i }

  -- it can stand there
  pub message_passes : why_no_message file_said block ≡ None
  message_passes = message_stands file place number v p t fits file_said there slots_there

  pub reading_said : (namings : List Naming) (time : Option ℕ) → or_else (field_time p.definition v) (header_time_in block) ≡ time
      → said_reading (form_by p namings) block ≡ reading_by p.definition p.dev_codes namings v time
  reading_said namings time is =
      ap (λ (w : Values Global). reading_by p.definition p.dev_codes namings w (or_else (field_time p.definition w) (header_time_in block)))
      (values_said namings 0 None)
      ∙ ap (reading_by p.definition p.dev_codes namings v) is

pub told_by : (before : List (Record Global)) (v : Values Global) (p : Defined Global) → defined_at (known before) v.local ≡ Some p
    → reading_after before v
    ≡ Some (reading_by p.definition p.dev_codes (namings_at before v.local) v
    (or_else (field_time p.definition v) (header_time (previous_time before) v.offset)))
told_by before v p defined =
    ap (option_map (λ (q : Defined Global). reading_by q.definition q.dev_codes (namings_at before v.local) v (time before (Data v)))) defined
    ∙ ap (λ o. Some (reading_by p.definition p.dev_codes (namings_at before v.local) v
    (or_else (option_and_then (λ (q : Defined Global). field_time q.definition v) o) (header_time (previous_time before) v.offset)))) defined

-- ---- the definitions that were heard

abbrev pub HasDefinition : List (Event Global) → ℕ → Option (Defined Global) → Type 0
HasDefinition heard local o = IfSome o (λ p. IsDefinedBy (namings_at (latest_records heard) local) local p (latest_definition heard local))

none_defined : (P : Defined Global → Type 0) (n i : ℕ) → IfSome (get_or (replicate n None) i None) P
none_defined P zero i = tt
none_defined P (suc n) zero = tt
none_defined P (suc n) (suc i) = none_defined P n i

pub latest_by : (heard : List (Event Global)) (d : MessageDef Global) → AreSmall (Define d ∷ latest_records heard)
    → IsDefinedBy (map (λ f. naming_of (latest_records heard) f.index f.number) (dev_defs d.dev)) d.local
    (defined_by (known (latest_records heard)) d) (event_block heard (item (Define d)))
unfolding low
latest_by heard d are =
    let before = latest_records heard in
    let own = map (λ f. naming_of before f.index f.number) (dev_defs d.dev) in
    let there = record_stands [] (header_in []) heard (Define d) are in
    let is : namings_at (Define d ∷ before) d.local ≡ own = ap (λ b. if b then own else namings_at before d.local) (eq-eqb d.local d.local refl) in
    record {
      env = known before;
      file = begun_files heard;
      place = bytes_heard heard;
      number = definitions_heard heard;
      is = refl;
      local_is = refl;
      written = subst (IsWritten d) is (written before d are);
      block_is =
          ap (definition_block (begun_files heard) (bytes_heard heard) (definitions_heard heard) (defined_by (known before) d)) is;
      is_block = there.is;
      kind = refl;
      begun = begun (header_in []) before;
      stands = there.good;
    }

define_heard : (heard : List (Event Global)) (d : MessageDef Global) (local : ℕ) → AreSmall (Define d ∷ latest_records heard)
    → HasDefinition heard local (defined_at (known (latest_records heard)) local)
    → HasDefinition (item (Define d) ∷ heard) local (defined_at (known (Define d ∷ latest_records heard)) local)
define_heard heard d local are had =
    let before = latest_records heard in
    let q = defined_by (known before) d in
    let own = map (λ f. naming_of before f.index f.number) (dev_defs d.dev) in
    let block = event_block heard (item (Define d)) in
    let Has : Bool → Option (Defined Global) → Type 0 = λ b o.
    IfSome o (λ p. IsDefinedBy (if b then own else namings_at before local) local p (if b then block else latest_definition heard local)) in
    elim (cases_Bool (d.local == local)) [
      | inl test ↦
          let same : d.local ≡ local = eqb-true d.local local test in
          let there : defined_at (known (Define d ∷ before)) local ≡ Some q =
          subst (λ k. defined_at (known (Define d ∷ before)) k ≡ Some q) same (just_defined before d are.0.local) in
          subst (λ o. Has (d.local == local) o) (sym there)
          (subst (λ b. Has b (Some q)) (sym test) (subst (λ k. IsDefinedBy own k q block) same (latest_by heard d are)))
      | inr test ↦
          let other : local ≡ d.local → ⊥ = λ e. cc (sym test ∙ eq-eqb d.local local (sym e)) in
          let there : defined_at (known (Define d ∷ before)) local ≡ defined_at (known before) local =
          get_or-set_other (known before).places d.local local (Some q) None other in
          subst (λ o. Has (d.local == local) o) (sym there) (subst (λ b. Has b (defined_at (known before) local)) (sym test) had)
    ]

pub definition_heard : (heard : List (Event Global)) → AreSmall (latest_records heard) → (local : ℕ)
    → HasDefinition heard local (defined_at (known (latest_records heard)) local)
definition_heard [] are local = none_defined _ 16 local
definition_heard (header h n ∷ heard) are local = none_defined _ 16 local
definition_heard (file_end ∷ heard) are local = definition_heard heard are local
definition_heard (item (Define d) ∷ heard) are local = define_heard heard d local are (definition_heard heard are.2 local)
definition_heard (item (Data v) ∷ heard) are local =
    subst (λ places. HasDefinition heard local (get_or places local None)) (sym (same_places (known (latest_records heard)) v))
    (definition_heard heard are.2 local)

-- ---- a message that was heard

pub record IsSaid (heard : List (Event Global)) (v : Values Global) : Type 0 where
  pub p : Defined Global
  pub defined : defined_at (known (latest_records heard)) v.local ≡ Some p
  pub fits : DataFits v p
  pub by : IsDefinedBy (namings_at (latest_records heard) v.local) v.local p (latest_definition heard v.local)
  pub block_is : event_block heard (item (Data v)) ≡ message_block (begun_files heard) (bytes_heard heard)
      (slice_index_or (numbers_heard heard) v.local 0) v p.definition (told (latest_records heard) v)
  pub form : form_in (latest_definition heard v.local) ≡ form_by p (namings_at (latest_records heard) v.local)
  pub offset : offset_in (event_block heard (item (Data v))) ≡ v.offset
  pub header_time : header_time_in (event_block heard (item (Data v))) ≡ header_time (previous_time (latest_records heard)) v.offset
  pub values : values_by (form_by p (namings_at (latest_records heard) v.local)) (event_block heard (item (Data v))) 0 None
      ≡ record { local = 0; offset = None; fields = v.fields; dev = v.dev }
  pub told : reading_after (latest_records heard) v
      ≡ Some (said_reading (form_in (latest_definition heard v.local)) (event_block heard (item (Data v))))

pub few_types : (local : ℕ) (offset : Option ℕ) → DataHeaderFits local offset → local < 16
few_types local None fits = fits
few_types local (Some o) fits = let few = fits.0 in omega (arith, few)

one_said : (heard : List (Event Global)) (v : Values Global) (p : Defined Global) → defined_at (known (latest_records heard)) v.local ≡ Some p
    → DataFits v p → IsDefinedBy (namings_at (latest_records heard) v.local) v.local p (latest_definition heard v.local) → IsSaid heard v
one_said heard v p defined fits by =
    let before = latest_records heard in
    let file = begun_files heard in
    let place = bytes_heard heard in
    let number = slice_index_or (numbers_heard heard) v.local 0 in
    let namings = namings_at before v.local in
    let t = told before v in
    let block = message_block file place number v p.definition t in
    let few = few_types v.local v.offset fits.header in
    let own : event_block heard (item (Data v)) ≡ block =
    ap (λ o. unwrap_or (option_map (λ (q : Defined Global). message_block file place number v q.definition t) o) []) defined in
    let form = form_said namings v.local p (latest_definition heard v.local) by (namings_texts before v.local) in
    let time : header_time_in block ≡ header_time (previous_time before) v.offset =
    header_said file place number v p.definition t fits.header (previous_time before) (previous_short before) refl in
    let reading : said_reading (form_by p namings) block
    ≡ reading_by p.definition p.dev_codes namings v (or_else (field_time p.definition v) (header_time (previous_time before) v.offset)) =
    reading_said file place number before v p t fits defined few namings _ (ap (or_else (field_time p.definition v)) time) in
    record {
      p = p;
      defined = defined;
      fits = fits;
      by = by;
      block_is = own;
      form = form;
      offset = ap offset_in own ∙ offset_said file place number v p.definition t fits.header;
      header_time = ap header_time_in own ∙ time;
      values = ap (λ b. values_by (form_by p namings) b 0 None) own ∙ values_said file place number before v p t fits defined few namings 0 None;
      told = told_by before v p defined ∙ ap Some (sym (ap₂ said_reading form own ∙ reading));
    }

data_said : (heard : List (Event Global)) (v : Values Global) (o : Option (Defined Global)) → defined_at (known (latest_records heard)) v.local ≡ o
    → IsSomeAnd o (DataFits v) → HasDefinition heard v.local o → IsSaid heard v
data_said heard v None defined fits by = absurd fits
data_said heard v (Some p) defined fits by = one_said heard v p defined fits by

pub message_heard : (heard : List (Event Global)) (v : Values Global) → AreSmall (Data v ∷ latest_records heard) → IsSaid heard v
message_heard heard v are =
    data_said heard v (defined_at (known (latest_records heard)) v.local) refl are.0 (definition_heard heard are.2 v.local)
