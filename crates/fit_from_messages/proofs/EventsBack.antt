-- The block of each event of a chain can stand where it is, and says that event.
use Rattle.std.proofs.Common.{◌≡◌, ◌∙◌, ℕ, zero, suc, ◌+◌, ◌%◌, ◌<◌, List, [], ◌∷◌, ◌++◌, refl, sym, ap, ap₂, subst, arith, length, get_or, set, replicate}
use Rattle.std.proofs.lemmas.Bool.{eq-eqb, lt-ltb}
use Rattle.std.proofs.lemmas.List.{length-map, length-set, reverse-append}
use Rattle.std.specs.Global.{Global}
use Rattle.std.specs.List.{AllByRecursion}
use Rattle.std.specs.Prelude.{Option, Some, None, IfSome, IsSomeAnd, if◌then◌else◌, map, not, option_map, reverse, slice_index_or}
use Rattle.std.specs.Prelude.{slice_set, unwrap_or}
use Rattle.fit_chain.specs.Events.{Event, header, item, file_end}
use Rattle.fit_frame.specs.Header.{HeaderFits}
use Rattle.fit_frame.specs.declared.header.Header.{Header}
use Rattle.fit_messages.proofs.BlockLengths.{blocks_whole, one_length}
use Rattle.fit_messages.specs.Blocks.{begun_files, bytes_heard, definitions_heard, event_block, items_begin, message_block, numbers_heard}
unfoldable use Rattle.fit_messages.specs.Blocks.{low}
use Rattle.fit_profile.specs.Described.{Naming, naming_of, namings_at}
use Rattle.fit_profile.specs.Looks.{known}
use Rattle.fit_profile.specs.Told.{told}
use Rattle.fit_record.proofs.FilledRooms.{same_places}
use Rattle.fit_record.proofs.RecordLists.{learn_all-append}
use Rattle.fit_record.specs.Environment.{defined_at, defined_by, dev_defs, empty_environment, learn, learn_all}
use Rattle.fit_record.specs.Files.{chain_limit}
use Rattle.fit_record.specs.Records.{DataFits, dev_layout, layout}
use Rattle.fit_record.specs.declared.definition.DevDef.{DevDef}
use Rattle.fit_record.specs.declared.definition.MessageDef.{MessageDef}
use Rattle.fit_record.specs.declared.environment.Defined.{Defined}
use Rattle.fit_record.specs.declared.file.FitFile.{FitFile}
use Rattle.fit_record.specs.declared.message.Record.{Record}
use Rattle.fit_record.specs.declared.message.Record.TheVariants.{Define, Values as Data}
use Rattle.fit_record.specs.declared.message.Values.{Values}
use Rattle.fit_report.specs.Heard.{latest_records}
use Rattle.fit_from_messages.proofs.ColumnsBack.{IsWritten}
use Rattle.fit_from_messages.proofs.DefinitionBack.{definition_back, definition_stands, is_definition_block, slots_are}
use Rattle.fit_from_messages.proofs.HeaderBack.{header_back, header_passes, is_end_block, is_header_block}
use Rattle.fit_from_messages.proofs.MessageBack.{is_message_block, message_back, message_stands}
use Rattle.fit_from_messages.proofs.ReadBack.{slots_from}
use Rattle.fit_from_messages.proofs.SmallSizes.{AreSmall, IsShort, IsSmallDefined, defined_small, naming_of_short}
use Rattle.fit_from_messages.specs.SaysChain.{Begun, IsBlock, Said, Say, after, known_to, reason, slots_at}
use Rattle.fit_from_messages.specs.declared.fault.BlockReason.TheVariants.{Header as NoHeader, Kind}
use Rattle.fit_from_messages.specs.declared.slot.Slot.{Slot}

-- ---- what is known of a file

-- where the items of the messages of a definition are
abbrev pub slots_of : Defined Global → List Slot
slots_of p = slots_from (items_begin p.definition) (layout p ++ dev_layout p)

-- for each local message type, after these records
abbrev pub slots_known : List (Record Global) → List (List Slot)
slots_known [] = replicate 16 []
slots_known (Define d ∷ before) = slice_set (slots_known before) d.local (slots_of (defined_by (known before) d))
slots_known (Data v ∷ before) = slots_known before

-- a file of this header after these records, the latest first
abbrev pub begun : Header → List (Record Global) → Begun
begun h before = record { header = h; records = reverse before; slots = slots_known before }

abbrev pub in_file : List (FitFile Global) → Header → List (Record Global) → Said
in_file files h before = record { files = files; current = Some (begun h before) }

abbrev pub whole_files : List (FitFile Global) → Said
whole_files files = record { files = files; current = None }

known_is : (before : List (Record Global)) → learn_all empty_environment (reverse before) ≡ known before
known_is [] = refl
known_is (r ∷ before) =
    ap (learn_all empty_environment) (reverse-append (r ∷ []) before) ∙ learn_all-append empty_environment (reverse before) (r ∷ [])
    ∙ ap (λ e. learn e r) (known_is before)

abbrev KeptAt : List (Option (Defined Global)) → List (List Slot) → ℕ → Type 0
KeptAt places slots i = IfSome (get_or places i None) (λ p. get_or slots i [] ≡ slots_of p)

kept_none : (n i : ℕ) → KeptAt (replicate n None) (replicate n []) i
kept_none zero i = tt
kept_none (suc n) zero = tt
kept_none (suc n) (suc i) = kept_none n i

kept_set : (places : List (Option (Defined Global))) (slots : List (List Slot)) (k : ℕ) (p : Defined Global) → length places ≡ length slots
    → ((i : ℕ) → KeptAt places slots i) → (i : ℕ) → KeptAt (set places k (Some p)) (set slots k (slots_of p)) i
kept_set [] slots k p long kept i = tt
kept_set (o ∷ places) [] k p long kept i = absurd (omega (arith, long))
kept_set (o ∷ places) (s ∷ slots) zero p long kept zero = refl
kept_set (o ∷ places) (s ∷ slots) zero p long kept (suc i) = kept (suc i)
kept_set (o ∷ places) (s ∷ slots) (suc k) p long kept zero = kept 0
kept_set (o ∷ places) (s ∷ slots) (suc k) p long kept (suc i) = kept_set places slots k p (omega (arith, long)) (λ j. kept (suc j)) i

as_many_places : (before : List (Record Global)) → length (known before).places ≡ length (slots_known before)
as_many_places [] = refl
as_many_places (Define d ∷ before) =
    length-set (known before).places d.local (Some (defined_by (known before) d)) ∙ as_many_places before
    ∙ sym (length-set (slots_known before) d.local (slots_of (defined_by (known before) d)))
as_many_places (Data v ∷ before) = ap length (same_places (known before) v) ∙ as_many_places before

slots_kept : (before : List (Record Global)) (i : ℕ) → KeptAt (known before).places (slots_known before) i
slots_kept [] i = kept_none 16 i
slots_kept (Define d ∷ before) i =
    kept_set (known before).places (slots_known before) d.local (defined_by (known before) d) (as_many_places before) (slots_kept before) i
slots_kept (Data v ∷ before) i = subst (λ places. KeptAt places (slots_known before) i) (sym (same_places (known before) v)) (slots_kept before i)

slots_there : (h : Header) (before : List (Record Global)) (local : ℕ) (p : Defined Global) → defined_at (known before) local ≡ Some p
    → slots_at (begun h before) local ≡ slots_of p
slots_there h before local p defined = subst (λ o. IfSome o (λ q. slots_at (begun h before) local ≡ slots_of q)) defined (slots_kept before local)

-- ---- one block

-- It is a block that can stand there, and this has been said after it.
pub record Stands (said : Said) (block : List ℕ) (next : Said) : Type 0 where
  pub is : IsBlock block
  pub good : reason said block ≡ None
  pub says : after said block ≡ next

pub stands_first : (s t u : Said) (block : List ℕ) (blocks : List (List ℕ)) → Stands s block t → Say t blocks u → Say s (block ∷ blocks) u
stands_first s t u block blocks first others = (first.is, first.good, subst (λ x. Say x blocks u) (sym first.says) others)

-- a definition takes the namings of its developer fields, which are short
pub written : (before : List (Record Global)) (d : MessageDef Global) → AreSmall (Define d ∷ before) → IsWritten d (namings_at (Define d ∷ before) d.local)
written before d are =
    let name : DevDef → Naming = λ f. naming_of before f.index f.number in
    let own = map name (dev_defs d.dev) in
    let is : own ≡ namings_at (Define d ∷ before) d.local =
    sym (ap (λ b. if b then own else namings_at before d.local) (eq-eqb d.local d.local refl)) in
    subst (IsWritten d) is (record {
      fits = are.0;
      small = are.1;
      named = all_short (dev_defs d.dev);
      each = length-map (dev_defs d.dev) name;
    })
  where
    all_short : (fields : List DevDef) → AllByRecursion IsShort (map (λ f. naming_of before f.index f.number) fields)
    all_short [] = tt
    all_short (f ∷ fields) = (naming_of_short before are.2 f.index f.number, all_short fields)

define_stands : (files : List (FitFile Global)) (h : Header) (heard : List (Event Global)) (d : MessageDef Global)
    → AreSmall (Define d ∷ latest_records heard)
    → Stands (in_file files h (latest_records heard)) (event_block heard (item (Define d))) (in_file files h (Define d ∷ latest_records heard))
unfolding low
define_stands files h heard d are =
    let before = latest_records heard in
    let e = known before in
    let namings = namings_at (Define d ∷ before) d.local in
    let w = written before d are in
    let file = begun_files heard in
    let place = bytes_heard heard in
    let number = definitions_heard heard in
    let says = definition_back file place number e d namings w in
    let slots = slots_are file place number e d namings w in
    let records : reverse before ++ Define d ∷ [] ≡ reverse (Define d ∷ before) = sym (reverse-append (Define d ∷ []) before) in
    record {
      is = is_definition_block file place number e d namings w (blocks_whole heard (item (Define d)));
      good = definition_stands file place number e d namings w (begun h before) (known_is before);
      says =
          (λ i. record {
            files = files;
            current =
                Some (record {
                  header = h;
                  records = reverse before ++ Define (says i) ∷ [];
                  slots = slice_set (slots_known before) d.local (slots i);
                });
          })
          ∙ ap (λ rs. record {
            files = files;
            current =
                Some (record { header = h; records = rs; slots = slice_set (slots_known before) d.local (slots_of (defined_by e d)) });
          }) records;
    }

one_message_stands : (files : List (FitFile Global)) (h : Header) (heard : List (Event Global)) (v : Values Global) (p : Defined Global)
    → defined_at (known (latest_records heard)) v.local ≡ Some p → DataFits v p → IsSmallDefined p
    → Stands (in_file files h (latest_records heard))
    (message_block (begun_files heard) (bytes_heard heard) (slice_index_or (numbers_heard heard) v.local 0) v p.definition (told (latest_records heard) v))
    (in_file files h (Data v ∷ latest_records heard))
unfolding low
one_message_stands files h heard v p defined fits small =
    let before = latest_records heard in
    let f = begun h before in
    let file = begun_files heard in
    let place = bytes_heard heard in
    let number = slice_index_or (numbers_heard heard) v.local 0 in
    let t = told before v in
    let there : defined_at (known_to f) v.local ≡ Some p = ap (λ e. defined_at e v.local) (known_is before) ∙ defined in
    let slots = slots_there h before v.local p defined in
    let says = message_back file place number v p t fits f there slots in
    let block = message_block file place number v p.definition t in
    let own : event_block heard (item (Data v)) ≡ block =
    ap (λ o. unwrap_or (option_map (λ (q : Defined Global). message_block file place number v q.definition t) o) []) defined in
    let multiple : length block % 8 ≡ 0 = ap (λ b. length b % 8) (sym own) ∙ blocks_whole heard (item (Data v)) in
    let records : reverse before ++ Data v ∷ [] ≡ reverse (Data v ∷ before) = sym (reverse-append (Data v ∷ []) before) in
    record {
      is = is_message_block file place number v p t fits one_length small.sound small.small multiple;
      good = message_stands file place number v p t fits f there slots;
      says =
          (λ i. record {
            files = files;
            current = Some (record { header = h; records = reverse before ++ Data (says i) ∷ []; slots = slots_known before });
          })
          ∙ ap (λ rs. record { files = files; current = Some (record { header = h; records = rs; slots = slots_known before }) }) records;
    }

data_stands : (files : List (FitFile Global)) (h : Header) (heard : List (Event Global)) (v : Values Global) (o : Option (Defined Global))
    → defined_at (known (latest_records heard)) v.local ≡ o → IsSomeAnd o (DataFits v) → IfSome o IsSmallDefined
    → Stands (in_file files h (latest_records heard)) (event_block heard (item (Data v))) (in_file files h (Data v ∷ latest_records heard))
data_stands files h heard v None defined fits small = absurd fits
data_stands files h heard v (Some p) defined fits small =
    let before = latest_records heard in
    let block : Option (Defined Global) → List ℕ = λ o. unwrap_or (option_map (λ (q : Defined Global).
    message_block (begun_files heard) (bytes_heard heard) (slice_index_or (numbers_heard heard) v.local 0) v q.definition (told before v)) o) [] in
    subst (λ o. Stands (in_file files h before) (block o) (in_file files h (Data v ∷ before))) (sym defined)
    (one_message_stands files h heard v p defined fits small)

pub record_stands : (files : List (FitFile Global)) (h : Header) (heard : List (Event Global)) (r : Record Global) → AreSmall (r ∷ latest_records heard)
    → Stands (in_file files h (latest_records heard)) (event_block heard (item r)) (in_file files h (r ∷ latest_records heard))
record_stands files h heard (Define d) are = define_stands files h heard d are
record_stands files h heard (Data v) are =
    let before = latest_records heard in
    data_stands files h heard v (defined_at (known before) v.local) refl are.0 (defined_small before are.2 v.local)

pub header_stands_there : (files : List (FitFile Global)) (h : Header) (n : ℕ) (heard : List (Event Global)) → HeaderFits h n → length files < chain_limit
    → Stands (whole_files files) (event_block heard (header h n)) (in_file files h [])
unfolding low
header_stands_there files h n heard fits few =
    let file = begun_files heard + 1 in
    let place = bytes_heard heard in
    let block = event_block heard (header h n) in
    let says = header_back file place n n h fits in
    record {
      is = is_header_block file place n n h fits (blocks_whole heard (header h n));
      good =
          ap₂ (λ a b. if not a then Some Kind else if not b then Some NoHeader else None) (lt-ltb (length files) chain_limit few)
          (header_passes file place n n h fits);
      says = λ i. record { files = files; current = Some (record { header = says i; records = []; slots = replicate 16 [] }) };
    }

pub end_stands : (files : List (FitFile Global)) (h : Header) (heard : List (Event Global)) (before : List (Record Global))
    → Stands (in_file files h before) (event_block heard file_end) (whole_files (files ++ record { header = h; records = reverse before } ∷ []))
unfolding low
end_stands files h heard before = record { is = is_end_block (begun_files heard) (bytes_heard heard); good = refl; says = refl }
