-- The messages of a chain, as they are heard.
use Rattle.std.proofs.Common.{◌≡◌, ◌∙◌, ℕ, List, [], ◌∷◌, ◌++◌, refl, sym, ap, subst, length, append_assoc}
use Rattle.std.proofs.lemmas.List.{append-nil, map-append, reverse-append}
use Rattle.std.specs.Global.{Global}
use Rattle.std.specs.List.{AllByRecursion}
use Rattle.std.specs.Prelude.{Some, flat_map, map, option_map, reverse, unwrap_or}
use Rattle.fit_base.specs.Numbers.{IsBytes}
use Rattle.fit_chain.specs.Events.{Event, header, item, file_end, file_events}
use Rattle.fit_frame.specs.declared.header.Header.{Header}
use Rattle.fit_profile.specs.Looks.{known}
use Rattle.fit_record.specs.Files.{IsChain, IsWellFormed, body, chain_limit}
use Rattle.fit_record.specs.Records.{AllFit}
use Rattle.fit_record.specs.declared.file.FitFile.{FitFile}
use Rattle.fit_record.specs.declared.message.Record.{Record}
use Rattle.fit_record.specs.declared.message.Record.TheVariants.{Define, Values as Data}
use Rattle.fit_report.proofs.Records.{reverse-map}
use Rattle.fit_report.specs.Heard.{latest_records}
use Rattle.fit_messages.specs.Blocks.{event_block}
use Rattle.fit_from_messages.proofs.ChainBack.{SmallFile, files_small}
use Rattle.fit_from_messages.proofs.SmallSizes.{AreSmall, IsSmall}
use Rattle.fit_writer.proofs.SaidTold.{message_heard}
use Rattle.fit_writer.specs.Laws.{WhatIsSaidWasTold, chain_heard, chain_readings, latest_definition, message_blocks}
use Rattle.fit_writer.specs.Reading.{Reading, form_in, reading_after, readings, said_reading}

-- ---- the records of a file, the latest first, after its header

abbrev pub file_heard : Header → ℕ → List (Record Global) → List (Event Global) → List (Event Global)
file_heard h n [] heard = header h n ∷ heard
file_heard h n (r ∷ records) heard = item r ∷ file_heard h n records heard

pub latest_are : (h : Header) (n : ℕ) (records : List (Record Global)) (heard : List (Event Global)) → latest_records (file_heard h n records heard) ≡ records
latest_are h n [] heard = refl
latest_are h n (r ∷ records) heard = ap (λ rs. r ∷ rs) (latest_are h n records heard)

file_is : (h : Header) (n : ℕ) (records : List (Record Global)) (heard : List (Event Global))
    → file_heard h n records heard ≡ map item records ++ header h n ∷ heard
file_is h n [] heard = refl
file_is h n (r ∷ records) heard = ap (λ es. item r ∷ es) (file_is h n records heard)

pub file_reversed : (f : FitFile Global) (heard : List (Event Global))
    → reverse (file_events f) ++ heard ≡ file_end ∷ file_heard f.header (length (body f)) (reverse f.records) heard
file_reversed f heard =
    let first : Event Global = header f.header (length (body f)) in
    ap (λ es. es ++ heard) (reverse-append (first ∷ []) (map item f.records ++ file_end ∷ [])
    ∙ ap (λ es. es ++ first ∷ []) (reverse-append (map item f.records) (file_end ∷ []) ∙ ap (λ es. file_end ∷ es) (reverse-map item f.records)))
    ∙ ap (λ es. file_end ∷ es) (append_assoc (map item (reverse f.records)) (first ∷ []) heard
    ∙ sym (file_is f.header (length (body f)) (reverse f.records) heard))

-- a chain, its latest file first
abbrev pub files_heard : List (FitFile Global) → List (Event Global)
files_heard [] = []
files_heard (f ∷ files) = file_end ∷ file_heard f.header (length (body f)) (reverse f.records) (files_heard files)

heard_more : (files done : List (FitFile Global))
    → reverse (flat_map file_events files) ++ files_heard done ≡ files_heard (reverse files ++ done)
heard_more [] done = refl
heard_more (f ∷ files) done =
    ap (λ es. es ++ files_heard done) (reverse-append (file_events f) (flat_map file_events files))
    ∙ append_assoc (reverse (flat_map file_events files)) (reverse (file_events f)) (files_heard done)
    ∙ ap (λ es. reverse (flat_map file_events files) ++ es) (file_reversed f (files_heard done)) ∙ heard_more files (f ∷ done)
    ∙ ap files_heard (sym (ap (λ fs. fs ++ done) (reverse-append (f ∷ []) files) ∙ append_assoc (reverse files) (f ∷ []) done))

pub chain_is : (files : List (FitFile Global)) → chain_heard files ≡ files_heard (reverse files)
chain_is files =
    sym (append-nil (reverse (flat_map file_events files))) ∙ heard_more files [] ∙ ap files_heard (append-nil (reverse files))

-- ---- their records fit, and their sizes are small

pub small_records : (records before : List (Record Global)) → AllFit (known before) records → AllByRecursion IsSmall records → AreSmall before
    → AreSmall (reverse records ++ before)
small_records [] before fit small are = are
small_records (r ∷ records) before fit small are =
    subst AreSmall (sym (ap (λ l. l ++ before) (reverse-append (r ∷ []) records) ∙ append_assoc (reverse records) (r ∷ []) before))
    (small_records records (r ∷ before) fit.1 small.1 (fit.0, small.0, are))

pub small_file : (f : FitFile Global) → IsWellFormed f → SmallFile f → AreSmall (reverse f.records)
small_file f well small = subst AreSmall (append-nil (reverse f.records)) (small_records f.records [] well.records small tt)

-- a file of a chain
pub record IsGood (f : FitFile Global) : Type 0 where
  pub well : IsWellFormed f
  pub small : AreSmall (reverse f.records)

good_files : (files : List (FitFile Global)) → AllByRecursion IsWellFormed files → AllByRecursion SmallFile files → AllByRecursion IsGood files
good_files [] well small = tt
good_files (f ∷ files) well small = (record { well = well.0; small = small_file f well.0 small.0 }, good_files files well.1 small.1)

pub good_reversed : (P : FitFile Global → Type 0) (files done : List (FitFile Global)) → AllByRecursion P files → AllByRecursion P done
    → AllByRecursion P (reverse files ++ done)
good_reversed P [] done all others = others
good_reversed P (f ∷ files) done all others =
    subst (AllByRecursion P) (sym (ap (λ l. l ++ done) (reverse-append (f ∷ []) files) ∙ append_assoc (reverse files) (f ∷ []) done))
    (good_reversed P files (f ∷ done) all.1 (all.0, others))

pub good_chain : (files : List (FitFile Global)) (bytes : List ℕ) → IsBytes bytes → IsChain chain_limit files bytes → AllByRecursion IsGood (reverse files)
good_chain files bytes are chain =
    subst (AllByRecursion IsGood) (append-nil (reverse files))
    (good_reversed IsGood files [] (good_files files chain.0.each (files_small files (subst IsBytes chain.1 are))) tt)

-- ---- what is said of messages

abbrev pub says : List (Event Global) → List Reading
says heard = map (λ m. said_reading (form_in m.0) m.1) (message_blocks heard)

records_said : (h : Header) (n : ℕ) (records : List (Record Global)) (heard : List (Event Global)) → AreSmall records
    → says (file_heard h n records heard) ≡ says heard ++ readings records
records_said h n [] heard are = sym (append-nil (says heard))
records_said h n (Define d ∷ records) heard are = records_said h n records heard are.2
records_said h n (Data v ∷ records) heard are =
    let front = file_heard h n records heard in
    let same = latest_are h n records heard in
    let said = message_heard front v (subst (λ rs. AreSmall (Data v ∷ rs)) (sym same) are) in
    let own : Reading = said_reading (form_in (latest_definition front v.local)) (event_block front (item (Data v))) in
    let told : reading_after records v ≡ Some own = ap (λ rs. reading_after rs v) (sym same) ∙ said.told in
    map-append (λ m. said_reading (form_in m.0) m.1) (message_blocks front) ((latest_definition front v.local, event_block front (item (Data v))) ∷ [])
    ∙ ap (λ rs. rs ++ own ∷ []) (records_said h n records heard are.2) ∙ append_assoc (says heard) (readings records) (own ∷ [])
    ∙ ap (λ o. says heard ++ (readings records ++ unwrap_or (option_map (λ r. r ∷ []) o) [])) (sym told)

-- of files, the latest first
abbrev readings_of : List (FitFile Global) → List Reading
readings_of [] = []
readings_of (f ∷ files) = readings_of files ++ readings (reverse f.records)

files_said : (files : List (FitFile Global)) → AllByRecursion IsGood files → says (files_heard files) ≡ readings_of files
files_said [] all = refl
files_said (f ∷ files) all =
    records_said f.header (length (body f)) (reverse f.records) (files_heard files) all.0.small
    ∙ ap (λ rs. rs ++ readings (reverse f.records)) (files_said files all.1)

readings_reversed : (files done : List (FitFile Global)) → readings_of (reverse files ++ done) ≡ readings_of done ++ chain_readings files
readings_reversed [] done = sym (append-nil (readings_of done))
readings_reversed (f ∷ files) done =
    ap readings_of (ap (λ l. l ++ done) (reverse-append (f ∷ []) files) ∙ append_assoc (reverse files) (f ∷ []) done)
    ∙ readings_reversed files (f ∷ done) ∙ append_assoc (readings_of done) (readings (reverse f.records)) (chain_readings files)

pub what_is_said_was_told : WhatIsSaidWasTold
what_is_said_was_told files bytes are chain =
    ap says (chain_is files) ∙ files_said (reverse files) (good_chain files bytes are chain)
    ∙ ap readings_of (sym (append-nil (reverse files))) ∙ readings_reversed files []
