-- The blocks of a chain are read as that chain.
use Rattle.std.proofs.Common.{◌≡◌, ◌∙◌, ℕ, ◌+◌, ◌<◌, ◌≤◌, List, [], ◌∷◌, ◌++◌, refl, sym, ap, subst, arith, length, append_assoc}
use Rattle.std.proofs.lemmas.List.{append-nil, length-append, reverse-append, reverse-reverse}
use Rattle.std.specs.Global.{Global}
use Rattle.std.specs.List.{AllByRecursion}
use Rattle.std.specs.Prelude.{flat_map, map, reverse}
use Rattle.fit_base.proofs.ByteLists.{IsBytes-back, IsBytes-front}
use Rattle.fit_base.specs.Numbers.{IsBytes}
use Rattle.fit_chain.specs.Events.{Event, header, item, file_end, file_events}
use Rattle.fit_frame.specs.Header.{header_bytes}
use Rattle.fit_frame.specs.declared.header.Header.{Header}
use Rattle.fit_messages.specs.Blocks.{event_block}
use Rattle.fit_profile.specs.Looks.{known}
use Rattle.fit_record.specs.Environment.{empty_environment}
use Rattle.fit_record.specs.Files.{IsChain, IsWellFormed, body, chain_bytes, chain_limit, file_bytes, summed}
use Rattle.fit_record.specs.Records.{AllFit}
use Rattle.fit_record.specs.declared.file.FitFile.{FitFile}
use Rattle.fit_record.specs.declared.message.Record.{Record}
use Rattle.fit_report.specs.Heard.{latest_records, text_of}
use Rattle.fit_from_messages.proofs.EventsBack.{end_stands, header_stands_there, in_file, record_stands, stands_first, whole_files}
use Rattle.fit_from_messages.proofs.SmallSizes.{AreSmall, IsSmall, records_small}
use Rattle.fit_from_messages.specs.Laws.{BlocksComeBack, chain_blocks}
use Rattle.fit_from_messages.specs.SaysChain.{Said, Say, SaysChain, joined_blocks}

-- the blocks of events after those before them
abbrev pub blocks_from : List (Event Global) → List (Event Global) → List (List ℕ)
blocks_from heard [] = []
blocks_from heard (x ∷ events) = event_block heard x ∷ blocks_from (x ∷ heard) events

pub blocks_joined : (events heard : List (Event Global))
    → text_of event_block (reverse events ++ heard) ≡ text_of event_block heard ++ joined_blocks (blocks_from heard events)
blocks_joined [] heard = sym (append-nil (text_of event_block heard))
blocks_joined (x ∷ events) heard =
    ap (text_of event_block) (ap (λ es. es ++ heard) (reverse-append (x ∷ []) events) ∙ append_assoc (reverse events) (x ∷ []) heard)
    ∙ blocks_joined events (x ∷ heard) ∙ append_assoc (text_of event_block heard) (event_block heard x) (joined_blocks (blocks_from (x ∷ heard) events))

-- ---- a file

-- what comes after the records of a file
abbrev GoesOn : List (FitFile Global) → Header → List (Record Global) → List (Event Global) → Said → Type 0
GoesOn files h before events said =
    (heard : List (Event Global)) → latest_records heard ≡ before → Say (in_file files h before) (blocks_from heard events) said

records_say : (files : List (FitFile Global)) (h : Header) (rs : List (Record Global)) (heard events : List (Event Global)) (said : Said)
    → AllFit (known (latest_records heard)) rs → AllByRecursion IsSmall rs → AreSmall (latest_records heard)
    → GoesOn files h (reverse rs ++ latest_records heard) events said
    → Say (in_file files h (latest_records heard)) (blocks_from heard (map item rs ++ events)) said
records_say files h [] heard events said fit small are rest = rest heard refl
records_say files h (r ∷ rs) heard events said fit small are rest =
    let before = latest_records heard in
    let now : AreSmall (r ∷ before) = (fit.0, small.0, are) in
    let order : reverse (r ∷ rs) ++ before ≡ reverse rs ++ (r ∷ before) =
    ap (λ l. l ++ before) (reverse-append (r ∷ []) rs) ∙ append_assoc (reverse rs) (r ∷ []) before in
    stands_first (in_file files h before) (in_file files h (r ∷ before)) said (event_block heard (item r))
    (blocks_from (item r ∷ heard) (map item rs ++ events)) (record_stands files h heard r now)
    (records_say files h rs (item r ∷ heard) events said fit.1 small.1 now (subst (λ l. GoesOn files h l events said) order rest))

file_says : (files : List (FitFile Global)) (f : FitFile Global) (heard events : List (Event Global)) (said : Said) → IsWellFormed f
    → AllByRecursion IsSmall f.records → length files < chain_limit
    → ((now : List (Event Global)) → Say (whole_files (files ++ f ∷ [])) (blocks_from now events) said)
    → Say (whole_files files) (blocks_from heard (file_events f ++ events)) said
file_says files f heard events said well small few rest =
    let h = f.header in
    let n = length (body f) in
    let first : Event Global = header h n in
    let all = reverse f.records ++ [] in
    let same : reverse all ≡ f.records = ap reverse (append-nil (reverse f.records)) ∙ reverse-reverse f.records in
    let last : GoesOn files h all (file_end ∷ events) said = λ now is.
    stands_first (in_file files h all) (whole_files (files ++ record { header = h; records = reverse all } ∷ [])) said (event_block now file_end)
    (blocks_from (file_end ∷ now) events) (end_stands files h now all)
    (subst (λ rs. Say (whole_files (files ++ record { header = h; records = rs } ∷ [])) (blocks_from (file_end ∷ now) events) said) (sym same)
    (rest (file_end ∷ now))) in
    let records = records_say files h f.records (first ∷ heard) (file_end ∷ events) said well.records small tt last in
    stands_first (whole_files files) (in_file files h []) said (event_block heard first)
    (blocks_from (first ∷ heard) ((map item f.records ++ file_end ∷ []) ++ events)) (header_stands_there files h n heard well.header few)
    (subst (λ es. Say (in_file files h []) (blocks_from (first ∷ heard) es) said) (sym (append_assoc (map item f.records) (file_end ∷ []) events)) records)

-- ---- a chain

abbrev pub SmallFile : FitFile Global → Type 0
SmallFile f = AllByRecursion IsSmall f.records

pub files_small : (files : List (FitFile Global)) → IsBytes (chain_bytes files) → AllByRecursion SmallFile files
files_small [] are = tt
files_small (f ∷ files) are = (
  records_small empty_environment f.records (IsBytes-back (header_bytes f.header (length (body f))) (body f)
      (IsBytes-front (summed f) _ (IsBytes-front (file_bytes f) (chain_bytes files) are))),
  files_small files (IsBytes-back (file_bytes f) (chain_bytes files) are),
)

files_say : (done files : List (FitFile Global)) (heard : List (Event Global)) → AllByRecursion IsWellFormed files → AllByRecursion SmallFile files
    → length done + length files ≤ chain_limit
    → Say (whole_files done) (blocks_from heard (flat_map file_events files)) (whole_files (done ++ files))
files_say done [] heard well small few = ap (λ fs. whole_files fs) (sym (append-nil done))
files_say done (f ∷ files) heard well small few =
    let next = done ++ f ∷ [] in
    let long : length next ≡ length done + 1 = length-append done (f ∷ []) ∙ omega arith in
    file_says done f heard (flat_map file_events files) (whole_files (done ++ f ∷ files)) well.0 small.0 (omega (arith, few)) (λ now.
    subst (λ fs. Say (whole_files next) (blocks_from now (flat_map file_events files)) (whole_files fs)) (append_assoc done (f ∷ []) files)
    (files_say next files now well.1 small.1 (omega (arith, few, long))))

pub blocks_say_chain : (files : List (FitFile Global)) (bytes : List ℕ) → IsBytes bytes → IsChain chain_limit files bytes
    → SaysChain (chain_blocks files) files
blocks_say_chain files bytes are chain =
    let events = flat_map file_events files in
    record {
      blocks = blocks_from [] events;
      are_joined = ap (text_of event_block) (sym (append-nil (reverse events))) ∙ blocks_joined events [];
      say = files_say [] files [] chain.0.each (files_small files (subst IsBytes chain.1 are)) (let few = chain.0.within in omega (arith, few));
      some = chain.0.some;
    }

pub blocks_come_back : BlocksComeBack
blocks_come_back files bytes are chain = record { says = blocks_say_chain files bytes are chain; chain = chain }
