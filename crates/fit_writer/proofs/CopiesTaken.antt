-- The next block of a chain is put, unless memory or room is wanting.
use Rattle.std.proofs.Common.{◌≡◌, ◌∙◌, ◌+◌, ◌<◌, ◌≤◌, ◌^◌, inl, inr, ℕ, List, [], ◌∷◌, ◌++◌, refl, sym, ap, subst, arith, length}
use Rattle.std.proofs.lemmas.List.{length-append, length-reverse}
use Rattle.std.proofs.lemmas.Option.{none-some}
use Rattle.std.specs.Global.{Global}
use Rattle.std.specs.List.{AllByRecursion}
use Rattle.std.specs.Prelude.{Option, Some, None, IsSomeAnd, if◌then◌else◌, is_none, reverse}
use Rattle.fit_chain.specs.Events.{Event, header, item, file_end}
use Rattle.fit_frame.specs.Header.{HeaderFits}
use Rattle.fit_frame.specs.declared.header.Header.{Header}
use Rattle.fit_messages.specs.Blocks.{event_block}
use Rattle.fit_record.specs.Files.{body, chain_limit}
use Rattle.fit_record.specs.declared.definition.MessageDef.{MessageDef}
use Rattle.fit_record.specs.declared.environment.Defined.{Defined}
use Rattle.fit_record.specs.declared.file.FitFile.{FitFile}
use Rattle.fit_record.specs.declared.message.Record.{Record}
use Rattle.fit_record.specs.declared.message.Record.TheVariants.{Define, Values as Data}
use Rattle.fit_record.specs.declared.message.Values.{Values}
use Rattle.fit_report.specs.Heard.{latest_records}
use Rattle.fit_from_messages.proofs.SmallSizes.{AreSmall}
use Rattle.fit_from_messages.specs.Alone.{why_no_lone_definition, why_no_lone_message}
use Rattle.fit_from_messages.specs.Parts.{definition_in}
use Rattle.fit_writer.proofs.CopiedFiles.{current_by, data_is, defined_there, records_copied}
use Rattle.fit_writer.proofs.CopiedPuts.{can_name, exact_put, needed_is, needs_none, says_same}
use Rattle.fit_writer.proofs.CopyRefusals.{lone_definition, lone_header, lone_message}
use Rattle.fit_writer.proofs.Grown.{no_shorter}
use Rattle.fit_writer.proofs.HeardChains.{IsGood, chain_is, file_heard, files_heard, good_chain, latest_are}
use Rattle.fit_writer.proofs.SaidTold.{IsSaid, latest_by, message_heard}
use Rattle.fit_writer.specs.Laws.{Copies, CopiesAreTaken, IsCopyRefusal, latest_definition}
use Rattle.fit_writer.specs.Reading.{Form, form_in}
use Rattle.fit_writer.specs.Written.{CanName, Current, IsDefinitionRefusal, IsEnded, IsHeaderRefusal, IsMessageRefusal, IsNeeded, IsPlaceRefusal, IsPut}
use Rattle.fit_writer.specs.Written.{NeedsDescriptions, SaysSame, Writing, data_length, file_count, with_records}
use Rattle.fit_writer.specs.declared.refusal.Refusal.{Refusal}
use Rattle.fit_writer.specs.declared.refusal.Refusal.TheVariants.{NoFile, TooManyFiles, Block, Message, Described, Full, Time, TooLong, NoMemory}

-- ---- how many files have begun

abbrev counted : ℕ → Option Current → ℕ
counted n o = n + (if is_none o then 0 else 1)

one_more : (files now : List (FitFile Global)) (f : FitFile Global) → now ≡ files ++ f ∷ [] → length now ≡ length files + 1
one_more files now f same = omega (arith, ap length same, length-append files (f ∷ []))

begun_more : (start w : Writing) (c : Current) → IsEnded start w.files → w.current ≡ Some c → file_count w ≡ file_count start + 1
begun_more start w c ended now = go start.current refl
  where
    now_one : file_count w ≡ length w.files + 1
    now_one = ap (counted (length w.files)) now

    go : (o : Option Current) → start.current ≡ o → file_count w ≡ file_count start + 1
    go None none =
        let before : file_count start ≡ length start.files + 0 = ap (counted (length start.files)) none in
        omega (arith, now_one, before, ap length (ended.0 none))
    go (Some f) some =
        let (last, lasts, same) = ended.1 f some in
        let before : file_count start ≡ length start.files + 1 = ap (counted (length start.files)) some in
        omega (arith, now_one, before, one_more start.files w.files (record { header = last; records = reverse f.records }) same)

-- a file was begun after these events
record Begins (heard : List (Event Global)) (w : Writing) : Type 0 where
  pub start : Writing
  pub copies : Copies heard start
  pub count : file_count w ≡ file_count start + 1

goes_on : (heard : List (Event Global)) (before w : Writing) (f : Current) (now : List (Record Global)) → Begins heard before → before.current ≡ Some f
    → w ≡ with_records before f now → Begins heard w
goes_on heard before w f now b there is = record {
  start = b.start;
  copies = b.copies;
  count = ap file_count is ∙ sym (ap (counted (length before.files)) there) ∙ b.count;
}

file_begins : (h : Header) (n : ℕ) (records : List (Record Global)) (heard : List (Event Global)) (w : Writing)
    → Copies (file_heard h n records heard) w → Begins heard w
file_begins h n [] heard w (start, copies, begins) =
    record { start = start; copies = copies; count = begun_more start w _ begins.0 begins.1 }
file_begins h n (Define d ∷ records) heard w (before, copies, puts) =
    go (λ f. Define (definition_in (event_block (file_heard h n records heard) (item (Define d)))) ∷ f.records)
    (file_begins h n records heard before copies) before.current refl puts
  where
    go : (P : Current → List (Record Global)) → Begins heard before → (o : Option Current) → before.current ≡ o
        → IsSomeAnd o (λ f. w ≡ with_records before f (P f)) → Begins heard w
    go P b None there is = absurd is
    go P b (Some f) there is = goes_on heard before w f (P f) b there is
file_begins h n (Data v ∷ records) heard w (before, copies, puts) =
    go (λ f after. IsPut f.records after (form_in (latest_definition (file_heard h n records heard) v.local))
    (event_block (file_heard h n records heard) (item (Data v)))) (file_begins h n records heard before copies) before.current refl puts
  where
    go : (P : Current → List (Record Global) → Type 0) → Begins heard before → (o : Option Current) → before.current ≡ o
        → IsSomeAnd o (λ f. (after : List (Record Global)) × P f after × (w ≡ with_records before f after)) → Begins heard w
    go P b None there is = absurd is
    go P b (Some f) there (after, put, is) = goes_on heard before w f after b there is

files_counted : (files : List (FitFile Global)) (w : Writing) → Copies (files_heard files) w → file_count w ≡ length files
files_counted [] w none = ap file_count none
files_counted (f ∷ files) w copies =
    let b = file_begins f.header (length (body f)) (reverse f.records) (files_heard files) w copies in
    omega (arith, b.count, files_counted files b.start b.copies)

-- ---- what comes before an event

abbrev AreGood : List (FitFile Global) → Type 0
AreGood files = AllByRecursion IsGood files

-- Before a header there are whole files, and the chain may have one more.
record AfterFiles (heard : List (Event Global)) (h : Header) (n : ℕ) : Type 0 where
  pub files : List (FitFile Global)
  pub are : heard ≡ files_heard files
  pub fits : HeaderFits h n
  pub few : length files < chain_limit

-- Before a record there are a header and the records before it.
record AfterRecords (heard : List (Event Global)) (r : Record Global) : Type 0 where
  pub h : Header
  pub n : ℕ
  pub fits : HeaderFits h n
  pub records : List (Record Global)
  pub front : List (Event Global)
  pub are : heard ≡ file_heard h n records front
  pub small : AreSmall (r ∷ records)
  pub short : data_length (r ∷ records) < 2 ^ 32

abbrev Step : List (Event Global) → Event Global → Type 0
Step heard (header h n) = AfterFiles heard h n
Step heard (item r) = AfterRecords heard r
Step heard file_end = Unit {0}

abbrev Steps : List (Event Global) → Type 0
Steps [] = Unit {0}
Steps (x ∷ heard) = Step heard x × Steps heard

file_steps : (h : Header) (n : ℕ) → HeaderFits h n → (records : List (Record Global)) (files : List (FitFile Global)) → AreSmall records
    → data_length records < 2 ^ 32 → length files < chain_limit → Steps (files_heard files) → Steps (file_heard h n records (files_heard files))
file_steps h n fits [] files small short few steps = (record { files = files; are = refl; fits = fits; few = few }, steps)
file_steps h n fits (r ∷ records) files small short few steps = (
  record { h = h; n = n; fits = fits; records = records; front = files_heard files; are = refl; small = small; short = short },
  file_steps h n fits records files small.2 (omega (arith, short, no_shorter records r)) few steps,
)

files_steps : (files : List (FitFile Global)) → AreGood files → length files ≤ chain_limit → Steps (files_heard files)
files_steps [] all few = tt
files_steps (f ∷ files) all few = (
  tt,
  file_steps f.header (length (body f)) all.0.well.header (reverse f.records) files all.0.small
      (omega (arith, data_is f, all.0.well.header.data_fits)) (omega (arith, few))
      (files_steps files all.1 (omega (arith, few))),
)

step_at : (later heard : List (Event Global)) (x : Event Global) → Steps (later ++ x ∷ heard) → Step heard x
step_at [] heard x steps = steps.0
step_at (y ∷ later) heard x steps = step_at later heard x steps.1

-- ---- refusals

header_taken : (heard : List (Event Global)) (h : Header) (n : ℕ) → AfterFiles heard h n → (w : Writing) → Copies heard w → (why : Refusal)
    → IsHeaderRefusal w (event_block heard (header h n)) why → why ≡ NoMemory
header_taken heard h n s w copies NoMemory is = refl
header_taken heard h n s w copies (Block reason) is = absurd (none-some reason (sym (lone_header heard h n s.fits) ∙ is))
header_taken heard h n s w copies TooManyFiles is =
    let count : file_count w ≡ length s.files = files_counted s.files w (subst (λ es. Copies es w) s.are copies) in
    let many = is.1 in
    let few = s.few in
    absurd (omega (arith, many, count, few))
header_taken heard h n s w copies NoFile is = absurd is
header_taken heard h n s w copies (Message reason) is = absurd is
header_taken heard h n s w copies Full is = absurd is
header_taken heard h n s w copies Time is = absurd is
header_taken heard h n s w copies Described is = absurd is
header_taken heard h n s w copies TooLong is = absurd is

definition_taken : (c : Current) (block : List ℕ) → why_no_lone_definition block ≡ None
    → data_length (Define (definition_in block) ∷ c.records) < 2 ^ 32 → (why : Refusal)
    → IsDefinitionRefusal (Some c) block why → why ≡ NoMemory
definition_taken c block none short NoMemory is = refl
definition_taken c block none short TooLong is = let long = is.1 in absurd (omega (arith, long, short))
definition_taken c block none short (Block reason) is = absurd (none-some reason (sym none ∙ is))
definition_taken c block none short NoFile is = absurd is
definition_taken c block none short (Message reason) is = absurd is
definition_taken c block none short TooManyFiles is = absurd is
definition_taken c block none short Full is = absurd is
definition_taken c block none short Time is = absurd is
definition_taken c block none short Described is = absurd is

-- Its own local message type says the same, so nothing is to be described.
never_describes : {X : Type 0} (heard : List (Event Global)) (v : Values Global) (s : IsSaid heard v) (needed : Form)
    → IsNeeded (latest_records heard) (form_in (latest_definition heard v.local)) (event_block heard (item (Data v))) needed
    → NeedsDescriptions (latest_records heard) needed (CanName (latest_records heard) (event_block heard (item (Data v)))) → X
never_describes heard v s needed needs (never, none_says) =
    let form = form_in (latest_definition heard v.local) in
    let same : needed ≡ form = needed_is heard v s needed needs in
    absurd (subst (λ f. (local : ℕ) (p : Defined Global) → CanName (latest_records heard) (event_block heard (item (Data v))) local
    → SaysSame (latest_records heard) local f p → ⊥) same none_says form.definition.local s.p (can_name heard v s) (says_same heard v s))

message_taken : (heard : List (Event Global)) (v : Values Global) (s : IsSaid heard v) (c : Current) → c.records ≡ latest_records heard
    → data_length (Data v ∷ latest_records heard) < 2 ^ 32 → why_no_lone_definition (latest_definition heard v.local) ≡ None
    → why_no_lone_message (latest_definition heard v.local) (event_block heard (item (Data v))) ≡ None → (why : Refusal)
    → IsMessageRefusal (Some c) (latest_definition heard v.local) (event_block heard (item (Data v))) why → why ≡ NoMemory
message_taken heard v s c same short none stands NoMemory is = refl
message_taken heard v s c same short none stands (Block reason) is = absurd (none-some reason (sym none ∙ is))
message_taken heard v s c same short none stands (Message reason) is = absurd (none-some reason (sym stands ∙ is.1))
message_taken heard v s c same short none stands NoFile is = absurd is.2
message_taken heard v s c same short none stands TooManyFiles is = absurd is.2
message_taken heard v s c same short none stands Full is =
    let (t, needs, full) = subst (λ rs. IsPlaceRefusal rs (form_in (latest_definition heard v.local)) (event_block heard (item (Data v))) Full) same is.2 in
    absurd (needs_none heard v s t needs)
message_taken heard v s c same short none stands Time is =
    let (needs, few) = subst (λ rs. IsPlaceRefusal rs (form_in (latest_definition heard v.local)) (event_block heard (item (Data v))) Time) same is.2 in
    absurd (needs_none heard v s 0xFFFFFFFF needs)
message_taken heard v s c same short none stands Described is =
    let form = form_in (latest_definition heard v.local) in
    let (needed, needs, describes, cannot) = subst (λ rs. IsPlaceRefusal rs form (event_block heard (item (Data v))) Described) same is.2 in
    never_describes heard v s needed needs describes
message_taken heard v s c same short none stands TooLong is =
    go (subst (λ rs. IsPlaceRefusal rs (form_in (latest_definition heard v.local)) (event_block heard (item (Data v))) TooLong) same is.2)
  where
    go : IsPlaceRefusal (latest_records heard) (form_in (latest_definition heard v.local)) (event_block heard (item (Data v))) TooLong → TooLong ≡ NoMemory
    go (after, inl put, long) =
        let now : data_length after ≡ data_length (Data v ∷ latest_records heard) = ap data_length (exact_put heard v s after put) in
        absurd (omega (arith, long, now, short))
    go (after, inr (needed, needs, part), long) = never_describes heard v s needed needs part.0

-- a record of a file that was put so far
record_taken : (heard : List (Event Global)) (r : Record Global) → AfterRecords heard r → (w : Writing) → Copies heard w → (why : Refusal)
    → IsCopyRefusal w heard (item r) why → why ≡ NoMemory
record_taken heard (Define d) s w copies why is =
    let copied = records_copied s.h s.n s.fits s.records s.front s.small.2 w (subst (λ es. Copies es w) s.are copies) in
    let small : AreSmall (Define d ∷ latest_records heard) =
    subst (λ rs. AreSmall (Define d ∷ rs)) (sym (ap latest_records s.are ∙ latest_are s.h s.n s.records s.front)) s.small in
    let back : definition_in (event_block heard (item (Define d))) ≡ d =
    subst (λ es. definition_in (event_block es (item (Define d))) ≡ d) (sym s.are) (defined_there s.h s.n s.records s.front d s.small) in
    let short : data_length (Define (definition_in (event_block heard (item (Define d)))) ∷ s.records) < 2 ^ 32 =
    subst (λ (e : MessageDef Global). data_length (Define e ∷ s.records) < 2 ^ 32) (sym back) s.short in
    definition_taken (current_by s.h s.records) (event_block heard (item (Define d)))
    (lone_definition _ d.local _ (event_block heard (item (Define d))) (latest_by heard d small)) short why
    (subst (λ o. IsDefinitionRefusal o (event_block heard (item (Define d))) why) copied.current is)
record_taken heard (Data v) s w copies why is =
    let copied = records_copied s.h s.n s.fits s.records s.front s.small.2 w (subst (λ es. Copies es w) s.are copies) in
    let same : latest_records heard ≡ s.records = ap latest_records s.are ∙ latest_are s.h s.n s.records s.front in
    let small : AreSmall (Data v ∷ latest_records heard) = subst (λ rs. AreSmall (Data v ∷ rs)) (sym same) s.small in
    let said = message_heard heard v small in
    let short : data_length (Data v ∷ latest_records heard) < 2 ^ 32 = subst (λ rs. data_length (Data v ∷ rs) < 2 ^ 32) (sym same) s.short in
    message_taken heard v said (current_by s.h s.records) (sym same) short (lone_definition _ v.local said.p (latest_definition heard v.local) said.by)
    (lone_message heard v small said) why
    (subst (λ o. IsMessageRefusal o (latest_definition heard v.local) (event_block heard (item (Data v))) why) copied.current is)

event_taken : (heard : List (Event Global)) (x : Event Global) → Step heard x → (w : Writing) → Copies heard w → (why : Refusal)
    → IsCopyRefusal w heard x why → why ≡ NoMemory
event_taken heard (header h n) s w copies why is = header_taken heard h n s w copies why is
event_taken heard (item r) s w copies why is = record_taken heard r s w copies why is
event_taken heard file_end s w copies why is = absurd is

pub copies_are_taken : CopiesAreTaken
copies_are_taken files bytes are chain later heard x split w copies why is =
    let within = chain.0.within in
    let steps = files_steps (reverse files) (good_chain files bytes are chain) (omega (arith, within, length-reverse files)) in
    let step = step_at later heard x (subst Steps (sym (chain_is files) ∙ split) steps) in
    event_taken heard x step w copies why is
