-- The blocks of a chain that are put one after another make that chain.
use Rattle.std.proofs.Common.{◌≡◌, ◌∙◌, ◌+◌, inl, inr, ℕ, List, [], ◌∷◌, ◌++◌, refl, sym, ap, ap₂, subst, length}
use Rattle.std.proofs.lemmas.List.{reverse-append, reverse-reverse}
use Rattle.std.proofs.lemmas.Option.{none-some, same_Some}
use Rattle.std.specs.Global.{Global}
use Rattle.std.specs.Io.KnownBytes.{Appends}
use Rattle.std.specs.List.{AllByRecursion}
use Rattle.std.specs.Prelude.{Option, Some, None, IsSomeAnd, reverse}
use Rattle.fit_chain.specs.Events.{Event, header, item}
use Rattle.fit_frame.specs.Header.{HeaderFits, ZeroIsSum}
use Rattle.fit_frame.specs.declared.header.Header.{Header}
use Rattle.fit_messages.specs.Blocks.{begun_files, bytes_heard, definitions_heard, event_block}
use Rattle.fit_profile.specs.Described.{namings_at}
use Rattle.fit_profile.specs.Looks.{known}
use Rattle.fit_record.specs.Environment.{empty_environment}
use Rattle.fit_record.specs.Files.{IsWellFormed, body, chain_bytes}
use Rattle.fit_record.specs.Records.{records_bytes}
use Rattle.fit_record.specs.declared.definition.MessageDef.{MessageDef}
use Rattle.fit_record.specs.declared.file.FitFile.{FitFile}
use Rattle.fit_record.specs.declared.message.Record.{Record}
use Rattle.fit_record.specs.declared.message.Record.TheVariants.{Define, Values as Data}
use Rattle.fit_record.specs.declared.message.Values.{Values}
use Rattle.fit_report.specs.Heard.{latest_records}
use Rattle.fit_from_messages.proofs.DefinitionBack.{definition_back}
use Rattle.fit_from_messages.proofs.EventsBack.{written}
use Rattle.fit_from_messages.proofs.HeaderBack.{header_back}
use Rattle.fit_from_messages.proofs.SmallSizes.{AreSmall}
use Rattle.fit_from_messages.specs.Parts.{definition_in, header_in}
use Rattle.fit_writer.proofs.CopiedPuts.{can_put, exact_put}
use Rattle.fit_writer.proofs.HeardChains.{IsGood, chain_is, file_heard, files_heard, good_chain, latest_are}
use Rattle.fit_writer.proofs.SaidTold.{IsSaid, message_heard}
use Rattle.fit_writer.specs.Laws.{ChainsCanBeCopied, Copies, CopiesAreExact, latest_definition}
use Rattle.fit_writer.specs.Reading.{form_in}
use Rattle.fit_writer.specs.Written.{Current, IsEnded, IsLastHeader, IsPut, Writing, data_length, nothing_written}
use Rattle.fit_writer.specs.Written.{with_records}

-- ---- what blocks say

abbrev pub current_by : Header → List (Record Global) → Current
current_by h records = record { header = h; records = records }

header_said : (heard : List (Event Global)) (h : Header) (n : ℕ) → HeaderFits h n → header_in (event_block heard (header h n)) ≡ h
header_said heard h n fits = header_back (begun_files heard + 1) (bytes_heard heard) n n h fits

definition_said : (heard : List (Event Global)) (d : MessageDef Global) → AreSmall (Define d ∷ latest_records heard)
    → definition_in (event_block heard (item (Define d))) ≡ d
definition_said heard d are =
    definition_back (begun_files heard) (bytes_heard heard) (definitions_heard heard) (known (latest_records heard)) d
    (namings_at (Define d ∷ latest_records heard) d.local) (written (latest_records heard) d are)

-- after its header and some records of a file
module _ (h : Header) (n : ℕ) (records : List (Record Global)) (heard : List (Event Global)) where
  small_there : (r : Record Global) → AreSmall (r ∷ records) → AreSmall (r ∷ latest_records (file_heard h n records heard))
  small_there r are = subst (λ rs. AreSmall (r ∷ rs)) (sym (latest_are h n records heard)) are

  pub said_there : (v : Values Global) → AreSmall (Data v ∷ records) → IsSaid (file_heard h n records heard) v
  said_there v are = message_heard (file_heard h n records heard) v (small_there (Data v) are)

  pub defined_there : (d : MessageDef Global) → AreSmall (Define d ∷ records) → definition_in (event_block (file_heard h n records heard) (item (Define d))) ≡ d
  defined_there d are = definition_said (file_heard h n records heard) d (small_there (Define d) are)

-- ---- a file

-- The records of a file were put after these events.
pub record IsCopied (h : Header) (records : List (Record Global)) (heard : List (Event Global)) (w : Writing) : Type 0 where
  pub start : Writing
  pub copies : Copies heard start
  pub ended : IsEnded start w.files
  pub current : w.current ≡ Some (current_by h records)

grown : (h : Header) (records more now : List (Record Global)) (heard : List (Event Global)) (before w : Writing) (f : Current)
    → IsCopied h records heard before → before.current ≡ Some f → w ≡ with_records before f now → now ≡ more → IsCopied h more heard w
grown h records more now heard before w f copied there is same =
    let own : f ≡ current_by h records = same_Some f (current_by h records) (sym there ∙ copied.current) in record {
      start = copied.start;
      copies = copied.copies;
      ended = subst (IsEnded copied.start) (sym (ap (λ (x : Writing). x.files) is)) copied.ended;
      current = ap (λ (x : Writing). x.current) is ∙ ap₂ (λ (g : Current) rs. Some (record g { records = rs })) own same;
    }

-- the definition message that the block of its event says was put
abbrev PutsOne : List (Event Global) → Option Current → Writing → Writing → MessageDef Global → Type 0
PutsOne front o before w d =
    IsSomeAnd o (λ f. w ≡ with_records before f (Define (definition_in (event_block front (item (Define d)))) ∷ f.records))

pub records_copied : (h : Header) (n : ℕ) → HeaderFits h n → (records : List (Record Global)) (heard : List (Event Global)) → AreSmall records
    → (w : Writing) → Copies (file_heard h n records heard) w → IsCopied h records heard w
records_copied h n header_fits [] heard are w (start, copies, begins) = record {
  start = start;
  copies = copies;
  ended = begins.0;
  current = begins.1 ∙ ap (λ k. Some (current_by k [])) (header_said heard h n header_fits);
}
records_copied h n header_fits (Define d ∷ records) heard are w (before, copies, puts) =
    go (records_copied h n header_fits records heard are.2 before copies) before.current refl puts
  where
    go : IsCopied h records heard before → (o : Option Current) → before.current ≡ o → PutsOne (file_heard h n records heard) o before w d
        → IsCopied h (Define d ∷ records) heard w
    go copied None there is = absurd is
    go copied (Some f) there is =
        let d' = definition_in (event_block (file_heard h n records heard) (item (Define d))) in
        let own : f ≡ current_by h records = same_Some f (current_by h records) (sym there ∙ copied.current) in
        grown h records (Define d ∷ records) (Define d' ∷ f.records) heard before w f copied there is
        (ap₂ (λ (x : MessageDef Global) (c : Current). let r : Record Global = Define x in r ∷ c.records) (defined_there h n records heard d are) own)
records_copied h n header_fits (Data v ∷ records) heard are w (before, copies, puts) =
    go (records_copied h n header_fits records heard are.2 before copies) before.current refl puts
  where
    go : IsCopied h records heard before → (o : Option Current) → before.current ≡ o → IsSomeAnd o (λ f. (after : List (Record Global))
        × IsPut f.records after (form_in (latest_definition (file_heard h n records heard) v.local))
        (event_block (file_heard h n records heard) (item (Data v))) × (w ≡ with_records before f after))
        → IsCopied h (Data v ∷ records) heard w
    go copied None there is = absurd is
    go copied (Some f) there (after, put, is) =
        let front = file_heard h n records heard in
        let own : f ≡ current_by h records = same_Some f (current_by h records) (sym there ∙ copied.current) in
        let here : f.records ≡ latest_records front = ap (λ (c : Current). c.records) own ∙ sym (latest_are h n records heard) in
        let put_there : IsPut (latest_records front) after (form_in (latest_definition front v.local)) (event_block front (item (Data v))) =
        subst (λ rs. IsPut rs after (form_in (latest_definition front v.local)) (event_block front (item (Data v)))) here put in
        grown h records (Data v ∷ records) after heard before w f copied there is
        (exact_put front v (said_there h n records heard v are) after put_there
        ∙ ap (λ rs. let r : Record Global = Data v in r ∷ rs) (latest_are h n records heard))

-- ---- files

last_all : (P : FitFile Global → Type 0) (files : List (FitFile Global)) (f : FitFile Global) → AllByRecursion P (files ++ f ∷ [])
    → AllByRecursion P files × P f
last_all P [] f all = (tt, all.0)
last_all P (g ∷ files) f all = let rest = last_all P files f all.1 in ((all.0, rest.0), rest.1)

-- its length is that of its data
pub data_is : (f : FitFile Global) → data_length (reverse f.records) ≡ length (body f)
data_is f = ap (λ rs. length (records_bytes empty_environment rs)) (reverse-reverse f.records)

own_header : (f : FitFile Global) (last : Header) → IsWellFormed f → IsLastHeader (data_length (reverse f.records)) f.header last → last ≡ f.header
own_header f last well (inl (never, same)) = same
own_header f last well (inr (zero, same)) = absurd (well.header.sum (subst (ZeroIsSum f.header) (data_is f) zero))

pub files_copied : (files : List (FitFile Global)) → AllByRecursion IsGood files → (w : Writing) → Copies (files_heard files) w
    → (done : List (FitFile Global)) → IsEnded w done → AllByRecursion IsWellFormed done → done ≡ reverse files
files_copied [] all w none done ended well = ended.0 (ap (λ (x : Writing). x.current) none) ∙ ap (λ (x : Writing). x.files) none
files_copied (f ∷ files) all w copies done ended well =
    let Well : List (FitFile Global) → Type 0 = AllByRecursion IsWellFormed in
    let copied = records_copied f.header (length (body f)) all.0.well.header (reverse f.records) (files_heard files) all.0.small w copies in
    let (last, lasts, same) = ended.1 (current_by f.header (reverse f.records)) copied.current in
    let now : done ≡ w.files ++ f ∷ [] =
    same ∙ ap₂ (λ k rs. w.files ++ record { header = k; records = rs } ∷ []) (own_header f last all.0.well lasts) (reverse-reverse f.records) in
    let front = (last_all IsWellFormed w.files f (subst Well now well)).0 in
    now ∙ ap (λ fs. fs ++ f ∷ []) (files_copied files all.1 copied.start copied.copies w.files copied.ended front)
    ∙ sym (reverse-append (f ∷ []) files)

pub copies_are_exact : CopiesAreExact
copies_are_exact files bytes are chain w new sink copies finished =
    let now : Copies (files_heard (reverse files)) w = subst (λ heard. Copies heard w) (chain_is files) copies in
    let same : new.files ≡ files =
    files_copied (reverse files) (good_chain files bytes are chain) w now new.files finished.0.0 finished.1.0.each ∙ reverse-reverse files in
    (same, subst (Appends sink.before sink.after) (ap chain_bytes same ∙ sym chain.1) finished.2)

-- ---- that it can be

-- A copy of files, the latest first, and these end it.
record HasCopy (files : List (FitFile Global)) : Type 0 where
  pub w : Writing
  pub copies : Copies (files_heard files) w
  pub ended : IsEnded w (reverse files)

abbrev written_by : List (FitFile Global) → Header → List (Record Global) → Writing
written_by done h records = record { files = done; current = Some (current_by h records) }

copy_records : (h : Header) (n : ℕ) → HeaderFits h n → (records : List (Record Global)) (heard : List (Event Global)) → AreSmall records
    → (start : Writing) → Copies heard start → (done : List (FitFile Global)) → IsEnded start done
    → Copies (file_heard h n records heard) (written_by done h records)
copy_records h n fits [] heard are start copies done ended =
    (start, copies, (ended, ap (λ k. Some (current_by k [])) (sym (header_said heard h n fits))))
copy_records h n fits (Define d ∷ records) heard are start copies done ended = (
  written_by done h records,
  copy_records h n fits records heard are.2 start copies done ended,
  ap (λ (x : MessageDef Global). let r : Record Global = Define x in written_by done h (r ∷ records)) (sym (defined_there h n records heard d are)),
)
copy_records h n fits (Data v ∷ records) heard are start copies done ended =
    let front = file_heard h n records heard in
    let put = subst (λ rs. IsPut rs (Data v ∷ rs) (form_in (latest_definition front v.local)) (event_block front (item (Data v))))
    (latest_are h n records heard) (can_put front v (said_there h n records heard v are)) in
    (written_by done h records, copy_records h n fits records heard are.2 start copies done ended, (Data v ∷ records, put, refl))

has_copy : (files : List (FitFile Global)) → AllByRecursion IsGood files → HasCopy files
has_copy [] all = record { w = nothing_written; copies = refl; ended = (λ none. refl, λ f is. absurd (none-some f is)) }
has_copy (f ∷ files) all =
    let copy = has_copy files all.1 in
    let w = written_by (reverse files) f.header (reverse f.records) in record {
      w = w;
      copies =
          copy_records f.header (length (body f)) all.0.well.header (reverse f.records) (files_heard files) all.0.small copy.w copy.copies (reverse files)
          copy.ended;
      ended = (
        λ none. absurd (none-some (current_by f.header (reverse f.records)) (sym none)),
        λ g is.
            let own : current_by f.header (reverse f.records) ≡ g = same_Some (current_by f.header (reverse f.records)) g is in
            subst (λ (c : Current). (last : Header) × IsLastHeader (data_length c.records) c.header last
            × (reverse (f ∷ files) ≡ reverse files ++ record { header = last; records = reverse c.records } ∷ [])) own (
              f.header,
              inl (λ zero. all.0.well.header.sum (subst (ZeroIsSum f.header) (data_is f) zero), refl),
              reverse-append (f ∷ []) files
                  ∙ ap (λ rs. reverse files ++ record { header = f.header; records = rs } ∷ []) (sym (reverse-reverse f.records)),
            ),
      );
    }

pub chains_can_be_copied : ChainsCanBeCopied
chains_can_be_copied files bytes are chain =
    let copy = has_copy (reverse files) (good_chain files bytes are chain) in (
      copy.w,
      record { files = files; current = None },
      subst (λ heard. Copies heard copy.w) (sym (chain_is files)) copy.copies,
      (subst (IsEnded copy.w) (reverse-reverse files) copy.ended, refl),
      refl,
    )
