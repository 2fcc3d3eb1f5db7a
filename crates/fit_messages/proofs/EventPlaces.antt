-- Where the events of some bytes stand among them.
use Rattle.std.proofs.Common.{◌≡◌, ℕ, ◌+◌, ◌≤◌, List, [], ◌∷◌, ◌++◌, length, take, drop, map, reverse, refl, sym, ap, ◌∙◌, subst, arith, append_assoc}
use Rattle.std.proofs.Common.{length-append, length-take}
use Rattle.std.proofs.Math.Seq.{take-append_seam}
use Rattle.std.proofs.lemmas.List.{append-nil, reverse-reverse, reverse-append}
use Rattle.std.specs.List.{AllByRecursion}
use Rattle.std.specs.Prelude.{flat_map, Option, Some, None, IsSomeAnd, option_map, unwrap_or}
use Rattle.fit_base.proofs.Bytes.{length-little_bytes}
use Rattle.fit_base.specs.Numbers.{little_bytes}
use Rattle.fit_frame.proofs.OneHeader.{length-header_bytes}
use Rattle.fit_frame.specs.Header.{header_bytes}
use Rattle.fit_record.specs.declared.environment.Defined.{Defined}
use Rattle.fit_record.specs.declared.file.FitFile.{FitFile}
use Rattle.fit_record.specs.declared.message.Record.{Record}
use Rattle.fit_record.specs.declared.message.Record.TheVariants.{Define, Values as Data}
use Rattle.fit_record.specs.declared.message.Values.{Values}
use Rattle.fit_record.specs.Environment.{empty_environment, learn, defined_at}
use Rattle.fit_record.specs.Files.{body, summed, file_bytes, chain_bytes, IsWellFormed}
use Rattle.fit_record.specs.Records.{AllFit, DataFits, Fits, records_bytes, record_bytes}
use Rattle.fit_chain.proofs.Common.{checksum}
use Rattle.fit_chain.proofs.FirstEvents.{First, HasNoPart, first_of}
use Rattle.fit_chain.specs.Events.{Event, AreEvents, header, item, file_end, file_events, progress_events}
use Rattle.fit_chain.specs.Progress.{Progress, at_header, at_data, progress_bytes, IsUnfinished}
use Rattle.fit_profile.specs.Looks.{known}
use Rattle.fit_profile.specs.Told.{told}
use Rattle.fit_report.specs.Heard.{latest_records}
use Rattle.fit_messages.specs.Blocks.{bytes_heard, event_block, message_block, low}
unfoldable use Rattle.fit_messages.specs.Blocks.{low}
use Rattle.fit_messages.specs.Laws.{BlocksHaveTheirPlaces, EndAt}

-- ---- how many bytes there are

-- events that are heard one after another
heard-append : {X : Type 0} (xs ys heard : List X) → reverse (xs ++ ys) ++ heard ≡ reverse ys ++ (reverse xs ++ heard)
heard-append xs ys heard = ap (λ es. es ++ heard) (reverse-append xs ys) ∙ append_assoc (reverse ys) (reverse xs) heard

items_length : {A : Type 0} (rs : List (Record A)) (heard : List (Event A))
    → bytes_heard (reverse (map item rs) ++ heard) ≡ bytes_heard heard + length (records_bytes (known (latest_records heard)) rs)
items_length [] heard = omega arith
items_length (r ∷ rs) heard =
    let e = known (latest_records heard) in
    let rest = items_length rs (item r ∷ heard) in
    let all = ap bytes_heard (heard-append (item r ∷ []) (map item rs) heard) in
    omega (arith, all, rest, length-append (record_bytes e r) (records_bytes (learn e r) rs))

file_length : {A : Type 0} (f : FitFile A) (heard : List (Event A)) → IsWellFormed f
    → bytes_heard (reverse (file_events f) ++ heard) ≡ bytes_heard heard + length (file_bytes f)
file_length {A} f heard well =
    let h : Event A = header f.header (length (body f)) in
    let sum : List ℕ = little_bytes 2 (checksum (summed f)) in
    let end = ap bytes_heard (heard-append (h ∷ map item f.records) (file_end ∷ []) heard) in
    let records = ap bytes_heard (heard-append (h ∷ []) (map item f.records) heard) in
    omega (
      arith,
      end,
      records,
      items_length f.records (h ∷ heard),
      length-header_bytes f.header (length (body f)) well.header.form,
      length-append (header_bytes f.header (length (body f))) (body f),
      length-append (summed f) sum,
      length-little_bytes 2 (checksum (summed f)),
    )

files_length : {A : Type 0} (fs : List (FitFile A)) (heard : List (Event A)) → AllByRecursion IsWellFormed fs
    → bytes_heard (reverse (flat_map file_events fs) ++ heard) ≡ bytes_heard heard + length (chain_bytes fs)
files_length [] heard each = omega arith
files_length (f ∷ fs) heard each =
    let all = ap bytes_heard (heard-append (file_events f) (flat_map file_events fs) heard) in
    omega (
      arith,
      all,
      files_length fs (reverse (file_events f) ++ heard) each.1,
      file_length f heard each.0,
      length-append (file_bytes f) (chain_bytes fs),
    )

progress_length : {A : Type 0} (g : Progress A) (heard : List (Event A)) → IsUnfinished g → HasNoPart g
    → bytes_heard (reverse (progress_events g) ++ heard) ≡ bytes_heard heard + length (progress_bytes g)
progress_length (at_header front) heard u none = omega (arith, ap length none)
progress_length {A} (at_data h n records part) heard u none =
    let first : Event A = header h n in
    let own = records_bytes empty_environment records in
    let all = ap bytes_heard (heard-append (first ∷ []) (map item records) heard) in
    omega (
      arith,
      all,
      items_length records (first ∷ heard),
      length-header_bytes h n u.0.form,
      length-append (header_bytes h n ++ own) part,
      length-append (header_bytes h n) own,
      ap length none,
    )

first_length : {A : Type 0} (heard : List (Event A)) (bytes : List ℕ) (s : First bytes (reverse heard))
    → bytes_heard heard ≡ length (chain_bytes s.files ++ progress_bytes s.progress)
first_length heard bytes s =
    let files = flat_map file_events s.files in
    let rest = progress_events s.progress in
    let is : heard ≡ reverse rest ++ (reverse files ++ []) =
    sym (reverse-reverse heard) ∙ ap reverse s.told ∙ sym (append-nil (reverse (files ++ rest))) ∙ heard-append files rest [] in
    omega (
      arith,
      ap bytes_heard is,
      progress_length s.progress (reverse files ++ []) s.next s.none,
      files_length s.files [] s.each,
      length-append (chain_bytes s.files) (progress_bytes s.progress),
    )

have_place : {A : Type 0} (heard later : List (Event A)) (bytes : List ℕ) → AreEvents bytes (reverse heard ++ later)
    → (bytes_heard heard ≤ length bytes) × AreEvents (take (bytes_heard heard) bytes) (reverse heard)
have_place heard later bytes (fs, g, come, is) =
    let s = first_of fs g (reverse heard) later come.files come.next is in
    let front : List ℕ = chain_bytes s.files ++ progress_bytes s.progress in
    let count = first_length heard (chain_bytes fs ++ progress_bytes g) s in
    let parted : bytes ≡ front ++ s.more = come.spelled ∙ s.parted in
    let same : take (bytes_heard heard) bytes ≡ front = (λ i. take (count i) (parted i)) ∙ take-append_seam front s.more in (
      omega (arith, count, ap length parted, length-append front s.more),
      subst (λ b. AreEvents b (reverse heard)) (sym same)
          (s.files, s.progress, record { files = s.each; next = s.next; spelled = refl }, s.told),
    )

-- ---- records fit

-- each record fits what the records of its file before it have defined
abbrev pub HeardFit : {A : Type 0} → List (Event A) → Type 0
HeardFit [] = Unit {0}
HeardFit (header h n ∷ heard) = HeardFit heard
HeardFit (item r ∷ heard) = Fits (known (latest_records heard)) r × HeardFit heard
HeardFit (file_end ∷ heard) = HeardFit heard

items_fit : {A : Type 0} (rs : List (Record A)) (heard : List (Event A)) → AllFit (known (latest_records heard)) rs → HeardFit heard
    → HeardFit (reverse (map item rs) ++ heard)
items_fit [] heard fit before = before
items_fit (r ∷ rs) heard fit before =
    subst HeardFit (sym (heard-append (item r ∷ []) (map item rs) heard)) (items_fit rs (item r ∷ heard) fit.1 (fit.0, before))

begun_fits : {A : Type 0} (h : Event A) (rs : List (Record A)) (heard : List (Event A)) → HeardFit (reverse (map item rs) ++ h ∷ heard)
    → HeardFit (reverse (h ∷ map item rs) ++ heard)
begun_fits h rs heard fit = subst HeardFit (sym (heard-append (h ∷ []) (map item rs) heard)) fit

files_fit : {A : Type 0} (fs : List (FitFile A)) (heard : List (Event A)) → AllByRecursion IsWellFormed fs → HeardFit heard
    → HeardFit (reverse (flat_map file_events fs) ++ heard)
files_fit [] heard each before = before
files_fit {A} (f ∷ fs) heard each before =
    let h : Event A = header f.header (length (body f)) in
    let own : HeardFit (reverse (h ∷ map item f.records) ++ heard) =
    begun_fits h f.records heard (items_fit f.records (h ∷ heard) each.0.records before) in
    let whole : HeardFit (reverse (file_events f) ++ heard) = subst HeardFit (sym (heard-append (h ∷ map item f.records) (file_end ∷ []) heard)) own in
    subst HeardFit (sym (heard-append (file_events f) (flat_map file_events fs) heard)) (files_fit fs (reverse (file_events f) ++ heard) each.1 whole)

progress_fits : {A : Type 0} (g : Progress A) (heard : List (Event A)) → IsUnfinished g → HeardFit heard → HeardFit (reverse (progress_events g) ++ heard)
progress_fits (at_header front) heard u before = before
progress_fits (at_data h n records part) heard u before =
    begun_fits (header h n) records heard (items_fit records (header h n ∷ heard) u.1 before)

pub heard_fit : {A : Type 0} (heard : List (Event A)) (bytes : List ℕ) → AreEvents bytes (reverse heard) → HeardFit heard
heard_fit heard bytes (fs, g, come, is) =
    let files = flat_map file_events fs in
    let all : heard ≡ reverse (progress_events g) ++ (reverse files ++ []) =
    sym (reverse-reverse heard) ∙ ap reverse is ∙ sym (append-nil (reverse (files ++ progress_events g))) ∙ heard-append files (progress_events g) [] in
    subst HeardFit (sym all) (progress_fits g (reverse files ++ []) come.next (files_fit fs [] come.files tt))

-- ---- what blocks say

message_place : {A : Type 0} (found : Option (Defined A)) (before : List (Record A)) (file place number : ℕ) (v : Values A)
    → IsSomeAnd found (DataFits v)
    → take 8 (drop 16 (unwrap_or (option_map (λ p. message_block file place number v p.definition (told before v)) found) [])) ≡ low 8 place
unfolding low
message_place (Some p) before file place number v fit = refl
message_place None before file place number v fit = absurd fit

block_place : {A : Type 0} (heard : List (Event A)) (x : Event A) → HeardFit (x ∷ heard)
    → take 8 (drop 16 (event_block heard x)) ≡ low 8 (bytes_heard heard)
unfolding low
block_place heard (header h n) fit = refl
block_place heard (item (Define d)) fit = refl
block_place heard (item (Data v)) fit =
    message_place (defined_at (known (latest_records heard)) v.local) (latest_records heard) _ (bytes_heard heard) _ v fit.0
block_place heard file_end fit = refl

-- ---- the law

ends_at : {A : Type 0} (heard later : List (Event A)) (bytes : List ℕ) → AreEvents bytes (reverse heard ++ later)
    → EndAt (reverse heard) bytes (bytes_heard heard)
ends_at heard later bytes are =
    let place = have_place heard later bytes are in (
      place.0,
      place.1,
      λ k some. omega (
        arith,
        (have_place heard [] (take k bytes) (subst (AreEvents (take k bytes)) (sym (append-nil (reverse heard))) some)).0,
        length-take k bytes,
      ),
    )

pub blocks_have_their_places : {A : Type 0} → BlocksHaveTheirPlaces A
blocks_have_their_places {A} heard later x bytes are =
    let more : reverse heard ++ x ∷ later ≡ reverse (x ∷ heard) ++ later =
    sym (append_assoc (reverse heard) (x ∷ []) later) ∙ ap (λ es. es ++ later) (sym (reverse-append (x ∷ []) heard)) in
    let next : EndAt (reverse (x ∷ heard)) bytes (bytes_heard (x ∷ heard)) = ends_at (x ∷ heard) later bytes (subst (AreEvents bytes) more are) in
    let fit = heard_fit (x ∷ heard) (take (bytes_heard (x ∷ heard)) bytes) next.1 in
    (ends_at heard (x ∷ later) bytes are, next, block_place heard x fit)
