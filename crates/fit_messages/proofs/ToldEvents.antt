-- What is kept of events, and the blocks of the next ones.
use Rattle.std.proofs.Common.{◌≡◌, ◌∙◌, ◌<◌, ◌≤◌, ◌+◌, ◌%◌, ◌^◌, ◌++◌, ◌∷◌, [], ℕ, List, length, reverse, refl, sym, ap, subst, arith}
use Rattle.std.proofs.lemmas.List.{reverse-append, reverse-reverse}
use Rattle.std.proofs.lemmas.List.Sums.{fold_push}
use Rattle.std.specs.Global.{Global}
use Rattle.std.specs.Option.{option_map_or}
use Rattle.std.specs.Prelude.{if◌then◌else◌, flat_map, option_map, slice_index_or, unwrap_or, Some}
use Rattle.fit_chain.specs.Events.{Event, header, item, file_end, known_after, known_next}
use Rattle.fit_chain.specs.declared.event.Event.{Event as Answer}
use Rattle.fit_decode.specs.Answers.{event_of}
use Rattle.fit_profile.specs.Described.{namings_at}
use Rattle.fit_profile.specs.Laws.{LookingBackIsLearning}
use Rattle.fit_profile.specs.Looks.{known}
use Rattle.fit_profile.specs.Names.{message_name}
use Rattle.fit_profile.specs.Told.{told}
use Rattle.fit_record.specs.Environment.{defined_at, defined_by, empty_environment}
use Rattle.fit_record.specs.Records.{Fits, IsRecord, architecture}
use Rattle.fit_record.specs.declared.environment.Defined.{Defined}
use Rattle.fit_record.specs.declared.message.Record.{Record}
use Rattle.fit_record.specs.declared.message.Record.TheVariants.{Define, Values as Data}
use Rattle.fit_record.specs.declared.message.Values.{Values}
use Rattle.fit_report.specs.Heard.{AreHeard, hear, latest_records, line_of}
use Rattle.fit_report.specs.Laws.{HeardAreFew, HeardRecordsFit}
use Rattle.fit_messages.proofs.ByteFacts.{low_again}
use Rattle.fit_messages.specs.Blocks.{amounts, bytes_heard, columns, counts, counts_bytes, definitions_heard, entries, event_block, event_length}
use Rattle.fit_messages.specs.Blocks.{begun_files, front, items_begin}
use Rattle.fit_messages.specs.Blocks.{low, message_length, numbers_heard, rounded, sized, slot, sum_kind, text, told_bits}
use Rattle.fit_messages.specs.Kept.{KeptHeard, kept_heard}
use Rattle.fit_messages.specs.inner.Telling.{block_next, kept_next}

-- what is known after events is what their latest records define and describe
pub known_latest : {A : Type 0} (heard : List (Event A)) → known_after (reverse heard) ≡ known (latest_records heard)
known_latest [] = refl
known_latest {A} (x ∷ heard) =
    ap known_after (reverse-append (x ∷ []) heard) ∙ fold_push known_next empty_environment (reverse heard) x
    ∙ ap (λ e. known_next e x) (known_latest heard) ∙ next x
  where
    next : (x : Event A) → known_next (known (latest_records heard)) x ≡ known (latest_records (x ∷ heard))
    next (header h n) = refl
    next (item r) = refl
    next file_end = refl

-- the message of some bytes after what is heard is their message after its latest records
pub told_message : {A : Type 0} (heard : List (Event A)) (records : List (Record A)) (v : Values A) (bytes same : List ℕ) → records ≡ latest_records heard
    → same ≡ bytes → IsRecord (known_after (reverse heard)) (Data v) bytes → IsRecord (known records) (Data v) same
told_message heard records v bytes same has is =
    λ r. subst (λ b. IsRecord (known records) (Data v) b) (sym is) (subst (λ e. IsRecord e (Data v) bytes) (known_latest heard ∙ ap known (sym has)) r)

-- a record that is heard fits after the latest records
pub record_fits : {A : Type 0} → HeardRecordsFit A → LookingBackIsLearning A → (heard : List (Event A)) (r : Record A) → AreHeard (item r ∷ heard)
    → Fits (known (latest_records heard)) r
record_fits fit back heard r are =
    let before = latest_records heard in
    subst (λ e. Fits e r) (sym (back (reverse before)) ∙ ap known (reverse-reverse before)) (fit heard r are)

-- ---- counts

files_within : {A : Type 0} (heard : List (Event A)) → begun_files heard ≤ length heard
files_within [] = omega arith
files_within (header h n ∷ heard) = omega (arith, files_within heard)
files_within (item r ∷ heard) = omega (arith, files_within heard)
files_within (file_end ∷ heard) = omega (arith, files_within heard)

definitions_within : {A : Type 0} (heard : List (Event A)) → definitions_heard heard ≤ length heard
definitions_within [] = omega arith
definitions_within (header h n ∷ heard) = omega (arith, definitions_within heard)
definitions_within (item (Define d) ∷ heard) = omega (arith, definitions_within heard)
definitions_within (item (Data v) ∷ heard) = omega (arith, definitions_within heard)
definitions_within (file_end ∷ heard) = omega (arith, definitions_within heard)

pub few_files : {A : Type 0} → HeardAreFew A → (heard : List (Event A)) (x : Event A) → AreHeard (x ∷ heard) → begun_files heard < 2 ^ 60
few_files few heard x are = omega (arith, few (x ∷ heard) are, files_within heard)

pub few_definitions : {A : Type 0} → HeardAreFew A → (heard : List (Event A)) (x : Event A) → AreHeard (x ∷ heard) → definitions_heard heard < 2 ^ 60
few_definitions few heard x are = omega (arith, few (x ∷ heard) are, definitions_within heard)

-- ---- blocks

-- eight bytes of a place are those of what is kept of it
front_again : (kind a b c file n place : ℕ) → front kind a b c file n (place % 2 ^ 64) ≡ front kind a b c file n place
front_again kind a b c file n place = ap (λ p. kind ∷ a ∷ b ∷ c ∷ low 4 file ++ low 4 n ++ p) (low_again place)

-- the block by what is kept is that of the event
pub block_is : (heard : List (Event Global)) (x : Event Global) → block_next (kept_heard heard) x ≡ event_block heard x
block_is heard (header h n) =
    ap (λ f. sized (f ++ low 8 h.profile ++ rounded h.rest.items))
    (front_again 1 h.size h.protocol (sum_kind h.sum) (begun_files heard + 1) n (bytes_heard heard))
block_is heard (item (Define d)) =
    let before = latest_records heard in
    let p = defined_by (known before) d in
    let namings = namings_at (Define d ∷ before) d.local in
    let name = text (unwrap_or (message_name d.global) []) in
    ap (λ f. sized (f ++ counts_bytes (definitions_heard heard) d ++ name ++ entries (items_begin d) (columns p namings)))
    (front_again 2 d.local (architecture d.order) d.reserved (begun_files heard) (message_length d) (bytes_heard heard))
block_is heard (item (Data v)) =
    let before = latest_records heard in
    let t = told before v in
    let number = slice_index_or (numbers_heard heard) v.local 0 in
    let again = front_again 3 (told_bits t) v.local (unwrap_or v.offset 0xFF) (begun_files heard) (unwrap_or t.time 0xFFFFFFFF) (bytes_heard heard) in
    λ i. unwrap_or (option_map (λ (p : Defined Global). sized (
    again i ++ low 8 number ++ low 8 (unwrap_or t.header_time 0xFFFFFFFF) ++ (if counts p.definition then amounts t else [])
    ++ flat_map slot v.fields ++ flat_map slot v.dev)) (defined_at (known before) v.local)) []
block_is heard file_end = ap sized (front_again 4 0 0 0 (begun_files heard) 0 (bytes_heard heard))

-- ---- what is kept

later_is : (n m : ℕ) → (n % 2 ^ 64 + m) % 2 ^ 64 ≡ (n + m) % 2 ^ 64
later_is n m = omega arith

pub kept_is : (heard : List (Event Global)) (x : Event Global) → kept_next (kept_heard heard) x ≡ kept_heard (x ∷ heard)
kept_is heard (header h n) = λ i. record (kept_heard (header h n ∷ heard)) { place = later_is (bytes_heard heard) h.size i }
kept_is heard (item (Define d)) =
    λ i. record (kept_heard (item (Define d) ∷ heard)) { place = later_is (bytes_heard heard) (event_length heard (item (Define d))) i }
kept_is heard (item (Data v)) =
    λ i. record (kept_heard (item (Data v) ∷ heard)) { place = later_is (bytes_heard heard) (event_length heard (item (Data v))) i }
kept_is heard file_end = λ i. record (kept_heard (file_end ∷ heard)) { place = later_is (bytes_heard heard) 2 i }

-- ---- what a decoder answers

pub told_text : (k : KeptHeard) (answer : Answer Global) (x : Event Global) (old new : List ℕ) → event_of answer ≡ Some x → new ≡ old ++ block_next k x
    → (heard : List (Event Global)) → k ≡ kept_heard heard → new ≡ old ++ line_of event_block heard answer
told_text k answer x old new is put heard has =
    put ∙ ap (λ k. old ++ block_next k x) has
    ∙ ap (λ b. old ++ b) (block_is heard x ∙ sym (ap (λ o. option_map_or (event_block heard) o []) is))

pub told_kept : (k next : KeptHeard) (answer : Answer Global) (x : Event Global) → event_of answer ≡ Some x → next ≡ kept_next k x
    → (heard : List (Event Global)) → k ≡ kept_heard heard → next ≡ kept_heard (hear answer heard)
told_kept k next answer x is taken heard has =
    taken ∙ ap (λ k. kept_next k x) has ∙ kept_is heard x ∙ sym (ap (λ o. kept_heard (option_map_or (λ x. x ∷ heard) o heard)) is)
