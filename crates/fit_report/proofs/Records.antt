-- The records that are heard, what is known by them, and the count of events.
use Rattle.fit_report.proofs.Common.{◌≡◌, ℕ, ◌+◌, ◌<◌, ◌≤◌, List, [], ◌∷◌, ◌++◌, length, map, reverse, refl, sym, ap, ◌∙◌, subst, arith, append_assoc}
use Rattle.fit_report.proofs.Common.{length-append, ◌⊎◌, inl, inr, flat_map, append-nil, length-reverse, map-append, reverse-append, reverse-reverse, FitFile}
use Rattle.fit_report.proofs.Common.{Record, body, summed, file_bytes, chain_bytes, Event, header, item, file_end, file_events, progress_events, AreEvents}
use Rattle.fit_report.proofs.Common.{Progress, at_header, at_data, progress_bytes, IsUnfinished, short_bytes, latest_records}
use Rattle.std.proofs.lemmas.List.Sums.{fold_push}
use Rattle.fit_chain.specs.Events.{known_after, known_next}
use Rattle.fit_frame.specs.declared.header.Header.{Header}
use Rattle.fit_frame.specs.Header.{header_bytes}
use Rattle.fit_record.proofs.RecordLists.{learn_all-append}
use Rattle.fit_record.specs.Environment.{Environment, empty_environment, learn, learn_all}
use Rattle.fit_record.specs.Records.{AllFit, Fits, record_bytes, records_bytes}
use Rattle.fit_report.specs.Laws.{HeardAreFew, HeardRecordsFit}
use Rattle.fit_encode.proofs.Encoders.{some_byte}

-- ---- the count

few_records : {A : Type 0} (e : Environment A) (rs : List (Record A)) → length (map item rs) ≤ length (records_bytes e rs)
few_records e [] = omega arith
few_records e (r ∷ rs) = omega (arith, some_byte e r, few_records (learn e r) rs, length-append (record_bytes e r) (records_bytes (learn e r) rs))

longer : (xs ys : List ℕ) → length xs ≤ length (xs ++ ys)
longer xs ys = omega (arith, length-append xs ys)

few_in_file : {A : Type 0} (f : FitFile A) → length (file_events f) ≤ length (file_bytes f)
few_in_file f =
    let all : length (summed f) ≤ length (file_bytes f) = longer (summed f) _ in
    omega (
      arith,
      all,
      few_records empty_environment f.records,
      length-append (map item f.records) (file_end ∷ []),
      length-append (header_bytes f.header (length (body f))) (body f),
    )

few_in_files : {A : Type 0} (fs : List (FitFile A)) → length (flat_map file_events fs) ≤ length (chain_bytes fs)
few_in_files [] = omega arith
few_in_files (f ∷ fs) =
    omega (arith, few_in_file f, few_in_files fs, length-append (file_events f) (flat_map file_events fs), length-append (file_bytes f) (chain_bytes fs))

with_more : (k : ℕ) (a b c : List ℕ) → 0 < length a → k ≤ length b → k + 1 ≤ length (a ++ b ++ c)
with_more k a b c some few = omega (arith, some, few, length-append (a ++ b) c, length-append a b)

few_in_progress : {A : Type 0} (g : Progress A) → length (progress_events g) ≤ length (progress_bytes g)
few_in_progress (at_header front) = omega arith
few_in_progress (at_data h n records part) =
    omega (
      arith,
      with_more (length (map item records)) (header_bytes h n) (records_bytes empty_environment records) part (omega arith)
          (few_records empty_environment records),
    )

few_events : {A : Type 0} (bytes : List ℕ) (events : List (Event A)) → AreEvents bytes events → length events ≤ length bytes
few_events bytes events (fs, g, come, is) =
    omega (
      arith,
      ap length is,
      ap length come.spelled,
      few_in_files fs,
      few_in_progress g,
      length-append (flat_map file_events fs) (progress_events g),
      length-append (chain_bytes fs) (progress_bytes g),
    )

pub heard_are_few : {A : Type 0} → HeardAreFew A
heard_are_few heard (bytes, viable, are) = omega (arith, few_events bytes (reverse heard) are, short_bytes bytes viable, length-reverse heard)

-- ---- the records

pub reverse-map : {X Y : Type 0} (f : X → Y) (xs : List X) → reverse (map f xs) ≡ map f (reverse xs)
reverse-map f [] = refl
reverse-map f (x ∷ xs) =
    reverse-append (f x ∷ []) (map f xs) ∙ ap (λ ys. ys ++ f x ∷ []) (reverse-map f xs) ∙ sym (map-append f (reverse xs) (x ∷ []))
    ∙ ap (map f) (sym (reverse-append (x ∷ []) xs))

-- whole files end with the end of a file
whole_end : {A : Type 0} (fs : List (FitFile A))
    → (reverse (flat_map file_events fs) ≡ []) ⊎ ((rest : List (Event A)) × (reverse (flat_map file_events fs) ≡ file_end ∷ rest))
whole_end [] = inl refl
whole_end {A} (f ∷ fs) =
    let both : reverse (flat_map file_events (f ∷ fs)) ≡ reverse (flat_map file_events fs) ++ reverse (file_events f) =
    reverse-append (file_events f) (flat_map file_events fs) in
    let own : reverse (file_events f) ≡ file_end ∷ reverse (header f.header (length (body f)) ∷ map item f.records) =
    reverse-append (header f.header (length (body f)) ∷ map item f.records) (file_end ∷ []) in
    elim (whole_end fs) [
      | inl none ↦ inr (reverse (header f.header (length (body f)) ∷ map item f.records), both ∙ ap (λ es. es ++ reverse (file_events f)) none ∙ own)
      | inr some ↦ inr (some.0 ++ reverse (file_events f), both ∙ ap (λ es. es ++ reverse (file_events f)) some.1)
    ]

last_fits : {A : Type 0} (e : Environment A) (rs : List (Record A)) (r : Record A) → AllFit e (rs ++ r ∷ []) → Fits (learn_all e rs) r
last_fits e [] r all = all.0
last_fits e (s ∷ rs) r all = last_fits (learn e s) rs r all.1

pub next_records : {A : Type 0} (rs : List (Record A)) (h : Header) (n : ℕ) (before : List (Event A))
    → latest_records (map item rs ++ header h n ∷ before) ≡ rs
next_records [] h n before = refl
next_records (r ∷ rs) h n before = ap (λ ss. r ∷ ss) (next_records rs h n before)

item_is : {A : Type 0} (r s : Record A) (xs ys : List (Event A)) → item r ∷ xs ≡ item s ∷ ys → (r ≡ s) × (xs ≡ ys)
item_is r s xs ys e = (cc, cc)

fits_after : {A : Type 0} (rs : List (Record A)) (h : Header) (n : ℕ) (before heard : List (Event A)) (r : Record A) → AllFit empty_environment (reverse rs)
    → item r ∷ heard ≡ map item rs ++ header h n ∷ before
    → Fits (learn_all empty_environment (reverse (latest_records heard))) r
fits_after [] h n before heard r all is = absurd cc
fits_after {A} (s ∷ rs) h n before heard r all is =
    let same = item_is r s heard (map item rs ++ header h n ∷ before) is in
    let records : latest_records heard ≡ rs = ap latest_records same.1 ∙ next_records rs h n before in
    let last : Fits (learn_all empty_environment (reverse rs)) s =
    last_fits empty_environment (reverse rs) s (subst (AllFit empty_environment) (reverse-append (s ∷ []) rs) all) in
    subst (λ ss. Fits (learn_all empty_environment (reverse ss)) r) (sym records) (subst (Fits (learn_all empty_environment (reverse rs))) (sym same.0) last)

heard_fits : {A : Type 0} (fs : List (FitFile A)) (g : Progress A) (heard : List (Event A)) (r : Record A) → IsUnfinished g
    → item r ∷ heard ≡ reverse (flat_map file_events fs ++ progress_events g)
    → Fits (learn_all empty_environment (reverse (latest_records heard))) r
heard_fits fs (at_header front) heard r open_ is =
    let all : item r ∷ heard ≡ reverse (flat_map file_events fs) = is ∙ ap reverse (append-nil (flat_map file_events fs)) in
    elim (whole_end fs) [
      | inl none ↦ absurd cc
      | inr some ↦ let ends = some.1 in absurd cc
    ]
heard_fits {A} fs (at_data h n records part) heard r open_ is =
    let before : List (Event A) = reverse (flat_map file_events fs) in
    let own : reverse (progress_events (at_data h n records part)) ≡ map item (reverse records) ++ header h n ∷ [] =
    reverse-append (header h n ∷ []) (map item records) ∙ ap (λ es. es ++ header h n ∷ []) (reverse-map item records) in
    let all : item r ∷ heard ≡ map item (reverse records) ++ header h n ∷ before =
    is ∙ reverse-append (flat_map file_events fs) (progress_events (at_data h n records part)) ∙ ap (λ es. es ++ before) own
    ∙ append_assoc (map item (reverse records)) (header h n ∷ []) before in
    fits_after (reverse records) h n before heard r (subst (AllFit empty_environment) (sym (reverse-reverse records)) open_.1) all

pub heard_records_fit : {A : Type 0} → HeardRecordsFit A
heard_records_fit heard r (bytes, viable, (fs, g, come, is)) = heard_fits fs g heard r come.next (sym (reverse-reverse (item r ∷ heard)) ∙ ap reverse is)

-- ---- what is known

-- after events the records of the file that was begun last are learned
pub known_heard : {A : Type 0} (heard : List (Event A)) → known_after (reverse heard) ≡ learn_all empty_environment (reverse (latest_records heard))
known_heard [] = refl
known_heard {A} (x ∷ heard) =
    ap known_after (reverse-append (x ∷ []) heard) ∙ fold_push known_next empty_environment (reverse heard) x
    ∙ ap (λ e. known_next e x) (known_heard heard) ∙ next x
  where
    next : (x : Event A) → known_next (learn_all empty_environment (reverse (latest_records heard))) x
        ≡ learn_all empty_environment (reverse (latest_records (x ∷ heard)))
    next (header h n) = refl
    next (item r) =
        let before = latest_records heard in
        sym (ap (learn_all empty_environment) (reverse-append (r ∷ []) before) ∙ learn_all-append empty_environment (reverse before) (r ∷ []))
    next file_end = refl
