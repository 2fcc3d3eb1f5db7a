-- Files that can't be written as a chain have a first fault.
use Rattle.fit_encode.proofs.Common.{◌≡◌, ℕ, ◌/◌, ◌<◌, ◌≤◌, List, [], ◌∷◌, ◌++◌, ◌⊎◌, inl, inr, length, Some, None, refl, sym, ap, subst, append_assoc}
use Rattle.fit_encode.proofs.Common.{append-nil, length-append, arith, AllByRecursion, cases_eq, cases_lt, checksum, Header, HeaderSum, Absent, Zero, FormFits}
use Rattle.fit_encode.proofs.Common.{SizeFits, SumIsZero, fixed_part, FitFile, Record, ShapeFault, empty_environment, learn_all, Fits, AllFit, record_bytes}
use Rattle.fit_encode.proofs.Common.{records_bytes, HasRange, first_fault, IsWellFormed, IsWellFormedChain, body, chain_limit, FaultsAreExact, EncodeFault}
use Rattle.fit_encode.proofs.Common.{BadHeader, ZeroIsSum, TooLong, ChainLength, shape_fault, IsRecordFault, IsFileFault, IsChainLength, AtFile, IsFirstFault}
use Rattle.fit_encode.proofs.Common.{BadChainsHaveAFault, HasFileRange, all_fit-append}
use Rattle.std.proofs.Common.{◌+◌, ◌^◌}
use Rattle.std.specs.Prelude.{Option}
use Rattle.fit_encode.proofs.FaultSteps.{last_good, of_file, of_record, of_shape}
use Rattle.fit_encode.proofs.RecordSteps.{records_bytes-last}

-- ---- records

abbrev HasFault : {A : Type 0} → ℕ → List (Record A) → Type 0
HasFault number records = (fault : EncodeFault) × IsRecordFault number records fault

abbrev Stand : {A : Type 0} → List (Record A) → Type 0
Stand records = AllFit empty_environment records × (length (records_bytes empty_environment records) < 2 ^ 32)

abbrev RecordsDecided : {A : Type 0} → ℕ → List (Record A) → Type 0
RecordsDecided number records = Stand records ⊎ HasFault number records

-- the next record fits: with it the data is short, or too long
by_length : {A : Type 0} (number : ℕ) (front : List (Record A)) (r : Record A) (back : List (Record A)) → Stand front
    → Fits (learn_all empty_environment front) r
    → (Stand (front ++ r ∷ []) → RecordsDecided number ((front ++ r ∷ []) ++ back))
    → (length (records_bytes empty_environment front) + length (record_bytes (learn_all empty_environment front) r) < 2 ^ 32)
    ⊎ (2 ^ 32 ≤ length (records_bytes empty_environment front) + length (record_bytes (learn_all empty_environment front) r))
    → RecordsDecided number (front ++ r ∷ back)
by_length number front r back good fits rest (inr much) = inr (
  TooLong number (length front),
  (refl, record { front = front; this = r; back = back; joined = refl; place = refl; fit = good.0; short = good.1; holds = (fits, much) }),
)
by_length {A} number front r back good fits rest (inl less) =
    let e = learn_all {A = A} empty_environment front in
    let grown = ap length (records_bytes-last empty_environment front r) in
    let long = length-append (records_bytes {A = A} empty_environment front) (record_bytes e r) in
    subst (RecordsDecided number) (append_assoc front (r ∷ []) back) (rest (all_fit-append empty_environment front (r ∷ []) good.0 (fits, tt), omega arith))

-- the next record has a fault, or it fits
by_shape : {A : Type 0} → FaultsAreExact A → (number : ℕ) (front : List (Record A)) (r : Record A) (back : List (Record A)) → Stand front → HasRange r
    → (Stand (front ++ r ∷ []) → RecordsDecided number ((front ++ r ∷ []) ++ back))
    → (found : Option ShapeFault) → first_fault (learn_all empty_environment front) r ≡ found → RecordsDecided number (front ++ r ∷ back)
by_shape exact number front r back good range rest (Some s) is = inr (
  shape_fault number (length front) s,
  of_shape number (length front) (front ++ r ∷ back) s
      (record { front = front; this = r; back = back; joined = refl; place = refl; fit = good.0; short = good.1; holds = is }),
)
by_shape {A} exact number front r back good range rest None is =
    let e = learn_all {A = A} empty_environment front in
    by_length number front r back good ((exact e r).1 (is, range)) rest
    (cases_lt (length (records_bytes {A = A} empty_environment front) + length (record_bytes e r)) (2 ^ 32))

-- all can stand, or one is at fault
records_decided : {A : Type 0} → FaultsAreExact A → (number : ℕ) (front back : List (Record A)) → Stand front → AllByRecursion HasRange back
    → RecordsDecided number (front ++ back)
records_decided exact number front [] good range = inl (subst Stand (sym (append-nil front)) good)
records_decided {A} exact number front (r ∷ back) good range =
    by_shape exact number front r back good range.0 (λ more. records_decided exact number (front ++ r ∷ []) back more range.1)
    (first_fault (learn_all {A = A} empty_environment front) r) refl

-- ---- headers

size_decided : (word : HeaderSum) (size : ℕ) (rest : List ℕ) → SizeFits word size rest ⊎ (SizeFits word size rest → ⊥)
size_decided Absent size (b ∷ rest) = inr (λ h. let none = h.1 in absurd (cc))
size_decided Absent size [] = elim (cases_eq size 12) [ inl is ↦ inl (is, refl) | inr never ↦ inr (λ h. never h.0) ]
size_decided _ size rest = cases_eq size (14 + length rest)

form_of : (h : Header) → SizeFits h.sum h.size h.rest.items ⊎ (SizeFits h.sum h.size h.rest.items → ⊥) → (2 < h.protocol / 16) ⊎ (h.protocol / 16 ≤ 2)
    → FormFits h ⊎ (FormFits h → ⊥)
form_of h (inl size) (inr version) = inl (record { size = size; version = version })
form_of h (inl size) (inl late) = inr (λ form. let version = form.version in omega arith)
form_of h (inr never) version = inr (λ form. never form.size)

zero_word : (word : HeaderSum) → (word ≡ Zero) ⊎ (word ≡ Zero → ⊥)
zero_word Zero = inl refl
zero_word _ = inr (λ e. cc)

sum_of : (h : Header) (n : ℕ) → (h.sum ≡ Zero) ⊎ (h.sum ≡ Zero → ⊥) → (checksum (fixed_part h n) ≡ 0) ⊎ (checksum (fixed_part h n) ≡ 0 → ⊥)
    → SumIsZero h n ⊎ (SumIsZero h n → ⊥)
sum_of h n (inl word) (inl is) = inl (word, is)
sum_of h n (inl word) (inr never) = inr (λ k. never k.1)
sum_of h n (inr never) is = inr (λ k. never k.0)

-- ---- files

abbrev FileDecided : {A : Type 0} → ℕ → FitFile A → Type 0
FileDecided number f = IsWellFormed f ⊎ ((fault : EncodeFault) × IsFileFault number f fault)

by_sum : {A : Type 0} (number : ℕ) (f : FitFile A) → HasFileRange f → FormFits f.header → Stand f.records
    → SumIsZero f.header (length (body f)) ⊎ (SumIsZero f.header (length (body f)) → ⊥) → FileDecided number f
by_sum number f range form good (inl zero) = inr (ZeroIsSum number, (refl, form, good.0, good.1, zero))
by_sum number f range form good (inr never) =
    inl (record { header = record { form = form; size_fits = range.size; profile_fits = range.profile; data_fits = good.1; sum = never }; records = good.0 })

by_records : {A : Type 0} (number : ℕ) (f : FitFile A) → HasFileRange f → FormFits f.header → Stand f.records ⊎ HasFault number f.records → FileDecided number f
by_records number f range form (inl good) =
    by_sum number f range form good (sum_of f.header (length (body f)) (zero_word f.header.sum) (cases_eq (checksum (fixed_part f.header (length (body f)))) 0))
by_records number f range form (inr h) = inr (h.0, of_record number f h.0 form h.1)

by_form : {A : Type 0} → FaultsAreExact A → (number : ℕ) (f : FitFile A) → HasFileRange f → FormFits f.header ⊎ (FormFits f.header → ⊥) → FileDecided number f
by_form exact number f range (inl form) = by_records number f range form (records_decided exact number [] f.records (tt, omega arith) range.records)
by_form exact number f range (inr never) = inr (BadHeader number, (refl, never))

file_decided : {A : Type 0} → FaultsAreExact A → (number : ℕ) (f : FitFile A) → HasFileRange f → FileDecided number f
file_decided exact number f range =
    by_form exact number f range (form_of f.header (size_decided f.header.sum f.header.size f.header.rest.items) (cases_lt 2 (f.header.protocol / 16)))

-- ---- chains

abbrev HasFileFault : {A : Type 0} → List (FitFile A) → Type 0
HasFileFault fs = (fault : EncodeFault) × AtFile fs (λ number f. IsFileFault number f fault)

abbrev FilesDecided : {A : Type 0} → List (FitFile A) → Type 0
FilesDecided fs = AllByRecursion IsWellFormed fs ⊎ HasFileFault fs

by_file : {A : Type 0} (front : List (FitFile A)) (f : FitFile A) (back : List (FitFile A)) → AllByRecursion IsWellFormed front
    → (AllByRecursion IsWellFormed (front ++ f ∷ []) → FilesDecided ((front ++ f ∷ []) ++ back)) → FileDecided (length front + 1) f
    → FilesDecided (front ++ f ∷ back)
by_file front f back good rest (inr h) = inr (h.0, record { front = front; this = f; back = back; joined = refl; good = good; holds = h.1 })
by_file front f back good rest (inl one) = subst FilesDecided (append_assoc front (f ∷ []) back) (rest (last_good front f good one))

files_decided : {A : Type 0} → FaultsAreExact A → (front back : List (FitFile A)) → AllByRecursion IsWellFormed front → AllByRecursion HasFileRange back
    → FilesDecided (front ++ back)
files_decided exact front [] good range = inl (subst (AllByRecursion IsWellFormed) (sym (append-nil front)) good)
files_decided exact front (f ∷ back) good range =
    by_file front f back good (λ more. files_decided exact (front ++ f ∷ []) back more range.1) (file_decided exact (length front + 1) f range.0)

abbrev Decided : {A : Type 0} → List (FitFile A) → Type 0
Decided fs = IsWellFormedChain chain_limit fs ⊎ ((fault : EncodeFault) × IsFirstFault fs fault)

by_files : {A : Type 0} (fs : List (FitFile A)) → IsChainLength (length fs) → FilesDecided fs → Decided fs
by_files fs allowed (inl good) = inl (record { some = allowed.0; within = allowed.1; each = good })
by_files fs allowed (inr h) = inr (h.0, of_file fs h.0 allowed h.1)

by_number : {A : Type 0} → FaultsAreExact A → (fs : List (FitFile A)) → AllByRecursion HasFileRange fs → (0 < length fs) ⊎ (length fs ≤ 0)
    → (chain_limit < length fs) ⊎ (length fs ≤ chain_limit) → Decided fs
by_number exact fs range (inl some) (inr within) = by_files fs (some, within) (files_decided exact [] fs tt range)
by_number exact fs range (inl some) (inl many) = inr (ChainLength, (λ h. let within = h.1 in omega arith))
by_number exact fs range (inr none) many = inr (ChainLength, (λ h. let some = h.0 in omega arith))

pub some_fault : {A : Type 0} → FaultsAreExact A → BadChainsHaveAFault A
some_fault exact fs range = by_number exact fs range (cases_lt 0 (length fs)) (cases_lt chain_limit (length fs))
