-- Files that can be written have no fault.
use Rattle.fit_encode.proofs.Common.{◌≡◌, ℕ, ◌<◌, ◌≤◌, List, [], ◌∷◌, ◌++◌, length, Some, ap, ◌∙◌, subst, length-append, arith, AllByRecursion, FitFile}
use Rattle.fit_encode.proofs.Common.{Record, ShapeFault, empty_environment, learn, learn_all, Fits, AllFit, record_bytes, records_bytes, first_fault}
use Rattle.fit_encode.proofs.Common.{IsWellFormed, IsWellFormedChain, chain_limit, FaultsAreExact, EncodeFault, BadHeader, ZeroIsSum, BadLocal, BadOffset}
use Rattle.fit_encode.proofs.Common.{UndefinedLocal, WrongShape, TooLong, ChainLength, AtRecord, IsRecordFault, IsFileFault, AtFile, GoodChainsHaveNoFault}
use Rattle.fit_encode.proofs.Common.{records_bytes-append}
use Rattle.std.proofs.Common.{◌+◌, ◌^◌}
use Rattle.fit_encode.proofs.RecordSteps.{fits_between}

pub good_between : {A : Type 0} (front : List (FitFile A)) (f : FitFile A) (back : List (FitFile A)) → AllByRecursion IsWellFormed (front ++ f ∷ back)
    → IsWellFormed f
good_between [] f back h = h.0
good_between (x ∷ front) f back h = good_between front f back h.1

no_shape : {A : Type 0} → FaultsAreExact A → (f : FitFile A) (index : ℕ) (s : ShapeFault) → IsWellFormed f
    → AtRecord f.records index (λ e n r. first_fault e r ≡ Some s) → ⊥
no_shape exact f index s good h =
    let fits = fits_between empty_environment h.front h.this h.back (subst (AllFit empty_environment) h.joined good.records) in
    let none = ((exact (learn_all empty_environment h.front) h.this).0 fits).0 in
    absurd (cc)

-- records whose bytes aren't too many for a data section
pub no_excess : {A : Type 0} (records : List (Record A)) (index : ℕ) → length (records_bytes empty_environment records) < 2 ^ 32
    → AtRecord records index (λ e n r. Fits e r × (2 ^ 32 ≤ n + length (record_bytes e r))) → ⊥
no_excess records index small h =
    let e = learn_all empty_environment h.front in
    let here = record_bytes e h.this in
    let rest = records_bytes (learn e h.this) h.back in
    let before = records_bytes empty_environment h.front in
    let all = ap length (ap (records_bytes empty_environment) h.joined ∙ records_bytes-append empty_environment h.front (h.this ∷ h.back)) in
    let first = length-append before (here ++ rest) in
    let second = length-append here rest in
    absurd (omega arith)

no_record_fault : {A : Type 0} → FaultsAreExact A → (number : ℕ) (f : FitFile A) (fault : EncodeFault) → IsWellFormed f → IsRecordFault number f.records fault
    → ⊥
no_record_fault exact number f (BadLocal file index) good h = no_shape exact f index _ good h.1
no_record_fault exact number f (BadOffset file index) good h = no_shape exact f index _ good h.1
no_record_fault exact number f (UndefinedLocal file index) good h = no_shape exact f index _ good h.1
no_record_fault exact number f (WrongShape file index field) good h = no_shape exact f index _ good h.1
no_record_fault exact number f (TooLong file index) good h = no_excess f.records index good.header.data_fits h.1
no_record_fault exact number f _ good h = h

pub no_file_fault : {A : Type 0} → FaultsAreExact A → (number : ℕ) (f : FitFile A) (fault : EncodeFault) → IsWellFormed f → IsFileFault number f fault → ⊥
no_file_fault exact number f (BadHeader file) good h = h.1 good.header.form
no_file_fault exact number f (ZeroIsSum file) good h = good.header.sum h.4
no_file_fault exact number f fault good h = no_record_fault exact number f fault good h.1

no_fault_at : {A : Type 0} → FaultsAreExact A → (fs : List (FitFile A)) (fault : EncodeFault) → IsWellFormedChain chain_limit fs
    → AtFile fs (λ number f. IsFileFault number f fault) → ⊥
no_fault_at exact fs fault good h =
    no_file_fault exact (length h.front + 1) h.this fault
    (good_between h.front h.this h.back (subst (AllByRecursion IsWellFormed) h.joined good.each)) h.holds

pub no_fault : {A : Type 0} → FaultsAreExact A → GoodChainsHaveNoFault A
no_fault exact fs ChainLength good h = h (good.some, good.within)
no_fault exact fs fault good h = no_fault_at exact fs fault good h.1
