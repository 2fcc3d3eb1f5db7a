-- From the fault of a record to that of its file, and from there to that of the chain.
use Rattle.fit_encode.proofs.Common.{◌≡◌, ℕ, ◌<◌, ◌≤◌, List, [], ◌∷◌, ◌++◌, ◌⊎◌, inl, inr, length, take, drop, get_or, Some, true, false, refl, sym, ap, ◌∙◌}
use Rattle.fit_encode.proofs.Common.{subst, length-take, length-append, arith, OnOk, IfErr, is_err, AllByRecursion, FitFile, Record, ShapeFault, NoLocal}
use Rattle.fit_encode.proofs.Common.{first_fault, IsWellFormed, body, Environment, empty_environment, learn, learn_all, Fits, AllFit, record_bytes}
use Rattle.fit_encode.proofs.Common.{records_bytes, FormFits, HeaderFits, SumIsZero, EncodeFault, BadHeader, TooLong, ZeroIsSum, ChainLength, NoMemory, Write}
use Rattle.fit_encode.proofs.Common.{shape_fault, AtRecord, IsRecordFault, IsFileFault, IsChainLength, AtFile, IsFirstFault, UnlessWrite}
use Rattle.std.proofs.Common.{◌+◌, ◌^◌, Result, Ok, Err}
use Rattle.fit_encode.proofs.RecordSteps.{at_record, next_known, next_fit, next_bytes}
use Rattle.fit_encode.proofs.Sendings.{split_here, one_more}

pub of_shape : {A : Type 0} (number index : ℕ) (records : List (Record A)) (s : ShapeFault) → AtRecord records index (λ e n r. first_fault e r ≡ Some s)
    → IsRecordFault number records (shape_fault number index s)
of_shape number index records NoLocal h = (refl, h)
of_shape number index records _ h = (refl, h)

pub of_record : {A : Type 0} (number : ℕ) (f : FitFile A) (fault : EncodeFault) → FormFits f.header → IsRecordFault number f.records fault
    → IsFileFault number f fault
of_record number f (BadHeader file) form h = absurd h
of_record number f (ZeroIsSum file) form h = absurd h
of_record number f _ form h = (form, h)

pub of_file : {A : Type 0} (fs : List (FitFile A)) (fault : EncodeFault) → IsChainLength (length fs) → AtFile fs (λ number f. IsFileFault number f fault)
    → IsFirstFault fs fault
of_file fs ChainLength allowed h = absurd h.holds.1
of_file fs _ allowed h = (allowed, h)

-- the file at a place, after those before it
pub at_file : {A : Type 0} (P : ℕ → FitFile A → Type 0) (fs : List (FitFile A)) (i : ℕ) (f : FitFile A) → i < length fs → f ≡ get_or fs i f
    → AllByRecursion IsWellFormed (take i fs) → P (i + 1) f → AtFile fs P
at_file P fs i f less is good here = record {
  front = take i fs;
  this = f;
  back = drop (i + 1) fs;
  joined = split_here fs i f f less is;
  good = good;
  holds = subst (λ n. P (n + 1) f) (omega (arith, length-take i fs)) here;
}

-- ---- or want of memory

-- what holds of a good answer
pub on_ok_at : {T E : Type 0} (P : Type 0) (r : Result T E) → is_err r ≡ false → OnOk r P → P
on_ok_at P (Ok x) good h = h
on_ok_at P (Err e) bad h = absurd (let no : true ≡ false = bad in cc)

pub record_or : {A : Type 0} (number : ℕ) (f : FitFile A) (rs : List (Record A)) (fault : EncodeFault) → rs ≡ f.records → FormFits f.header
    → (fault ≡ NoMemory) ⊎ IsRecordFault number rs fault → (fault ≡ NoMemory) ⊎ IsFileFault number f fault
record_or number f rs fault same form (inl none) = inl none
record_or number f rs fault same form (inr h) = inr (of_record number f fault form (subst (λ x. IsRecordFault number x fault) same h))

pub file_or : {A : Type 0} (fs : List (FitFile A)) (i : ℕ) (f : FitFile A) (fault : EncodeFault) → i < length fs → f ≡ get_or fs i f → IsChainLength (length fs)
    → AllByRecursion IsWellFormed (take i fs) → (fault ≡ NoMemory) ⊎ IsFileFault (i + 1) f fault → (fault ≡ NoMemory) ⊎ IsFirstFault fs fault
file_or fs i f fault less is allowed good (inl none) = inl none
file_or fs i f fault less is allowed good (inr h) = inr (of_file fs fault allowed (at_file (λ number x. IsFileFault number x fault) fs i f less is good h))

-- a file alone is the first of its chain
lone_or : {A : Type 0} (f : FitFile A) (fault : EncodeFault) → (fault ≡ NoMemory) ⊎ IsFileFault 1 f fault → (fault ≡ NoMemory) ⊎ IsFirstFault (f ∷ []) fault
lone_or f fault h = file_or (f ∷ []) 0 f fault (omega arith) refl (omega arith, omega arith) tt h

pub if_lone : {A T : Type 0} (f : FitFile A) (r : Result T EncodeFault) → IfErr r (λ fault. (fault ≡ NoMemory) ⊎ IsFileFault 1 f fault)
    → IfErr r (λ fault. (fault ≡ NoMemory) ⊎ IsFirstFault (f ∷ []) fault)
if_lone f (Ok x) h = tt
if_lone f (Err fault) h = lone_or f fault h

-- ---- files that can be written

pub good_file : {A : Type 0} (f : FitFile A) (rs : List (Record A)) (n : ℕ) → rs ≡ f.records → AllFit empty_environment rs
    → n ≡ length (records_bytes empty_environment rs)
    → HeaderFits f.header n → IsWellFormed f
good_file f rs n same all size fits = record {
  header = subst (HeaderFits f.header) (size ∙ ap (λ x. length (records_bytes empty_environment x)) same) fits;
  records = subst (AllFit empty_environment) same all;
}

pub zero_fault : {A : Type 0} (f : FitFile A) (rs : List (Record A)) (n : ℕ) → rs ≡ f.records → AllFit empty_environment rs
    → n ≡ length (records_bytes empty_environment rs)
    → n < 2 ^ 32 → FormFits f.header × SumIsZero f.header n
    → FormFits f.header × AllFit empty_environment f.records × (length (body f) < 2 ^ 32) × SumIsZero f.header (length (body f))
zero_fault f rs n same all size small zero =
    let is : n ≡ length (body f) = size ∙ ap (λ x. length (records_bytes empty_environment x)) same in
    (zero.0, subst (AllFit empty_environment) same all, subst (λ m. m < 2 ^ 32) is small, subst (SumIsZero f.header) is zero.1)

pub last_good : {A : Type 0} (fs : List (FitFile A)) (f : FitFile A) → AllByRecursion IsWellFormed fs → IsWellFormed f
    → AllByRecursion IsWellFormed (fs ++ f ∷ [])
last_good [] f all one = (one, tt)
last_good (x ∷ fs) f all one = (all.0, last_good fs f all.1 one)

pub next_good : {A : Type 0} (fs : List (FitFile A)) (i : ℕ) (f : FitFile A) → i < length fs → f ≡ get_or fs i f → AllByRecursion IsWellFormed (take i fs)
    → IsWellFormed f
    → AllByRecursion IsWellFormed (take (i + 1) fs)
next_good fs i f less is all one =
    subst (AllByRecursion IsWellFormed) (sym (one_more fs i f f less is)) (last_good (take i fs) f all one)

-- ---- a chain of which no byte went out

pub unless_write : (fault : EncodeFault) (P : Type 0) → P → UnlessWrite fault P
unless_write (Write written) P h = tt
unless_write _ P h = h

-- ---- measuring, as far as a place

module _ {A : Type 0} (number : ℕ) (rs : List (Record A)) (i : ℕ) (r : Record A) (env : Environment A) (n : ℕ) (less : i < length rs)
    (is : r ≡ get_or rs i r) (known : env ≡ learn_all empty_environment (take i rs)) (fit : AllFit empty_environment (take i rs))
    (total : n ≡ length (records_bytes empty_environment (take i rs))) (small : n < 2 ^ 32) where
  pub shape_at : (s : ShapeFault) (fault : EncodeFault) → first_fault env r ≡ Some s → fault ≡ shape_fault number i s → IsRecordFault number rs fault
  shape_at s fault here same =
      subst (IsRecordFault number rs) (sym same) (of_shape number i rs s (at_record (λ e m x. first_fault e x ≡ Some s) rs i r less is fit (omega arith)
      (subst (λ (e : Environment A). first_fault e r ≡ Some s) known here)))

  module _ (more : ℕ) (fits : Fits env r) (size : more ≡ length (record_bytes env r)) where
    fits_here : Fits (learn_all empty_environment (take i rs)) r × (more ≡ length (record_bytes (learn_all empty_environment (take i rs)) r))
    fits_here = subst (λ (e : Environment A). Fits e r × (more ≡ length (record_bytes e r))) known (fits, size)

    pub long_at : 2 ^ 32 ≤ n + more → IsRecordFault number rs (TooLong number i)
    long_at much = (
      refl,
      at_record (λ e m x. Fits e x × (2 ^ 32 ≤ m + length (record_bytes e x))) rs i r less is fit (omega arith)
          (fits_here.0, let here = fits_here.1 in omega arith),
    )

    pub measured_past : (after : Environment A) (sum : ℕ) → after ≡ learn env r → sum ≡ n + more
        → (after ≡ learn_all empty_environment (take (i + 1) rs)) × AllFit empty_environment (take (i + 1) rs)
        × (sum ≡ length (records_bytes empty_environment (take (i + 1) rs)))
    measured_past after sum learned sum_is =
        let here = fits_here.1 in
        let grown = ap length (next_bytes empty_environment rs i r less is) in
        let both = length-append (records_bytes empty_environment (take i rs)) (record_bytes (learn_all empty_environment (take i rs)) r) in (
          learned ∙ ap (λ (e : Environment A). learn e r) known ∙ next_known empty_environment rs i r less is,
          next_fit empty_environment rs i r less is fit fits_here.0,
          omega arith,
        )
