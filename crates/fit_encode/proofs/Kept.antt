-- Records and files that are kept as their bytes.
use Rattle.fit_encode.proofs.Common.{◌≡◌, ◌∙◌, ℕ, ◌<◌, ◌≤◌, Bool, true, false, List, [], ◌∷◌, ◌++◌, length, refl, sym, ap, subst, append_assoc, length-append}
use Rattle.fit_encode.proofs.Common.{arith, Header, FormFits, HeaderFits, SumIsZero, FitFile, Record, Environment, empty_environment, learn_all, Fits, AllFit}
use Rattle.fit_encode.proofs.Common.{record_bytes, records_bytes, IsWellFormed, TooLong, ZeroIsSum, IsFileFault, all_fit-append}
use Rattle.std.proofs.Common.{◌+◌, ◌^◌}
use Rattle.std.specs.Global.{Global}
use Rattle.fit_encode.proofs.Common.{ap₂, append-nil, checksum, length-little_bytes, little_bytes, summed, header_bytes, file_bytes, chain_bytes}
use Rattle.fit_encode.specs.Encoding.{file_of}
use Rattle.fit_encode.specs.inner.Kept.{AreSpelled, AreTooLong, AreWritten, with_sum}
use Rattle.fit_encode.proofs.Encoders.{some_byte}
use Rattle.fit_encode.proofs.FaultSteps.{good_file, last_good, zero_fault}
use Rattle.fit_encode.proofs.NoFault.{no_excess}
use Rattle.fit_encode.proofs.RecordSteps.{records_bytes-last}

pub none-kept : (bytes : List ℕ) (rs : List (Record Global)) → bytes ≡ [] → rs ≡ [] → AreSpelled bytes 0 false rs
none-kept bytes rs empty nothing = rw (empty, nothing) (record {
  fit = tt;
  all = λ _. record { bytes_are = refl; short = omega arith; place = refl; few = omega arith };
  long = λ wrong. cc wrong;
})

-- what is asked of one more record, in terms of the records that are kept
abbrev pub MayFollow : List (Record Global) → Environment Global → Record Global → Type 0
MayFollow rs e r = (e ≡ learn_all empty_environment rs) × Fits e r

known-fits : (rs : List (Record Global)) (e : Environment Global) (r : Record Global) → MayFollow rs e r → Fits (learn_all empty_environment rs) r
known-fits rs e r may = subst (λ (x : Environment Global). Fits x r) may.0 may.1

all-fit : (rs : List (Record Global)) (e : Environment Global) (r : Record Global) → AllFit empty_environment rs → MayFollow rs e r
    → AllFit empty_environment (rs ++ r ∷ [])
all-fit rs e r fit may = all_fit-append empty_environment rs (r ∷ []) fit (known-fits rs e r may, tt)

-- after those that are too many
pub long-on : (bytes : List ℕ) (count : ℕ) (b : Bool) (rs : List (Record Global)) (e : Environment Global) (r : Record Global)
    → AreSpelled bytes count b rs → b ≡ true → MayFollow rs e r → AreSpelled bytes count b (rs ++ r ∷ [])
long-on bytes count b rs e r h is may =
    let long = h.long is in record {
      fit = all-fit rs e r h.fit may;
      all = λ wrong. absurd (cc (sym wrong ∙ is));
      long = λ _. record {
        front = long.front;
        this = long.this;
        back = long.back ++ r ∷ [];
        joined = ap (λ (x : List (Record Global)). x ++ r ∷ []) long.joined ∙ append_assoc long.front (long.this ∷ long.back) (r ∷ []);
        place = long.place;
        fit = long.fit;
        short = long.short;
        holds = long.holds;
      };
    }

-- the first with which they are too many
pub long-now : (bytes one : List ℕ) (count : ℕ) (b : Bool) (rs : List (Record Global)) (e : Environment Global) (r : Record Global)
    → AreSpelled bytes count b rs → b ≡ false → MayFollow rs e r → one ≡ record_bytes e r → 2 ^ 32 ≤ length bytes + length one
    → AreSpelled bytes count true (rs ++ r ∷ [])
long-now bytes one count b rs e r h is may spelled much =
    let all = h.all is in
    let here : one ≡ record_bytes (learn_all empty_environment rs) r = spelled ∙ ap (λ (x : Environment Global). record_bytes x r) may.0 in
    let before = ap length all.bytes_are in
    let this = ap length here in record {
      fit = all-fit rs e r h.fit may;
      all = λ wrong. cc wrong;
      long = λ _. record {
        front = rs;
        this = r;
        back = [];
        joined = refl;
        place = all.place;
        fit = h.fit;
        short = subst (λ (n : ℕ). n < 2 ^ 32) before all.short;
        holds = (known-fits rs e r may, omega (arith, before, this, much));
      };
    }

pub kept-more : (bytes one : List ℕ) (count : ℕ) (b : Bool) (rs : List (Record Global)) (e : Environment Global) (r : Record Global)
    → AreSpelled bytes count b rs → b ≡ false → MayFollow rs e r → one ≡ record_bytes e r → length bytes + length one < 2 ^ 32
    → AreSpelled (bytes ++ one) (count + 1) b (rs ++ r ∷ [])
kept-more bytes one count b rs e r h is may spelled less =
    let all = h.all is in
    let here : one ≡ record_bytes (learn_all empty_environment rs) r = spelled ∙ ap (λ (x : Environment Global). record_bytes x r) may.0 in
    let some : 0 < length one = subst (λ (x : List ℕ). 0 < length x) (sym spelled) (some_byte e r) in
    let longer = length-append bytes one in
    let more = length-append rs (r ∷ []) in
    let few = all.few in
    let place = all.place in record {
      fit = all-fit rs e r h.fit may;
      all = λ _. record {
        bytes_are = ap (λ (x : List ℕ). x ++ one) all.bytes_are ∙ ap (λ (x : List ℕ). records_bytes empty_environment rs ++ x) here
            ∙ sym (records_bytes-last empty_environment rs r);
        short = omega (arith, longer, less);
        place = omega (arith, more, place);
        few = omega (arith, more, longer, few, some);
      };
      long = λ wrong. absurd (cc (sym wrong ∙ is));
    }

-- ---- what is kept of a file

pub bytes-kept : (bytes : List ℕ) (count : ℕ) (b : Bool) (rs : List (Record Global)) → AreSpelled bytes count b rs
    → length (records_bytes empty_environment rs) < 2 ^ 32 → bytes ≡ records_bytes empty_environment rs
bytes-kept bytes count true rs h less = absurd (no_excess rs count less (h.long refl))
bytes-kept bytes count false rs h less = (h.all refl).bytes_are

pub long-fault : (number : ℕ) (f : FitFile Global) (rs : List (Record Global)) (index : ℕ) → rs ≡ f.records → FormFits f.header
    → AreTooLong index rs
    → IsFileFault number f (TooLong number index)
long-fault number f rs index same form long = (form, (refl, subst (λ (x : List (Record Global)). AreTooLong index x) same long))

pub sum-fault : (number : ℕ) (f : FitFile Global) (h : Header) (rs : List (Record Global)) (n : ℕ) → h ≡ f.header → rs ≡ f.records
    → AllFit empty_environment rs
    → n ≡ length (records_bytes empty_environment rs) → n < 2 ^ 32 → FormFits h × SumIsZero h n → IsFileFault number f (ZeroIsSum number)
sum-fault number f h rs n head same all size small zero =
    let is = zero_fault f rs n same all size small (subst (λ (x : Header). FormFits x × SumIsZero x n) head zero) in
    (refl, is.0, is.1, is.2, is.3)

pub file-good : (f : FitFile Global) (h : Header) (rs : List (Record Global)) (n : ℕ) → h ≡ f.header → rs ≡ f.records → AllFit empty_environment rs
    → n ≡ length (records_bytes empty_environment rs) → HeaderFits h n → IsWellFormed f
file-good f h rs n head same all size fits = good_file f rs n same all size (subst (λ (x : Header). HeaderFits x n) head fits)

-- ---- files

pub spelled-file : (old new head section : List ℕ) (h : Header) (rs : List (Record Global)) → new ≡ old ++ with_sum (head ++ section)
    → head ≡ header_bytes h (length (records_bytes empty_environment rs))
    → (length (records_bytes empty_environment rs) < 2 ^ 32 → section ≡ records_bytes empty_environment rs) → IsWellFormed (file_of h rs)
    → IsWellFormed (file_of h rs) × (new ≡ old ++ file_bytes (file_of h rs))
spelled-file old new head section h rs is front rest good =
    (good, is ∙ ap₂ (λ (a b : List ℕ). old ++ with_sum (a ++ b)) front (rest good.header.data_fits))

chain-more : (fs : List (FitFile Global)) (f : FitFile Global) → chain_bytes (fs ++ f ∷ []) ≡ chain_bytes fs ++ file_bytes f
chain-more [] f = append-nil (file_bytes f)
chain-more (x ∷ fs) f =
    ap (λ (bytes : List ℕ). file_bytes x ++ bytes) (chain-more fs f) ∙ sym (append_assoc (file_bytes x) (chain_bytes fs) (file_bytes f))

-- one more file that can be written
pub one-more-file : (old new : List ℕ) (f : FitFile Global) (fs : List (FitFile Global)) → AreWritten old fs → IsWellFormed f × (new ≡ old ++ file_bytes f)
    → length new < 2 ^ 64
    → AreWritten new (fs ++ f ∷ [])
one-more-file old new f fs w is short =
    let sum = little_bytes 2 (checksum (summed f)) in
    let two : 2 ≤ length (file_bytes f) = omega (arith, length-append (summed f) sum, length-little_bytes 2 (checksum (summed f))) in record {
      good = last_good fs f w.good is.0;
      bytes_are = is.1 ∙ ap (λ (bytes : List ℕ). bytes ++ file_bytes f) w.bytes_are ∙ sym (chain-more fs f);
      few = let few = w.few in omega (arith, few, two, ap length is.1, length-append old (file_bytes f), length-append fs (f ∷ []));
      short = short;
    }

-- the bytes of records that may be those of a data section
pub kept-bytes : (bytes : List ℕ) (count : ℕ) (b : Bool) (items now : List (Record Global)) → AreSpelled bytes count b items → items ≡ now
    → length (records_bytes empty_environment now) < 2 ^ 32 → bytes ≡ records_bytes empty_environment now
kept-bytes bytes count b items now h view short =
    bytes-kept bytes count b items h (subst (λ (rs : List (Record Global)). length (records_bytes empty_environment rs) < 2 ^ 32) (sym view) short)
    ∙ ap (λ (rs : List (Record Global)). records_bytes empty_environment rs) view
