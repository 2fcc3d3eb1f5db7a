-- A file is completed from what can go on.
use Rattle.fit_chain.proofs.Common.{◌≡◌, inl, inr, ℕ, zero, suc, ◌+◌, ◌-◌, ◌<◌, ◌≤◌, List, [], ◌∷◌, ◌++◌, length, refl, sym, ap, ◌∙◌, subst, arith}
use Rattle.fit_chain.proofs.Common.{append_assoc, length-append, lit<, AllByRecursion, cases_lt, append-nil, IsBytes, little_bytes, IsBytes-append}
use Rattle.fit_chain.proofs.Common.{IsBytes-none, IsBytes-back, checksum, Header, HeaderFits, header_bytes, IsDataSize, BeginsHeader, FitFile, Record}
use Rattle.fit_chain.proofs.Common.{empty_environment, learn_all, AllFit, records_bytes, file_bytes, chain_bytes, IsWellFormed, IsViable, CanFill}
use Rattle.fit_chain.proofs.Common.{all_fit-append, records_bytes-append, FillFrom, Progress, at_header, at_data, progress_bytes, IsUnfinished, HasCome}
use Rattle.fit_chain.proofs.Common.{DataGoesOn, GoesOn, ChainGoesOn}
use Rattle.fit_base.specs.declared.number.Order.TheVariants.{Little}
use Rattle.fit_base.proofs.NumberLaws.{IsBytes-number_bytes}
use Rattle.fit_record.proofs.LargeRooms.{six_and_more}

-- ---- one file

sum_bytes : (n : ℕ) → IsBytes (little_bytes 2 n)
sum_bytes n = IsBytes-number_bytes Little 2 n

-- some more bytes make a file of these
pub record Completion (A : Type 0) (front : List ℕ) : Type 0 where
  pub file : FitFile A
  pub more : List ℕ
  pub are_bytes : IsBytes more
  pub well : IsWellFormed file
  pub spelled : file_bytes file ≡ front ++ more

-- a header and records that fill the data section
of_records : {A : Type 0} (h : Header) (n : ℕ) (rs : List (Record A)) (front more : List ℕ) → HeaderFits h n → AllFit empty_environment rs
    → length (records_bytes empty_environment rs) ≡ n
    → IsBytes more → (header_bytes h n ++ records_bytes empty_environment rs)
    ++ little_bytes 2 (checksum (header_bytes h n ++ records_bytes empty_environment rs)) ≡ front ++ more → Completion A front
of_records {A} h n rs front more header fit size are spelled = record {
  file = record { header = h; records = rs };
  more = more;
  are_bytes = are;
  well = record { header = subst (HeaderFits h) (sym size) header; records = fit };
  spelled = ap (λ m. (header_bytes h m ++ records_bytes empty_environment rs)
      ++ little_bytes 2 (checksum (header_bytes h m ++ records_bytes empty_environment rs))) size ∙ spelled;
}

pub fill_data : {A : Type 0} (n : ℕ) → IsDataSize n → CanFill {A = A} empty_environment n
fill_data n (inl none) = ([], [], IsBytes-none, (tt, refl), sym none)
fill_data {A} n (inr many) = let same : 6 + (n - 6) ≡ n = omega (arith, many) in
    subst (CanFill {A = A} empty_environment) same (six_and_more empty_environment (n - 6) (lit< tt))

pub regroup : (a b c d : List ℕ) → ((a ++ b) ++ c) ++ d ≡ a ++ (b ++ (c ++ d))
regroup a b c d = simp append_assoc

regroup_fill : (a b c d s : List ℕ) → (a ++ (b ++ (c ++ d))) ++ s ≡ ((a ++ b) ++ c) ++ (d ++ s)
regroup_fill a b c d s = simp append_assoc

of_header : {A : Type 0} (front : List ℕ) → BeginsHeader front → Completion A front
of_header {A} front begins =
    let h = begins.whole.header in
    let n = begins.whole.data_size in
    let (rs, filled, are, fit, size) = fill_data {A = A} n begins.whole.is.1 in
    let sum : List ℕ = little_bytes 2 (checksum (header_bytes h n ++ records_bytes empty_environment rs)) in
    of_records h n rs front (begins.more ++ (records_bytes empty_environment rs ++ sum)) begins.whole.is.0.0 fit.0 (ap length (sym fit.1) ∙ size)
    (IsBytes-append begins.more _ begins.are_bytes
    (IsBytes-append (records_bytes empty_environment rs) sum (subst IsBytes fit.1 are)
    (sum_bytes (checksum (header_bytes h n ++ records_bytes empty_environment rs)))))
    (ap (λ b. (b ++ records_bytes empty_environment rs) ++ sum) (sym begins.whole.is.0.1) ∙ regroup front begins.more (records_bytes empty_environment rs) sum)

module _ {A : Type 0} (h : Header) (n : ℕ) (records : List (Record A)) (part : List ℕ) (header : HeaderFits h n) (fits : AllFit empty_environment records)
    (within : length (records_bytes empty_environment records) ≤ n) where
  of_data : (room : ℕ) → room ≡ n - length (records_bytes empty_environment records)
      → DataGoesOn (learn_all empty_environment records) room (little_bytes 2 (checksum (header_bytes h n ++ records_bytes empty_environment records))) part
      → Completion A (progress_bytes (at_data h n records part))
  of_data zero left (rest, goes) =
      let here : List ℕ = header_bytes h n ++ records_bytes empty_environment records in
      of_records h n records (here ++ part) rest header fits (omega (arith, left, within))
      (IsBytes-back part rest (subst IsBytes goes (sum_bytes (checksum here))))
      (ap (λ s. here ++ s) goes ∙ sym (append_assoc here part rest))
  of_data (suc room) left (rs, rest, are, fit, spelled, total) =
      let all = records ++ rs in
      let whole : records_bytes empty_environment all ≡ records_bytes empty_environment records ++ (part ++ rest) =
      records_bytes-append empty_environment records rs ∙ ap (λ b. records_bytes empty_environment records ++ b) spelled in
      let sum : List ℕ = little_bytes 2 (checksum (header_bytes h n ++ records_bytes empty_environment all)) in
      let size : length (records_bytes empty_environment all) ≡ n =
      omega (arith, ap length whole, length-append (records_bytes empty_environment records) (part ++ rest), length-append part rest, total, left, within) in
      of_records h n all (progress_bytes (at_data h n records part)) (rest ++ sum) header (all_fit-append empty_environment records rs fits fit) size
      (IsBytes-append rest sum are (sum_bytes (checksum (header_bytes h n ++ records_bytes empty_environment all))))
      (ap (λ b. (header_bytes h n ++ b) ++ sum) whole ∙ regroup_fill (header_bytes h n) (records_bytes empty_environment records) part rest sum)

pub completed : {A : Type 0} (g : Progress A) → IsUnfinished g → GoesOn g → Completion A (progress_bytes g)
completed (at_header front) u goes = of_header front goes
completed (at_data h n records part) u goes = of_data h n records part u.0 u.1 u.2 (n - length (records_bytes empty_environment records)) refl goes

-- ---- a chain

pub all_append : {A : Type 0} (fs : List (FitFile A)) (f : FitFile A) → AllByRecursion IsWellFormed fs → IsWellFormed f
    → AllByRecursion IsWellFormed (fs ++ f ∷ [])
all_append [] f p q = (q, tt)
all_append (d ∷ fs) f p q = (p.0, all_append fs f p.1 q)

pub chain_bytes-append : {A : Type 0} (fs : List (FitFile A)) (f : FitFile A) → chain_bytes (fs ++ f ∷ []) ≡ chain_bytes fs ++ file_bytes f
chain_bytes-append [] f = append-nil (file_bytes f)
chain_bytes-append (d ∷ fs) f = ap (λ b. file_bytes d ++ b) (chain_bytes-append fs f) ∙ sym (append_assoc (file_bytes d) (chain_bytes fs) (file_bytes f))

-- with one file more
one_file_more : {A : Type 0} (limit : ℕ) (fs : List (FitFile A)) (front bytes : List ℕ) → AllByRecursion IsWellFormed fs → bytes ≡ chain_bytes fs ++ front
    → IsBytes bytes → length fs + 1 ≤ limit → Completion A front → IsViable A limit bytes
one_file_more limit fs front bytes files spelled are within c = (
  c.more,
  fs ++ c.file ∷ [],
  IsBytes-append bytes c.more are c.are_bytes,
  (
    record {
      some = omega (arith, length-append fs (c.file ∷ []));
      within = omega (arith, length-append fs (c.file ∷ []), within);
      each = all_append fs c.file files c.well;
    },
    ap (λ b. b ++ c.more) spelled ∙ append_assoc (chain_bytes fs) front c.more ∙ ap (λ b. chain_bytes fs ++ b) (sym c.spelled)
        ∙ sym (chain_bytes-append fs c.file),
  ),
)

one_more : {A : Type 0} (limit : ℕ) (fs : List (FitFile A)) (g : Progress A) (bytes : List ℕ) → HasCome fs g bytes → IsBytes bytes → length fs + 1 ≤ limit
    → GoesOn g → IsViable A limit bytes
one_more limit fs g bytes come are within goes =
    one_file_more limit fs (progress_bytes g) bytes come.files come.spelled are within (completed g come.next goes)

-- bytes that go on where the data section can be filled begin a chain
pub filled_viable : {A : Type 0} (limit : ℕ) (fs : List (FitFile A)) (h : Header) (n : ℕ) (records : List (Record A)) (part bytes y : List ℕ)
    → HasCome fs (at_data h n records part) bytes → IsBytes (bytes ++ y) → length fs + 1 ≤ limit → 0 < n - length (records_bytes empty_environment records)
    → FillFrom (learn_all empty_environment records) (n - length (records_bytes empty_environment records)) (part ++ y) → IsViable A limit (bytes ++ y)
filled_viable {A} limit fs h n records part bytes y come are within some fill =
    let room = n - length (records_bytes empty_environment records) in
    let joined : bytes ++ y ≡ chain_bytes fs ++ progress_bytes (at_data h n records (part ++ y)) =
    ap (λ b. b ++ y) come.spelled ∙ append_assoc (chain_bytes fs) (progress_bytes (at_data h n records part)) y
    ∙ ap (λ b. chain_bytes fs ++ b) (append_assoc (header_bytes h n ++ records_bytes empty_environment records) part y) in
    one_file_more limit fs (progress_bytes (at_data h n records (part ++ y))) (bytes ++ y) come.files joined are within
    (of_data h n records (part ++ y) come.next.0 come.next.1 come.next.2 room refl (filled room some fill))
  where
    filled : (room : ℕ) → 0 < room → FillFrom (learn_all empty_environment records) room (part ++ y)
        → DataGoesOn (learn_all empty_environment records) room
        (little_bytes 2 (checksum (header_bytes h n ++ records_bytes empty_environment records))) (part ++ y)
    filled zero some fill = absurd (omega arith)
    filled (suc room) some fill = fill

-- bytes that have come to where a chain can go on begin one
pub goes_viable : {A : Type 0} (limit : ℕ) (fs : List (FitFile A)) (g : Progress A) (bytes : List ℕ) → HasCome fs g bytes → IsBytes bytes
    → ChainGoesOn limit fs g → IsViable A limit bytes
goes_viable {A} limit fs (at_header []) bytes come are (some, begun, goes) =
    elim (cases_lt (length fs) limit) [
      | inl less ↦ one_more limit fs (at_header []) bytes come are (omega (arith, less)) goes
      | inr full ↦ (
        [],
        fs,
        subst IsBytes (sym (append-nil bytes)) are,
        (record { some = omega (arith, some, full); within = begun; each = come.files }, append-nil bytes ∙ come.spelled ∙ append-nil (chain_bytes fs)),
      )
    ]
goes_viable limit fs (at_header (b ∷ front)) bytes come are (some, begun, goes) = one_more limit fs (at_header (b ∷ front)) bytes come are begun goes
goes_viable limit fs (at_data h n records part) bytes come are (some, begun, goes) = one_more limit fs (at_data h n records part) bytes come are begun goes
