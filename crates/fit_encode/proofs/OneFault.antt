-- Files have one first fault at most.
use Rattle.fit_encode.proofs.Common.{◌≡◌, ℕ, ◌<◌, ◌≤◌, List, [], ◌∷◌, ◌++◌, ◌⊎◌, inl, inr, length, Some, refl, sym, ap, ◌∙◌, subst, length-append, arith}
use Rattle.fit_encode.proofs.Common.{AllByRecursion, cases_order, front_back, FormFits, FitFile, Record, ShapeFault, NoLocal, NoOffset, NotDefined, WrongField}
use Rattle.fit_encode.proofs.Common.{Environment, empty_environment, learn, learn_all, Fits, AllFit, record_bytes, records_bytes, first_fault, IsWellFormed}
use Rattle.fit_encode.proofs.Common.{body, FaultsAreExact, EncodeFault, BadHeader, ZeroIsSum, BadLocal, BadOffset, UndefinedLocal, WrongShape, TooLong}
use Rattle.fit_encode.proofs.Common.{ChainLength, shape_fault, AtRecord, IsRecordFault, IsFileFault, IsChainLength, AtFile, IsFirstFault, FaultsAreOne}
use Rattle.fit_encode.proofs.Common.{records_bytes-append}
use Rattle.std.proofs.Common.{◌+◌, ◌^◌}
use Rattle.fit_encode.proofs.NoFault.{good_between, no_file_fault}
use Rattle.fit_encode.proofs.RecordSteps.{fits_between}

-- ---- two places of a list

-- the first element, and what follows it
first_same : {X : Type 0} {x y : X} {us vs : List X} → x ∷ us ≡ y ∷ vs → x ≡ y
first_same e = cc

rest_same : {X : Type 0} {x y : X} {us vs : List X} → x ∷ us ≡ y ∷ vs → us ≡ vs
rest_same e = cc

-- an earlier place stands in what comes before a later one
before_later : {X : Type 0} (xs ys : List X) (x y : X) (us vs : List X) → xs ++ x ∷ us ≡ ys ++ y ∷ vs → length xs < length ys
    → (mid : List X) × (ys ≡ xs ++ x ∷ mid)
before_later [] (b ∷ ys) x y us vs e less = (ys, ap (λ z. z ∷ ys) (sym (first_same e)))
before_later {X} (a ∷ xs) (b ∷ ys) x y us vs e less =
    let there = before_later xs ys x y us vs (rest_same e) (omega arith) in
    (there.0, ap (λ (z : X). z ∷ ys) (sym (first_same e)) ∙ ap (λ (zs : List X). a ∷ zs) there.1)
before_later _ _ x y us vs e less = absurd (omega arith)

same_place : {X : Type 0} (xs ys : List X) (x y : X) (us vs : List X) → xs ++ x ∷ us ≡ ys ++ y ∷ vs → length xs ≡ length ys → (xs ≡ ys) × (x ≡ y)
same_place xs ys x y us vs e same = let both = front_back xs ys (x ∷ us) (y ∷ vs) same e in (both.0, first_same both.1)

-- ---- records

-- why a record that stands where this is known can't: its shape, or the length of the data
abbrev Spoils : {A : Type 0} → ℕ → ℕ → EncodeFault → Environment A → ℕ → Record A → Type 0
Spoils number index fault e n r = ((s : ShapeFault) × (first_fault e r ≡ Some s) × (fault ≡ shape_fault number index s))
    ⊎ (Fits e r × (2 ^ 32 ≤ n + length (record_bytes e r)) × (fault ≡ TooLong number index))

abbrev SpoilsAt : {A : Type 0} → ℕ → List (Record A) → EncodeFault → Type 0
SpoilsAt number records fault = (index : ℕ) × AtRecord records index (Spoils number index fault)

more_at : {A : Type 0} {records : List (Record A)} {index : ℕ} (P Q : Environment A → ℕ → Record A → Type 0)
    → ((e : Environment A) (n : ℕ) (r : Record A) → P e n r → Q e n r) → AtRecord records index P → AtRecord records index Q
more_at P Q f h = record {
  front = h.front;
  this = h.this;
  back = h.back;
  joined = h.joined;
  place = h.place;
  fit = h.fit;
  short = h.short;
  holds = f _ _ h.this h.holds;
}

of_reason : {A : Type 0} (number file index : ℕ) (records : List (Record A)) (s : ShapeFault) → file ≡ number
    → AtRecord records index (λ e n r. first_fault e r ≡ Some s)
    → SpoilsAt number records (shape_fault file index s)
of_reason number file index records s is h = (index, more_at _ _ (λ e n r some. inl (s, some, ap (λ k. shape_fault k index s) is)) h)

spoils : {A : Type 0} (number : ℕ) (records : List (Record A)) (fault : EncodeFault) → IsRecordFault number records fault → SpoilsAt number records fault
spoils number records (BadLocal file index) h = of_reason number file index records NoLocal h.0 h.1
spoils number records (BadOffset file index) h = of_reason number file index records NoOffset h.0 h.1
spoils number records (UndefinedLocal file index) h = of_reason number file index records NotDefined h.0 h.1
spoils number records (WrongShape file index field) h = of_reason number file index records (WrongField field) h.0 h.1
spoils number records (TooLong file index) h = (index, more_at _ _ (λ e n r long. inr (long.0, long.1, ap (λ k. TooLong k index) h.0)) h.1)
spoils number records _ h = absurd h

-- no such record stands where it fits and the data is short
no_spoils : {A : Type 0} → FaultsAreExact A → (number index : ℕ) (fault : EncodeFault) (front mid : List (Record A)) (r : Record A)
    → Spoils number index fault (learn_all empty_environment front) (length (records_bytes empty_environment front)) r
    → AllFit empty_environment (front ++ r ∷ mid) → length (records_bytes empty_environment (front ++ r ∷ mid)) < 2 ^ 32 → ⊥
no_spoils exact number index fault front mid r (inl h) fit short =
    let none = ((exact (learn_all empty_environment front) r).0 (fits_between empty_environment front r mid fit)).0 in
    let some = h.1 in
    absurd (cc)
no_spoils {A} exact number index fault front mid r (inr h) fit short =
    let e = learn_all {A = A} empty_environment front in
    let all = ap length (records_bytes-append empty_environment front (r ∷ mid)) in
    omega (
      arith,
      length-append (records_bytes empty_environment front) (records_bytes e (r ∷ mid)),
      length-append (record_bytes e r) (records_bytes (learn e r) mid),
    )

-- a record has one such fault
one_spoils : {A : Type 0} → FaultsAreExact A → (number index : ℕ) (a b : EncodeFault) (e : Environment A) (n : ℕ) (r : Record A)
    → Spoils number index a e n r → Spoils number index b e n r → a ≡ b
one_spoils exact number index a b e n r (inl h) (inl k) =
    let same : h.0 ≡ k.0 = (let x = h.1 in let y = k.1 in cc) in
    h.2 ∙ ap (λ s. shape_fault number index s) same ∙ sym k.2
one_spoils exact number index a b e n r (inl h) (inr k) = (let none = ((exact e r).0 k.0).0 in let some = h.1 in absurd (cc))
one_spoils exact number index a b e n r (inr h) (inl k) = (let none = ((exact e r).0 h.0).0 in let some = k.1 in absurd (cc))
one_spoils exact number index a b e n r (inr h) (inr k) = h.2 ∙ sym k.2

no_earlier : {A : Type 0} → FaultsAreExact A → (number i j : ℕ) (records : List (Record A)) (a b : EncodeFault)
    → AtRecord records i (Spoils number i a) → AtRecord records j (Spoils number j b) → i < j → ⊥
no_earlier {A} exact number i j records a b h k less =
    let there = before_later h.front k.front h.this k.this h.back k.back (sym h.joined ∙ k.joined) (omega (arith, h.place, k.place)) in
    no_spoils exact number i a h.front there.0 h.this h.holds (subst (AllFit {A = A} empty_environment) there.1 k.fit)
    (subst (λ x. length (records_bytes {A = A} empty_environment x) < 2 ^ 32) there.1 k.short)

at_one : {A : Type 0} → FaultsAreExact A → (number i j : ℕ) (records : List (Record A)) (a b : EncodeFault)
    → AtRecord records i (Spoils number i a) → AtRecord records j (Spoils number j b) → i ≡ j → a ≡ b
at_one {A} exact number i j records a b h k same =
    let there = same_place h.front k.front h.this k.this h.back k.back (sym h.joined ∙ k.joined) (sym h.place ∙ same ∙ k.place) in
    one_spoils exact number i a b (learn_all empty_environment h.front) (length (records_bytes empty_environment h.front)) h.this h.holds
    (rw (← same, ← there.0, ← there.1) at k.holds)

ordered : {A : Type 0} → FaultsAreExact A → (number i j : ℕ) (records : List (Record A)) (a b : EncodeFault)
    → AtRecord records i (Spoils number i a) → AtRecord records j (Spoils number j b) → (i ≡ j) ⊎ ((i < j) ⊎ (j < i)) → a ≡ b
ordered exact number i j records a b h k (inl same) = at_one exact number i j records a b h k same
ordered exact number i j records a b h k (inr (inl less)) = absurd (no_earlier exact number i j records a b h k less)
ordered exact number i j records a b h k (inr (inr less)) = absurd (no_earlier exact number j i records b a k h less)

record_faults_are_one : {A : Type 0} → FaultsAreExact A → (number : ℕ) (records : List (Record A)) (a b : EncodeFault)
    → SpoilsAt number records a → SpoilsAt number records b → a ≡ b
record_faults_are_one exact number records a b h k = ordered exact number h.0 k.0 records a b h.1 k.1 (cases_order h.0 k.0)

-- ---- files

-- the header, or a record, or else the zeros for a sum of 0
abbrev Spoiled : {A : Type 0} → ℕ → FitFile A → EncodeFault → Type 0
Spoiled number f fault = ((FormFits f.header → ⊥) × (fault ≡ BadHeader number))
    ⊎ ((FormFits f.header × SpoilsAt number f.records fault)
    ⊎ (FormFits f.header × AllFit empty_environment f.records × (length (body f) < 2 ^ 32) × (fault ≡ ZeroIsSum number)))

spoiled : {A : Type 0} (number : ℕ) (f : FitFile A) (fault : EncodeFault) → IsFileFault number f fault → Spoiled number f fault
spoiled number f (BadHeader file) h = inl (h.1, ap BadHeader h.0)
spoiled number f (ZeroIsSum file) h = inr (inr (h.1, h.2, h.3, ap ZeroIsSum h.0))
spoiled number f fault h = inr (inl (h.0, spoils number f.records fault h.1))

-- no record of such a file is at fault
no_record : {A : Type 0} → FaultsAreExact A → (number : ℕ) (f : FitFile A) (fault : EncodeFault) → AllFit empty_environment f.records → length (body f) < 2 ^ 32
    → SpoilsAt number f.records fault → ⊥
no_record {A} exact number f fault fit short h =
    no_spoils exact number h.0 fault h.1.front h.1.back h.1.this h.1.holds (subst (AllFit {A = A} empty_environment) h.1.joined fit)
    (subst (λ x. length (records_bytes {A = A} empty_environment x) < 2 ^ 32) h.1.joined short)

one_spoiled : {A : Type 0} → FaultsAreExact A → (number : ℕ) (f : FitFile A) (a b : EncodeFault) → Spoiled number f a → Spoiled number f b → a ≡ b
one_spoiled exact number f a b (inl h) (inl k) = h.1 ∙ sym k.1
one_spoiled exact number f a b (inl h) (inr (inl k)) = absurd (h.0 k.0)
one_spoiled exact number f a b (inl h) (inr (inr k)) = absurd (h.0 k.0)
one_spoiled exact number f a b (inr (inl h)) (inl k) = absurd (k.0 h.0)
one_spoiled exact number f a b (inr (inl h)) (inr (inl k)) = record_faults_are_one exact number f.records a b h.1 k.1
one_spoiled exact number f a b (inr (inl h)) (inr (inr k)) = absurd (no_record exact number f a k.1 k.2 h.1)
one_spoiled exact number f a b (inr (inr h)) (inl k) = absurd (k.0 h.0)
one_spoiled exact number f a b (inr (inr h)) (inr (inl k)) = absurd (no_record exact number f b h.1 h.2 k.1)
one_spoiled exact number f a b (inr (inr h)) (inr (inr k)) = h.3 ∙ sym k.3

-- ---- chains

abbrev AtFault : {A : Type 0} → List (FitFile A) → EncodeFault → Type 0
AtFault fs fault = AtFile fs (λ number f. IsFileFault number f fault)

no_earlier_file : {A : Type 0} → FaultsAreExact A → (fs : List (FitFile A)) (a b : EncodeFault) (h : AtFault fs a) (k : AtFault fs b)
    → length h.front < length k.front → ⊥
no_earlier_file exact fs a b h k less =
    let there = before_later h.front k.front h.this k.this h.back k.back (sym h.joined ∙ k.joined) less in
    no_file_fault exact (length h.front + 1) h.this a (good_between h.front h.this there.0 (subst (AllByRecursion IsWellFormed) there.1 k.good)) h.holds

one_at : {A : Type 0} → FaultsAreExact A → (fs : List (FitFile A)) (a b : EncodeFault) (h : AtFault fs a) (k : AtFault fs b) → length h.front ≡ length k.front
    → a ≡ b
one_at {A} exact fs a b h k same =
    let there = same_place h.front k.front h.this k.this h.back k.back (sym h.joined ∙ k.joined) same in
    one_spoiled exact (length h.front + 1) h.this a b (spoiled (length h.front + 1) h.this a h.holds)
    (spoiled (length h.front + 1) h.this b (rw (← same, ← there.1) at k.holds))

files_ordered : {A : Type 0} → FaultsAreExact A → (fs : List (FitFile A)) (a b : EncodeFault) (h : AtFault fs a) (k : AtFault fs b)
    → (length h.front ≡ length k.front) ⊎ ((length h.front < length k.front) ⊎ (length k.front < length h.front)) → a ≡ b
files_ordered exact fs a b h k (inl same) = one_at exact fs a b h k same
files_ordered exact fs a b h k (inr (inl less)) = absurd (no_earlier_file exact fs a b h k less)
files_ordered exact fs a b h k (inr (inr less)) = absurd (no_earlier_file exact fs b a k h less)

-- the number of files, or one of them
first_of_all : {A : Type 0} (fs : List (FitFile A)) (fault : EncodeFault) → IsFirstFault fs fault
    → ((IsChainLength (length fs) → ⊥) × (fault ≡ ChainLength)) ⊎ (IsChainLength (length fs) × AtFault fs fault)
first_of_all fs ChainLength h = inl (h, refl)
first_of_all fs _ h = inr h

one_of_all : {A : Type 0} → FaultsAreExact A → (fs : List (FitFile A)) (a b : EncodeFault)
    → ((IsChainLength (length fs) → ⊥) × (a ≡ ChainLength)) ⊎ (IsChainLength (length fs) × AtFault fs a)
    → ((IsChainLength (length fs) → ⊥) × (b ≡ ChainLength)) ⊎ (IsChainLength (length fs) × AtFault fs b) → a ≡ b
one_of_all exact fs a b (inl h) (inl k) = h.1 ∙ sym k.1
one_of_all exact fs a b (inl h) (inr k) = absurd (h.0 k.0)
one_of_all exact fs a b (inr h) (inl k) = absurd (k.0 h.0)
one_of_all exact fs a b (inr h) (inr k) =
    files_ordered exact fs a b h.1 k.1 (cases_order (length h.1.front) (length k.1.front))

pub one_fault : {A : Type 0} → FaultsAreExact A → FaultsAreOne A
one_fault exact fs a b h k = one_of_all exact fs a b (first_of_all fs a h) (first_of_all fs b k)
