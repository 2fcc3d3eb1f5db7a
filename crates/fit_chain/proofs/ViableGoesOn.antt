-- What has come of a chain goes on: bytes of which some chain goes on have come to where one can.
use Rattle.fit_chain.proofs.Common.{◌≡◌, inl, inr, ℕ, zero, suc, ◌+◌, ◌-◌, ◌<◌, ◌≤◌, true, List, [], ◌∷◌, ◌++◌, length, refl, sym, ap, ◌∙◌, subst, arith}
use Rattle.fit_chain.proofs.Common.{append_assoc, length-append, append-nil, IsBytes, little_bytes, bytes_below, length-little_bytes, IsBytes-front}
use Rattle.fit_chain.proofs.Common.{IsBytes-back, checksum, Header, header_bytes, IsDataSize, BeginsHeader, FitFile, Record, Environment, empty_environment}
use Rattle.fit_chain.proofs.Common.{learn, learn_all, record_bytes, records_bytes, body, summed, chain_bytes, IsWellFormed, IsChain, IsViable, short_header}
use Rattle.fit_chain.proofs.Common.{short_header_bytes, Progress, at_header, at_data, IsPartial, IsUnfinished, HasCome, FillFrom, DataGoesOn, GoesOn}
use Rattle.fit_chain.proofs.Common.{files_begun, ChainGoesOn, split}
use Rattle.std.proofs.lemmas.Bool.{true≢false}
use Rattle.fit_record.specs.Rooms.{can_fill}
use Rattle.fit_record.proofs.FilledRooms.{can_fill_is}
use Rattle.fit_chain.proofs.OnePlace.{no_header, no_record}
use Rattle.fit_chain.proofs.Following.{HeaderFollows, RecordFollows, SumFollows, DataFollows, header_follows, data_follows, chain_follows}

-- g with some bytes more
abbrev pub with_bytes : {A : Type 0} → Progress A → List ℕ → Progress A
with_bytes (at_header front) y = at_header (front ++ y)
with_bytes (at_data h n records part) y = at_data h n records (part ++ y)

-- ---- headers

-- records that fill an empty file's data section have six bytes at least
filled_size : (n : ℕ) → can_fill {A = Unit {0}} empty_environment n ≡ true → IsDataSize n
filled_size zero h = inl refl
filled_size (suc (suc (suc (suc (suc (suc n)))))) h = inr (omega arith)
filled_size n h = absurd (true≢false (sym h))

same_filled : (A : Type 0) (n : ℕ) → can_fill {A = A} empty_environment n ≡ can_fill {A = Unit {0}} empty_environment n
same_filled A (suc (suc (suc (suc (suc (suc n)))))) = refl
same_filled A n = refl

data_size : {A : Type 0} (f : FitFile A) → IsWellFormed f → IsBytes (body f) → IsDataSize (length (body f))
data_size {A} f well are =
    filled_size (length (body f)) (sym (same_filled A (length (body f)))
    ∙ (can_fill_is {A = A} empty_environment (length (body f)) refl).1 (f.records, body f, are, (well.records, refl), refl))

pub begins_nothing : BeginsHeader []
begins_nothing = record {
  more = 12 ∷ 32 ∷ 0 ∷ 0 ∷ 0 ∷ 0 ∷ 0 ∷ 0 ∷ 0x2E ∷ 0x46 ∷ 0x49 ∷ 0x54 ∷ [];
  are_bytes = bytes_below (12 ∷ 32 ∷ 0 ∷ 0 ∷ 0 ∷ 0 ∷ 0 ∷ 0 ∷ 0x2E ∷ 0x46 ∷ 0x49 ∷ 0x54 ∷ []) refl;
  whole = record { header = short_header.header; data_size = 0; is = ((short_header_bytes.0.header, refl), inl refl) };
}

pub begun_of_header : {A : Type 0} (fs : List (FitFile A)) (front : List ℕ) → files_begun fs (at_header front) ≤ length fs + 1
begun_of_header fs [] = omega arith
begun_of_header fs (b ∷ front) = omega arith

longer : {A : Type 0} (limit : ℕ) (fs gs others after : List (FitFile A)) (f : FitFile A) → gs ≡ fs ++ others → others ≡ f ∷ after → length gs ≤ limit
    → length fs + 1 ≤ limit
longer limit fs gs others after f joined are within = omega (arith, within, ap length joined, length-append fs others, ap length are)

no_longer : (a b : List ℕ) → a ++ b ≡ [] → (a ≡ []) × (b ≡ [])
no_longer [] b e = (refl, e)
no_longer (x ∷ a) b e = absurd (cc e)

begins : {A : Type 0} (front x y z : List ℕ) (others : List (FitFile A)) → IsUnfinished {A = A} (at_header front) → IsBytes x → x ≡ y ++ z → length y ≤ 1
    → HeaderFollows front x others → BeginsHeader (front ++ y)
begins {A} front x y z others u are is short s =
    let f = s.file in
    let n = length (body f) in
    let tail : List ℕ = body f ++ (little_bytes 2 (checksum (summed f)) ++ chain_bytes s.after) in
    let all : IsBytes (s.more ++ tail) = subst IsBytes s.beyond are in
    let fills = data_size f s.well (IsBytes-front (body f) _ (IsBytes-back s.more tail all)) in
    elim (split y s.more z tail (sym is ∙ s.beyond)) [
      | inl k ↦ record {
        more = k.more;
        are_bytes = IsBytes-back y k.more (subst IsBytes k.second (IsBytes-front s.more tail all));
        whole = record {
          header = f.header;
          data_size = n;
          is = ((s.well.header, append_assoc front y k.more ∙ sym (s.header ∙ ap (λ m. front ++ m) k.second)), fills);
        };
      }
      | inr k ↦
          let none : s.more ≡ [] = empty s.more (omega (arith, ap length k.first, length-append s.more (k.next ∷ k.more), short)) in
          absurd (no_header A front f.header n [] u s.well.header
          (sym (append-nil (header_bytes f.header n) ∙ s.header ∙ ap (λ m. front ++ m) none ∙ append-nil front)))
    ]
  where
    empty : (a : List ℕ) → length a ≡ 0 → a ≡ []
    empty [] e = refl
    empty (b ∷ a) e = absurd (omega arith)

-- ---- data sections

pub some_room : {A : Type 0} (e : Environment A) (room : ℕ) (sum part : List ℕ) → 0 < room → FillFrom e room part → DataGoesOn e room sum part
some_room e zero sum part some fill = absurd (omega arith)
some_room e (suc room) sum part some fill = fill

pub no_room : {A : Type 0} (e : Environment A) (room : ℕ) (sum part rest : List ℕ) → room ≡ 0 → sum ≡ part ++ rest → DataGoesOn e room sum part
no_room e zero sum part rest over h = (rest, h)
no_room e (suc room) sum part rest over h = absurd (omega arith)

partial_short : {A : Type 0} (e : Environment A) (room : ℕ) (part : List ℕ) → room ≡ 0 → IsPartial e room part → length part < 2
partial_short e zero part over u = u
partial_short e (suc room) part over u = absurd (omega arith)

sum_goes : {A : Type 0} (e : Environment A) (room : ℕ) (sum part x y z rest : List ℕ) (others : List (Record A)) → IsPartial e room part → length sum ≡ 2
    → x ≡ y ++ z → length y ≤ 1
    → SumFollows room part x (sum ++ rest) others → DataGoesOn e room sum (part ++ y)
sum_goes e room sum part x y z rest others u two is short s =
    let parts : (part ++ y) ++ z ≡ sum ++ rest = append_assoc part y z ∙ ap (λ m. part ++ m) (sym is) ∙ s.comes in
    elim (split (part ++ y) sum z rest parts) [
      | inl k ↦ no_room e room sum (part ++ y) k.more s.over k.second
      | inr k ↦ absurd (omega (
        arith,
        ap length k.first,
        length-append part y,
        length-append sum (k.next ∷ k.more),
        two,
        short,
        partial_short e room part s.over u,
      ))
    ]

record_goes : {A : Type 0} (e : Environment A) (room : ℕ) (sum part x y z tail : List ℕ) → IsPartial e room part → IsBytes x → x ≡ y ++ z → length y ≤ 1
    → RecordFollows e room part x tail → DataGoesOn e room sum (part ++ y)
record_goes {A} e room sum part x y z tail u are is short s =
    let after : List ℕ = records_bytes (learn e s.whole) s.after in
    let all : IsBytes (s.more ++ (after ++ tail)) = subst IsBytes s.beyond are in
    let whole : record_bytes e s.whole ++ after ≡ part ++ (s.more ++ after) = ap (λ m. m ++ after) s.begins ∙ append_assoc part s.more after in
    elim (split y s.more z (after ++ tail) (sym is ∙ s.beyond)) [
      | inl k ↦
          let rest_bytes : IsBytes (k.more ++ after) =
          IsBytes-back y (k.more ++ after) (subst IsBytes (ap (λ m. m ++ after) k.second ∙ append_assoc y k.more after)
          (IsBytes-front (s.more ++ after) tail (subst IsBytes (sym (append_assoc s.more after tail)) all))) in
          let spelled : record_bytes e s.whole ++ after ≡ (part ++ y) ++ (k.more ++ after) =
          whole ∙ ap (λ m. part ++ (m ++ after)) k.second ∙ regroup part y k.more after in
          some_room e room sum (part ++ y) s.some (
            s.whole ∷ s.after,
            k.more ++ after,
            rest_bytes,
            s.fit,
            spelled,
            omega (arith, s.total, length-append part y, length-append k.more after, ap length k.second, length-append y k.more),
          )
      | inr k ↦
          let none : s.more ≡ [] = empty s.more (omega (arith, ap length k.first, length-append s.more (k.next ∷ k.more), short)) in
          absurd (omega (
            arith,
            s.some,
            no_record e room part [] s.whole u s.fit.0
                (sym (append-nil (record_bytes e s.whole) ∙ s.begins ∙ ap (λ m. part ++ m) none ∙ append-nil part)),
          ))
    ]
  where
    empty : (a : List ℕ) → length a ≡ 0 → a ≡ []
    empty [] e = refl
    empty (b ∷ a) e = absurd (omega arith)

    regroup : (a b c d : List ℕ) → a ++ ((b ++ c) ++ d) ≡ (a ++ b) ++ (c ++ d)
    regroup a b c d = simp append_assoc

same_sum : {A : Type 0} (h : Header) (n : ℕ) (records : List (Record A)) (f : FitFile A) → f.header ≡ h → length (body f) ≡ n → f.records ≡ records
    → little_bytes 2 (checksum (summed f)) ≡ little_bytes 2 (checksum (header_bytes h n ++ records_bytes empty_environment records))
same_sum h n records f header size same = λ i. little_bytes 2 (checksum (header_bytes (header i) (size i) ++ records_bytes empty_environment (same i)))

data_goes : {A : Type 0} (h : Header) (n : ℕ) (records : List (Record A)) (part x y z : List ℕ) (others : List (FitFile A))
    → IsUnfinished (at_data h n records part) → IsBytes x → x ≡ y ++ z → length y ≤ 1
    → DataFollows h n records part x others → GoesOn (at_data h n records (part ++ y))
data_goes h n records part x y z others u are is short d =
    let e = learn_all empty_environment records in
    let room = n - length (records_bytes empty_environment records) in
    let sum = little_bytes 2 (checksum (header_bytes h n ++ records_bytes empty_environment records)) in
    elim d.goes [
      | inl s ↦ record_goes e room sum part x y z _ u.3 are is short s
      | inr s ↦
          let same : d.file.records ≡ records = d.same_records ∙ ap (λ m. records ++ m) s.none ∙ append-nil records in
          let sums = same_sum h n records d.file d.same_header d.same_size same in
          sum_goes e room sum part x y z (chain_bytes d.after) d.next u.3
          (length-little_bytes 2 (checksum (header_bytes h n ++ records_bytes empty_environment records))) is short
          (subst (λ t. SumFollows room part x (t ++ chain_bytes d.after) d.next) sums s)
    ]

-- ---- all of it

goes_with : {A : Type 0} (limit : ℕ) (fs gs : List (FitFile A)) (g : Progress A) (bytes x y z : List ℕ) → HasCome fs g bytes → IsBytes (bytes ++ x)
    → IsChain limit gs (bytes ++ x)
    → x ≡ y ++ z → length y ≤ 1 → ChainGoesOn limit fs (with_bytes g y)
goes_with {A} limit fs gs (at_header front) bytes x y z come are chain is short =
    let next = chain_follows limit fs (at_header front) bytes x gs come chain in
    let some : 0 < limit = omega (arith, chain.0.some, chain.0.within) in
    elim (header_follows front x next.others come.next next.each next.spelled) [
      | inl none ↦
          let ends = no_longer front x none.0 in
          let silent = no_longer y z (sym is ∙ ends.1) in
          let empty : front ++ y ≡ [] = ap (λ m. m ++ y) ends.0 ∙ silent.0 in
          let within : length fs ≤ limit = omega (arith, chain.0.within, ap length next.joined, length-append fs next.others) in
          subst (λ m. ChainGoesOn limit fs (at_header m)) (sym empty) (some, within, begins_nothing)
      | inr s ↦
          let within = longer limit fs gs next.others s.after s.file next.joined s.are chain.0.within in
          (some, omega (arith, within, begun_of_header fs (front ++ y)), begins front x y z next.others come.next (IsBytes-back bytes x are) is short s)
    ]
goes_with limit fs gs (at_data h n records part) bytes x y z come are chain is short =
    let next = chain_follows limit fs (at_data h n records part) bytes x gs come chain in
    let d = data_follows h n records part x next.others come.next next.each next.spelled in
    let within = longer limit fs gs next.others d.after d.file next.joined d.are chain.0.within in
    (omega (arith, within), within, data_goes h n records part x y z next.others come.next (IsBytes-back bytes x are) is short d)

without_bytes : {A : Type 0} (g : Progress A) → with_bytes g [] ≡ g
without_bytes (at_header front) = ap at_header (append-nil front)
without_bytes (at_data h n records part) = ap (at_data h n records) (append-nil part)

-- bytes with which a chain begins have come to where one can go on
pub viable_goes : {A : Type 0} (limit : ℕ) (fs : List (FitFile A)) (g : Progress A) (bytes : List ℕ) → HasCome fs g bytes → IsViable A limit bytes
    → ChainGoesOn limit fs g
viable_goes limit fs g bytes come (more, gs, are, chain) =
    subst (ChainGoesOn limit fs) (without_bytes g) (goes_with limit fs gs g bytes more [] more come are chain refl (omega arith))

-- and so have those with one byte more
pub next_goes : {A : Type 0} (limit : ℕ) (fs : List (FitFile A)) (g : Progress A) (bytes : List ℕ) (b : ℕ) → HasCome fs g bytes
    → IsViable A limit (bytes ++ b ∷ []) → ChainGoesOn limit fs (with_bytes g (b ∷ []))
next_goes {A} limit fs g bytes b come (more, gs, are, chain) =
    let regrouped = append_assoc bytes (b ∷ []) more in
    goes_with limit fs gs g bytes (b ∷ more) (b ∷ []) more come (subst IsBytes regrouped are) (subst (IsChain limit gs) regrouped chain) refl (omega arith)
