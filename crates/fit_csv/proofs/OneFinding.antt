-- A text has one finding at most.
use Rattle.fit_csv.proofs.Common.{nil_from_length, ◌≡◌, ◌∙◌, ◌≤◌, ◌+◌, ◌-◌, [], ◌∷◌, ◌++◌, length, take, zero, suc, Err, refl, sym, ap, subst, inl, inr, arith}
use Rattle.fit_csv.proofs.Common.{append_assoc, Global, cases_lt, Reached, default_config, strip_bom, FitFile, EncodeFault, IsFirstFault, FaultsAreOne}
use Rattle.fit_csv.proofs.Common.{GoodChainsHaveNoFault, Row, RowsOfText, first_line, reached-first, reads_one_way, chain_rows, IsTextOf, IsUnwritable, IsWrong}
use Rattle.fit_csv.proofs.Common.{Agree, CanFollow, FirstRows, HasNoHeader, IsBadCell, IsChainOfRows, IsCutOff, IsRefusedRow, IsRowFault, MayBeOfKind, MayGoOn}
use Rattle.fit_csv.proofs.Common.{ChainsHaveOwnRows, TextsHaveOneFinding, CsvFault}
use Rattle.std.proofs.Common.{◌⊎◌, ℕ, ◌<◌, List, Ok, append-nil, length-append}
use Rattle.csv.specs.Machine.{Read}
use Rattle.csv.specs.declared.parser.Config.{Config}
use Rattle.csv.specs.declared.parser.State.{State}
use Rattle.csv.specs.declared.parser.State.TheVariants as st
use Rattle.fit_encode.specs.declared.fault.EncodeFault.TheVariants as encode
use Rattle.fit_csv.specs.declared.fault.CsvFault.TheVariants as faults
use Rattle.fit_csv.proofs.FromChain.{good-files, headed, not-cut, same-bytes, same-files, stands, writable}
use Rattle.fit_csv.proofs.SevenRows.{row-seven}

-- ---- two places of a list

-- an earlier place stands in what comes before a later one
before-later : (xs ys : List Row) (x y : Row) (us vs : List Row) → xs ++ x ∷ us ≡ ys ++ y ∷ vs → length xs < length ys → (mid : List Row) × (ys ≡ xs ++ x ∷ mid)
before-later [] [] x y us vs e less = absurd (omega arith)
before-later [] (b ∷ ys) x y us vs e less = (ys, cc)
before-later (a ∷ xs) [] x y us vs e less = absurd (omega arith)
before-later (a ∷ xs) (b ∷ ys) x y us vs e less =
    let there = before-later xs ys x y us vs (cc) (omega arith) in
    (there.0, cc there.1)

same-place : (xs ys : List Row) (x y : Row) (us vs : List Row) → xs ++ x ∷ us ≡ ys ++ y ∷ vs → length xs ≡ length ys → (xs ≡ ys) × (x ≡ y)
same-place [] [] x y us vs e same = (refl, cc)
same-place [] (b ∷ ys) x y us vs e same = absurd (omega arith)
same-place (a ∷ xs) [] x y us vs e same = absurd (omega arith)
same-place (a ∷ xs) (b ∷ ys) x y us vs e same =
    let there = same-place xs ys x y us vs (cc) (omega arith) in
    (cc there.0, there.1)

-- ---- first rows of a text

-- of two lists of first rows, one begins the other
both-reached : (cfg : Config) (a b : List Row) (s s1 s2 : State) (xs y1 y2 : List ℕ) → Reached cfg s xs a s1 y1 → Reached cfg s xs b s2 y2
    → ((rest : List Row) × (b ≡ a ++ rest)) ⊎ ((rest : List Row) × (a ≡ b ++ rest))
unfolding Reached
both-reached cfg [] b s s1 s2 xs y1 y2 ra rb = inl (b, refl)
both-reached cfg (r ∷ a) [] s s1 s2 xs y1 y2 ra rb = inr (r ∷ a, refl)
both-reached cfg (r ∷ a) (q ∷ b) s s1 s2 xs y1 y2 (p, e, same, more) (p', e', same', more') =
    let pp : p ≡ p' = cc in
    let m : Reached cfg p.1 p.2 b s2 y2 = rw (← pp) at more' in
    let head : q ≡ r = same' ∙ ap (λ (x : Read). x.0) (sym pp) ∙ sym same in
    elim (both-reached cfg a b p.1 s1 s2 p.2 y1 y2 more m) [
      | inl there ↦ inl (there.0, ap (λ (z : Row). z ∷ b) head ∙ ap (λ (zs : List Row). r ∷ zs) there.1)
      | inr there ↦ inr (there.0, ap (λ (zs : List Row). r ∷ zs) there.1 ∙ ap (λ (z : Row). z ∷ (b ++ there.0)) (sym head))
    ]

-- the shorter of two lists of first rows begins the other
begins-other : (a b : List Row) → ((rest : List Row) × (b ≡ a ++ rest)) ⊎ ((rest : List Row) × (a ≡ b ++ rest)) → length a ≤ length b
    → (rest : List Row) × (b ≡ a ++ rest)
begins-other a b (inl h) less = h
begins-other a b (inr (rest, is)) less =
    let none = nil_from_length rest (let long = ap length is in omega (arith, long, length-append b rest)) in
    (rest, cc (ap (λ (l : List Row). b ++ l) none, ap (λ (l : List Row). a ++ l) none, append-nil a, append-nil b))

first-begins : (text : List ℕ) (a b : List Row) → FirstRows text a → FirstRows text b → length a ≤ length b → (rest : List Row) × (b ≡ a ++ rest)
first-begins text a b (s1, y1, ra) (s2, y2, rb) less = begins-other a b (both-reached default_config a b st.StartRecord s1 s2 (strip_bom text) y1 y2 ra rb) less

-- ---- the first row

-- rows that may go on, one at least, begin with the first line
first-row : (rows : List Row) → 0 < length rows → MayGoOn rows → (rest : List Row) × (rows ≡ first_line ∷ rest)
first-row [] some go = absurd (omega arith)
first-row (r ∷ rest) some (files, more, good, e) = (rest, ap (λ (z : Row). z ∷ rest) (sym (cc e)))

-- rows that begin with the first line are no text without a header
headed-front : (text : List ℕ) (front : List Row) (this : Row) → FirstRows text (front ++ this ∷ []) → 0 < length front → MayGoOn front → HasNoHeader text → ⊥
headed-front text front this read some go (inl none) =
    let (rest, is, others) = reached-first default_config (front ++ this ∷ []) [] st.StartRecord read.0 (strip_bom text) read.1 read.2 none in
    let long = ap length is in
    omega (arith, length-append (front ++ this ∷ []) rest, length-append front (this ∷ []))
headed-front text front this read some go (inr (r, reads, other)) =
    let begun = first-row front some go in
    let there = first-begins text (r ∷ []) (front ++ this ∷ []) reads read (omega (arith, length-append front (this ∷ []))) in
    let joined : first_line ∷ (begun.0 ++ this ∷ []) ≡ r ∷ there.0 = ap (λ (z : List Row). z ++ this ∷ []) (sym begun.1) ∙ there.1 in
    other (cc joined)

headed-cut : (text : List ℕ) (row : ℕ) → IsCutOff text row → HasNoHeader text → ⊥
headed-cut text row h (inl none) =
    let same = reads_one_way text h.rows [] h.read none in
    let long = ap length same in
    let some = h.some in
    omega arith
headed-cut text row h (inr (r, reads, other)) =
    let begun = first-row h.rows h.some h.begins in
    let (rest, is, others) = reached-first default_config (r ∷ []) h.rows st.StartRecord reads.0 (strip_bom text) reads.1 reads.2 h.read in
    other (cc (begun.1, is))

-- ---- refused rows

-- a row that stands in rows that may go on isn't at fault
can-stand : (front : List Row) (this : Row) (mid : List Row) → MayGoOn (front ++ this ∷ mid) → CanFollow front this
can-stand front this mid (files, more, good, e) =
    (files, mid ++ more, good, e ∙ ap (λ (z : List Row). z ++ more) (sym (append_assoc front (this ∷ []) mid)) ∙ append_assoc (front ++ this ∷ []) mid more)

follows-seven : (front : List Row) (this : Row) → CanFollow front this → length this ≡ 7
follows-seven front this (files, more, good, e) = row-seven files front this more (e ∙ append_assoc front (this ∷ []) more)

no-row-fault : (front : List Row) (this : Row) (number : ℕ) (fault : CsvFault) → (fault ≡ faults.NoMemory → ⊥) → CanFollow front this
    → IsRowFault (CanFollow front) this number fault → ⊥
no-row-fault front this number (faults.BadRow row) some can (place, inl short) = short (follows-seven front this can)
no-row-fault front this number (faults.BadRow row) some can (place, inr none) = none this can (inl refl)
no-row-fault front this number (faults.BadCell row column) some can (place, seven, bad) = bad.bad this can refl
no-row-fault front this number fault some can h = h

module _ (text : List ℕ) (a b : CsvFault) (some : a ≡ faults.NoMemory → ⊥) (h : IsRefusedRow text a) (k : IsRefusedRow text b) where
  one-of-rows : length h.front ≤ length k.front → (rest : List Row) × (k.front ++ k.this ∷ [] ≡ h.front ++ h.this ∷ rest)
  one-of-rows less =
      let there = first-begins text (h.front ++ h.this ∷ []) (k.front ++ k.this ∷ []) h.read k.read
      (omega (arith, length-append h.front (h.this ∷ []), length-append k.front (k.this ∷ []))) in
      (there.0, there.1 ∙ append_assoc h.front (h.this ∷ []) there.0)

  not-earlier : length h.front < length k.front → ⊥
  not-earlier less =
      let there = one-of-rows (omega arith) in
      let mid = before-later h.front k.front h.this k.this there.0 [] (sym there.1) less in
      no-row-fault h.front h.this (length h.front + 1) a some (can-stand h.front h.this mid.0 (subst MayGoOn mid.1 k.begins)) h.wrong

  same-row : length h.front ≡ length k.front → (h.front ≡ k.front) × (h.this ≡ k.this)
  same-row same = let there = one-of-rows (omega arith) in same-place h.front k.front h.this k.this there.0 [] (sym there.1) same

-- as many first cells, or fewer
fewer : (n m : ℕ) (xs ys : Row) → n ≤ m → Agree m xs ys → Agree n xs ys
fewer n m xs ys less e = sym (take-less n m xs less) ∙ ap (take n) e ∙ take-less n m ys less
  where
    take-less : (n m : ℕ) (xs : Row) → n ≤ m → take n (take m xs) ≡ take n xs
    take-less zero m xs less = refl
    take-less (suc n) zero xs less = absurd (omega arith)
    take-less (suc n) (suc m) [] less = refl
    take-less (suc n) (suc m) (x ∷ xs) less = ap (λ (z : Row). x ∷ z) (take-less n m xs (omega arith))

not-both : (CanStand : Row → Type 0) (r : Row) (column : ℕ) → length r ≡ 7 → IsBadCell CanStand r column
    → (length r ≡ 7 → ⊥) ⊎ ((other : Row) → CanStand other → MayBeOfKind other r → ⊥) → ⊥
not-both CanStand r column seven bad (inl short) = short seven
not-both CanStand r column seven bad (inr none) = elim bad.before.2 [
  | inl same ↦ none bad.before.0 bad.before.1 (inl (fewer 1 (column - 1) bad.before.0 r (let beyond = bad.after_kind in omega arith) same))
  | inr kind ↦ none bad.before.0 bad.before.1 kind.1
]

-- an earlier column isn't bad where a later one is
not-before : (CanStand : Row → Type 0) (r : Row) (first later : ℕ) → IsBadCell CanStand r first → IsBadCell CanStand r later → first < later → ⊥
not-before CanStand r first later h k less = elim k.before.2 [
  | inl same ↦ h.bad k.before.0 k.before.1 (fewer first (later - 1) k.before.0 r (omega arith) same)
  | inr kind ↦ (let beyond = h.after_kind in let two = kind.0 in omega arith)
]

one-column : (CanStand : Row → Type 0) (r : Row) (a b : ℕ) → IsBadCell CanStand r a → IsBadCell CanStand r b → (a < b) ⊎ (b ≤ a) → (b < a) ⊎ (a ≤ b) → a ≡ b
one-column CanStand r a b h k (inl less) other = absurd (not-before CanStand r a b h k less)
one-column CanStand r a b h k (inr least) (inl less) = absurd (not-before CanStand r b a k h less)
one-column CanStand r a b h k (inr least) (inr most) = omega arith

one-row-fault : (CanStand : Row → Type 0) (r : Row) (number : ℕ) (a b : CsvFault) → (a ≡ faults.NoMemory → ⊥) → (b ≡ faults.NoMemory → ⊥)
    → IsRowFault CanStand r number a → IsRowFault CanStand r number b
    → a ≡ b
one-row-fault C r number (faults.BadRow i) (faults.BadRow j) some other h k = ap faults.BadRow (h.0 ∙ sym k.0)
one-row-fault C r number (faults.BadRow i) (faults.BadCell j column) some other h k = absurd (not-both C r column k.1 k.2 h.1)
one-row-fault C r number (faults.BadCell i column) (faults.BadRow j) some other h k = absurd (not-both C r column h.1 h.2 k.1)
one-row-fault C r number (faults.BadCell i column) (faults.BadCell j other_column) some other h k =
    let same = one-column C r column other_column h.2 k.2 (cases_lt column other_column) (cases_lt other_column column) in
    ap (λ n. faults.BadCell n column) (h.0 ∙ sym k.0) ∙ ap (λ n. faults.BadCell j n) same
one-row-fault C r number (faults.BadRow i) b some other h k = absurd k
one-row-fault C r number (faults.BadCell i column) b some other h k = absurd k
one-row-fault C r number a b some other h k = absurd h

module _ (text : List ℕ) (a b : CsvFault) (some : a ≡ faults.NoMemory → ⊥) (other : b ≡ faults.NoMemory → ⊥) (h : IsRefusedRow text a) (k : IsRefusedRow text b)
  where
    rows-ordered : (length h.front < length k.front) ⊎ (length k.front ≤ length h.front) → (length k.front < length h.front) ⊎ (length h.front ≤ length k.front)
        → a ≡ b
    rows-ordered (inl less) later = absurd (not-earlier text a b some h k less)
    rows-ordered (inr least) (inl less) = absurd (not-earlier text b a other k h less)
    rows-ordered (inr least) (inr most) =
        let length_is : length h.front ≡ length k.front = omega arith in
        let same = same-row text a b some h k length_is in
        let moved = subst (λ (front : List Row). IsRowFault (CanFollow front) k.this (length front + 1) b) (sym same.0) k.wrong in
        one-row-fault (CanFollow h.front) h.this (length h.front + 1) a b some other h.wrong
        (subst (λ (r : Row). IsRowFault (CanFollow h.front) r (length h.front + 1) b) (sym same.1) moved)

    one-refused : a ≡ b
    one-refused = rows-ordered (cases_lt (length h.front) (length k.front)) (cases_lt (length k.front) (length h.front))

-- a text that ends too early has no refused row
cut-not-refused : (text : List ℕ) (row : ℕ) (fault : CsvFault) → (fault ≡ faults.NoMemory → ⊥) → IsCutOff text row → IsRefusedRow text fault → ⊥
cut-not-refused text row fault some h k =
    let (rest, is, others) = reached-first default_config (k.front ++ k.this ∷ []) h.rows st.StartRecord k.read.0 (strip_bom text) k.read.1 k.read.2 h.read in
    no-row-fault k.front k.this (length k.front + 1) fault some
    (can-stand k.front k.this rest (subst MayGoOn (is ∙ append_assoc k.front (k.this ∷ []) rest) h.begins)) k.wrong

one-cut : (text : List ℕ) (i j : ℕ) → IsCutOff text i → IsCutOff text j → i ≡ j
one-cut text i j h k = h.place ∙ ap (λ (rows : List Row). length rows + 1) (reads_one_way text h.rows k.rows h.read k.read) ∙ sym k.place

-- ---- all that can be wrong

abbrev NoHeader : List ℕ → CsvFault → Type 0
NoHeader text fault = HasNoHeader text × (fault ≡ faults.Header)

abbrev Refused : List ℕ → CsvFault → Type 0
Refused text fault = IsRefusedRow text fault × (fault ≡ faults.NoMemory → ⊥)

abbrev CutOff : List ℕ → CsvFault → Type 0
CutOff text fault = (row : ℕ) × IsCutOff text row × (fault ≡ faults.BadRow row)

abbrev Unwritable : List ℕ → CsvFault → Type 0
Unwritable text fault = (reason : EncodeFault) × IsUnwritable text reason × (fault ≡ faults.Encode reason)

abbrev Wrong : List ℕ → CsvFault → Type 0
Wrong text fault = NoHeader text fault ⊎ (Refused text fault ⊎ (CutOff text fault ⊎ Unwritable text fault))

wrong : (text : List ℕ) (fault : CsvFault) → IsWrong text fault → Wrong text fault
wrong text faults.Header h = inl (h.1, refl)
wrong text (faults.BadRow row) (short, inl h) = inr (inl (h, (λ e. cc e)))
wrong text (faults.BadRow row) (short, inr h) = inr (inr (inl (row, h, refl)))
wrong text (faults.BadCell row column) h = inr (inl (h.1, (λ e. cc e)))
wrong text (faults.Encode (encode.TooLong file index)) h = inr (inr (inr (encode.TooLong file index, h, refl)))
wrong text (faults.Encode (encode.ZeroIsSum file)) h = inr (inr (inr (encode.ZeroIsSum file, h, refl)))
wrong text fault h = absurd h

-- nothing is wrong with the rows of files
none-refused : (text : List ℕ) (files : List (FitFile Global)) (fault : CsvFault) → RowsOfText text (chain_rows files) → IsChainOfRows files
    → Refused text fault → ⊥
none-refused text files fault read good h =
    no-row-fault h.0.front h.0.this (length h.0.front + 1) fault h.1 (stands text files read good fault h.0).0 h.0.wrong

module _ (law : ChainsHaveOwnRows) (one : FaultsAreOne Global) (text : List ℕ) where
  one-unwritable : (a b : CsvFault) → Unwritable text a → Unwritable text b → a ≡ b
  one-unwritable a b (reason, (short, (files, are, bad)), e) (again, (short_too, (others, same_text, worse)), f) =
      let same : others ≡ files = same-files text files are.0 are.1 law others same_text.0 same_text.1 in
      let reasons = one files reason again bad (subst (λ (fs : List (FitFile Global)). IsFirstFault fs again) same worse) in
      e ∙ ap faults.Encode reasons ∙ sym f

  one-wrong : (a b : CsvFault) → Wrong text a → Wrong text b → a ≡ b
  one-wrong a b (inl h) (inl k) = h.1 ∙ sym k.1
  one-wrong a b (inl h) (inr (inl k)) = absurd (headed-front text k.0.front k.0.this k.0.read k.0.some k.0.begins h.0)
  one-wrong a b (inl h) (inr (inr (inl k))) = absurd (headed-cut text k.0 k.1 h.0)
  one-wrong a b (inl h) (inr (inr (inr (reason, (short, (files, are, bad)), e)))) = absurd (headed text files are.0 are.1 h.0)
  one-wrong a b (inr (inl h)) (inl k) = absurd (headed-front text h.0.front h.0.this h.0.read h.0.some h.0.begins k.0)
  one-wrong a b (inr (inl h)) (inr (inl k)) = one-refused text a b h.1 k.1 h.0 k.0
  one-wrong a b (inr (inl h)) (inr (inr (inl k))) = absurd (cut-not-refused text k.0 a h.1 k.1 h.0)
  one-wrong a b (inr (inl h)) (inr (inr (inr (reason, (short, (files, are, bad)), e)))) = absurd (none-refused text files a are.0 are.1 h)
  one-wrong a b (inr (inr (inl h))) (inl k) = absurd (headed-cut text h.0 h.1 k.0)
  one-wrong a b (inr (inr (inl h))) (inr (inl k)) = absurd (cut-not-refused text h.0 b k.1 h.1 k.0)
  one-wrong a b (inr (inr (inl h))) (inr (inr (inl k))) = h.2 ∙ ap faults.BadRow (one-cut text h.0 k.0 h.1 k.1) ∙ sym k.2
  one-wrong a b (inr (inr (inl h))) (inr (inr (inr (reason, (short, (files, are, bad)), e)))) = absurd (not-cut text files are.0 are.1 h.0 are.2 h.1)
  one-wrong a b (inr (inr (inr (reason, (short, (files, are, bad)), e)))) (inl k) = absurd (headed text files are.0 are.1 k.0)
  one-wrong a b (inr (inr (inr (reason, (short, (files, are, bad)), e)))) (inr (inl k)) = absurd (none-refused text files b are.0 are.1 k)
  one-wrong a b (inr (inr (inr (reason, (short, (files, are, bad)), e)))) (inr (inr (inl k))) = absurd (not-cut text files are.0 are.1 k.0 are.2 k.1)
  one-wrong a b (inr (inr (inr h))) (inr (inr (inr k))) = one-unwritable a b h k

module _ (law : ChainsHaveOwnRows) (whole : GoodChainsHaveNoFault Global) (text : List ℕ) (files : List (FitFile Global)) (bytes : List ℕ)
    (h : IsTextOf text files bytes) where
  nothing-wrong : (fault : CsvFault) → Wrong text fault → ⊥
  nothing-wrong fault (inl k) = headed text files h.rows (good-files text files bytes h) k.0
  nothing-wrong fault (inr (inl k)) = none-refused text files fault h.rows (good-files text files bytes h) k
  nothing-wrong fault (inr (inr (inl k))) = not-cut text files h.rows (good-files text files bytes h) k.0 h.chain.0.some k.1
  nothing-wrong fault (inr (inr (inr k))) = writable law whole text files bytes k.0 h k.1

pub one-finding : ChainsHaveOwnRows → GoodChainsHaveNoFault Global → FaultsAreOne Global → TextsHaveOneFinding
one-finding law whole one text (Ok a) (Ok b) (files, h) (others, k) = ap Ok (sym (same-bytes law text files others a b h k))
one-finding law whole one text (Ok a) (Err fault) (files, h) k = absurd (nothing-wrong law whole text files a h fault (wrong text fault k))
one-finding law whole one text (Err fault) (Ok b) h (files, k) = absurd (nothing-wrong law whole text files b k fault (wrong text fault h))
one-finding law whole one text (Err a) (Err b) h k = ap Err (one-wrong law one text a b (wrong text a h) (wrong text b k))
