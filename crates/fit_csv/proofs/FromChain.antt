-- What `from_csv` answers where the rows of a text are those of a chain.
use Rattle.fit_csv.proofs.Common.{◌≡◌, ◌∙◌, ◌≤◌, [], ◌∷◌, ◌++◌, length, Result, Err, refl, sym, ap, subst, inl, inr, arith, append_assoc, Global, Appends}
use Rattle.fit_csv.proofs.Common.{Consumes, IsAtEnd, Consumes-whole, default_config, strip_bom, IsBytes, FitFile, chain_bytes, EncodeFault, IsFirstFault}
use Rattle.fit_csv.proofs.Common.{StopsAt, GoodChainsHaveNoFault, chain_rows, Channel, Answers, FromTextOf, IsTextOf, IsUnwritable, ReadsText, CanFollow}
use Rattle.fit_csv.proofs.Common.{HasNoHeader, IsChainOfRows, IsCutOff, IsRefusedRow, ChainsHaveOwnRows, RowsOfText, CsvFault, reached-first, reads_one_way}
use Rattle.std.proofs.Common.{ℕ, ◌<◌, List, Option, Some, None, Ok, length-append}
use Rattle.std.specs.Prelude.{IfSome}
use Rattle.csv.specs.declared.parser.State.TheVariants as st
use Rattle.fit_encode.specs.declared.fault.EncodeFault.TheVariants as encode
use Rattle.fit_csv.specs.declared.fault.CsvFault.TheVariants as faults
use Rattle.fit_csv.proofs.InRange.{chain-of-rows}
use Rattle.fit_csv.proofs.SevenRows.{row-seven}

module _ (text : List ℕ) (fs : List (FitFile Global)) (read : RowsOfText text (chain_rows fs)) (good : IsChainOfRows fs) where
  pub headed : HasNoHeader text → ⊥
  headed (inl none) = let e : [] ≡ chain_rows fs = reads_one_way text [] (chain_rows fs) none read in cc e
  headed (inr (r, (state, left, reached), other)) =
      let (rest, is, others) = reached-first default_config (r ∷ []) (chain_rows fs) st.StartRecord state (strip_bom text) left reached read in
      other (cc is)

  pub stands : (fault : CsvFault) (h : IsRefusedRow text fault) → CanFollow h.front h.this × (length h.this ≡ 7)
  stands fault h =
      let (rest, is, others) = reached-first default_config (h.front ++ h.this ∷ []) (chain_rows fs) st.StartRecord h.read.0 (strip_bom text) h.read.1 h.read.2
      read in
      ((fs, rest, good, is), row-seven fs h.front h.this rest (is ∙ append_assoc h.front (h.this ∷ []) rest))

  no-bad-row : (row : ℕ) → IsRefusedRow text (faults.BadRow row) → ⊥
  no-bad-row row h =
      let (can, seven) = stands (faults.BadRow row) h in
      elim h.wrong.1 [
        | inl short ↦ short seven
        | inr none ↦ none h.this can (inl refl)
      ]

  no-bad-cell : (row column : ℕ) → IsRefusedRow text (faults.BadCell row column) → ⊥
  no-bad-cell row column h = h.wrong.2.bad h.this (stands (faults.BadCell row column) h).0 refl

  pub not-cut : (row : ℕ) → 0 < length fs → IsCutOff text row → ⊥
  not-cut row some h = h.unfinished (fs, good, some, reads_one_way text h.rows (chain_rows fs) h.read read)

  pub same-files : ChainsHaveOwnRows → (files : List (FitFile Global)) → RowsOfText text (chain_rows files) → IsChainOfRows files → files ≡ fs
  same-files law files other_read other_good = law files fs other_good good (reads_one_way text (chain_rows files) (chain_rows fs) other_read read)

pub good-files : (text : List ℕ) (files : List (FitFile Global)) (bytes : List ℕ) → IsTextOf text files bytes → IsChainOfRows files
good-files text files bytes h = chain-of-rows files h.chain.0 (subst IsBytes h.chain.1 h.are_bytes)

pub same-bytes : ChainsHaveOwnRows → (text : List ℕ) (files others : List (FitFile Global)) (bytes other_bytes : List ℕ) → IsTextOf text files bytes
    → IsTextOf text others other_bytes → other_bytes ≡ bytes
same-bytes law text files others bytes other_bytes h k =
    let same = same-files text files h.rows (good-files text files bytes h) law others k.rows (good-files text others other_bytes k) in
    k.chain.1 ∙ ap chain_bytes same ∙ sym h.chain.1

pub writable : ChainsHaveOwnRows → GoodChainsHaveNoFault Global → (text : List ℕ) (files : List (FitFile Global)) (bytes : List ℕ) (fault : EncodeFault)
    → IsTextOf text files bytes → IsUnwritable text fault → ⊥
writable law whole text files bytes fault h (short, (others, (read, good, some), wrong)) =
    let same = same-files text files h.rows (good-files text files bytes h) law others read good in
    whole files fault h.chain.0 (subst (λ fs. IsFirstFault fs fault) same wrong)

-- what the answer says, where the text that was taken is this one
pub of-answer : ChainsHaveOwnRows → GoodChainsHaveNoFault Global → (text : List ℕ) (files : List (FitFile Global)) (bytes : List ℕ) (source sink : Channel)
    (result : Result (Unit {0}) CsvFault) → IsTextOf text files bytes → Answers text source sink result → FromTextOf bytes source sink result
of-answer law whole text files bytes source sink (Ok u) h (out, (others, other_bytes, is, put, works)) =
    (subst (Appends sink.before sink.after) (same-bytes law text files others bytes other_bytes h is) put, works)
of-answer law whole text files bytes source sink (Err faults.Read) h (inl unread) = unread
of-answer law whole text files bytes source sink (Err faults.Read) h (inr long) = let short = h.short in absurd (omega arith)
of-answer law whole text files bytes source sink (Err faults.NoMemory) h good = good
of-answer law whole text files bytes source sink (Err (faults.Write written)) h (out, (others, other_bytes, is, part)) =
    subst (λ b. StopsAt sink.before sink.after sink.failed b written) (same-bytes law text files others bytes other_bytes h is) part
of-answer law whole text files bytes source sink (Err faults.Header) h (out, (short, wrong)) =
    absurd (headed text files h.rows (good-files text files bytes h) wrong)
of-answer law whole text files bytes source sink (Err (faults.BadRow row)) h (out, (short, inl wrong)) =
    absurd (no-bad-row text files h.rows (good-files text files bytes h) row wrong)
of-answer law whole text files bytes source sink (Err (faults.BadRow row)) h (out, (short, inr cut)) =
    absurd (not-cut text files h.rows (good-files text files bytes h) row h.chain.0.some cut)
of-answer law whole text files bytes source sink (Err (faults.BadCell row column)) h (out, (short, wrong)) =
    absurd (no-bad-cell text files h.rows (good-files text files bytes h) row column wrong)
of-answer law whole text files bytes source sink (Err (faults.Encode (encode.TooLong file index))) h (out, wrong) =
    absurd (writable law whole text files bytes (encode.TooLong file index) h wrong)
of-answer law whole text files bytes source sink (Err (faults.Encode (encode.ZeroIsSum file))) h (out, wrong) =
    absurd (writable law whole text files bytes (encode.ZeroIsSum file) h wrong)
of-answer law whole text files bytes source sink (Err fault) h answer = absurd answer.1

-- all that a source had was taken, where it is at its end
taken-all : (before after : Option (List ℕ)) (text taken : List ℕ) → before ≡ Some text → Consumes before after taken → IsAtEnd after → taken ≡ text
taken-all before after text taken input eats end =
    subst (λ (b : Option (List ℕ)). IfSome b (λ t. taken ≡ t)) input (Consumes-whole before after taken (λ t. taken ≡ t) eats end refl)

-- and no more than it had
taken-some : (before after : Option (List ℕ)) (text taken : List ℕ) → before ≡ Some text → Consumes before after taken → length taken ≤ length text
taken-some before None text taken input eats = absurd (subst (λ (b : Option (List ℕ)). Consumes b None taken) input eats)
taken-some before (Some left) text taken input eats =
    let is : text ≡ taken ++ left = subst (λ (b : Option (List ℕ)). Consumes b (Some left) taken) input eats in
    let long = ap length is in
    omega (arith, length-append taken left)

module _ (law : ChainsHaveOwnRows) (whole : GoodChainsHaveNoFault Global) (text : List ℕ) (files : List (FitFile Global)) (bytes : List ℕ)
    (source sink : Channel)
    (input : source.before ≡ Some text) (h : IsTextOf text files bytes) where
  of-whole : (result : Result (Unit {0}) CsvFault) (taken : List ℕ) → Consumes source.before source.after taken → IsAtEnd source.after
      → Answers taken source sink result
      → FromTextOf bytes source sink result
  of-whole result taken eats end answer =
      of-answer law whole text files bytes source sink result h
      (subst (λ (t : List ℕ). Answers t source sink result) (taken-all source.before source.after text taken input eats end) answer)

  pub from-text-of : (result : Result (Unit {0}) CsvFault) → ReadsText source sink result → FromTextOf bytes source sink result
  from-text-of (Err faults.Read) (taken, eats, inl failed) = failed
  from-text-of (Err faults.Read) (taken, eats, inr long) =
      let short = h.short in let some = taken-some source.before source.after text taken input eats in absurd (omega arith)
  from-text-of (Err faults.NoMemory) (taken, eats, good) = good
  from-text-of result (taken, eats, answer) = of-whole result taken eats answer.0.0 answer
