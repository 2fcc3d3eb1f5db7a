-- Why files that rows gave aren't written.
use Rattle.fit_csv.proofs.Common.{◌≡◌, ◌≤◌, ◌^◌, false, [], ◌∷◌, ◌++◌, length, Result, Err, refl, subst, inl, inr, Global, AllByRecursion, Appends, FitFile}
use Rattle.fit_csv.proofs.Common.{empty_environment, learn_all, IsWellFormedChain, chain_bytes, chain_limit, AllFit, EncodeFault, AtFile, AtRecord}
use Rattle.fit_csv.proofs.Common.{IfWrite, IsFirstFault, StopsAt, UnlessWrite, Channel, CsvFault, Answers, FromText, IsReadOut, IsTextOf, ReadsText, read_out}
use Rattle.fit_csv.proofs.Common.{written_fault, AreFilesOf, IsFileOfRows, IsReadFault, IsTextFault}
use Rattle.std.proofs.Common.{ℕ, List, Some, Ok}
use Rattle.fit_record.specs.declared.fits.ShapeFault.{ShapeFault}
use Rattle.fit_record.specs.Faults.{first_fault}
use Rattle.fit_record.specs.Laws.{FaultsAreExact}
use Rattle.fit_encode.specs.declared.fault.EncodeFault.TheVariants.{BadHeader, ChainLength, DeclaredLength, NoMemory, TooLong}
use Rattle.fit_encode.specs.declared.fault.EncodeFault.TheVariants.{Write, ZeroIsSum}
use Rattle.fit_csv.specs.declared.fault.CsvFault.TheVariants as faults
use Rattle.fit_csv.proofs.InRange.{chain-bytes}
use Rattle.fit_encode.proofs.RecordSteps.{fits_between}

good-between : (front : List (FitFile Global)) (f : FitFile Global) (back : List (FitFile Global)) → AllByRecursion IsFileOfRows (front ++ f ∷ back)
    → IsFileOfRows f
good-between [] f back h = h.0
good-between (x ∷ front) f back h = good-between front f back h.1

no-shape : FaultsAreExact Global → (f : FitFile Global) (index : ℕ) (s : ShapeFault) → IsFileOfRows f
    → AtRecord f.records index (λ e n r. first_fault e r ≡ Some s) → ⊥
no-shape exact f index s good h =
    let fits = fits_between empty_environment h.front h.this h.back (subst (AllFit empty_environment) h.joined good.records) in
    let none = ((exact (learn_all empty_environment h.front) h.this).0 fits).0 in
    let some = h.holds in
    cc

-- the file that is at fault is one that rows can give
at-fault : (files : List (FitFile Global)) (P : ℕ → FitFile Global → Type 0) → AllByRecursion IsFileOfRows files → (h : AtFile files P) → IsFileOfRows h.this
at-fault files P good h = good-between h.front h.this h.back (subst (AllByRecursion IsFileOfRows) h.joined good)

module _ (exact : FaultsAreExact Global) (text : List ℕ) (files : List (FitFile Global)) (short : length text ≤ 2 ^ 62) (are : AreFilesOf text files)
    (source sink : Channel) (out : IsReadOut source) where
  text-of : IsWellFormedChain chain_limit files → IsTextOf text files (chain_bytes files)
  text-of good = record { short = short; rows = are.0; are_bytes = chain-bytes files are.1; chain = (good, refl) }

  pub from-text : IsWellFormedChain chain_limit files → Appends sink.before sink.after (chain_bytes files) → sink.failed ≡ false
      → IsReadOut source × FromText text sink
  from-text good put works = (out, (files, chain_bytes files, text-of good, put, works))

  pub from-fault : (fault : EncodeFault) → UnlessWrite fault (IsFirstFault files fault) → IfWrite fault (λ written. IsWellFormedChain chain_limit files)
      → IfWrite fault (StopsAt sink.before sink.after sink.failed (chain_bytes files)) → Answers text source sink (Err (written_fault fault))
  from-fault NoMemory wrong good stops = out.1
  from-fault (Write written) wrong good stops = (out, (files, chain_bytes files, text-of good, stops))
  from-fault (TooLong file index) wrong good stops = (out, (short, (files, are, wrong)))
  from-fault (ZeroIsSum file) wrong good stops = (out, (short, (files, are, wrong)))
  from-fault ChainLength wrong good stops = absurd (wrong (are.2, are.1.0))
  from-fault (BadHeader file) wrong good stops = absurd (wrong.1.holds.1 (at-fault files _ are.1.1 wrong.1).header.form)
  from-fault DeclaredLength wrong good stops = absurd (wrong.1.holds.1)
  from-fault fault wrong good stops = absurd (no-shape exact wrong.1.this _ _ (at-fault files _ are.1.1 wrong.1) wrong.1.holds.1.1)

-- the source gave no whole text
pub from-unread : (source sink : Channel) (fault : CsvFault) → IsReadFault source.before source.after source.failed fault → ReadsText source sink (Err fault)
from-unread source sink faults.Read h = h
from-unread source sink faults.NoMemory h = h
from-unread source sink fault h = absurd h.2

-- a source gave a whole text, of which this was answered
pub from-answers : (text : List ℕ) (source sink : Channel) (result : Result (Unit {0}) CsvFault) → IsReadOut source
    → Answers text (read_out text) sink result → Answers text source sink result
from-answers text source sink (Ok u) out h = (out, h.1)
from-answers text source sink (Err faults.Read) out (inl failed) = cc
from-answers text source sink (Err faults.Read) out (inr long) = inr long
from-answers text source sink (Err faults.NoMemory) out h = out.1
from-answers text source sink (Err fault) out h = (out, h.1)

-- its rows aren't those of files
pub from-judged : (text : List ℕ) (source sink : Channel) (fault : CsvFault) → length text ≤ 2 ^ 62 → IsReadOut source → IsTextFault text fault
    → Answers text source sink (Err fault)
from-judged text source sink faults.Header short out h = (out, (short, h))
from-judged text source sink (faults.BadRow row) short out h = (out, (short, h))
from-judged text source sink (faults.BadCell row column) short out h = (out, (short, h))
from-judged text source sink faults.NoMemory short out h = out.1
from-judged text source sink fault short out h = absurd h
