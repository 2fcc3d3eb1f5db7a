-- What is answered where blocks have been read.
use Rattle.std.proofs.Common.{◌≡◌, ◌∙◌, ℕ, false, List, [], ◌∷◌, ◌++◌, refl, sym, ap, subst}
use Rattle.std.specs.Global.{Global}
use Rattle.std.specs.Prelude.{IfErr, OnOk, Result, Ok, Err, Some}
use Rattle.std.specs.Io.KnownBytes.{Appends}
use Rattle.std.specs.List.{AllByRecursion}
use Rattle.fit_encode.proofs.RecordSteps.{fits_between}
use Rattle.fit_encode.specs.Faults.{AtFile, AtRecord, IfWrite, IsFirstFault, StopsAt, UnlessWrite}
use Rattle.fit_encode.specs.Laws.{GoodChainsHaveNoFault}
use Rattle.fit_encode.specs.declared.fault.EncodeFault.{EncodeFault}
use Rattle.fit_encode.specs.declared.fault.EncodeFault.TheVariants.{BadHeader, ChainLength, DeclaredLength, NoMemory, TooLong, Write, ZeroIsSum}
use Rattle.fit_record.specs.Environment.{empty_environment, learn_all}
use Rattle.fit_record.specs.Faults.{first_fault}
use Rattle.fit_record.specs.Files.{IsWellFormedChain, chain_bytes, chain_limit}
use Rattle.fit_record.specs.Laws.{FaultsAreExact}
use Rattle.fit_record.specs.Records.{AllFit}
use Rattle.fit_record.specs.declared.file.FitFile.{FitFile}
use Rattle.fit_record.specs.declared.fits.ShapeFault.{ShapeFault}
use Rattle.fit_report.specs.Reports.{Channel}
use Rattle.fit_from_messages.proofs.OneReading.{says_one, says_or_refused}
use Rattle.fit_from_messages.proofs.ReadChains.{begun_in_chain}
use Rattle.fit_from_messages.specs.FromBlocks.{AreBlocksOf, AreUnwritable, FromBlocks, FromBlocksFault, FromBlocksOf, unwritten_fault}
use Rattle.fit_from_messages.specs.declared.fault.BlocksFault.{BlocksFault}
use Rattle.fit_from_messages.specs.declared.fault.BlocksFault.TheVariants as faults
use Rattle.fit_from_messages.specs.inner.Chains.{AreSaid, IsUnreadBlock, IsSaidFile}

-- ---- files that blocks say

good_between : (front : List (FitFile Global)) (f : FitFile Global) (back : List (FitFile Global)) → AllByRecursion IsSaidFile (front ++ f ∷ back)
    → IsSaidFile f
good_between [] f back h = h.0
good_between (x ∷ front) f back h = good_between front f back h.1

no_shape : FaultsAreExact Global → (f : FitFile Global) (index : ℕ) (s : ShapeFault) → IsSaidFile f
    → AtRecord f.records index (λ e n r. first_fault e r ≡ Some s) → ⊥
no_shape exact f index s good h =
    let fits = fits_between empty_environment h.front h.this h.back (subst (AllFit empty_environment) h.joined good.fit) in
    let none = ((exact (learn_all empty_environment h.front) h.this).0 fits).0 in
    let some = h.holds in
    cc

-- the file that is at fault is one that blocks say
at_fault : (files : List (FitFile Global)) (P : ℕ → FitFile Global → Type 0) → AllByRecursion IsSaidFile files → (h : AtFile files P) → IsSaidFile h.this
at_fault files P good h = good_between h.front h.this h.back (subst (AllByRecursion IsSaidFile) h.joined good)

module _ (exact : FaultsAreExact Global) (blocks : List ℕ) (files : List (FitFile Global)) (are : AreSaid blocks files) (sink : Channel) where
  blocks_of : IsWellFormedChain chain_limit files → AreBlocksOf blocks files (chain_bytes files)
  blocks_of good = record { says = are.says; chain = (good, refl) }

  pub from_blocks : IsWellFormedChain chain_limit files → Appends sink.before sink.after (chain_bytes files) → sink.failed ≡ false → FromBlocks blocks sink
  from_blocks good put works = (files, chain_bytes files, blocks_of good, put, works)

  pub from_fault : (fault : EncodeFault) → UnlessWrite fault (IsFirstFault files fault) → IfWrite fault (λ written. IsWellFormedChain chain_limit files)
      → IfWrite fault (StopsAt sink.before sink.after sink.failed (chain_bytes files)) → FromBlocksFault blocks sink (unwritten_fault fault)
  from_fault NoMemory wrong good stops = begun_in_chain blocks files are.says
  from_fault (Write written) wrong good stops = (files, chain_bytes files, blocks_of good, stops)
  from_fault (TooLong file index) wrong good stops = (files, are.says, wrong)
  from_fault (ZeroIsSum file) wrong good stops = (files, are.says, wrong)
  from_fault ChainLength wrong good stops = absurd (wrong (are.says.some, are.few))
  from_fault (BadHeader file) wrong good stops = absurd (wrong.1.holds.1 (at_fault files _ are.each wrong.1).form)
  from_fault DeclaredLength wrong good stops = absurd (wrong.1.holds.1)
  from_fault fault wrong good stops = absurd (no_shape exact wrong.1.this _ _ (at_fault files _ are.each wrong.1) wrong.1.holds.1.1)

-- ---- blocks that aren't read

pub from_unread : (blocks : List ℕ) (sink : Channel) (fault : BlocksFault) → IsUnreadBlock blocks fault → FromBlocksFault blocks sink fault
from_unread blocks sink (faults.Block number place reason) h = h
from_unread blocks sink faults.NoMemory h = h
from_unread blocks sink fault h = absurd h

-- ---- blocks of a chain

same_bytes : (blocks : List ℕ) (files others : List (FitFile Global)) (bytes other_bytes : List ℕ) → AreBlocksOf blocks files bytes
    → AreBlocksOf blocks others other_bytes → other_bytes ≡ bytes
same_bytes blocks files others bytes other_bytes h k =
    k.chain.1 ∙ ap chain_bytes (says_one blocks others files k.says h.says) ∙ sym h.chain.1

writable : GoodChainsHaveNoFault Global → (blocks : List ℕ) (files : List (FitFile Global)) (bytes : List ℕ) (fault : EncodeFault)
    → AreBlocksOf blocks files bytes → AreUnwritable blocks fault → ⊥
writable good blocks files bytes fault h (others, says, wrong) =
    good files fault h.chain.0 (subst (λ fs. IsFirstFault fs fault) (says_one blocks others files says h.says) wrong)

-- what is answered to the blocks of a chain
pub of_good : (blocks : List ℕ) (files : List (FitFile Global)) (bytes : List ℕ) (sink : Channel) → AreBlocksOf blocks files bytes → FromBlocks blocks sink
    → Appends sink.before sink.after bytes × (sink.failed ≡ false)
of_good blocks files bytes sink h (others, other_bytes, is, put, works) =
    (subst (Appends sink.before sink.after) (same_bytes blocks files others bytes other_bytes h is) put, works)

pub of_fault : GoodChainsHaveNoFault Global → (blocks : List ℕ) (files : List (FitFile Global)) (bytes : List ℕ) (sink : Channel) (fault : BlocksFault)
    → AreBlocksOf blocks files bytes → FromBlocksFault blocks sink fault → FromBlocksOf bytes sink (Err fault)
of_fault good blocks files bytes sink faults.NoMemory h wrong = tt
of_fault good blocks files bytes sink (faults.Write written) h (others, other_bytes, is, part) =
    subst (λ b. StopsAt sink.before sink.after sink.failed b written) (same_bytes blocks files others bytes other_bytes h is) part
of_fault good blocks files bytes sink (faults.Block number place reason) h wrong =
    absurd (says_or_refused blocks files number place reason h.says wrong)
of_fault good blocks files bytes sink (faults.Encode (TooLong file index)) h wrong = absurd (writable good blocks files bytes (TooLong file index) h wrong)
of_fault good blocks files bytes sink (faults.Encode (ZeroIsSum file)) h wrong = absurd (writable good blocks files bytes (ZeroIsSum file) h wrong)
of_fault good blocks files bytes sink fault h wrong = absurd wrong

pub of_result : GoodChainsHaveNoFault Global → (blocks : List ℕ) (files : List (FitFile Global)) (bytes : List ℕ) (sink : Channel)
    (result : Result (Unit {0}) BlocksFault) → AreBlocksOf blocks files bytes → OnOk result (FromBlocks blocks sink)
    → IfErr result (FromBlocksFault blocks sink) → FromBlocksOf bytes sink result
of_result good blocks files bytes sink (Ok u) h ok wrong = of_good blocks files bytes sink h ok
of_result good blocks files bytes sink (Err fault) h ok wrong = of_fault good blocks files bytes sink fault h wrong
