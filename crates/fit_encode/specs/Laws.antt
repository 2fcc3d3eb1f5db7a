-- What holds of the faults of files.
use Rattle.std.specs.Prelude.{◌≡◌, ◌⊎◌, ◌<◌, ◌^◌, List}
use Rattle.std.specs.List.{AllByRecursion}
use Rattle.fit_record.specs.declared.file.FitFile.{FitFile}
use Rattle.fit_record.specs.Faults.{HasRange}
use Rattle.fit_record.specs.Files.{IsWellFormedChain, chain_limit}
use Rattle.fit_encode.specs.declared.fault.EncodeFault.{EncodeFault}
use Rattle.fit_encode.specs.Faults.{IsFirstFault}

-- Files that can be written as a chain have no fault.
abbrev pub GoodChainsHaveNoFault : Type 0 → Type 0
GoodChainsHaveNoFault A = (fs : List (FitFile A)) (fault : EncodeFault) → IsWellFormedChain chain_limit fs → IsFirstFault fs fault → ⊥

-- Files have one first fault at most.
abbrev pub FaultsAreOne : Type 0 → Type 0
FaultsAreOne A = (fs : List (FitFile A)) (a b : EncodeFault) → IsFirstFault fs a → IsFirstFault fs b → a ≡ b

-- The numbers of a file have the width of their places, as those of a `FitFile` of the code always have.
pub record HasFileRange {A : Type 0} (f : FitFile A) : Type 0 where
  pub size : f.header.size < 2 ^ 8
  pub profile : f.header.profile < 2 ^ 16
  pub records : AllByRecursion HasRange f.records

-- Files can be written as a chain, or they have a first fault.
abbrev pub BadChainsHaveAFault : Type 0 → Type 0
BadChainsHaveAFault A = (fs : List (FitFile A)) → AllByRecursion HasFileRange fs
    → IsWellFormedChain chain_limit fs ⊎ ((fault : EncodeFault) × IsFirstFault fs fault)
