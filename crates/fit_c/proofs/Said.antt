-- What follows from a status.
use Rattle.fit_c.proofs.Common.{◌≡◌, ℕ, List, Result, Ok, Err, inl, inr, refl, ◌⊎◌, IfErr, IfOk, Global, BlocksFault, CsvFault}
use Rattle.fit_c.proofs.Common.{blocks_answer, check_answer, conversion_answer, fault_answer}
use Rattle.fit_chain.specs.declared.event.Fault.{Fault}
use Rattle.fit_chain.specs.Checks.{AreChain, AreFiles, LacksMemory}
use Rattle.fit_chain.specs.declared.event.Fault.TheVariants as faults
use Rattle.fit_csv.specs.declared.fault.CsvFault.TheVariants as csv
use Rattle.fit_from_messages.specs.declared.fault.BlocksFault.TheVariants as blocks

-- ---- a fault never has status 0

fault_bad : (fault : Fault) → (fault_answer fault).status ≡ 0 → ⊥
fault_bad (faults.Refused place reason) zero = absurd cc
fault_bad (faults.Truncated place) zero = absurd cc
fault_bad (faults.NoMemory used) zero = absurd cc
fault_bad (faults.Read place) zero = absurd cc

pub conversion_bad : (fault : CsvFault) → (conversion_answer {X = Unit {0}} (Err fault)).status ≡ 0 → ⊥
conversion_bad (csv.Decode fault) zero = fault_bad fault zero
conversion_bad csv.Header zero = absurd cc
conversion_bad (csv.BadRow row) zero = absurd cc
conversion_bad (csv.BadCell row column) zero = absurd cc
conversion_bad (csv.Encode fault) zero = absurd cc
conversion_bad csv.NoMemory zero = absurd cc
conversion_bad csv.Read zero = absurd cc
conversion_bad (csv.Write written) zero = absurd cc

pub blocks_bad : (fault : BlocksFault) → (blocks_answer {X = Unit {0}} (Err fault)).status ≡ 0 → ⊥
blocks_bad (blocks.Block number place reason) zero = absurd cc
blocks_bad (blocks.Encode fault) zero = absurd cc
blocks_bad blocks.NoMemory zero = absurd cc
blocks_bad (blocks.Write written) zero = absurd cc

-- ---- so status 0 is that of a chain

pub check_good : (bytes : List ℕ) (r : Result ℕ Fault) → IfOk r (AreFiles bytes) → (check_answer r).status ≡ 0 → AreChain Global bytes
check_good bytes (Ok count) (files, chain, number) zero = (files, chain)
check_good bytes (Err fault) are zero = absurd (fault_bad fault zero)

-- ---- the statuses of a chain

pub chain_checked : (r : Result ℕ Fault) → IfErr r LacksMemory → ((check_answer r).status ≡ 0) ⊎ ((check_answer r).status ≡ 3)
chain_checked (Ok count) want = inl refl
chain_checked (Err (faults.NoMemory used)) want = inr refl
chain_checked (Err (faults.Refused place reason)) want = absurd want
chain_checked (Err (faults.Truncated place)) want = absurd want
chain_checked (Err (faults.Read place)) want = absurd want
