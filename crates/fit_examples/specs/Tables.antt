-- Why there is no table.
use Rattle.std.specs.Prelude.{ℕ, List}
use Rattle.fit_chain.specs.declared.event.Fault.TheVariants as faults
use Rattle.fit_chain.specs.Checks.{IsFaultOf}
use Rattle.fit_csv.specs.declared.fault.CsvFault.{CsvFault}
use Rattle.fit_csv.specs.declared.fault.CsvFault.TheVariants.{Decode, NoMemory, Write}

-- Memory was refused, or there was none for the text.
abbrev pub CsvLacksMemory : CsvFault → Type 0
CsvLacksMemory NoMemory = Unit {0}
CsvLacksMemory (Write written) = Unit {0}
CsvLacksMemory _ = ⊥

-- The byte at a place is the first one with which these bytes begin no chain of files; or they begin one, and are none; or memory
-- was refused.
abbrev pub IsTableFault : List ℕ → CsvFault → Type 0
IsTableFault bytes (Decode (faults.NoMemory used)) = ⊥
IsTableFault bytes (Decode fault) = IsFaultOf bytes fault
IsTableFault bytes NoMemory = Unit {0}
IsTableFault bytes (Write written) = Unit {0}
IsTableFault bytes _ = ⊥
