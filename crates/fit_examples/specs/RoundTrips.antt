-- Why a file isn't written and read back.
use Rattle.fit_encode.specs.declared.fault.EncodeFault.{EncodeFault}
use Rattle.fit_encode.specs.declared.fault.EncodeFault.TheVariants.{NoMemory, Write}

-- Memory was refused, or there was none for the bytes.
abbrev pub EncodeLacksMemory : EncodeFault → Type 0
EncodeLacksMemory NoMemory = Unit {0}
EncodeLacksMemory (Write written) = Unit {0}
EncodeLacksMemory _ = ⊥
