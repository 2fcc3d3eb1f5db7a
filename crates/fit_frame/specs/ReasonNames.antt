-- The names of the reasons.
use Rattle.std.specs.Prelude.{ℕ, List, codes}
use Rattle.fit_frame.specs.declared.reason.Reason.{Reason}
use Rattle.fit_frame.specs.declared.reason.Reason.TheVariants.{HeaderSize, Protocol, NoFit, Signature, HeaderSum, ReservedBit, UndefinedLocal, Overrun}
use Rattle.fit_frame.specs.declared.reason.Reason.TheVariants.{Architecture, FileSum, TooManyFiles}

-- the name of a reason, as the program prints it
abbrev pub reason_name : Reason → List ℕ
reason_name HeaderSize = codes "HeaderSize"
reason_name Protocol = codes "Protocol"
reason_name NoFit = codes "NoFit"
reason_name Signature = codes "Signature"
reason_name HeaderSum = codes "HeaderSum"
reason_name ReservedBit = codes "ReservedBit"
reason_name UndefinedLocal = codes "UndefinedLocal"
reason_name Overrun = codes "Overrun"
reason_name Architecture = codes "Architecture"
reason_name FileSum = codes "FileSum"
reason_name TooManyFiles = codes "TooManyFiles"
