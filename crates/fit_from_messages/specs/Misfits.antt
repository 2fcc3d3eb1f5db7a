-- Why a block isn't taken.
use Rattle.std.specs.Prelude.{◌≡◌, Bool, false, Option, Some}
use Rattle.fit_from_messages.specs.declared.fault.BlockReason.{BlockReason}
use Rattle.fit_from_messages.specs.declared.misfit.Misfit.{Misfit}
use Rattle.fit_from_messages.specs.declared.misfit.Misfit.TheVariants.{Block, NoMemory}

-- It can't stand there, and this is the first reason; or memory was refused.
abbrev pub IsMisfitBlock : Option BlockReason → Misfit → Type 0
IsMisfitBlock first (Block why) = first ≡ Some why
IsMisfitBlock first NoMemory = Unit {0}

-- The reason is this one, and the test fails that rules it out; or memory was refused.
abbrev pub FailsBy : BlockReason → Bool → Misfit → Type 0
FailsBy reason test (Block why) = (why ≡ reason) × (test ≡ false)
FailsBy reason test NoMemory = Unit {0}
