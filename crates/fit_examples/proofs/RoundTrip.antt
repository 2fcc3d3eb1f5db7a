-- Why bytes that a file begins aren't read.
use Rattle.fit_examples.proofs.Common.{◌≡◌, true, false, ℕ, List, Err, sym, ◌∙◌, Global, FitFile, GivesFile, LacksMemory}
use Rattle.fit_chain.specs.declared.event.Fault.{Fault}
use Rattle.fit_chain.specs.declared.event.Fault.TheVariants.{NoMemory, Read}
use Rattle.fit_decode.specs.Reads.{Channel}

-- where a file begins the bytes of a source that doesn't fail, only memory can be lacking
pub front_fault : (f : FitFile Global) (n : ℕ) (x : List ℕ) (source : Channel) (fault : Fault) → source.failed ≡ false → GivesFile f n x source (Err fault)
    → LacksMemory fault
front_fault f n x source (NoMemory used) good gives = tt
front_fault f n x source (Read place) good gives = let both : true ≡ false = sym gives.0 ∙ good in absurd cc
front_fault f n x source fault good gives = absurd gives
