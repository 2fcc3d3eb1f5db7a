-- What is written where a writer of messages finishes.
use Rattle.std.specs.Prelude.{◌≡◌, false, [], None}
use Rattle.std.specs.Io.KnownBytes.{Appends}
use Rattle.fit_record.specs.Files.{IsChain, chain_bytes, chain_limit}
use Rattle.fit_encode.specs.Faults.{StopsAt}
use Rattle.fit_decode.specs.Reads.{Channel}
use Rattle.fit_writer.specs.Written.{EndsFile, Writing}
use Rattle.fit_writer.specs.declared.refusal.FinishFault.{FinishFault}
use Rattle.fit_writer.specs.declared.refusal.FinishFault.TheVariants.{NoFile, NoMemory, Write}

-- The file that had begun has ended, and all files are a chain, whose bytes were put after what the sink held. The sink hasn't failed.
abbrev pub IsFinished : Writing → Writing → Channel → Type 0
IsFinished old new sink =
    EndsFile old new × IsChain chain_limit new.files (chain_bytes new.files) × Appends sink.before sink.after (chain_bytes new.files) × (sink.failed ≡ false)

-- There is no file; or memory was refused, and nothing has changed; or the sink failed after that many bytes of the chain.
abbrev pub IsNotFinished : Writing → Writing → Channel → FinishFault → Type 0
IsNotFinished old new sink NoFile = (old.files ≡ []) × (old.current ≡ None) × (new ≡ old) × (sink.after ≡ sink.before)
IsNotFinished old new sink NoMemory = (new ≡ old) × (sink.after ≡ sink.before)
IsNotFinished old new sink (Write written) =
    EndsFile old new × IsChain chain_limit new.files (chain_bytes new.files) × StopsAt sink.before sink.after sink.failed (chain_bytes new.files) written
