-- What an encoder keeps while its file isn't finished and no sink has failed.
use Rattle.std.specs.Prelude.{◌≡◌, ℕ, ◌<◌, ◌≤◌, ◌^◌, List, [], ◌++◌, length}
use Rattle.fit_record.specs.declared.message.Record.{Record}
use Rattle.fit_record.specs.Environment.{Environment, empty_environment, learn_all}
use Rattle.fit_record.specs.Records.{AllFit, records_bytes}
use Rattle.fit_encode.specs.inner.Sending.{Sending}

pub record IsOpenFile {A : Type 0} (env : Environment A) (out : Sending) (declared size count : ℕ) (head : List ℕ) (records : List (Record A)) : Type 0 where
  pub known : env ≡ learn_all empty_environment records
  pub fit : AllFit empty_environment records
  pub sent : out.sent ≡ head ++ records_bytes empty_environment records
  pub held : out.held ≡ []
  pub total : out.count ≡ length (head ++ records_bytes empty_environment records)
  pub data_size : size ≡ length (records_bytes empty_environment records)
  pub within : size ≤ declared
  pub small : declared < 2 ^ 32
  pub place : count ≡ length records
  pub few : length records ≤ length (records_bytes empty_environment records)
  pub short : length head < 256
