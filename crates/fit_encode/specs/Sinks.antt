-- What clauses see of a sink.
use Rattle.std.specs.Prelude.{ℕ, Bool, List, Option}

-- of a sink: the bytes that it holds, where it tells them, and whether a call failed
pub record Written : Type 0 where
  pub held : Option (List ℕ)
  pub failed : Bool

-- of a cut sink: the bytes that it holds, how many more it takes, and whether a call failed
pub record Kept : Type 0 where
  pub held : List ℕ
  pub room : ℕ
  pub failed : Bool
