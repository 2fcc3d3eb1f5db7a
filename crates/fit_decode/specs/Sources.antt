-- What clauses see of a source.
use Rattle.std.specs.Prelude.{ℕ, Bool, List, Option}

-- of a source over a reader: the bytes that are left, where the reader tells them, and whether a call failed
pub record Told : Type 0 where
  pub left : Option (List ℕ)
  pub failed : Bool

-- of a cut source: the bytes that are left, and whether a call failed
pub record Cut : Type 0 where
  pub left : List ℕ
  pub failed : Bool
