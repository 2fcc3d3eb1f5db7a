-- Speed, distance, cycles and power: what a reader is told of them, and what a message's block says (`docs/BLOCKS.md`).
use Rattle.std.specs.Prelude.{◌≡◌, ◌&&◌, ◌↔◌, Bool, nat_le, if◌then◌else◌, ℕ, zero, suc, List, [], ◌∷◌, length, Option, Some, None, IsSomeAnd, IsTrue}
use Rattle.std.specs.Global.{Global}
use Rattle.fit_record.specs.declared.message.Record.{Record}
use Rattle.fit_record.specs.declared.message.Record.TheVariants.{Define, Values as Data}
use Rattle.fit_record.specs.HeaderByte.{bit}
use Rattle.fit_profile.specs.Told.{told}
use Rattle.fit_profile.specs.declared.told.Told.{Told}
use Rattle.fit_from_messages.specs.Parts.{byte_at, number_read}
use Rattle.fit_writer.specs.Written.{Writing}

-- each where it is told
pub record Amounts : Type 0 where
  pub speed : Option ℕ
  pub distance : Option ℕ
  pub cycles : Option ℕ
  pub power : Option ℕ

abbrev pub no_amounts : Amounts
no_amounts = record { speed = None; distance = None; cycles = None; power = None }

-- ---- what a reader is told

abbrev pub amounts_in : Told → Amounts
amounts_in t = record { speed = t.speed; distance = t.distance; cycles = t.total_cycles; power = t.accumulated_power }

-- of the latest message of a file; none where there is no message
abbrev pub latest_amounts : List (Record Global) → Amounts
latest_amounts [] = no_amounts
latest_amounts (Define d ∷ before) = latest_amounts before
latest_amounts (Data v ∷ before) = amounts_in (told before v)

-- A reader is told these of the message that was put last.
abbrev pub AreLatest : Writing → Amounts → Type 0
AreLatest w a = IsSomeAnd w.current (λ f. latest_amounts f.records ≡ a)

-- ---- what blocks say

-- Messages of this definition have them, by its block.
abbrev pub has_amounts : List ℕ → Bool
has_amounts definition = bit 1 (byte_at 38 definition)

-- the number at a place of a message's block, where a bit of its byte 5 says that there is one
abbrev pub amount_at : ℕ → ℕ → List ℕ → Option ℕ
amount_at k place block = if bit k (byte_at 5 block) then Some (number_read 8 place block) else None

-- those that a message's block says, where messages of its definition have them
abbrev pub amounts_by : Bool → List ℕ → Amounts
amounts_by has block =
    if has && nat_le 72 (length block) then record {
      speed = amount_at 2 40 block;
      distance = amount_at 3 48 block;
      cycles = amount_at 4 56 block;
      power = amount_at 5 64 block;
    } else no_amounts

abbrev pub amounts_said : List ℕ → List ℕ → Amounts
amounts_said definition block = amounts_by (has_amounts definition) block

-- ---- whether they are read as they are said

-- This says whether a reader is told of the message that was put last the amounts that its block says.
abbrev pub IsToldAmounts : Writing → List ℕ → List ℕ → Bool → Type 0
IsToldAmounts w definition block accumulated = (read : Amounts) × AreLatest w read × (IsTrue accumulated ↔ (read ≡ amounts_said definition block))

-- That many first ones of two lists are the same, and the next ones aren't.
abbrev pub SameFirst : List Amounts → List Amounts → ℕ → Type 0
SameFirst [] [] zero = Unit {0}
SameFirst (a ∷ read) (b ∷ said) zero = a ≡ b → ⊥
SameFirst (a ∷ read) (b ∷ said) (suc n) = (a ≡ b) × SameFirst read said n
SameFirst _ _ _ = ⊥
