-- A data message that the reporter takes in by its bytes.
use Rattle.std.proofs.Common.{◌≡◌, ◌∙◌, ◌+◌, ◌≤◌, ◌∷◌, ℕ, List, length, take, ap₂, arith}
use Rattle.std.proofs.lemmas.List.{length-take-le}
use Rattle.std.specs.Global.{Global}
use Rattle.std.specs.Prelude.{Some}
use Rattle.fit_base.proofs.ByteLists.{IsBytes-take}
use Rattle.fit_base.specs.Numbers.{IsBytes}
use Rattle.fit_record.specs.Environment.{defined_at}
use Rattle.fit_record.specs.Records.{DataFits, IsRecord, message_size}
use Rattle.fit_record.specs.declared.environment.Defined.{Defined}
use Rattle.fit_record.specs.declared.message.Record.{Record}
use Rattle.fit_record.specs.declared.message.Record.TheVariants.{Values as Data}
use Rattle.fit_record.specs.declared.message.Values.{Values}
use Rattle.fit_profile.proofs.TakenMessages.{still_defined}
use Rattle.fit_profile.specs.Looks.{known}
use Rattle.fit_profile.specs.Taken.{IsTaken}
use Rattle.fit_profile.specs.Told.{told}
use Rattle.fit_profile.specs.declared.message_bytes.Taken.{Taken}
use Rattle.fit_messages.specs.declared.bytes.EventPlace.{EventPlace}
use Rattle.fit_messages.specs.declared.message.Head.{Head}
use Rattle.fit_messages.specs.inner.Heads.{IsHeadOf}
use Rattle.fit_messages.proofs.MessageFacts.{placed, read_again}

-- what stands before its items
abbrev pub head_of : EventPlace → ℕ → Taken → Head
head_of place number t = record { place = place; number = number; local = t.local; offset = t.offset; counts = t.may_count; told = t.told }

-- It is of this definition, which the stream has before it and after it.
pub record IsOf (before stream : List (Record Global)) (v : Values Global) (t : Taken) (size : ℕ) (p : Defined Global) : Type 0 where
  pub before_it : defined_at (known before) v.local ≡ Some p
  pub after_it : defined_at (known stream) t.local ≡ Some p
  pub said : IsTaken (told before v) v p.definition t
  pub long : size ≡ 1 + message_size p

pub is_of : (before stream : List (Record Global)) (v : Values Global) (t : Taken) (piece : List ℕ) (size : ℕ) → IsBytes piece → size ≤ length piece
    → IsRecord (known before) (Data v) (take size piece) → stream ≡ Data v ∷ before
    → ((p : Defined Global) → defined_at (known before) v.local ≡ Some p → IsTaken (told before v) v p.definition t)
    → (p : Defined Global) × IsOf before stream v t size p
is_of before stream v t piece size are within is taken says =
    let found = placed (defined_at (known before) v.local) (DataFits v) is.0 in
    let p = found.0 in
    let said = says p found.1 in
    let own = read_again (known before) p v (take size piece) found.1 (IsBytes-take size piece are) is in (
      p,
      record {
        before_it = found.1;
        after_it = ap₂ (λ xs l. defined_at (known xs) l) taken said.local ∙ still_defined before v ∙ found.1;
        said = said;
        long = omega (arith, own.1, length-take-le size piece within);
      },
    )

pub is_head : (before : List (Record Global)) (v : Values Global) (p : Defined Global) (place : EventPlace) (number : ℕ) (t : Taken)
    → IsTaken (told before v) v p.definition t → IsHeadOf before v p (head_of place number t)
is_head before v p place number t said = record { local = said.local; offset = said.offset; counts = said.counts; told = said.told }
