-- A data message at the front of bytes, and whether it is a field description.
use Rattle.fit_step.proofs.Common.{◌≡◌, ◌++◌, ◌+◌, ◌≤◌, ◌<◌, ℕ, zero, suc, arith, List, length, take, drop, sym, subst}
use Rattle.fit_step.proofs.Common.{Some, Option, option_map, IfSome, IsSomeAnd}
use Rattle.fit_step.proofs.Common.{Data, Defined, Values, Environment, defined_at, IsRecord, HasMessage}
use Rattle.fit_record.specs.declared.message_bytes.MessageBytes.{MessageBytes}
use Rattle.fit_record.specs.MessageBytes.{message_in}
use Rattle.std.proofs.lemmas.List.{take-append-drop}

-- by its definition
module _ {A : Type 0} (e : Environment A) (v : Values A) (p : Defined A) (known : defined_at e v.local ≡ Some p) where
  pub stands_there : (size : ℕ) (piece : List ℕ) → (p.definition.global ≡ 206 → ⊥) → size ≤ length piece → IsRecord e (Data v) (take size piece)
      → HasMessage e piece size
  stands_there size piece plain within is =
      (v, within, is, subst (λ (o : Option (Defined A)). IfSome (option_map (λ q. q.definition) o) (λ d. d.global ≡ 206 → ⊥)) (sym known) plain)

  pub describes_nothing_of : IfSome (option_map (λ q. q.definition) (defined_at e v.local)) (λ d. d.global ≡ 206 → ⊥) → p.definition.global ≡ 206 → ⊥
  describes_nothing_of plain =
      subst (λ (o : Option (Defined A)). IfSome (option_map (λ q. q.definition) o) (λ d. d.global ≡ 206 → ⊥)) known plain

-- where one stands in the bytes it is found
pub message_found : {A : Type 0} (e : Environment A) (piece : List ℕ) (size : ℕ) (o : Option (MessageBytes A)) (has : HasMessage e piece size)
    → ((v : Values A) (front rest : List ℕ) → piece ≡ front ++ rest → IsRecord e (Data v) front
    → IsSomeAnd o (λ m. (message_in m ≡ v) × (1 + length m.body.now ≡ length front)))
    → IsSomeAnd o (λ m. (message_in m ≡ has.0) × (1 + length m.body.now ≡ length (take size piece)))
message_found e piece size o (v, within, is, plain) found = found v (take size piece) (drop size piece) (sym (take-append-drop size piece)) is

-- it has its record header at least
pub has_some : {A : Type 0} (e : Environment A) (piece : List ℕ) (size : ℕ) → HasMessage e piece size → 0 < size
has_some e piece zero (v, within, is, plain) = absurd (let none = is.1 in cc)
has_some e piece (suc size) has = omega arith
