-- What is heard when a decoder is fed.
use Rattle.fit_report.proofs.Common.{◌≡◌, ℕ, ◌<◌, List, [], ◌∷◌, ◌++◌, length, take, reverse, Some, None, refl, sym, subst, arith, reverse-append, Answer}
use Rattle.fit_report.proofs.Common.{event_of, Event, header, item, file_end, AreEvents, least_for, quiet_for, hear, Seen, fed}
use Rattle.fit_report.proofs.Common.{◌≤◌, chain_limit, IsViable}
use Rattle.fit_chain.proofs.Lacking.{lacks_for_event}
use Rattle.fit_chain.specs.Memory.{IsAny, MayLackMemoryIn}
use Rattle.fit_chain.specs.Pieces.{Quiet, Least}
use Rattle.fit_chain.specs.declared.event.Event.TheVariants as answers

reverse-cons : {X : Type 0} (x : X) (xs : List X) → reverse (x ∷ xs) ≡ reverse xs ++ x ∷ []
reverse-cons x xs = reverse-append (x ∷ []) xs

-- What the use of that many bytes of a piece told, where nothing is told without an event, and an event by no fewer bytes.
pub record Told {A : Type 0} (bytes piece : List ℕ) (used : ℕ) (answer : Answer A) : Type 0 where
  pub more : event_of answer ≡ None → (used ≡ length piece) × Quiet A bytes piece used
  pub event : (x : Event A) → event_of answer ≡ Some x → (0 < used) × Least A bytes piece used x

module _ {A : Type 0} (bytes piece : List ℕ) (used : ℕ) (heard : List (Event A)) (are : AreEvents bytes (reverse heard)) where
  one : (answer : Answer A) (x : Event A) → event_of answer ≡ Some x → Told bytes piece used answer → AreEvents (bytes ++ take used piece) (reverse (x ∷ heard))
  one answer x is t = subst (AreEvents (bytes ++ take used piece)) (sym (reverse-cons x heard))
      (least_for bytes piece used x (t.event x is).1 (reverse heard) are).0

  pub hears : (answer : Answer A) → Told bytes piece used answer → AreEvents (bytes ++ take used piece) (reverse (hear answer heard))
  hears answers.More t = quiet_for bytes piece used (t.more refl).1 (reverse heard) are used (omega arith)
  hears (answers.Header h n) t = one (answers.Header h n) (header h n) refl t
  hears (answers.Item r) t = one (answers.Item r) (item r) refl t
  hears answers.FileEnd t = one answers.FileEnd file_end refl t

-- what is heard then
pub heard_next : {A : Type 0} (old new : Seen) (piece : List ℕ) (used : ℕ) (heard : List (Event A)) (answer : Answer A) → new ≡ fed old piece used
    → Told old.bytes piece used answer → AreEvents old.bytes (reverse heard) → AreEvents new.bytes (reverse (hear answer heard))
heard_next old new piece used heard answer after told are =
    subst (λ (v : Seen). AreEvents v.bytes (reverse (hear answer heard))) (sym after) (hears old.bytes piece used heard are answer told)

-- Of some bytes some are used.
pub uses_some : {A : Type 0} (bytes piece : List ℕ) (used : ℕ) (answer : Answer A) → Told bytes piece used answer → 0 < length piece → 0 < used
uses_some bytes piece used answers.More t some = omega (arith, (t.more refl).0, some)
uses_some bytes piece used (answers.Header h n) t some = (t.event (header h n) refl).0
uses_some bytes piece used (answers.Item r) t some = (t.event (item r) refl).0
uses_some bytes piece used answers.FileEnd t some = (t.event file_end refl).0

-- An answer that is no event tells nothing.
pub heard_more : {A : Type 0} (old new : Seen) (piece : List ℕ) (used : ℕ) (answer : Answer A) → answer ≡ answers.More → new ≡ fed old piece used
    → Told old.bytes piece used answer → (heard : List (Event A)) → AreEvents old.bytes (reverse heard) → AreEvents new.bytes (reverse heard)
heard_more old new piece used answer none after told heard are =
    heard_next old new piece used heard answers.More after (subst (Told old.bytes piece used) none told) are

-- There was no memory for an event.
pub not_told : {A : Type 0} (old new : Seen) (piece : List ℕ) (used : ℕ) (answer : Answer A) → (answer ≡ answers.More → ⊥) → new ≡ fed old piece used
    → used ≤ length piece → Told old.bytes piece used answer → IsViable A chain_limit new.bytes → MayLackMemoryIn A IsAny old.bytes piece
not_told {A} old new piece used answer some after within told viable =
    let fed_viable = subst (λ (v : Seen). IsViable A chain_limit v.bytes) after viable in
    let at : (x : Event A) → event_of answer ≡ Some x → MayLackMemoryIn A IsAny old.bytes piece = λ x is.
    lacks_for_event IsAny old.bytes piece used x tt (told.event x is).0 within fed_viable (told.event x is).1 in
    go answer some at
  where
    go : (answer : Answer A) → (answer ≡ answers.More → ⊥) → ((x : Event A) → event_of answer ≡ Some x → MayLackMemoryIn A IsAny old.bytes piece)
        → MayLackMemoryIn A IsAny old.bytes piece
    go answers.More some at = absurd (some refl)
    go (answers.Header h n) some at = at (header h n) refl
    go (answers.Item r) some at = at (item r) refl
    go answers.FileEnd some at = at file_end refl
