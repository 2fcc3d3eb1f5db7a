-- Memory was refused in the last piece.
use Rattle.fit_decode.proofs.Common.{◌≡◌, ℕ, ◌≤◌, List, ◌++◌, length, take, sym, ap, ◌∙◌, subst, arith, length-append, take-append_seam}
use Rattle.fit_decode.proofs.Common.{chain_limit, piece_size, Event, MayLackMemory, MayLackMemoryIn, WantsMemory}
use Rattle.fit_decode.proofs.Common.{min, Needs, IsInNeededPiece}

-- The last piece had no more bytes than were missing.
pub needed : {A : Type 0} (before piece taken : List ℕ) (n : ℕ) → taken ≡ before ++ piece → Needs A before n → length piece ≤ min n piece_size → (place : ℕ)
    → length before ≤ place → IsInNeededPiece A taken place
needed {A} before piece taken n parts needs short place after = (
  length before,
  after,
  n,
  subst (λ b. Needs A b n) (sym (ap (take (length before)) parts ∙ take-append_seam before piece)) needs,
  omega (arith, ap length parts, length-append before piece, short),
)

-- memory was refused in the last piece, of a chain
pub wants_in_piece : {A : Type 0} (IsKept : Event A → Type 0) (IsNear : List ℕ → ℕ → Type 0) (before piece taken : List ℕ) → taken ≡ before ++ piece
    → ((place : ℕ) → length before ≤ place → IsNear taken place)
    → MayLackMemoryIn A IsKept before piece → WantsMemory A IsKept chain_limit IsNear (length before) taken
wants_in_piece {A} IsKept IsNear before piece taken parts near (place, after, lacks) =
    (place, after, near place after, subst (λ all. MayLackMemory A IsKept chain_limit all place) (sym parts) lacks)

-- at no place before another one that is earlier
pub wants_later : {A : Type 0} (IsKept : Event A → Type 0) (limit : ℕ) (IsNear : List ℕ → ℕ → Type 0) (start first : ℕ) (taken : List ℕ) → first ≤ start
    → WantsMemory A IsKept limit IsNear start taken → WantsMemory A IsKept limit IsNear first taken
wants_later IsKept limit IsNear start first taken before (place, after, near, lacks) = (place, omega (arith, before, after), near, lacks)
