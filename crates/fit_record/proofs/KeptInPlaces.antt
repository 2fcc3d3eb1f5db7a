-- What is kept stays so as places are filled.
use Rattle.fit_record.proofs.Common.{◌≡◌, ℕ, zero, suc, List, [], ◌∷◌, length, set, get_or, arith, Some, None, IfSome, Defined, IsKept, MayBeKept, AreKept}
use Rattle.fit_record.proofs.Common.{IsSound, replicate, Option}

pub kept_none : (A : Type 0) (n m local : ℕ) → MayBeKept {A = A} (get_or (replicate n None) local None) m
kept_none A (suc n) m (suc local) = kept_none A n m local
kept_none A _ m _ = tt

pub kept_set : {A : Type 0} (places : List (Option (Defined A))) (lengths : List ℕ) (local : ℕ) (p : Defined A) (n : ℕ) → length places ≡ length lengths
    → AreKept places lengths → IsKept p n → AreKept (set places local (Some p)) (set lengths local n)
kept_set [] lengths local p n e k s i = tt
kept_set (q ∷ places) [] local p n e k s i = absurd (omega arith)
kept_set (q ∷ places) (m ∷ lengths) zero p n e k s zero = s
kept_set (q ∷ places) (m ∷ lengths) zero p n e k s (suc i) = k (suc i)
kept_set (q ∷ places) (m ∷ lengths) (suc local) p n e k s zero = k zero
kept_set (q ∷ places) (m ∷ lengths) (suc local) p n e k s (suc i) = kept_set places lengths local p n (omega arith) (λ j. k (suc j)) s i

pub sound_of : {A : Type 0} (o : Option (Defined A)) (n : ℕ) → MayBeKept o n → IfSome o IsSound
sound_of None n h = tt
sound_of (Some p) n h = h.sound
