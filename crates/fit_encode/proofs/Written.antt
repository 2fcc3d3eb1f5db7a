-- One write after another.
use Rattle.fit_encode.proofs.Common.{ℕ, List, ◌++◌, take, drop, Some, None, ap, ◌∙◌, append_assoc, Appends}
use Rattle.std.proofs.Common.{◌+◌, Option}
use Rattle.std.proofs.Math.Seq.{take-add}

pub Appends-on : (a b c : Option (List ℕ)) (p q : List ℕ) → Appends a b p → Appends b c q → Appends a c (p ++ q)
Appends-on None b c p q h g = tt
Appends-on (Some x) None c p q h g = absurd h
Appends-on (Some x) (Some y) None p q h g = absurd g
Appends-on (Some x) (Some y) (Some z) p q h g = g ∙ ap (λ (t : List ℕ). t ++ q) h ∙ append_assoc x p q

pub Appends-more : (a b c : Option (List ℕ)) (bytes : List ℕ) (w n : ℕ) → Appends a b (take w bytes) → Appends b c (take n (drop w bytes))
    → Appends a c (take (w + n) bytes)
Appends-more a b c bytes w n h g = rw (take-add w n bytes) (Appends-on a b c (take w bytes) (take n (drop w bytes)) h g)
