-- Bytes taken one after another.
use Rattle.fit_decode.proofs.Common.{ℕ, List, [], ◌++◌, Some, None, refl, sym, ap, ◌∙◌, append_assoc, Consumes, Keeps}
use Rattle.std.proofs.Common.{Option}

pub Consumes-nothing : (a : Option (List ℕ)) → Consumes a a []
Consumes-nothing None = tt
Consumes-nothing (Some x) = refl

pub Consumes-append : (a b c : Option (List ℕ)) (p q : List ℕ) → Consumes a b p → Consumes b c q → Consumes a c (p ++ q)
Consumes-append None b c p q h g = tt
Consumes-append (Some x) None c p q h g = absurd h
Consumes-append (Some x) (Some y) None p q h g = absurd g
Consumes-append (Some x) (Some y) (Some z) p q h g = h ∙ ap (λ (t : List ℕ). p ++ t) g ∙ sym (append_assoc p q z)

pub Consumes-keeps : (a b : Option (List ℕ)) → Keeps a b → Consumes a b []
Consumes-keeps None b h = tt
Consumes-keeps (Some x) None h = absurd h
Consumes-keeps (Some x) (Some y) h = sym h
