-- What is still there where memory was refused for the rest of a text.
use Rattle.fit_numbers.proofs.Common.{◌≡◌, ◌∙◌, ◌++◌, [], ℕ, List, Result, Ok, Err, ap, sym, append_assoc, OnErr, StillBegins}
use Rattle.std.proofs.Common.{append-nil}

-- nothing was put
pub none_put : (old new : List ℕ) → new ≡ old → StillBegins old new
none_put old new same = ([], same ∙ sym (append-nil old))

-- a first part was put
pub part_put : (old mid new x : List ℕ) → mid ≡ old ++ x → new ≡ mid → StillBegins old new
part_put old mid new x put same = (x, same ∙ put)

-- a first part was put, and something after it
pub more_put : (old mid new x : List ℕ) → mid ≡ old ++ x → StillBegins mid new → StillBegins old new
more_put old mid new x put (rest, is) = (x ++ rest, is ∙ ap (λ text. text ++ rest) put ∙ append_assoc old x rest)

-- something was put, and then more
pub last_put : (old mid new x : List ℕ) → StillBegins old mid → new ≡ mid ++ x → StillBegins old new
last_put old mid new x (rest, is) put = (rest ++ x, put ∙ ap (λ text. text ++ x) is ∙ append_assoc old rest x)

-- something was put, and then nothing
pub then_none : (old mid new : List ℕ) → StillBegins old mid → new ≡ mid → StillBegins old new
then_none old mid new (rest, is) same = (rest, same ∙ is)

-- what always holds
pub on_err_always : {T E : Type 0} (r : Result T E) (P : Type 0) → P → OnErr r P
on_err_always (Ok x) P p = tt
on_err_always (Err e) P p = p
