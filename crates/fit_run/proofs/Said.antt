-- What the program says of a finding.
use Rattle.fit_run.proofs.Common.{◌≡◌, ℕ, ◌<◌, Bool, true, List, Option, Ok, Err, Result, take, length, inl, inr, OnOk, OnErr, Appends}
use Rattle.fit_run.proofs.Common.{PutsOrFails}
use Rattle.std.proofs.Common.{IfErr}

-- what `put_all` did, in one word
pub Puts-all : (r : Result (Unit {0}) ℕ) (a b : Option (List ℕ)) (failed : Bool) (bytes : List ℕ) → OnOk r (Appends a b bytes) → IfErr r (λ n. n < length bytes)
    → IfErr r (λ n. Appends a b (take n bytes)) → OnErr r (failed ≡ true) → PutsOrFails (record { before = a; after = b; failed = failed }) bytes
Puts-all (Ok x) a b failed bytes ok some part bad = inl ok
Puts-all (Err n) a b failed bytes ok some part bad = inr (bad, n, some, part)
