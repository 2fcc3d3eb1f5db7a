-- What is fed at first, and that each piece takes some of the rest.
use Rattle.fit_examples.proofs.Common.{◌≡◌, ◌<◌, ◌≤◌, ℕ, List, [], length, Option, Some, None, false, refl, sym, subst, arith, Global, Seen, Feeds, Event}
use Rattle.std.proofs.Common.{◌==◌, drop, zero, suc}
use Rattle.std.proofs.lemmas.List.{length-drop}
use Rattle.std.proofs.lemmas.Bool.{true≢false}
use Rattle.fit_decode.proofs.FileRead.{nothing_viable}

pub feeds_first : (upload : List ℕ) (seen : Seen) → seen ≡ record { bytes = []; refusal = None } → Feeds upload seen upload
feeds_first upload seen is =
    subst (λ (s : Seen). Feeds upload s upload) (sym is) (record { joined = refl; fresh = refl; viable = nothing_viable Global })

not_none : (n : ℕ) → (n == 0) ≡ false → 0 < n
not_none zero e = absurd (true≢false e)
not_none (suc n) e = omega arith

some_used : (event : Option (Event Global)) (used n : ℕ) → (event ≡ None → used ≡ n) → ((x : Event Global) → event ≡ Some x → 0 < used) → 0 < n → 0 < used
some_used None used n all some long = omega (arith, all refl, long)
some_used (Some x) used n all some long = some x refl

-- less is left
pub less_left : (event : Option (Event Global)) (used : ℕ) (rest : List ℕ) → used ≤ length rest → (event ≡ None → used ≡ length rest)
    → ((x : Event Global) → event ≡ Some x → 0 < used) → (length rest == 0) ≡ false → length (drop used rest) < length rest
less_left event used rest within all some left =
    omega (arith, length-drop used rest, within, some_used event used (length rest) all some (not_none (length rest) left))
