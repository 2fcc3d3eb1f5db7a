-- What begins a chain and has no whole file in it begins a file.
use Rattle.fit_chain.proofs.Common.{ℕ, ◌<◌, ◌≤◌, List, [], arith, IsBytes, IsViable, Progress, at_header, HasCome, files_begun}
use Rattle.fit_chain.proofs.ViableGoesOn.{viable_goes}
use Rattle.fit_chain.proofs.Completions.{goes_viable}

one_at_most : {A : Type 0} (g : Progress A) → files_begun {A = A} [] g ≤ 1
one_at_most (at_header []) = omega arith
one_at_most g = omega arith

pub other_limit : {A : Type 0} (limit other : ℕ) (g : Progress A) (bytes : List ℕ) → HasCome [] g bytes → IsBytes bytes → 0 < other → IsViable A limit bytes
    → IsViable A other bytes
other_limit limit other g bytes come are some viable =
    let goes = viable_goes limit [] g bytes come viable in
    goes_viable other [] g bytes come are (some, omega (arith, one_at_most g, some), goes.2)
