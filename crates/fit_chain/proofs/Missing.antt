-- A reader may take the bytes that are missing: they are some, and no file ends before the last of them.
use Rattle.fit_chain.proofs.Common.{Bool, true, false, ℕ, zero, suc, ◌+◌, ◌-◌, ◌<◌, List, [], ◌∷◌, ◌++◌, length, subst, ◌∙◌, arith, length-append}
use Rattle.fit_chain.proofs.Common.{if◌then◌else◌, append-nil, FitFile, Environment, empty_environment, learn_all, records_bytes, chain_bytes, chain_limit}
use Rattle.fit_chain.proofs.Common.{IsChain, IsViable, Progress, at_header, at_data, IsPartial, HasCome, DataGoesOn, missing, Needs, Ended, NoSooner}
use Rattle.std.specs.Prelude.{nat_lt}
use Rattle.fit_chain.proofs.ViableGoesOn.{viable_goes}
use Rattle.fit_chain.proofs.NoSooner.{no_sooner}
use Rattle.fit_chain.proofs.OnePlace.{one_place}

-- files and one more are a chain
pub ended_chain : {A : Type 0} (files : List (FitFile A)) (f : FitFile A) (bytes : List ℕ) → Ended files f bytes
    → IsChain (length (files ++ f ∷ [])) (files ++ f ∷ []) bytes
ended_chain files f bytes ended = (
  record { some = omega (arith, length-append files (f ∷ [])); within = omega arith; each = ended.files },
  ended.spelled ∙ append-nil (chain_bytes (files ++ f ∷ [])),
)

-- a file's end comes with the last of the bytes that are missing, or later
pub needs_no_sooner : {A : Type 0} (bytes : List ℕ) (n : ℕ) (files : List (FitFile A)) (g : Progress A) → Needs A bytes n → HasCome files g bytes
    → NoSooner files bytes n
needs_no_sooner {A} bytes n files g needs come = λ f more ended.
    let one = one_place files needs.files g needs.progress bytes come needs.come in
    let fs : List (FitFile A) = needs.files ++ f ∷ [] in
    let same : Ended needs.files f (bytes ++ more) = subst (λ gs. Ended gs f (bytes ++ more)) one.0 ended in
    let least = no_sooner (length fs) needs.files fs needs.progress bytes more needs.come (ended_chain needs.files f (bytes ++ more) same)
    (omega (arith, length-append needs.files (f ∷ []))) in
    omega (arith, needs.is, least)

-- ---- something is missing

before_a_file : (b : Bool) → 0 < (if b then 14 else 1)
before_a_file true = omega arith
before_a_file false = omega arith

part_fits : {A : Type 0} (e : Environment A) (room : ℕ) (sum part : List ℕ) → IsPartial e room part → DataGoesOn e room sum part → length part < room + 2
part_fits e zero sum part open_ goes = open_
part_fits e (suc room) sum part open_ goes = omega (arith, goes.5)

some_missing : {A : Type 0} (files : List (FitFile A)) (g : Progress A) (bytes : List ℕ) → HasCome files g bytes → IsViable A chain_limit bytes
    → 0 < missing (length files) g
some_missing files (at_header []) bytes come viable = before_a_file (nat_lt (length files) chain_limit)
some_missing files (at_header (size ∷ front)) bytes come viable = omega arith
some_missing files (at_data h n records part) bytes come viable =
    let goes = viable_goes chain_limit files (at_data h n records part) bytes come viable in
    let fits = part_fits (learn_all empty_environment records) (n - length (records_bytes empty_environment records)) _ part come.next.3 goes.2 in
    omega (arith, fits, come.next.2)

pub needs_some : {A : Type 0} (bytes : List ℕ) (n : ℕ) → Needs A bytes n → IsViable A chain_limit bytes → 0 < n
needs_some bytes n needs viable = omega (arith, needs.is, some_missing needs.files needs.progress bytes needs.come viable)
