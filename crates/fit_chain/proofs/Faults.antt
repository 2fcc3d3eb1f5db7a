-- What is wrong with bytes that are all in memory, by what there is of them.
use Rattle.fit_chain.proofs.Common.{◌≡◌, ℕ, suc, ◌+◌, ◌<◌, List, [], ◌∷◌, ◌++◌, length, take, drop, get_or, Result, Ok, Err, sym, ap, ◌∙◌, subst, append_assoc}
use Rattle.fit_chain.proofs.Common.{length-append, arith, IfErr, append-nil, get_or-append-add, take-append-drop, drop-cons, take-append-add, IsBytes, Reason}
use Rattle.fit_chain.proofs.Common.{IsChain, IsViable, chain_bytes, chain_limit, at_header, HasCome, IsRefused, MayTakeMemory}
use Rattle.std.specs.declared.alloc.Global.{Global}
use Rattle.fit_chain.specs.declared.event.Fault.{Fault}
use Rattle.fit_chain.specs.declared.event.Fault.TheVariants.{Refused, Truncated, NoMemory, Read}
use Rattle.fit_chain.specs.Checks.{AreChain, IsFaultOf, LacksMemory, LacksMemoryAt}
use Rattle.fit_chain.proofs.Whole.{unfinished}

-- ---- where bytes were refused

pub refused_in : (front rest : List ℕ) (used place : ℕ) (reason : Reason) → place ≡ length front + used → used < length rest
    → IsRefused Global chain_limit (front ++ take used rest) (get_or rest used 0) reason → IsFaultOf (front ++ rest) (Refused place reason)
refused_in front rest used place reason is within why = (
  omega (arith, length-append front rest),
  subst (λ bytes. IsRefused Global chain_limit bytes (get_or (front ++ rest) place 0) reason)
      (sym (take-append-add front rest used) ∙ ap (λ n. take n (front ++ rest)) (sym is))
      (subst (λ b. IsRefused Global chain_limit (front ++ take used rest) b reason)
      (sym (get_or-append-add front rest used 0) ∙ ap (λ n. get_or (front ++ rest) n 0) (sym is)) why),
)

-- where memory was refused
pub wants_in : (front rest : List ℕ) (used place : ℕ) → place ≡ length front + used → used < length rest
    → IsViable Global chain_limit (front ++ take (used + 1) rest) → MayTakeMemory Global (front ++ take used rest) (get_or rest used 0)
    → LacksMemoryAt (front ++ rest) (NoMemory place)
wants_in front rest used place is within viable takes = (
  omega (arith, length-append front rest),
  subst (IsViable Global chain_limit)
      (sym (take-append-add front rest (used + 1)) ∙ ap (λ n. take n (front ++ rest)) (omega (arith, is))) viable,
  subst (λ bytes. MayTakeMemory Global bytes (get_or (front ++ rest) place 0))
      (sym (take-append-add front rest used) ∙ ap (λ n. take n (front ++ rest)) (sym is))
      (subst (MayTakeMemory Global (front ++ take used rest))
      (sym (get_or-append-add front rest used 0) ∙ ap (λ n. get_or (front ++ rest) n 0) (sym is)) takes),
)

-- ---- chains

at_place : (bytes : List ℕ) (place : ℕ) → place < length bytes → (take place bytes ++ get_or bytes place 0 ∷ []) ++ drop (suc place) bytes ≡ bytes
at_place bytes place within =
    append_assoc (take place bytes) (get_or bytes place 0 ∷ []) (drop (suc place) bytes)
    ∙ ap (λ t. take place bytes ++ t) (sym (drop-cons bytes place 0 within)) ∙ take-append-drop place bytes

pub fault_of_chain : (bytes : List ℕ) (fault : Fault) → IsBytes bytes → IsFaultOf bytes fault → AreChain Global bytes → LacksMemory fault
fault_of_chain bytes (Refused place reason) are (within, why) (files, chain) =
    let all = sym (at_place bytes place within) in
    absurd (why.refused (drop (suc place) bytes, files, subst IsBytes all are, subst (IsChain chain_limit files) all chain))
fault_of_chain bytes (Truncated place) are (end, viable, none) chain = absurd (none chain)
fault_of_chain bytes (NoMemory used) are begins chain = tt
fault_of_chain bytes (Read place) are fault chain = fault

pub chain_end : {X : Type 0} (upload : List ℕ) (result : Result X Fault) → IsBytes upload → IfErr result (IsFaultOf upload) → AreChain Global upload
    → IfErr result LacksMemory
chain_end upload (Ok x) are fault chain = tt
chain_end upload (Err fault) are is chain = fault_of_chain upload fault are is chain

-- all files of a chain have come, and nothing of a next one
pub chain_come : {A : Type 0} (bytes : List ℕ) (chain : AreChain A bytes) → HasCome chain.0 (at_header []) bytes
chain_come {A} bytes chain = record {
  files = chain.1.0.each;
  next = unfinished A [] (λ h n rest fits is. cc);
  spelled =
      chain.1.1 ∙ sym (append-nil (chain_bytes chain.0));
}
