-- A chain of at most one file is a file.
use Rattle.fit_record.proofs.Common.{◌≡◌, ℕ, List, [], ◌∷◌, refl, sym, ◌∙◌, subst, arith, lit<, lit≤, append-nil, FitFile, file_bytes, IsFile, IsChain}
use Rattle.fit_record.proofs.Common.{ChainOfOne}

one_of_chain : {A : Type 0} (fs : List (FitFile A)) (bytes : List ℕ) → IsChain 1 fs bytes → (f : FitFile A) × (fs ≡ f ∷ []) × IsFile f bytes
one_of_chain [] bytes c = let some = c.0.some in absurd (omega (arith, some))
one_of_chain (f ∷ []) bytes c = (f, refl, (c.0.each.0, c.1 ∙ append-nil (file_bytes f)))
one_of_chain (f ∷ g ∷ fs) bytes c = let within = c.0.within in absurd (omega (arith, within))

chain_of_file : {A : Type 0} (f : FitFile A) (bytes : List ℕ) → IsFile f bytes → IsChain 1 (f ∷ []) bytes
chain_of_file f bytes w = (record { some = lit< tt; within = lit≤ tt; each = (w.0, tt) }, w.1 ∙ sym (append-nil (file_bytes f)))

pub chain_of_one : {A : Type 0} → ChainOfOne A
chain_of_one fs bytes = (
  (λ c. one_of_chain fs bytes c),
  (λ w. subst (λ gs. IsChain 1 gs bytes) (sym w.1) (chain_of_file w.0 bytes w.2)),
)
