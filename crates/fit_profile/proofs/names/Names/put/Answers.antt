use Rattle.fit_profile.proofs.Common.{inl, inr, ◌≡◌, ◌∙◌, ◌<◌, ℕ, List, [], length, get_or, sym, ap, cond, cases_eq, eq-eqb, ne_eqb}
use Rattle.std.proofs.Common.{◌==◌}
use Rattle.std.proofs.Math.ListN.{set}
use Rattle.std.proofs.lemmas.List.{get_or-set_other, get_or-set_same}

-- what is put stands at its place, and the others stay
one_put : {X : Type 0} (places : List (List X)) (local l : ℕ) (put : List X) → local < length places
    → get_or (set places local put) l [] ≡ cond (local == l) put (get_or places l [])
one_put places local l put within = elim (cases_eq local l) [
  | inl same ↦ ap (λ i. get_or (set places local put) i []) (sym same) ∙ get_or-set_same places local put [] within
      ∙ sym (ap (λ b. cond b put (get_or places l [])) (eq-eqb local l same))
  | inr other ↦ get_or-set_other places local l put [] (λ e. other (sym e)) ∙ sym (ap (λ b. cond b put (get_or places l [])) (ne_eqb local l other))
]
