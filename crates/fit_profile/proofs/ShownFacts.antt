-- What a message shows, by what is kept.
use Rattle.fit_profile.proofs.Common.{◌≡◌, List, Option, Some, None, refl, sym, subst, IsSomeAnd, IsSome, none-some, same_Some, Defined, Values, Record}
use Rattle.fit_profile.proofs.Common.{DataFits, told, namings_at, Shown, meant}

pub not-none : {X : Type 0} (o : Option X) → IsSome o → None ≡ o → ⊥
not-none None h e = cc
not-none (Some x) h e = none-some x e

-- values in a place that is defined show what is meant
pub shown-meant : {A : Type 0} (earlier : List (Record A)) (v : Values A) (o : Option (Defined A)) (s : Shown A) → IsSomeAnd o (DataFits v) → s.values ≡ v
    → Some (record { definition = s.definition; dev_codes = s.dev_codes }) ≡ o → s.namings ≡ namings_at earlier v.local → s.told ≡ told earlier v
    → IsSomeAnd o (λ p. s ≡ meant earlier v p)
shown-meant earlier v None s fits values defined namings told_is = absurd fits
shown-meant {A = A} earlier v (Some p) s fits values defined namings told_is =
    let q : Defined A = record { definition = s.definition; dev_codes = s.dev_codes } in
    let same : q ≡ p = same_Some q p defined in
    λ i. record { values = values i; definition = (same i).definition; dev_codes = (same i).dev_codes; namings = namings i; told = told_is i }

-- a place that fits is defined
pub is-defined : {A : Type 0} (o e : Option (Defined A)) (v : Values A) → IsSomeAnd o (DataFits v) → e ≡ o → IsSome e
is-defined None e v fits same = absurd fits
is-defined (Some p) e v fits same = subst IsSome (sym same) refl
