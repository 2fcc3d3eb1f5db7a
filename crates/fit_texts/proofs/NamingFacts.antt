-- There is a naming for each developer field of a definition.
use Rattle.fit_texts.proofs.Common.{◌≡◌, length, length-map, Defined, Record, defined_at, dev_defs, namings_at, naming_of, known}
use Rattle.std.proofs.Common.{ℕ, List, Some}
use Rattle.fit_profile.proofs.KnownFacts.{known-has}

pub namings_long : {A : Type 0} (before : List (Record A)) (local : ℕ) (p : Defined A) → defined_at (known before) local ≡ Some p
    → length (namings_at before local) ≡ length (dev_defs p.definition.dev)
namings_long before local p = known-has (λ b p. length (namings_at b local) ≡ length (dev_defs p.definition.dev)) local
    (λ b d same. rw same (length-map (dev_defs d.dev) (λ f. naming_of b f.index f.number))) (λ b d p other h. rw other h) (λ b v p h. h) before p
