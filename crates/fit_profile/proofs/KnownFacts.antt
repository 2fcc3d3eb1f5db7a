-- What is known after records, and what they name.
use Rattle.fit_profile.proofs.Common.{◌≡◌, ◌∙◌, ◌<◌, ℕ, zero, suc, inl, inr, List, [], ◌∷◌, ◌++◌, length, get_or, reverse, reverse-append}
use Rattle.fit_profile.proofs.Common.{refl, sym, ap, true, false, subst, arith, Option, Some, None, none-some, same_Some, eq-eqb, cases_Bool, cases_lt}
use Rattle.fit_profile.proofs.Common.{MessageDef, Defined, Values, Record, Environment, empty_environment, defined_at, describe, dev_defs, learn, learn_all}
use Rattle.fit_profile.proofs.Common.{Fits, known, namings_at, naming_of}
use Rattle.std.proofs.Common.{◌==◌, replicate, set, append_assoc}
use Rattle.std.proofs.lemmas.Bool.{eqb-true}
use Rattle.std.proofs.lemmas.List.{append-nil, get_or_past, get_or-set_same, get_or-set_other, length-map, length-set}
use Rattle.fit_record.specs.Environment.{defined_by, dev_code}
use Rattle.fit_record.specs.Records.{AllFit}
use Rattle.fit_record.specs.declared.learn.Description.{Description}
use Rattle.fit_record.specs.declared.message.Record.TheVariants.{Define, Values as Data}

nothing-defined : {X : Type 0} (none : X) (n k : ℕ) → get_or (replicate n none) k none ≡ none
nothing-defined none zero k = refl
nothing-defined none (suc n) zero = refl
nothing-defined none (suc n) (suc k) = nothing-defined none n k

same-places : {A : Type 0} (e : Environment A) (s : Option Description) → (describe e s).places ≡ e.places
same-places e None = refl
same-places e (Some s) = refl

-- what a definition has when it comes, and keeps after other records, it has in its place
pub known-has : {A : Type 0} (P : List (Record A) → Defined A → Type 0) (local : ℕ)
    → ((before : List (Record A)) (d : MessageDef A) → (d.local == local) ≡ true → P (Define d ∷ before) (defined_by (known before) d))
    → ((before : List (Record A)) (d : MessageDef A) (p : Defined A) → (d.local == local) ≡ false → P before p → P (Define d ∷ before) p)
    → ((before : List (Record A)) (v : Values A) (p : Defined A) → P before p → P (Data v ∷ before) p)
    → (before : List (Record A)) (p : Defined A) → defined_at (known before) local ≡ Some p → P before p
known-has P local holds keeps stays [] p is =
    let absent : get_or (replicate 16 None) local None ≡ None = nothing-defined None 16 local in absurd (none-some p (sym absent ∙ is))
known-has P local holds keeps stays (Data v ∷ before) p is =
    stays before v p (known-has P local holds keeps stays before p (ap (λ places. get_or places local None) (sym (same-places (known before) _)) ∙ is))
known-has P local holds keeps stays (Define d ∷ before) p is =
    let new = Some (defined_by (known before) d) in
    elim (cases_Bool (d.local == local)) [
      | inl test ↦
          let same : d.local ≡ local = eqb-true d.local local test in
          elim (cases_lt local (length (known before).places)) [
            | inl within ↦
                let here : get_or (set (known before).places d.local (Some (defined_by (known before) d))) local None ≡ Some (defined_by (known before) d) =
                subst (λ k. get_or (set (known before).places k (Some (defined_by (known before) d))) local None ≡ Some (defined_by (known before) d))
                (sym same)
                (get_or-set_same (known before).places local (Some (defined_by (known before) d)) None within) in
                subst (P (Define d ∷ before)) (same_Some (defined_by (known before) d) p (sym here ∙ is)) (holds before d test)
            | inr past ↦
                let absent : get_or (set (known before).places d.local (Some (defined_by (known before) d))) local None ≡ None =
                get_or_past (set (known before).places d.local (Some (defined_by (known before) d))) local None
                (omega (arith, past, length-set (known before).places d.local (Some (defined_by (known before) d)))) in
                absurd (none-some p (sym absent ∙ is))
          ]
      | inr test ↦
          let other : d.local ≡ local → ⊥ = λ e. cc (sym test ∙ eq-eqb d.local local e) in
          keeps before d p test (known-has P local holds keeps stays before p
          (sym (get_or-set_other (known before).places d.local local (Some (defined_by (known before) d)) None (λ e. other (sym e))) ∙ is))
    ]

-- there is a code for each developer field
pub codes-long : {A : Type 0} (before : List (Record A)) (local : ℕ) (p : Defined A) → defined_at (known before) local ≡ Some p
    → length p.dev_codes ≡ length (dev_defs p.definition.dev)
codes-long before local p = known-has (λ _ p. length p.dev_codes ≡ length (dev_defs p.definition.dev)) local
    (λ b d _. length-map (dev_defs d.dev) (dev_code (known b))) (λ b d p _ h. h) (λ b v p h. h) before p

-- there is a naming for each developer field of a definition
pub namings_long : {A : Type 0} (before : List (Record A)) (local : ℕ) (p : Defined A) → defined_at (known before) local ≡ Some p
    → length (namings_at before local) ≡ length (dev_defs p.definition.dev)
namings_long before local p = known-has (λ b p. length (namings_at b local) ≡ length (dev_defs p.definition.dev)) local
    (λ b d same. rw same (length-map (dev_defs d.dev) (λ f. naming_of b f.index f.number))) (λ b d p other h. rw other h) (λ b v p h. h) before p

-- there are sixteen places
places_16 : {A : Type 0} (before : List (Record A)) → length (known before).places ≡ 16
places_16 [] = refl
places_16 (Data v ∷ before) = ap length (same-places (known before) _) ∙ places_16 before
places_16 (Define d ∷ before) = length-set (known before).places d.local (Some (defined_by (known before) d)) ∙ places_16 before

-- a definition that has just come is in its place
pub just_defined : {A : Type 0} (before : List (Record A)) (d : MessageDef A) → d.local < 16
    → defined_at (known (Define d ∷ before)) d.local ≡ Some (defined_by (known before) d)
just_defined before d few = get_or-set_same (known before).places d.local (Some (defined_by (known before) d)) None (omega (arith, few, places_16 before))

-- ---- records one after another

known-more : {A : Type 0} (before records : List (Record A)) → known (reverse records ++ before) ≡ learn_all (known before) records
known-more before [] = refl
known-more before (r ∷ records) =
    ap known (ap (λ b. b ++ before) (reverse-append (r ∷ []) records) ∙ append_assoc (reverse records) (r ∷ []) before) ∙ known-more (r ∷ before) records

-- looking back over records is learning them in their order
pub known_learned : {A : Type 0} (records : List (Record A)) → known (reverse records) ≡ learn_all empty_environment records
known_learned records = ap known (sym (append-nil (reverse records))) ∙ known-more [] records

pub fit-last : {A : Type 0} (e : Environment A) (records : List (Record A)) (r : Record A) → AllFit e records → Fits (learn_all e records) r
    → AllFit e (records ++ r ∷ [])
fit-last e [] r all fits = (fits, tt)
fit-last e (x ∷ records) r all fits = (all.0, fit-last (learn e x) records r all.1 fits)
