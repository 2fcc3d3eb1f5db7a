-- A definition without developer fields that is in its place already.
use Rattle.fit_record.proofs.Common.{◌≡◌, ℕ, List, [], ◌∷◌, length, map, None, sym, ap, ◌∙◌, arith, MessageDef, Defined, FieldDef, Environment}
use Rattle.fit_record.proofs.Common.{defined_by, dev_code, dev_defs, IsSound, ◌==◌, ◌&&◌, refl}
use Rattle.std.proofs.lemmas.Bool.Decides.{Decides-eqb, Decides-and, Decides-like}
use Rattle.std.specs.Bool.{Decides}

-- what the test of two fields says
pub same_field : (a b : FieldDef) → Decides ((a.number == b.number) && ((a.size == b.size) && (a.code == b.code))) (a ≡ b)
same_field a b =
    Decides-like _ (λ h i. record { number = h.0 i; size = h.1.0 i; code = h.1.1 i })
    (λ e. (ap (λ f. f.number) e, (ap (λ f. f.size) e, ap (λ f. f.code) e)))
    (Decides-and _ _ (Decides-eqb a.number b.number) (Decides-and _ _ (Decides-eqb a.size b.size) (Decides-eqb a.code b.code)))

none_left : (codes : List ℕ) → length codes ≡ 0 → codes ≡ []
none_left [] h = refl
none_left (c ∷ codes) h = absurd (omega arith)

-- Its codes are those that it would have now: none.
pub held_is : {A : Type 0} (e : Environment A) (p : Defined A) (d : MessageDef A) → IsSound p → (p.definition ≡ d) × (d.dev ≡ None) → p ≡ defined_by e d
held_is e p d sound same =
    let count : length p.dev_codes ≡ 0 = sound.codes ∙ ap (λ m. length (dev_defs m.dev)) same.0 ∙ ap (λ o. length (dev_defs o)) same.1 in
    let codes : p.dev_codes ≡ map (dev_code e) (dev_defs d.dev) = none_left p.dev_codes count ∙ sym (ap (λ o. map (dev_code e) (dev_defs o)) same.1) in
    λ i. record { definition = same.0 i; dev_codes = codes i }
