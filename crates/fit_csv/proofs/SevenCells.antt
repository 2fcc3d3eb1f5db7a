-- Rows of seven cells.
use Rattle.fit_csv.proofs.Common.{◌≡◌, ◌∙◌, suc, [], ◌∷◌, length, refl, ap₂, arith, field_at, row}
use Rattle.std.proofs.Common.{ℕ, List, Some}
use Rattle.fit_cells.specs.Rows.{Cell}

one-more : (fields : List (List ℕ)) (n : ℕ) (x : List ℕ) (xs : List (List ℕ)) → length fields ≡ suc n → field_at fields 0 ≡ Some x
    → ((rest : List (List ℕ)) → length rest ≡ n → ((i : ℕ) → field_at rest i ≡ field_at fields (suc i)) → xs ≡ rest) → x ∷ xs ≡ fields
unfolding field_at
one-more [] n x xs l e more = absurd (omega (arith, l))
one-more (f ∷ fields) n x xs l e more = ap₂ (λ y ys. y ∷ ys) (cc e) (more fields (omega (arith, l)) (λ i. refl))

none-left : (fields : List (List ℕ)) → length fields ≡ 0 → [] ≡ fields
none-left [] l = refl
none-left (f ∷ fields) l = absurd (omega (arith, l))

-- a list of seven is that of its places
pub seven-cells : (fields : List (List ℕ)) (a b c d e f g : List ℕ) → length fields ≡ 7 → field_at fields 0 ≡ Some a → field_at fields 1 ≡ Some b
    → field_at fields 2 ≡ Some c
    → field_at fields 3 ≡ Some d → field_at fields 4 ≡ Some e → field_at fields 5 ≡ Some f → field_at fields 6 ≡ Some g
    → a ∷ b ∷ c ∷ d ∷ e ∷ f ∷ g ∷ [] ≡ fields
seven-cells fields a b c d e f g l ea eb ec ed ee ef eg =
    one-more fields 6 a (b ∷ c ∷ d ∷ e ∷ f ∷ g ∷ []) l ea (λ r1 l1 s1.
    one-more r1 5 b (c ∷ d ∷ e ∷ f ∷ g ∷ []) l1 (s1 0 ∙ eb) (λ r2 l2 s2.
    one-more r2 4 c (d ∷ e ∷ f ∷ g ∷ []) l2 (s2 0 ∙ s1 1 ∙ ec) (λ r3 l3 s3.
    one-more r3 3 d (e ∷ f ∷ g ∷ []) l3 (s3 0 ∙ s2 1 ∙ s1 2 ∙ ed) (λ r4 l4 s4.
    one-more r4 2 e (f ∷ g ∷ []) l4 (s4 0 ∙ s3 1 ∙ s2 2 ∙ s1 3 ∙ ee) (λ r5 l5 s5.
    one-more r5 1 f (g ∷ []) l5 (s5 0 ∙ s4 1 ∙ s3 2 ∙ s2 3 ∙ s1 4 ∙ ef) (λ r6 l6 s6.
    one-more r6 0 g [] l6 (s6 0 ∙ s5 1 ∙ s4 2 ∙ s3 3 ∙ s2 4 ∙ s1 5 ∙ eg) (λ r7 l7 s7. none-left r7 l7)))))))

-- rows are the same where their cells are
pub same-cells : {k l a a' b b' c c' d d' e e' f f' : Cell} → k ≡ l → a ≡ a' → b ≡ b' → c ≡ c' → d ≡ d' → e ≡ e' → f ≡ f'
    → row k a b c d e f ≡ row l a' b' c' d' e' f'
same-cells ek ea eb ec ed ee ef = λ i. row (ek i) (ea i) (eb i) (ec i) (ed i) (ee i) (ef i)
