-- Fields of a message, taken one after another, and their texts.
use Rattle.fit_shown.proofs.Common.{◌≡◌, ◌∙◌, ◌≤◌, ◌+◌, ◌++◌, ◌∷◌, [], length, map, drop, get_or, refl, sym, ap, subst, arith, add-one, zip, Items, Global}
use Rattle.fit_shown.proofs.Common.{FieldDef, FrameText, HasFields, TakesField, TakesFields}
use Rattle.std.proofs.Common.{◌<◌, ℕ, List}
use Rattle.std.proofs.Math.Seq.{drop-cons}
use Rattle.std.proofs.lemmas.List.{drop_all}

-- what is known of a field to take its items
abbrev pub shape : FrameText → ℕ × ℕ
shape f = (f.code, f.size)

abbrev pub field_shape : FieldDef → ℕ × ℕ
field_shape f = (f.code, f.size)

abbrev pub KnowsItems : Type 0 → Type 1
KnowsItems S = S → List (ℕ × ℕ) → List (Items Global) → Type 0

-- what is left from a place on
pub cut_or : {X : Type 0} (xs : List X) (k : ℕ) (d : X) → k < length xs → drop k xs ≡ get_or xs k d ∷ drop (k + 1) xs
cut_or xs k d within = drop-cons xs k d within ∙ ap (λ n. get_or xs k d ∷ drop n xs) (sym (add-one k))

pub cut_at : {X : Type 0} (xs : List X) (k : ℕ) (x : X) → k < length xs → x ≡ get_or xs k x → drop k xs ≡ x ∷ drop (k + 1) xs
cut_at xs k x within is = cut_or xs k x within ∙ ap (λ y. y ∷ drop (k + 1) xs) (sym is)

-- the text of fields one after another, by their items
abbrev pub TextOf : Type 0 → Type 0
TextOf F = List F → List (Items Global) → List ℕ

-- The texts of the first of these fields, that many, were put after a text; those of the others will make the text whole.
abbrev pub Taken : {F S : Type 0} → (F → ℕ × ℕ) → TextOf F → KnowsItems S → List F → S → S → List ℕ → List ℕ → ℕ → Type 0
Taken shape texts has frames from now start text k = (more : List (ℕ × ℕ)) (all : List (Items Global)) → has from (map shape frames ++ more) all
    → (rest : List (Items Global)) × has now (map shape (drop k frames) ++ more) rest
    × (text ++ texts (drop k frames) rest ≡ start ++ texts frames all)
    × (drop (length (map shape (drop k frames))) rest ≡ drop (length (map shape frames)) all)
    × (length (map shape (drop k frames)) ≤ length rest → length (map shape frames) ≤ length all)

module _ {F S : Type 0} (shape : F → ℕ × ℕ) (texts : TextOf F) (has : KnowsItems S) (frames : List F) (from : S) (start : List ℕ) where
  pub taken_none : Taken shape texts has frames from from start start 0
  taken_none = λ more all h. (all, h, refl, refl, λ le. le)

  module _ (now : S) (text : List ℕ) (k : ℕ) (before : Taken shape texts has frames from now start text k) where
    pub taken_next : (f : F) → k < length frames → f ≡ get_or frames k f → HasFields has from (map shape frames) → HasFields has now (shape f ∷ [])
    taken_next f within is have =
        let b = before have.0 have.1 have.2 in
        (map shape (drop (k + 1) frames) ++ have.0, b.0, subst (λ fs. has now (map shape fs ++ have.0) b.0) (cut_at frames k f within is) b.1)

    -- one field more, by what its text makes of the text before it
    pub taken_more : (after : List ℕ → F → Items Global → List ℕ)
        → ((t : List ℕ) (f : F) (fs : List F) (i : Items Global) (is : List (Items Global)) → after t f i ++ texts fs is ≡ t ++ texts (f ∷ fs) (i ∷ is))
        → (next : S) (longer : List ℕ) (f : F) → k < length frames → f ≡ get_or frames k f
        → TakesField has now next (shape f) (λ i. longer ≡ after text f i) → Taken shape texts has frames from next start longer (k + 1)
    taken_more after glue next longer f within is takes = λ more all h.
        let fs = drop (k + 1) frames in
        let cut = cut_at frames k f within is in
        let b = before more all h in
        let t = takes (map shape fs ++ more) b.0 (subst (λ gs. has now (map shape gs ++ more) b.0) cut b.1) in (
          t.1,
          t.3,
          ap (λ u. u ++ texts fs t.1) t.4 ∙ glue text f fs t.0 t.1 ∙ ap (λ is. text ++ texts (f ∷ fs) is) (sym t.2)
              ∙ ap (λ gs. text ++ texts gs b.0) (sym cut) ∙ b.2,
          ap (λ is. drop (length (map shape (f ∷ fs))) is) (sym t.2) ∙ ap (λ gs. drop (length (map shape gs)) b.0) (sym cut) ∙ b.3,
          λ le. b.4 (omega (arith, le, ap (λ gs. length (map shape gs)) cut, ap length t.2)),
        )

    pub taken_all : (end : List ℕ) → ((is : List (Items Global)) → texts [] is ≡ end) → length frames ≤ k
        → TakesFields has from now (map shape frames) (λ all. text ++ end ≡ start ++ texts frames all)
    taken_all end ends over = λ more all h.
        let b = before more all h in
        let none = drop_all k frames over in (
          b.4 (omega (arith, ap (λ fs. length (map shape fs)) none)),
          subst (λ is. has now more is) (ap (λ fs. drop (length (map shape fs)) b.0) (sym none) ∙ b.3)
              (subst (λ fs. has now (map shape fs ++ more) b.0) none b.1),
          ap (λ u. text ++ u) (sym (ends b.0)) ∙ ap (λ fs. text ++ texts fs b.0) (sym none) ∙ b.2,
        )

-- ---- in rows

-- other items after those of the fields don't count
pub zip_front : {X Y : Type 0} (xs : List X) (ys more : List Y) → length ys ≡ length xs → zip xs (ys ++ more) ≡ zip xs ys
zip_front [] ys more long = refl
zip_front (x ∷ xs) [] more long = absurd (omega (arith, long))
zip_front (x ∷ xs) (y ∷ ys) more long = ap (λ zs. (x, y) ∷ zs) (zip_front xs ys more (omega (arith, long)))
