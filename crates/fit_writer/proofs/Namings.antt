-- Names and units of developer fields.
use Rattle.std.proofs.Common.{◌≡◌, ◌∙◌, ℕ, zero, suc, ◌+◌, ◌<◌, List, [], ◌∷◌, length, map, take, drop, refl, sym, ap, ap₂, subst, arith, add-one}
use Rattle.std.specs.Prelude.{Option}
use Rattle.fit_profile.specs.Described.{Naming}
use Rattle.std.proofs.lemmas.List.{length-map}
use Rattle.fit_from_messages.specs.Parts.{entries_of, number_read}
use Rattle.fit_writer.specs.Reading.{entry_naming}
use Rattle.fit_writer.specs.inner.Forms.{HasNaming}

-- what is at a place of two lists
named_there : (t n : Naming) → t.name ≡ n.name → t.unit ≡ n.unit → t ≡ n
named_there t n name unit = ap₂ (λ (a b : Option (List ℕ)). record { name = a; unit = b }) name unit

-- One more naming is that of its entry, where the one at the place has that name and unit.
one_more : (namings others : List Naming) (n : ℕ) (x : Naming) (rest : List Naming) → n < length namings → drop n others ≡ x ∷ rest
    → take n namings ≡ take n others → HasNaming namings n x → take (suc n) namings ≡ take (suc n) others
one_more [] others n x rest less is first has = absurd (omega (arith, less))
one_more (t ∷ namings) [] zero x rest less is first has = cc
one_more (t ∷ namings) [] (suc n) x rest less is first has = cc
one_more (t ∷ namings) (o ∷ others) zero x rest less is first has =
    let same : o ≡ x = cc in
    ap (λ a. a ∷ []) (named_there t x has.0 has.1 ∙ sym same)
one_more (t ∷ namings) (o ∷ others) (suc n) x rest less is first has =
    let heads : t ≡ o = cc in
    let tails : take n namings ≡ take n others = cc in
    ap₂ (λ (a : Naming) (b : List Naming). a ∷ b) heads (one_more namings others n x rest (omega (arith, less)) is tails has)

-- where the lists are the same, each naming is that of its entry
has_all : (namings others : List Naming) (n : ℕ) (x : Naming) (rest : List Naming) → drop n others ≡ x ∷ rest → namings ≡ others → HasNaming namings n x
has_all namings others n x rest is same =
    subst (λ (ns : List Naming). HasNaming ns n x) (sym same) (go others n is)
  where
    go : (os : List Naming) (n : ℕ) → drop n os ≡ x ∷ rest → HasNaming os n x
    go [] zero is = cc
    go [] (suc n) is = cc
    go (o ∷ os) zero is = let same : o ≡ x = cc in (ap (λ (t : Naming). t.name) same, ap (λ (t : Naming). t.unit) same)
    go (o ∷ os) (suc n) is = go os n is

-- ---- a walk over entries

drop_map : (n : ℕ) (es : List (List ℕ)) → drop n (map entry_naming es) ≡ map entry_naming (drop n es)
drop_map zero es = refl
drop_map (suc n) [] = refl
drop_map (suc n) (e ∷ es) = drop_map n es

drop_after : {X : Type 0} (n : ℕ) (xs ys : List X) (x : X) → drop n xs ≡ x ∷ ys → drop (suc n) xs ≡ ys
drop_after zero [] ys x is = cc
drop_after zero (y ∷ xs) ys x is = cc
drop_after (suc n) [] ys x is = cc
drop_after (suc n) (y ∷ xs) ys x is = drop_after n xs ys x is

pub drop_next : {X : Type 0} (n : ℕ) (xs ys : List X) (x : X) → drop n xs ≡ x ∷ ys → drop (n + 1) xs ≡ ys
drop_next n xs ys x is = rw (add-one n) (drop_after n xs ys x is)

pub named_next : (namings : List Naming) (all others : List (List ℕ)) (n : ℕ) (entry : List ℕ) → n < length namings → drop n all ≡ entry ∷ others
    → take n namings ≡ take n (map entry_naming all) → HasNaming namings n (entry_naming entry) → take (n + 1) namings ≡ take (n + 1) (map entry_naming all)
named_next namings all others n entry less is first has =
    rw (add-one n)
    (one_more namings (map entry_naming all) n (entry_naming entry) (map entry_naming others) less (drop_map n all ∙ ap (map entry_naming) is) first has)

pub not_named : (namings : List Naming) (all others : List (List ℕ)) (n : ℕ) (entry : List ℕ) → drop n all ≡ entry ∷ others
    → (HasNaming namings n (entry_naming entry) → ⊥) → namings ≡ map entry_naming all → ⊥
not_named namings all others n entry is never same =
    never (has_all namings (map entry_naming all) n (entry_naming entry) (map entry_naming others) (drop_map n all ∙ ap (map entry_naming) is) same)

take_whole : {X : Type 0} (xs : List X) (n : ℕ) → length xs ≡ n → take n xs ≡ xs
take_whole [] zero is = refl
take_whole [] (suc n) is = refl
take_whole (x ∷ xs) zero is = absurd (omega (arith, is))
take_whole (x ∷ xs) (suc n) is = ap (λ ys. x ∷ ys) (take_whole xs n (omega (arith, is)))

pub many_entries : (n : ℕ) (bytes : List ℕ) → length (entries_of n bytes) ≡ n
many_entries zero bytes = refl
many_entries (suc n) bytes = ap suc (many_entries n (drop (number_read 2 0 bytes) bytes))

pub all_named : (namings : List Naming) (all : List (List ℕ)) (n : ℕ) → length namings ≡ n → length all ≡ n
    → take n namings ≡ take n (map entry_naming all) → namings ≡ map entry_naming all
all_named namings all n long many first =
    sym (take_whole namings n long) ∙ first ∙ take_whole (map entry_naming all) n (length-map all entry_naming ∙ many)
