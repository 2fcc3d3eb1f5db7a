-- Developer fields that are described one after another.
use Rattle.std.proofs.Common.{◌≡◌, ℕ, inl, inr, List, [], ◌∷◌, ◌++◌, append_assoc, length, refl, sym, subst, arith}
use Rattle.std.specs.Global.{Global}
use Rattle.std.specs.List.{AllByRecursion}
use Rattle.std.specs.Prelude.{◌⊎◌, zip}
use Rattle.fit_record.specs.declared.definition.DevDef.{DevDef}
use Rattle.fit_record.specs.declared.message.Record.{Record}
use Rattle.fit_profile.specs.Described.{Naming}
use Rattle.fit_writer.proofs.DescribedAfter.{description_says, index_stays}
use Rattle.fit_writer.specs.Describing.{AddsIndex, CanBeSaid, DescribesEach, DescribesField, DescribesSome, DevField, IsAlike, IsDescribedField}
use Rattle.fit_writer.specs.Written.{AreDescribed}
use Rattle.fit_writer.specs.inner.Describing.{AreDescribable}

-- ---- one developer field

index_leaves : (s t : List (Record Global)) (index : ℕ) (x : DevField) → AddsIndex s t index → IsDescribedField s x → IsDescribedField t x
index_leaves s t index x (inl (has, same)) h = subst (λ (rs : List (Record Global)). IsDescribedField rs x) (sym same) h
index_leaves s t index x (inr (none, added)) h = index_stays s t 14 index x added h

-- What was described stays so, unless a developer field of its index and number is to have something else.
step_keeps : (s t : List (Record Global)) (y x : DevField) → DescribesField s t y → (IsDescribedField s y ⊎ CanBeSaid y.1) → IsAlike y x → IsDescribedField s x
    → IsDescribedField t x
step_keeps s t y x (inl (was, same)) can alike h = subst (λ (rs : List (Record Global)). IsDescribedField rs x) (sym same) h
step_keeps s t y x (inr (never, mid, index, added)) (inl was) alike h = absurd (never was)
step_keeps s t y x (inr (never, mid, index, added)) (inr said) alike h =
    description_says mid t 15 y x added said alike (inl (index_leaves s mid y.0.index x index h))

step_says : (s t : List (Record Global)) (y : DevField) → DescribesField s t y → (IsDescribedField s y ⊎ CanBeSaid y.1) → IsDescribedField t y
step_says s t y (inl (was, same)) can = subst (λ (rs : List (Record Global)). IsDescribedField rs y) (sym same) was
step_says s t y (inr (never, mid, index, added)) (inl was) = absurd (never was)
step_says s t y (inr (never, mid, index, added)) (inr said) =
    description_says mid t 15 y y added said (λ _ _. refl) (inr (refl, refl))

-- ---- all of them

abbrev CanBeDescribedEach : List (Record Global) → List DevField → Type 0
CanBeDescribedEach s xs = AllByRecursion (λ x. IsDescribedField s x ⊎ CanBeSaid x.1) xs

can_step : (s t : List (Record Global)) (y : DevField) (xs : List DevField) → DescribesField s t y → (IsDescribedField s y ⊎ CanBeSaid y.1)
    → AllByRecursion (IsAlike y) xs → CanBeDescribedEach s xs → CanBeDescribedEach t xs
can_step s t y [] does can alike all = tt
can_step s t y (x ∷ xs) does can alike all = (one all.0, can_step s t y xs does can alike.1 all.1)
  where
    one : IsDescribedField s x ⊎ CanBeSaid x.1 → IsDescribedField t x ⊎ CanBeSaid x.1
    one (inl was) = inl (step_keeps s t y x does can alike.0 was)
    one (inr said) = inr said

-- each field to each that comes later
abbrev AreAlike : List DevField → Type 0
AreAlike [] = Unit {0}
AreAlike (x ∷ xs) = AllByRecursion (IsAlike x) xs × AreAlike xs

pub each_keeps : (s t : List (Record Global)) (xs : List DevField) (y : DevField) → DescribesEach s t xs → CanBeDescribedEach s xs → AreAlike xs
    → AllByRecursion (λ x. IsAlike x y) xs → IsDescribedField s y → IsDescribedField t y
each_keeps s t [] y same all alike to h = subst (λ (rs : List (Record Global)). IsDescribedField rs y) (sym same) h
each_keeps s t (x ∷ xs) y (mid, does, rest) all alike to h =
    each_keeps mid t xs y rest (can_step s mid x xs does all.0 alike.0 all.1) alike.1 to.1 (step_keeps s mid x y does all.0 to.0 h)

turned_alike : (x : DevField) (xs : List DevField) → AllByRecursion (IsAlike x) xs → AllByRecursion (λ y. IsAlike y x) xs
turned_alike x [] all = tt
turned_alike x (y ∷ xs) all = (λ index number. sym (all.0 (sym index) (sym number)), turned_alike x xs all.1)

all_described : (s t : List (Record Global)) (xs : List DevField) → DescribesEach s t xs → CanBeDescribedEach s xs → AreAlike xs
    → AllByRecursion (IsDescribedField t) xs
all_described s t [] same all alike = tt
all_described s t (x ∷ xs) (mid, does, rest) all alike =
    let can : CanBeDescribedEach mid xs = can_step s mid x xs does all.0 alike.0 all.1 in (
      each_keeps mid t xs x rest can alike.1 (turned_alike x xs alike.0) (step_says s mid x does all.0),
      all_described mid t xs rest can alike.1,
    )

-- ---- lists with all in them

pub all_parts : {X : Type 0} (P : X → Type 0) (xs ys : List X) → AllByRecursion P (xs ++ ys) → AllByRecursion P xs × AllByRecursion P ys
all_parts P [] ys all = (tt, all)
all_parts P (x ∷ xs) ys all = let rest = all_parts P xs ys all.1 in ((all.0, rest.0), rest.1)

weaker : {X : Type 0} (P Q : X → Type 0) (xs : List X) → ((x : X) → P x → Q x) → AllByRecursion P xs → AllByRecursion Q xs
weaker P Q [] to all = tt
weaker P Q (x ∷ xs) to all = (to x all.0, weaker P Q xs to all.1)

-- each field to each of all, and so to those that come later
are_alike : (before xs : List DevField) → AllByRecursion (λ x. AllByRecursion (IsAlike x) (before ++ xs)) xs → AreAlike xs
are_alike before [] all = tt
are_alike before (x ∷ xs) all = (
  (all_parts (IsAlike x) before (x ∷ xs) all.0).1.1,
  are_alike (before ++ x ∷ []) xs (subst (λ (ys : List DevField). AllByRecursion (λ z. AllByRecursion (IsAlike z) ys) xs) (sym (append_assoc before
      (x ∷ []) xs)) all.1),
)

can_each : (s : List (Record Global)) (xs : List DevField) → AreDescribable s xs → CanBeDescribedEach s xs
can_each s xs all = weaker (λ x. (IsDescribedField s x ⊎ CanBeSaid x.1) × AllByRecursion (IsAlike x) xs) (λ x. IsDescribedField s x ⊎ CanBeSaid x.1) xs
    (λ x h. h.0) all

alike_each : (s : List (Record Global)) (xs : List DevField) → AreDescribable s xs → AreAlike xs
alike_each s xs all = are_alike [] xs
    (weaker (λ x. (IsDescribedField s x ⊎ CanBeSaid x.1) × AllByRecursion (IsAlike x) xs) (λ x. AllByRecursion (IsAlike x) xs) xs (λ x h. h.1) all)

-- After all were described, each is.
pub described_all : (s t : List (Record Global)) (xs : List DevField) → AreDescribable s xs → DescribesEach s t xs → AllByRecursion (IsDescribedField t) xs
described_all s t xs all does = all_described s t xs does (can_each s xs all) (alike_each s xs all)

-- The next one is described, or can be.
pub next_can : (s t : List (Record Global)) (all done rest : List DevField) (x : DevField) → AreDescribable s all → all ≡ done ++ x ∷ rest
    → DescribesEach s t done
    → IsDescribedField t x ⊎ CanBeSaid x.1
next_can s t all done rest x can is does =
    let these : AreDescribable s (done ++ x ∷ rest) = subst (AreDescribable s) is can in
    let each = can_each s (done ++ x ∷ rest) these in
    let parts = all_parts (λ x. IsDescribedField s x ⊎ CanBeSaid x.1) done (x ∷ rest) each in
    let firsts = all_parts (λ y. (IsDescribedField s y ⊎ CanBeSaid y.1) × AllByRecursion (IsAlike y) (done ++ x ∷ rest)) done (x ∷ rest) these in
    let to : AllByRecursion (λ y. IsAlike y x) done = weaker (λ y. (IsDescribedField s y ⊎ CanBeSaid y.1) × AllByRecursion (IsAlike y) (done ++ x ∷ rest))
    (λ y. IsAlike y x) done (λ y h. (all_parts (IsAlike y) done (x ∷ rest) h.1).1.0) firsts.0 in
    go parts.1.0 parts.0 (first_alike done (x ∷ rest) (alike_each s (done ++ x ∷ rest) these)) to
  where
    first_alike : (xs ys : List DevField) → AreAlike (xs ++ ys) → AreAlike xs
    first_alike [] ys h = tt
    first_alike (x ∷ xs) ys h = ((all_parts (IsAlike x) xs ys h.0).0, first_alike xs ys h.1)

    go : IsDescribedField s x ⊎ CanBeSaid x.1 → CanBeDescribedEach s done → AreAlike done → AllByRecursion (λ y. IsAlike y x) done
        → IsDescribedField t x ⊎ CanBeSaid x.1
    go (inl was) each alike to = inl (each_keeps s t done x does each alike to was)
    go (inr said) each alike to = inr said

-- ---- one after another

pub each_more : (s t u : List (Record Global)) (xs : List DevField) (x : DevField) → DescribesEach s t xs → DescribesField t u x
    → DescribesEach s u (xs ++ x ∷ [])
each_more s t u [] x same does = (u, subst (λ (rs : List (Record Global)). DescribesField rs u x) same does, refl)
each_more s t u (y ∷ xs) x (mid, first, rest) does = (mid, first, each_more mid t u xs x rest does)

pub some_none : (s : List (Record Global)) (xs : List DevField) → DescribesSome s s xs
some_none s [] = refl
some_none s (x ∷ xs) = inl refl

pub each_some : (s t : List (Record Global)) (xs : List DevField) → DescribesEach s t xs → DescribesSome s t xs
each_some s t [] same = same
each_some s t (x ∷ xs) (mid, does, rest) = inr (inr (mid, does, each_some mid t xs rest))

-- some of the next after those that were described
pub some_more : (s t u : List (Record Global)) (xs ys : List DevField) (x : DevField) → DescribesEach s t xs → DescribesSome t u (x ∷ [])
    → DescribesSome s u (xs ++ x ∷ ys)
some_more s t u [] ys x same some = go (subst (λ (rs : List (Record Global)). DescribesSome rs u (x ∷ [])) same some)
  where
    go : DescribesSome s u (x ∷ []) → DescribesSome s u (x ∷ ys)
    go (inl is) = inl is
    go (inr (inl index)) = inr (inl index)
    go (inr (inr (mid, does, is))) = inr (inr (mid, does, subst (λ (rs : List (Record Global)). DescribesSome mid rs ys) (sym is) (some_none mid ys)))
some_more s t u (y ∷ xs) ys x (mid, first, rest) some = inr (inr (mid, first, some_more mid t u xs ys x rest some))

-- ---- by codes and namings apart

pub by_parts : (s : List (Record Global)) (devs : List DevDef) (codes : List ℕ) (namings : List Naming) → length codes ≡ length devs
    → length namings ≡ length devs → AllByRecursion (IsDescribedField s) (zip devs (zip codes namings)) → AreDescribed s devs codes namings
by_parts s [] [] [] many long all = tt
by_parts s (d ∷ devs) (c ∷ codes) (n ∷ namings) many long all = (all.0, by_parts s devs codes namings (omega (arith, many)) (omega (arith, long)) all.1)
by_parts s [] (c ∷ codes) namings many long all = absurd (omega (arith, many))
by_parts s [] [] (n ∷ namings) many long all = absurd (omega (arith, long))
by_parts s (d ∷ devs) [] namings many long all = absurd (omega (arith, many))
by_parts s (d ∷ devs) (c ∷ codes) [] many long all = absurd (omega (arith, long))
