-- What was found out of definitions and is known to be that of those that count.
use Rattle.fit_text_report.proofs.Common.{◌≡◌, ◌∙◌, sym, ap, subst, Bool, true, inl, inr, false, refl, zero, suc, [], ◌∷◌, set, slice_get}
use Rattle.fit_text_report.proofs.Common.{Defined, Record, Global, Naming, Data, Values, defined_at, known, namings_at, AreCurrent, IsCurrent}
use Rattle.std.proofs.Common.{ℕ, List, Some, None, Option, ◌==◌, eq-eqb, get_or}
use Rattle.std.proofs.lemmas.Bool.{cases_Bool, cases_eq, eqb-true}
use Rattle.std.proofs.lemmas.Option.{same_Some}
use Rattle.std.proofs.lemmas.List.{get_or-set_other}
use Rattle.fit_record.specs.Environment.{Environment, defined_by, describe}
use Rattle.fit_record.specs.declared.definition.MessageDef.{MessageDef}
use Rattle.fit_record.specs.declared.learn.Description.{Description}
use Rattle.fit_record.specs.declared.message.Record.TheVariants.{Define}
use Rattle.fit_text_report.specs.Current.{NoneAreCurrent}
use Rattle.fit_text_report.specs.declared.found.Findings.{Findings}

-- what is set at one place stands there alone
pub elsewhere : {A : Type 0} (xs : List A) (i k : ℕ) (x : A) → (k ≡ i → ⊥) → slice_get (set xs i x) k ≡ slice_get xs k
elsewhere [] i k x other = refl
elsewhere (y ∷ xs) zero zero x other = absurd (other refl)
elsewhere (y ∷ xs) zero (suc k) x other = refl
elsewhere (y ∷ xs) (suc i) zero x other = refl
elsewhere (y ∷ xs) (suc i) (suc k) x other = elsewhere xs i k x (λ e. other (ap suc e))

-- what was set at a place stands there
there : {A : Type 0} (xs : List A) (i : ℕ) (x y : A) → slice_get (set xs i x) i ≡ Some y → x ≡ y
there [] zero x y is = absurd cc
there [] (suc i) x y is = absurd cc
there (z ∷ xs) zero x y is = same_Some x y is
there (z ∷ xs) (suc i) x y is = there xs i x y is

-- where a flag was taken away at a place, it doesn't stand there
pub unset : (old new : List Bool) (i : ℕ) → new ≡ set old i false → slice_get new i ≡ Some true → ⊥
unset old new i is flag = let both : false ≡ true = there old i false true (ap (λ fs. slice_get fs i) (sym is) ∙ flag) in cc

-- a flag elsewhere was there before
pub flag_before : (old new : List Bool) (i k : ℕ) (to : Bool) → new ≡ set old i to → (k ≡ i → ⊥) → slice_get new k ≡ Some true
    → slice_get old k ≡ Some true
flag_before old new i k to is differs flag = sym (elsewhere old i k to differs) ∙ ap (λ fs. slice_get fs k) (sym is) ∙ flag

abbrev FoundOf : Type 0 → Type 0
FoundOf T = ℕ → Defined Global → List Naming → T

-- nothing is known, so nothing is wrong
pub none_current : {T : Type 0} (found_of : FoundOf T) (found : Findings T) (before : List (Record Global)) → NoneAreCurrent found
    → AreCurrent found_of found before
none_current found_of found before none = λ local p is flag. absurd (none local flag)

-- that of one local message type is found anew, or no longer known, and that of the others stays
pub moved : {T : Type 0} (found_of : FoundOf T) (old new : Findings T) (before : List (Record Global)) (local : ℕ) → AreCurrent found_of old before
    → ((k : ℕ) → (k ≡ local → ⊥) → slice_get new.current k ≡ Some true → slice_get old.current k ≡ Some true)
    → ((k : ℕ) (t : T) → (k ≡ local → ⊥) → slice_get old.items.items k ≡ Some (Some t) → slice_get new.items.items k ≡ Some (Some t))
    → ((p : Defined Global) → defined_at (known before) local ≡ Some p → IsCurrent new local (found_of local p (namings_at before local)))
    → AreCurrent found_of new before
moved found_of old new before local are flags items here = λ k q is. elim (cases_eq k local) [
  | inl same ↦
      subst (λ l. IsCurrent new l (found_of l q (namings_at before l))) (sym same) (here q (ap (defined_at (known before)) (sym same) ∙ is))
  | inr differs ↦ λ flag. items k (found_of k q (namings_at before k)) differs (are k q is (flags k differs flag))
]

same-places : {A : Type 0} (e : Environment A) (s : Option Description) → (describe e s).places ≡ e.places
same-places e None = refl
same-places e (Some s) = refl

-- a data message changes no definition and no name
pub after_message : {T : Type 0} (found_of : FoundOf T) (found : Findings T) (before : List (Record Global)) (v : Values Global)
    → AreCurrent found_of found before → AreCurrent found_of found (Data v ∷ before)
after_message found_of found before v are = λ k p is. are k p (ap (λ places. get_or places k None) (sym (same-places (known before) _)) ∙ is)

-- a definition takes the place of its local message type, of which nothing is known any more
pub after_definition : {T : Type 0} (found_of : FoundOf T) (old new : Findings T) (before : List (Record Global)) (d : MessageDef Global)
    → AreCurrent found_of old before → new.items.items ≡ old.items.items → new.current ≡ set old.current d.local false
    → AreCurrent found_of new (Define d ∷ before)
after_definition {T} found_of old new before d are items flags = λ k p is. elim (cases_Bool (d.local == k)) [
  | inl test ↦
      λ flag. absurd (unset old.current new.current d.local flags (ap (slice_get new.current) (eqb-true d.local k test) ∙ flag))
  | inr test ↦
      let differs : k ≡ d.local → ⊥ = λ e. cc (sym test ∙ eq-eqb d.local k (sym e)) in
      let was : defined_at (known before) k ≡ Some p =
      sym (get_or-set_other (known before).places d.local k (Some (defined_by (known before) d)) None differs) ∙ is in
      let names : namings_at before k ≡ namings_at (Define d ∷ before) k = rw test refl in
      λ flag. ap (λ xs. slice_get xs k) items ∙ are k p was (flag_before old.current new.current d.local k false flags differs flag)
      ∙ ap (λ ns. Some (Some (found_of k p ns))) names
]

-- what is known before others are let go is that of the definitions that count, and so what is known after it is
pub current_after : {T : Type 0} (found_of : FoundOf T) (old new : Findings T) (before : List (Record Global)) → AreCurrent found_of old before
    → ((k : ℕ) (t : T) → IsCurrent old k t → IsCurrent new k t) → AreCurrent found_of new before
current_after found_of old new before are kept = λ k p is. kept k (found_of k p (namings_at before k)) (are k p is)
