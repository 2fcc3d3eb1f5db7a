-- What is kept of the records so far suffices for what is told of the next one.
use Rattle.fit_profile.proofs.Common.{◌≡◌, ◌∙◌, ℕ, List, [], ◌∷◌, ◌++◌, reverse, map, cond, refl, sym, ap, ap₂, subst, None, Some, Option, IsSomeAnd}
use Rattle.fit_profile.proofs.Common.{option_and_then, unwrap_or, if◌then◌else◌, reverse-append, MessageDef, dev_defs, description, Naming, nameless, naming}
use Rattle.fit_profile.proofs.Common.{naming_by, naming_after, namings_after, naming_of, KeepsRecords, described, is_key, naming_in, namings_in, none-some}
use Rattle.fit_profile.proofs.Common.{same_Some, Defined, Values, Record, Environment, empty_environment, defined_at, describe, described_by, learn, Fits}
use Rattle.fit_profile.proofs.Common.{Bool, true, zero, suc, get_or, DataFits, known}
use Rattle.std.proofs.Common.{replicate}
use Rattle.fit_profile.proofs.Common.{told, told_at, told_of, tell, last_of, last_after}
use Rattle.std.proofs.Common.{option_map}
use Rattle.std.specs.Prelude.{◌==◌, ◌&&◌}
use Rattle.fit_profile.specs.declared.names.Described.{Described}
use Rattle.fit_profile.specs.declared.names.Names.{Names}
use Rattle.fit_profile.specs.inner.Keeps.{AreNamesAfter, AreSameNames}
use Rattle.fit_record.specs.Environment.{DescribesNothing}
use Rattle.fit_record.specs.Records.{IsRecord}
use Rattle.fit_record.specs.declared.message.Record.TheVariants.{Define, Values as Data}
use Rattle.fit_record.specs.declared.learn.Description.{Description}
use Rattle.fit_profile.specs.declared.told.Told.{Told}
use Rattle.fit_profile.specs.declared.told.Last.{Last}
use Rattle.fit_profile.proofs.NameFacts.{or-kept}

pub map-some : {X Y Z : Type 0} (g : X → Y) (f : Y → Z) (o : Option X) (y : Y) → Some y ≡ option_map g o → Some (f y) ≡ option_map (λ x. f (g x)) o
map-some g f None y e = absurd (none-some y (sym e))
map-some g f (Some x) y e = ap (λ z. Some (f z)) (same_Some y (g x) e)

pub map-none : {X Y Z : Type 0} (g : X → Y) (h : X → Z) (o : Option X) → None ≡ option_map g o → None ≡ option_map h o
map-none g h None e = refl
map-none g h (Some x) e = absurd (none-some (g x) e)

pub told-placed : {A : Type 0} (earlier : List (Record A)) (v : Values A) (p : Defined A) → defined_at (known earlier) v.local ≡ Some p
    → told_at (last_of earlier) p.definition v ≡ told earlier v
told-placed earlier v p e = rw e refl

told-some : {A : Type 0} (earlier : List (Record A)) (v : Values A) (o : Option (Defined A)) → defined_at (known earlier) v.local ≡ o → IsSomeAnd o (DataFits v)
    → option_map (λ p. told_at (last_of earlier) p.definition v) o ≡ Some (told earlier v)
told-some earlier v None e h = absurd h
told-some earlier v (Some p) e h = ap Some (told-placed earlier v p e)

pub tell-fits : {A : Type 0} (earlier : List (Record A)) (r : Record A) → Fits (known earlier) r → tell (known earlier) (last_of earlier) r ≡ told_of earlier r
tell-fits earlier (Define d) h = refl
tell-fits earlier (Data v) h = told-some earlier v (defined_at (known earlier) v.local) refl h

pub last-step : {A : Type 0} (earlier : List (Record A)) (r : Record A) → last_after (last_of earlier) (told_of earlier r) ≡ last_of (r ∷ earlier)
last-step earlier (Define d) = refl
last-step earlier (Data v) = refl

-- a data message moves no definition
same-places : {A : Type 0} (e : Environment A) (o : Option Description) (local : ℕ) → defined_at (describe e o) local ≡ defined_at e local
same-places e None local = refl
same-places e (Some s) local = refl

pub same-definition : {A : Type 0} (earlier : List (Record A)) (v : Values A)
    → defined_at (known (Data v ∷ earlier)) v.local ≡ defined_at (known earlier) v.local
same-definition earlier v = same-places (known earlier) _ v.local

pub told-kept : {A : Type 0} (xs now : List (Record A)) (e : Environment A) (l : Last) (r : Record A) (t : Option Told) → xs ≡ now → e ≡ known xs
    → l ≡ last_of xs → Fits (known now) r
    → t ≡ tell e l r → t ≡ told_of xs r
told-kept xs now e l r t same env last fits is =
    is ∙ ap₂ (λ e' l'. tell e' l' r) env last ∙ tell-fits xs r (subst (λ ys. Fits (known ys) r) (sym same) fits)

pub place-kept : {A : Type 0} (earlier now inside : List (Record A)) (e : Environment A) (v : Values A) → e ≡ known inside → inside ≡ now
    → now ≡ Data v ∷ earlier
    → defined_at e v.local ≡ defined_at (known earlier) v.local
place-kept earlier now inside e v env view pushed = ap (λ x. defined_at x v.local) (env ∙ ap known (view ∙ pushed)) ∙ same-definition earlier v

pub not-none : {A : Type 0} (o : Option (Defined A)) (v : Values A) → IsSomeAnd o (DataFits v) → None ≡ option_map (λ p. p.definition) o → ⊥
not-none None v h e = absurd h
not-none (Some p) v h e = none-some p.definition e

-- ---- names and units

pub through : {X Y Z : Type 0} (g : X → Y) (f : Y → Option Z) (o : Option X) (y : Y) → Some y ≡ option_map g o → f y ≡ option_and_then (λ x. f (g x)) o
through g f None y e = absurd (none-some y (sym e))
through g f (Some x) y e = ap f (same_Some y (g x) e)

pub through-none : {X Y Z : Type 0} (g : X → Y) (f : Y → Option Z) (o : Option X) → None ≡ option_map g o → None ≡ option_and_then (λ x. f (g x)) o
through-none g f None e = refl
through-none g f (Some x) e = absurd (none-some (g x) e)

-- what a described field changes
pub given : {A : Type 0} → Option (Described A) → ℕ → ℕ → Naming → Naming
given None index number before = before
given (Some x) index number before = cond (is_key x.key index number) x.texts before

described-helper : (A : Type 0) (q : Option Description) (nm : Naming) (index number : ℕ) (before : Naming)
    → unwrap_or (option_and_then (λ s. if s.key.index == index && s.key.number == number then Some nm else None) q) before
    ≡ given {A = A} (option_map (λ s. record { key = s.key; texts = nm }) q) index number before
unfolding given
described-helper A None nm index number before = refl
described-helper A (Some s) nm index number before = or-kept (s.key.index == index && s.key.number == number) nm before None

described-placed : {A : Type 0} (v : Values A) (o : Option (Defined A)) (x : Option (Described A)) (index number : ℕ) (before : Naming)
    → x ≡ option_and_then (λ p. described p.definition v) o
    → unwrap_or (option_and_then (λ p. naming_by p.definition v index number) o) before ≡ given x index number before
unfolding given
described-placed v None x index number before e = sym (ap (λ y. given y index number before) e)
described-placed {A = A} v (Some p) x index number before e =
    described-helper A (description p.definition v) (naming p.definition v) index number before ∙ sym (ap (λ y. given y index number before) e)

pub one-described : {A : Type 0} (e : Environment A) (r : Record A) (v : Values A) (x : Described A) (index number : ℕ) (before held now : Naming) → r ≡ Data v
    → Some x ≡ option_and_then (λ p. described p.definition v) (defined_at e v.local) → held ≡ before → now ≡ cond (is_key x.key index number) x.texts held
    → now ≡ naming_after e r index number before
unfolding given
one-described e r v x index number before held now is some same set =
    set ∙ ap (λ h. cond (is_key x.key index number) x.texts h) same
    ∙ sym (described-placed v (defined_at e v.local) (Some x) index number before some) ∙ sym (ap (λ s. naming_after e s index number before) is)

-- after a message that describes nothing the names are as before
pub none-described : {A : Type 0} (e : Environment A) (r : Record A) (v : Values A) (index number : ℕ) (before : Naming) → r ≡ Data v
    → None ≡ option_and_then (λ p. described p.definition v) (defined_at e v.local) → before ≡ naming_after e r index number before
unfolding given
none-described e r v index number before is none =
    sym (described-placed v (defined_at e v.local) None index number before none) ∙ sym (ap (λ s. naming_after e s index number before) is)

-- a message that describes nothing gives no name
pub nothing-described : {A : Type 0} (v : Values A) (o : Option (Defined A)) (x : Described A) → option_and_then (λ p. description p.definition v) o ≡ None
    → Some x ≡ option_and_then (λ p. described p.definition v) o → ⊥
nothing-described v None x none some = none-some x (sym some)
nothing-described v (Some p) x none some =
    none-some x (sym (some ∙ ap (option_map (λ s. record { key = s.key; texts = naming p.definition v })) none))

pub no-definition : {A : Type 0} (f : ℕ → ℕ → Naming) (r : Record A) (v : Values A) (local : ℕ) (before now : List Naming) → r ≡ Data v → now ≡ before
    → now ≡ namings_after f r local before
no-definition f r v local before now is same = same ∙ sym (ap (λ s. namings_after f s local before) is)

pub one-definition : {A : Type 0} (f : ℕ → ℕ → Naming) (r : Record A) (d : MessageDef A) (local : ℕ) (before held now given_now : List Naming) → r ≡ Define d
    → given_now ≡ map (λ x. f x.index x.number) (dev_defs d.dev) → held ≡ before → now ≡ cond (d.local == local) given_now held
    → now ≡ namings_after f r local before
one-definition f r d local before held now given_now is list same put =
    put ∙ ap₂ (λ g h. cond (d.local == local) g h) list same ∙ sym (ap (λ s. namings_after f s local before) is)

-- ---- a stream

-- before the first record nothing is kept
pub keeps-nothing : {A : Type 0} (e : Environment A) (n : Names A) (items : List (Record A)) → e ≡ empty_environment
    → ((index number : ℕ) → naming_in n index number ≡ nameless) → ((local : ℕ) → namings_in n local ≡ []) → items ≡ []
    → KeepsRecords e (record { time = None; distance = 0; total_cycles = 0; accumulated_power = 0 }) n (reverse items)
keeps-nothing e n items env naming namings none =
    subst (λ xs. KeepsRecords e (record { time = None; distance = 0; total_cycles = 0; accumulated_power = 0 }) n (reverse xs)) (sym none)
    (record { env_is = env; last_is = refl; naming_is = naming; namings_are = namings })

pub keeps-same : {A : Type 0} (e e' : Environment A) (l : Last) (n n' : Names A) (xs : List (Record A)) → KeepsRecords e l n xs → e' ≡ e
    → AreSameNames n n' → KeepsRecords e' l n' xs
keeps-same e e' l n n' xs k env names = record {
  env_is = env ∙ k.env_is;
  last_is = k.last_is;
  naming_is = λ index number. names.0 index number ∙ k.naming_is index number;
  namings_are = λ local. names.1 local ∙ k.namings_are local;
}

-- the last values after one more record
pub last-now : {A : Type 0} (e : Environment A) (l l' : Last) (n : Names A) (xs now : List (Record A)) (r : Record A) (t : Option Told) → KeepsRecords e l n xs
    → xs ≡ now → Fits (known now) r → t ≡ tell e l r → l' ≡ last_after l t → l' ≡ last_of (r ∷ now)
last-now e l l' n xs now r t k view fits told last =
    last ∙ ap₂ last_after k.last_is (told-kept xs now e l r t view k.env_is k.last_is fits told)
    ∙ last-step xs r ∙ ap (λ ys. last_of (r ∷ ys)) view

keeps-after : {A : Type 0} (e e' : Environment A) (l l' : Last) (n n' : Names A) (xs : List (Record A)) (r : Record A) → KeepsRecords e l n xs
    → e' ≡ learn e r → l' ≡ last_of (r ∷ xs) → AreNamesAfter e r n n' → KeepsRecords e' l' n' (r ∷ xs)
keeps-after e e' l l' n n' xs r k env last names =
    let same_naming : naming_in n ≡ naming_of xs = λ i index number. k.naming_is index number i in
    record {
      env_is = env ∙ ap (λ x. learn x r) k.env_is;
      last_is = last;
      naming_is = λ index number. names.0 index number ∙ ap₂ (λ x b. naming_after x r index number b) k.env_is (k.naming_is index number);
      namings_are = λ local. names.1 local ∙ ap₂ (λ f b. namings_after f r local b) same_naming (k.namings_are local);
    }

pub keeps-next : {A : Type 0} (e e' : Environment A) (l l' : Last) (n n' : Names A) (items now : List (Record A)) (r : Record A)
    → KeepsRecords e l n (reverse items) → reverse items ≡ now → e' ≡ learn e r → l' ≡ last_of (r ∷ now) → AreNamesAfter e r n n'
    → KeepsRecords e' l' n' (reverse (items ++ (r ∷ [])))
keeps-next e e' l l' n n' items now r k view env last names =
    subst (KeepsRecords e' l' n') (sym (reverse-append items (r ∷ [])))
    (keeps-after e e' l l' n n' (reverse items) r k env (last ∙ ap (λ ys. last_of (r ∷ ys)) (sym view)) names)

-- bytes are those of the same record by what is known after the records and by what is kept of that
pub kept-record : {A : Type 0} {e : Environment A} {l : Last} {n : Names A} {xs : List (Record A)} (now : List (Record A)) (r : Record A) (bytes : List ℕ)
    → KeepsRecords e l n xs → xs ≡ now → IsRecord (known now) r bytes → IsRecord e r bytes
kept-record now r bytes k view is = subst (λ e. IsRecord e r bytes) (sym (k.env_is ∙ ap known view)) is

none-defined : {A : Type 0} (n local : ℕ) (v : Values A) → IsSomeAnd (get_or (replicate n None) local None) (DataFits v) → ⊥
none-defined zero local v h = h
none-defined (suc n) zero v h = h
none-defined (suc n) (suc local) v h = none-defined n local v h

-- a data message fits only after its definition, so it isn't the first record of a file
pub not-first : {A : Type 0} (is_new : Bool) (items items' now : List (Record A)) (e : Environment A) (r : Record A) → (is_new ≡ true → items ≡ [])
    → reverse items ≡ now → Fits (known now) r → DescribesNothing e r → is_new ≡ true → items' ≡ []
not-first is_new items items' now e (Define d) new view fits none is = absurd none
not-first is_new items items' now e (Data v) new view fits none is =
    absurd (none-defined 16 v.local v (subst (λ ys. Fits (known ys) (Data v)) (sym view ∙ ap reverse (new is)) fits))

no-naming : {A : Type 0} (v : Values A) (o : Option (Defined A)) (index number : ℕ) (before : Naming)
    → option_and_then (λ p. description p.definition v) o ≡ None
    → before ≡ unwrap_or (option_and_then (λ p. naming_by p.definition v index number) o) before
no-naming v None index number before none = refl
no-naming v (Some p) index number before none = rw none refl

-- after a message that describes nothing only the last values may be others
pub keeps-last : {A : Type 0} (e : Environment A) (l l' : Last) (n : Names A) (items items' now : List (Record A)) (v : Values A)
    → KeepsRecords e l n (reverse items) → reverse items ≡ now → Fits (known now) (Data v) → described_by e v ≡ None
    → l' ≡ last_after l (tell e l (Data v)) → items' ≡ items ++ (Data v ∷ []) → KeepsRecords e l' n (reverse items')
keeps-last e l l' n items items' now v k view fits none last pushed =
    subst (λ xs. KeepsRecords e l' n (reverse xs)) (sym pushed)
    (keeps-next e e l l' n n items now (Data v) k view (ap (describe e) (sym none))
    (last-now e l l' n (reverse items) now (Data v) (tell e l (Data v)) k view fits refl last)
    (λ index number. no-naming v (defined_at e v.local) index number (naming_in n index number) none, λ local. refl))

-- the same after any record that neither defines nor describes anything
pub keeps-plain : {A : Type 0} (e : Environment A) (l l' : Last) (n : Names A) (items items' now : List (Record A)) (r : Record A)
    → KeepsRecords e l n (reverse items) → reverse items ≡ now → Fits (known now) r → DescribesNothing e r
    → l' ≡ last_after l (tell e l r) → items' ≡ items ++ (r ∷ []) → KeepsRecords e l' n (reverse items')
keeps-plain e l l' n items items' now (Define d) k view fits none last pushed = absurd none
keeps-plain e l l' n items items' now (Data v) k view fits none last pushed = keeps-last e l l' n items items' now v k view fits none last pushed

pub told-now : {A : Type 0} (e : Environment A) (l : Last) (n : Names A) (xs now : List (Record A)) (r : Record A) (t : Option Told) → KeepsRecords e l n xs
    → xs ≡ now
    → Fits (known now) r
    → t ≡ tell e l r → t ≡ told_of now r
told-now e l n xs now r t k view fits told =
    told-kept xs now e l r t view k.env_is k.last_is fits told ∙ ap (λ ys. told_of ys r) view
