-- The names and units of the profile are short, and no name of a message holds a zero.
use Rattle.std.proofs.Common.{◌≡◌, ◌∙◌, ℕ, ◌<◌, ◌==◌, List, [], ◌∷◌, Option, Some, None, inl, inr, Bool, true, refl, sym, ap, length}
use Rattle.std.proofs.lemmas.Bool.{and_parts, cases_Bool, ltb-true}
use Rattle.std.specs.List.{list_all}
use Rattle.std.specs.Prelude.{◌&&◌, find, if◌then◌else◌, nat_lt, not, option_and_then, option_map, unwrap_or}
use Rattle.fit_profile.specs.Names.{field, field_of, message_name, message_of}
use Rattle.fit_messages.specs.Blocks.{unnamed}
use Rattle.fit_profile.specs.Profile.{Field, Meaning, Message, message_index, messages}

some_same : {X : Type 0} (a b : X) → Some a ≡ Some b → a ≡ b
some_same a b e = cc e

-- what holds of each element holds of one that is found
found : {X : Type 0} (p q : X → Bool) (xs : List X) (x : X) → find p xs ≡ Some x → list_all q xs ≡ true → q x ≡ true
found p q [] x e all = cc e
found p q (y ∷ xs) x e all =
    let parts = and_parts (q y) (list_all q xs) all in
    elim (cases_Bool (p y)) [
      | inl here ↦ ap q (sym (some_same y x (rw here at e))) ∙ parts.0
      | inr other ↦ found p q xs x (rw other at e) parts.1
    ]

-- ---- messages

abbrev is_whole_name : List ℕ → Bool
is_whole_name name = nat_lt (length name) 256 && list_all (λ b. not (b == 0)) name

whole_names : list_all (λ (m : Message). is_whole_name m.name) messages ≡ true
whole_names = refl

-- a name of a message, or none
pub message_named : (global : ℕ) → is_whole_name (unwrap_or (message_name global) []) ≡ true
message_named global = of (message_of global) refl where
  of : (o : Option Message) → message_of global ≡ o → is_whole_name (unwrap_or (option_map (λ m. m.name) o) []) ≡ true
  of None is = refl
  of (Some m) is = found (λ m. m.global == global) (λ m. is_whole_name m.name) messages m is whole_names

-- ---- fields

abbrev is_short : Meaning → Bool
is_short m = nat_lt (length m.name) 256 && nat_lt (length m.unit) 256

abbrev all_short : Message → Bool
all_short m = list_all (λ (f : Field). is_short f.meaning) m.fields

every_short : list_all all_short messages ≡ true
every_short = refl

of_fields : (fields : List Field) (number : ℕ) → list_all (λ (f : Field). is_short f.meaning) fields ≡ true
    → is_short (unwrap_or (field_of fields number) unnamed) ≡ true
of_fields fields number all = of (find (λ f. f.number == number) fields) refl where
  of : (o : Option Field) → find (λ f. f.number == number) fields ≡ o → is_short (unwrap_or (option_map (λ f. f.meaning) o) unnamed) ≡ true
  of None is = refl
  of (Some f) is = found (λ f. f.number == number) (λ f. is_short f.meaning) fields f is all

of_message : (global number : ℕ) (o : Option Message) → message_of global ≡ o
    → is_short (unwrap_or (option_and_then (λ m. if number == 254 then Some message_index.meaning else field_of m.fields number) o) unnamed) ≡ true
of_message global number None is = refl
of_message global number (Some m) is = elim (cases_Bool (number == 254)) [
  | inl index ↦ rw index refl
  | inr other ↦ rw other (of_fields m.fields number (found (λ m. m.global == global) all_short messages m is every_short))
]

is_short_field : (global number : ℕ) → is_short (unwrap_or (field global number) unnamed) ≡ true
is_short_field global number = elim (cases_Bool (number == 253)) [
  | inl time ↦ rw time refl
  | inr other ↦ rw other (of_message global number (message_of global) refl)
]

-- a name and a unit of a field, or none
pub field_named : (global number : ℕ)
    → (length (unwrap_or (field global number) unnamed).name < 256) × (length (unwrap_or (field global number) unnamed).unit < 256)
field_named global number =
    let m = unwrap_or (field global number) unnamed in
    let parts = and_parts (nat_lt (length m.name) 256) (nat_lt (length m.unit) 256) (is_short_field global number) in
    (ltb-true (length m.name) 256 parts.0, ltb-true (length m.unit) 256 parts.1)
