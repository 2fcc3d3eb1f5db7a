-- The scales of the profile, and numbers as the table shows them.
use Rattle.fit_texts.proofs.Common.{◌≡◌, ◌∙◌, inl, inr, Bool, true, [], ◌∷◌, refl, sym, ap, eqb-true, ◌||◌, find, option_and_then, list_all, cases_Bool, Field}
use Rattle.fit_texts.proofs.Common.{Meaning, message_index, messages, timestamp, field, field_of, message_of, IsScale}
use Rattle.std.proofs.Common.{ℕ, ◌==◌, List, Option, Some, None}
use Rattle.std.specs.Prelude.{option_map, if◌then◌else◌}
use Rattle.fit_profile.specs.Profile.{Message}

abbrev is_scale : ℕ → Bool
is_scale s = (s == 1) || (s == 5) || (s == 10) || (s == 100) || (s == 1000) || (s == 16) || (s == 256)

scale_from : (s : ℕ) → is_scale s ≡ true → IsScale s
scale_from s e = elim (cases_Bool (s == 1)) [
  | inl one ↦ inl (eqb-true s 1 one)
  | inr not_one ↦ elim (cases_Bool (s == 5)) [
    | inl five ↦ inr (inl (eqb-true s 5 five))
    | inr not_five ↦ elim (cases_Bool (s == 10)) [
      | inl ten ↦ inr (inr (inl (eqb-true s 10 ten)))
      | inr not_ten ↦ elim (cases_Bool (s == 100)) [
        | inl hundred ↦ inr (inr (inr (inl (eqb-true s 100 hundred))))
        | inr not_hundred ↦ elim (cases_Bool (s == 1000)) [
          | inl thousand ↦ inr (inr (inr (inr (inl (eqb-true s 1000 thousand)))))
          | inr not_thousand ↦ elim (cases_Bool (s == 16)) [
            | inl sixteen ↦ inr (inr (inr (inr (inr (inl (eqb-true s 16 sixteen))))))
            | inr not_sixteen ↦ inr (inr (inr (inr (inr
                (inr (eqb-true s 256 (rw (not_one, not_five, not_ten, not_hundred, not_thousand, not_sixteen) at e)))))))
          ]
        ]
      ]
    ]
  ]
]

pub some_same : {X : Type 0} (a b : X) → Some a ≡ Some b → a ≡ b
some_same a b e = cc e

-- what holds of each element holds of one that is found
pub found : {X : Type 0} (p q : X → Bool) (xs : List X) (x : X) → find p xs ≡ Some x → list_all q xs ≡ true → q x ≡ true
found p q [] x e all = cc e
found p q (y ∷ xs) x e all = elim (cases_Bool (p y)) [
  | inl here ↦ elim (cases_Bool (q y)) [
    | inl good ↦ ap q (sym (some_same y x (rw here at e))) ∙ good
    | inr bad ↦ cc (rw bad at all)
  ]
  | inr other ↦ elim (cases_Bool (q y)) [
    | inl good ↦ found p q xs x (rw other at e) (rw good at all)
    | inr bad ↦ cc (rw bad at all)
  ]
]

abbrev all_scaled : Message → Bool
all_scaled m = list_all (λ (f : Field). is_scale f.meaning.scale) m.fields

every_scale : list_all all_scaled messages ≡ true
every_scale = refl

of_field : (fields : List Field) (number : ℕ) (m : Meaning) (o : Option Field) → find (λ f. f.number == number) fields ≡ o
    → list_all (λ f. is_scale f.meaning.scale) fields ≡ true
    → option_map (λ f. f.meaning) o ≡ Some m → IsScale m.scale
of_field fields number m None is all e = cc e
of_field fields number m (Some f) is all e =
    scale_from m.scale (ap (λ (x : Meaning). is_scale x.scale) (sym (some_same f.meaning m e))
    ∙ found (λ f. f.number == number) (λ f. is_scale f.meaning.scale) fields f is all)

of_message : (global number : ℕ) (m : Meaning) (o : Option Message) → message_of global ≡ o
    → option_and_then (λ g. if number == 254 then Some message_index.meaning else field_of g.fields number) o ≡ Some m → IsScale m.scale
of_message global number m None is e = cc e
of_message global number m (Some g) is e = elim (cases_Bool (number == 254)) [
  | inl index ↦ scale_from m.scale (ap (λ (x : Meaning). is_scale x.scale) (sym (some_same message_index.meaning m (rw index at e))))
  | inr other ↦ of_field g.fields number m (find (λ f. f.number == number) g.fields) refl (found (λ g. g.global == global) all_scaled messages g is every_scale)
      (rw other at e)
]

-- each scale of the profile is one of those
pub known_scale : (global number : ℕ) (m : Meaning) → field global number ≡ Some m → IsScale m.scale
known_scale global number m e = elim (cases_Bool (number == 253)) [
  | inl time ↦ scale_from m.scale (ap (λ (x : Meaning). is_scale x.scale) (sym (some_same timestamp.meaning m (rw time at e))))
  | inr other ↦ of_message global number m (message_of global) refl (rw other at e)
]
