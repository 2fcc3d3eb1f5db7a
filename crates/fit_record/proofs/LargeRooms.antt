-- Rooms of six bytes and more can be filled: by a definition without fields, and messages of one byte.
use Rattle.fit_record.proofs.Common.{◌≡◌, ℕ, zero, suc, ◌+◌, ◌<◌, [], ◌∷◌, length, refl, sym, ap, ◌∙◌, subst, lit<, arith, None, Some, option_and_then, Little}
use Rattle.fit_record.proofs.Common.{IsBytes-append, IsBytes-cons, IsBytes-zeros, MessageDef, Define, Data, Defined, Environment, defined_at, describe}
use Rattle.fit_record.proofs.Common.{description, learn, Fits, AllFit, record_bytes, records_bytes, CanFill, length-replicate, replicate, Values}
use Rattle.std.proofs.Common.{get_or-set_same}

abbrev no_fields : {A : Type 0} → MessageDef A
no_fields = record { local = 0; reserved = 0; order = Little; global = 0; fields = []; dev = None }

abbrev one_byte : {A : Type 0} → Values A
one_byte = record { local = 0; offset = None; fields = []; dev = [] }

abbrev placed : {A : Type 0} → Defined A
placed = record { definition = no_fields; dev_codes = [] }

module _ {A : Type 0} (e : Environment A) (known : defined_at e 0 ≡ Some placed) where
  learns_nothing : learn e (Data one_byte) ≡ e
  learns_nothing = ap (λ o. describe e (option_and_then (λ p. description p.definition one_byte) o)) known

  fits : Fits e (Data one_byte)
  fits = rw known (record { header = lit< tt; fields = tt; dev_fields = tt })

  bytes : record_bytes e (Data one_byte) ≡ 0 ∷ []
  bytes = refl

all_fit : {A : Type 0} (n : ℕ) (e : Environment A) → defined_at e 0 ≡ Some placed → AllFit e (replicate n (Data one_byte))
all_fit zero e h = tt
all_fit (suc n) e h = (fits e h, subst (λ f. AllFit f (replicate n (Data one_byte))) (sym (learns_nothing e h)) (all_fit n e h))

all_bytes : {A : Type 0} (n : ℕ) (e : Environment A) → defined_at e 0 ≡ Some placed → records_bytes e (replicate n (Data one_byte)) ≡ replicate n 0
all_bytes zero e h = refl
all_bytes (suc n) e h = ap (λ bs. 0 ∷ bs) (ap (λ f. records_bytes f (replicate n (Data one_byte))) (learns_nothing e h) ∙ all_bytes n e h)

pub six_and_more : {A : Type 0} (e : Environment A) (n : ℕ) → 0 < length e.places → CanFill e (6 + n)
six_and_more {A} e n some =
    let after = learn e (Define no_fields) in
    let known : defined_at after 0 ≡ Some placed = get_or-set_same e.places 0 (Some placed) None some in (
      Define no_fields ∷ replicate n (Data one_byte),
      0x40 ∷ 0 ∷ 0 ∷ 0 ∷ 0 ∷ 0 ∷ replicate n 0,
      IsBytes-append (0x40 ∷ replicate 5 0) (replicate n 0) (IsBytes-cons 0x40 (replicate 5 0) (lit< tt) (IsBytes-zeros 5)) (IsBytes-zeros n),
      (
        (record { local = lit< tt; global = lit< tt; fields = lit< tt; dev_fields = lit< tt }, all_fit n after known),
        ap (λ bs. 0x40 ∷ 0 ∷ 0 ∷ 0 ∷ 0 ∷ 0 ∷ bs) (sym (all_bytes n after known)),
      ),
      omega (arith, length-replicate {A = ℕ} n 0),
    )
