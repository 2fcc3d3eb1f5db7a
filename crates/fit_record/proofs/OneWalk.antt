-- What a field description says, found by one walk over its fields.
use Rattle.fit_record.proofs.Common.{◌≡◌, ℕ, ◌+◌, ◌<◌, ◌≤◌, Bool, true, false, cond, List, [], length, take, drop, refl, sym, ap, ◌∙◌, lit<}
use Rattle.fit_record.proofs.Common.{arith, Some, None, Option, ◌==◌, FieldDef, MessageDef, Values, Order, fields_from, sizes, description}
use Rattle.fit_record.proofs.Common.{slice_get, eqb-true, eq-eqb, zero, suc, length-drop}
use Rattle.std.specs.Prelude.{IsSome, slice_index_or}
use Rattle.fit_record.specs.Environment.{only, only_byte}
use Rattle.fit_record.specs.inner.Describing.{described_by_three, so_far}
use Rattle.fit_record.proofs.BytesOfNumbers.{shapes, found_at, passed_at, none_left, sizes_at}

-- the byte that the fields have for a number
abbrev pub byte_of : (A : Type 0) → Order → List FieldDef → List ℕ → ℕ → Option ℕ
byte_of A o fields rest n = only_byte fields (fields_from {A = A} o (shapes fields) rest) n

-- What is found already stands for what the fields so far have.
abbrev pub IsFound : (A : Type 0) → Order → List FieldDef → List ℕ → List (Option ℕ) → List FieldDef → List ℕ → Type 0
IsFound A o fields bytes found later rest =
    (n : ℕ) → n < 3 → so_far (slice_index_or found n None) (byte_of A o later rest n) ≡ byte_of A o fields bytes n

-- nothing comes after what there is
pub so_far-none : (x : Option ℕ) → so_far x None ≡ x
so_far-none None = refl
so_far-none (Some n) = refl

pub so_far-some : (x later : Option ℕ) → IsSome x → so_far x later ≡ x
so_far-some None later is = cc
so_far-some (Some n) later is = refl

-- the description by the bytes of the three numbers
pub description_is : {A : Type 0} (d : MessageDef A) (v : Values A) → d.global ≡ 206
    → described_by_three (only_byte d.fields v.fields 0) (only_byte d.fields v.fields 1) (only_byte d.fields v.fields 2) ≡ description d v
description_is d v is =
    sym (ap (λ c. cond c (described_by_three (only_byte d.fields v.fields 0) (only_byte d.fields v.fields 1) (only_byte d.fields v.fields 2)) None)
    (eq-eqb d.global 206 is))

no_second : (a c : Option ℕ) → described_by_three a None c ≡ None
no_second None c = refl
no_second (Some x) c = refl

no_third : (a b : Option ℕ) → described_by_three a b None ≡ None
no_third None b = refl
no_third (Some x) None = refl
no_third (Some x) (Some y) = refl

-- without one of them there is none
pub without : (b : ℕ → Option ℕ) (n : ℕ) → n < 3 → b n ≡ None → described_by_three (b 0) (b 1) (b 2) ≡ None
without b zero few none = ap (λ x. described_by_three x (b 1) (b 2)) none
without b (suc zero) few none = ap (λ y. described_by_three (b 0) y (b 2)) none ∙ no_second (b 0) (b 2)
without b (suc (suc zero)) few none = ap (λ z. described_by_three (b 0) (b 1) z) none ∙ no_third (b 0) (b 1)
without b (suc (suc (suc n))) few none = absurd (omega (arith, few))

-- with all that the fields have
pub finished : {A : Type 0} (d : MessageDef A) (v : Values A) (found : List (Option ℕ)) → d.global ≡ 206
    → ((n : ℕ) → n < 3 → slice_index_or found n None ≡ only_byte d.fields v.fields n)
    → described_by_three (slice_index_or found 0 None) (slice_index_or found 1 None) (slice_index_or found 2 None) ≡ description d v
finished d v found is all =
    (λ i. described_by_three (all 0 (lit< tt) i) (all 1 (lit< tt) i) (all 2 (lit< tt) i)) ∙ description_is d v is

-- the field at a place: its bytes, or those of a later field
module _ (A : Type 0) (o : Order) (fields : List FieldDef) (k : ℕ) (f : FieldDef) (at : slice_get fields k ≡ Some f) (rest : List ℕ) (n : ℕ) where
  pub here_or_later : f.size ≤ length rest
      → cond (f.number == n) (only (take f.size rest)) (byte_of A o (drop (k + 1) fields) (drop f.size rest) n) ≡ byte_of A o (drop k fields) rest n
  here_or_later within = go (f.number == n) refl
    where
      go : (c : Bool) → (f.number == n) ≡ c
          → cond (f.number == n) (only (take f.size rest)) (byte_of A o (drop (k + 1) fields) (drop f.size rest) n) ≡ byte_of A o (drop k fields) rest n
      go true is =
          ap (λ c. cond c (only (take f.size rest)) (byte_of A o (drop (k + 1) fields) (drop f.size rest) n)) is
          ∙ found_at A o fields k f at rest n (eqb-true f.number n is) within
      go false is =
          ap (λ c. cond c (only (take f.size rest)) (byte_of A o (drop (k + 1) fields) (drop f.size rest) n)) is
          ∙ passed_at A o fields k f at rest n is

-- one field more
module _ (A : Type 0) (o : Order) (fields : List FieldDef) (k : ℕ) (f : FieldDef) (at : slice_get fields k ≡ Some f) (bytes rest here after : List ℕ)
    (old : List (Option ℕ)) (told : IsFound A o fields bytes old (drop k fields) rest) (within : f.size ≤ length rest) (front : here ≡ take f.size rest)
    (back : after ≡ drop f.size rest) where
  pub taken : (new : List (Option ℕ))
      → ((n : ℕ) → n < 3 → (later : Option ℕ) → so_far (slice_index_or new n None) later
      ≡ so_far (slice_index_or old n None) (cond (f.number == n) (only here) later)) → IsFound A o fields bytes new (drop (k + 1) fields) after
  taken new goes n few =
      goes n few (byte_of A o (drop (k + 1) fields) after n)
      ∙ ap (so_far (slice_index_or old n None))
      ((λ i. cond (f.number == n) (only (front i)) (byte_of A o (drop (k + 1) fields) (back i) n)) ∙ here_or_later A o fields k f at rest n within)
      ∙ told n few

  -- the first field of the number has not just one byte
  pub ended : f.number < 3 → slice_index_or old f.number None ≡ None → only here ≡ None → byte_of A o fields bytes f.number ≡ None
  ended few none nothing =
      sym (told f.number few) ∙ ap (λ x. so_far x (byte_of A o (drop k fields) rest f.number)) none
      ∙ sym (found_at A o fields k f at rest f.number refl within) ∙ ap only (sym front) ∙ nothing

  pub less : sizes (shapes (drop k fields)) ≤ length rest → sizes (shapes (drop (k + 1) fields)) ≤ length after
  less enough = omega (arith, sizes_at A o fields k f at [] 0, enough, ap length back, length-drop f.size rest)

-- nothing comes after what was found
pub all_found : (A : Type 0) (o : Order) (fields later : List FieldDef) (bytes rest : List ℕ) (found : List (Option ℕ))
    → IsFound A o fields bytes found later rest → sizes (shapes later) ≤ length rest → length rest ≡ 0
    → (n : ℕ) → n < 3 → slice_index_or found n None ≡ byte_of A o fields bytes n
all_found A o fields later bytes rest found told enough empty n few =
    sym (so_far-none (slice_index_or found n None)) ∙ ap (so_far (slice_index_or found n None)) (sym (none_left A o later rest n empty enough)) ∙ told n few
