-- The cells of floating point numbers by the bytes of their fields.
use Rattle.fit_shown.proofs.Common.{◌≡◌, ◌∙◌, ◌*◌, ◌/◌, ◌%◌, ◌++◌, [], ◌∷◌, length, refl, sym, ap, arith, subst, base_type, item_width, eq-eqb, Order, cell}
use Rattle.fit_shown.proofs.Common.{true, take_all, hex_digits, inl, inr, Items}
use Rattle.std.proofs.Common.{ℕ, List, Option, if◌then◌else◌, ◌==◌, ◌⊎◌, codes}
use Rattle.std.proofs.lemmas.List.{append-nil}
use Rattle.fit_base.specs.Numbers.{number}
use Rattle.fit_base.specs.declared.code.Class.TheVariants.{Bytes, Float}
use Rattle.fit_cells.proofs.ClassFacts.{code_width}
use Rattle.fit_cells.proofs.PlainFacts.{all-item, plain_cell}
use Rattle.fit_cells.specs.Cells.{class_of, items_text}
use Rattle.fit_profile.specs.Described.{is_printable}
use Rattle.fit_profile.specs.Profile.{Meaning}
use Rattle.fit_record.specs.ReadMessages.{field_from, numbers_of}
use Rattle.fit_shown.proofs.ShownCells.{BothShow, both_show, printable}

own_width : (w : ℕ) → (w ≡ 1) ⊎ (w ≡ 2) ⊎ (w ≡ 4) ⊎ (w ≡ 8) → ((if w % w == 0 then w else 1) ≡ w) × (w / w ≡ 1)
own_width w wide = elim wide [
  | inl e ↦ rw e (refl, refl)
  | inr (inl e) ↦ rw e (refl, refl)
  | inr (inr (inl e)) ↦ rw e (refl, refl)
  | inr (inr (inr e)) ↦ rw e (refl, refl)
]

-- the width of a field that is one number
pub field_width : (code size : ℕ) → (base_type code).width ≡ size → (size ≡ 1) ⊎ (size ≡ 2) ⊎ (size ≡ 4) ⊎ (size ≡ 8)
field_width code size own = subst (λ w. (w ≡ 1) ⊎ (w ≡ 2) ⊎ (w ≡ 4) ⊎ (w ≡ 8)) own (code_width code)

-- the cell of one floating point number, by its bits and by its bytes
float_cell : {A : Type 0} (code size : ℕ) (info : Option Meaning) (items : Items A) (n : ℕ) → (base_type code).class ≡ Float
    → (base_type code).width ≡ size → items.width ≡ item_width code size → items.bits ≡ n ∷ []
    → cell code info items ≡ codes "0x" ++ hex_digits (2 * size) n
float_cell code size info items n float own width bits =
    let one = own_width size (field_width code size own) in
    let wide : items.width ≡ size = width ∙ ap (λ w. if size % w == 0 then w else 1) own ∙ one.0 in
    let class : class_of code items.width ≡ Float =
    ap (λ w. class_of code w) wide ∙ ap (λ w. if size == w then (base_type code).class else Bytes) own
    ∙ ap (λ b. if b then (base_type code).class else Bytes) (eq-eqb size size refl) ∙ float in
    (λ i. if length (bits i) == 0 then [] else items_text (class i) code info (wide i) (bits i))
    ∙ append-nil (codes "0x" ++ hex_digits (2 * size) n)

float_text : (A : Type 0) (o : Order) (code size : ℕ) (info : Option Meaning) (bytes : List ℕ) → (base_type code).class ≡ Float
    → (base_type code).width ≡ size → length bytes ≡ size
    → cell code info (field_from {A = A} o (code, size) bytes) ≡ codes "0x" ++ hex_digits (2 * size) (number o bytes)
float_text A o code size info bytes float own long =
    let one = own_width size (field_width code size own) in
    let wide : item_width code size ≡ size = ap (λ w. if size % w == 0 then w else 1) own ∙ one.0 in
    let bits : (field_from {A = A} o (code, size) bytes).bits ≡ number o bytes ∷ [] =
    ap (λ w. numbers_of o w (size / w) bytes) wide ∙ ap (λ n. numbers_of o size n bytes) one.1
    ∙ ap (λ b. number o b ∷ []) (take_all size bytes (omega (arith, long))) in
    float_cell code size info (field_from {A = A} o (code, size) bytes) (number o bytes) float own refl bits

-- the same in a row and in a line
pub float_shown : (A : Type 0) (o : Order) (code size : ℕ) (info : Option Meaning) (bytes : List ℕ) → (base_type code).class ≡ Float
    → (base_type code).width ≡ size → length bytes ≡ size
    → BothShow code info (field_from {A = A} o (code, size) bytes) (codes "0x" ++ hex_digits (2 * size) (number o bytes))
float_shown A o code size info bytes float own long =
    let items = field_from {A = A} o (code, size) bytes in
    let is = float_text A o code size info bytes float own long in
    both_show code info items (codes "0x" ++ hex_digits (2 * size) (number o bytes)) is (plain_cell code info items (λ e. cc (sym float ∙ e)) ∙ is)
    (all-item (λ b. is_printable b ≡ true) printable Float code info size (number o bytes))
