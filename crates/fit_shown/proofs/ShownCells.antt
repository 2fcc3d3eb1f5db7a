-- Cells that are shown as they are, as that of a lone number.
use Rattle.fit_shown.proofs.Common.{◌≡◌, ◌∙◌, ◌++◌, ◌∷◌, [], ◌%◌, length, refl, sym, ap, ap₂, subst, inl, inr, arith, nat_tests, eq-eqb, ne_eqb}
use Rattle.fit_shown.proofs.Common.{AllByRecursion, Bool, true, false, ◌&&◌, not, list_all, Global, Items, IsFormOf, Meaning, Order}
use Rattle.fit_shown.proofs.Common.{and_sheet, base_type, cell, default_writer, field_text, item_text, item_width, lone_cell, shown_cell}
use Rattle.std.proofs.Common.{◌<◌, ◌==◌, ◌⊎◌, ℕ, List, None, Option, Result, if◌then◌else◌}
use Rattle.std.specs.Prelude.{IfOk}
use Rattle.std.proofs.lemmas.Result.{IfOk-weaker}
use Rattle.fit_base.specs.Numbers.{number}
use Rattle.fit_cells.proofs.PlainFacts.{all-item, formed_cell}
use Rattle.fit_cells.specs.Forms.{IsSmallForm}
use Rattle.fit_cells.specs.declared.form.NumberForm.{NumberForm}
use Rattle.fit_profile.specs.Described.{is_printable}
use Rattle.fit_record.specs.ReadMessages.{field_from}
use Rattle.fit_texts.proofs.ItemFacts.{lone_field}
use Rattle.fit_shown.specs.declared.form.FieldForm.{FieldForm}
use Rattle.fit_shown.specs.inner.FieldForms.{IsShownAfter, field_meaning}

pub printable : (b : ℕ) → 44 < b → b < 124 → is_printable b ≡ true
printable b low high = grind (arith, nat_tests)

pub all_printable : (text : List ℕ) → AllByRecursion (λ b. is_printable b ≡ true) text → list_all is_printable text ≡ true
all_printable [] h = refl
all_printable (b ∷ text) h = rw h.0 (all_printable text h.1)

as-it-is : (narrow shown : Bool) (bytes cell : List ℕ) → shown ≡ true → (if narrow && not shown then bytes else cell) ≡ cell
as-it-is narrow shown bytes cell is = subst (λ s. (if narrow && not s then bytes else cell) ≡ cell) (sym is) (plain narrow)
  where
    plain : (narrow : Bool) → (if narrow && not true then bytes else cell) ≡ cell
    plain true = refl
    plain false = refl

-- a cell without control characters
pub printable_shown : {A : Type 0} (code : ℕ) (info : Option Meaning) (items : Items A) → list_all is_printable (cell code info items) ≡ true
    → shown_cell code info items ≡ cell code info items
printable_shown code info items shown =
    as-it-is (items.width == 1) (list_all is_printable (cell code info items)) (cell 0x0D None items) (cell code info items) shown

-- of items that are no bytes
pub wide_shown : {A : Type 0} (code : ℕ) (info : Option Meaning) (items : Items A) → (items.width ≡ 1 → ⊥)
    → shown_cell code info items ≡ cell code info items
wide_shown code info items wide =
    let own = cell code info items in
    ap (λ narrow. if narrow && not (list_all is_printable own) then cell 0x0D None items else own) (ne_eqb items.width 1 wide)

-- a cell with a control character
pub hidden_shown : {A : Type 0} (code : ℕ) (info : Option Meaning) (items : Items A) → items.width ≡ 1
    → list_all is_printable (cell code info items) ≡ false → shown_cell code info items ≡ cell 0x0D None items
hidden_shown code info items narrow hidden =
    ap₂ (λ n shown. if n && not shown then cell 0x0D None items else cell code info items) (eq-eqb items.width 1 narrow) hidden

wide_or_one : (w n : ℕ) (whole : Bool) → n ≡ (if whole then w else 1) → (n ≡ w) ⊎ (n ≡ 1)
wide_or_one w n true is = inl is
wide_or_one w n false is = inr is

-- items are as wide as their base type, or bytes
pub shape_width : (code size n : ℕ) → n ≡ item_width code size → (n ≡ (base_type code).width) ⊎ (n ≡ 1)
shape_width code size n is = wide_or_one (base_type code).width n (size % (base_type code).width == 0) is

-- a row and a line show these items as this text
abbrev pub BothShow : {A : Type 0} → ℕ → Option Meaning → Items A → List ℕ → Type 0
BothShow code info items text = (field_text default_writer (cell code info items) ≡ text) × (shown_cell code info items ≡ text)

pub both_show : {A : Type 0} (code : ℕ) (info : Option Meaning) (items : Items A) (text : List ℕ) → cell code info items ≡ text
    → field_text default_writer (cell code info items) ≡ text → AllByRecursion (λ b. is_printable b ≡ true) text → BothShow code info items text
both_show code info items text is in_row printed =
    (in_row, printable_shown code info items (ap (list_all is_printable) is ∙ all_printable text printed) ∙ is)

-- both texts come after another one, where the one text does
pub put_both : {E : Type 0} (end : Result ℕ E) (f : FieldForm) (o : Order) (bytes text sheet before put : List ℕ)
    → BothShow f.code.0 (field_meaning f) (field_from {A = Global} o (f.code.0, f.size) bytes) put
    → IfOk end (λ e. and_sheet text sheet e ≡ before ++ put) → IfOk end (λ e. IsShownAfter f o bytes before (and_sheet text sheet e))
put_both end f o bytes text sheet before put both =
    IfOk-weaker end _ _ (λ e is. (is ∙ ap (λ t. before ++ t) (sym both.0), is ∙ ap (λ t. before ++ t) (sym both.1)))

-- ---- a lone number

-- by the items
pub lone_shown : {A : Type 0} (n : NumberForm) (code : ℕ) (info : Option Meaning) (items : Items A) (bits : ℕ) → IsFormOf code info n
    → items.width ≡ n.width → items.bits ≡ bits ∷ [] → BothShow code info items (item_text (base_type code).class code info n.width bits)
lone_shown n code info items bits form same one =
    both_show code info items (item_text (base_type code).class code info n.width bits) (formed_cell n code info items bits form same one)
    (lone_cell n code info items bits form same one)
    (all-item (λ b. is_printable b ≡ true) printable (base_type code).class code info n.width bits)

-- by the bytes
pub lone_read : (n : NumberForm) (f : FieldForm) (o : Order) (bytes : List ℕ) (bits : ℕ) → IsSmallForm n → n.width ≡ f.size
    → IsFormOf f.code.0 (field_meaning f) n → length bytes ≡ f.size → bits ≡ number o bytes
    → BothShow f.code.0 (field_meaning f) (field_from {A = Global} o (f.code.0, f.size) bytes)
    (item_text (base_type f.code.0).class f.code.0 (field_meaning f) n.width bits)
lone_read n f o bytes bits small width form long is =
    let w = subst (λ w. (w ≡ 1) ⊎ (w ≡ 2) ⊎ (w ≡ 4)) width small.width in
    let lone = lone_field Global o f.code.0 f.size bytes w (sym width ∙ form.width) long in
    lone_shown n f.code.0 (field_meaning f) (field_from {A = Global} o (f.code.0, f.size) bytes) bits form (lone.0 ∙ sym width)
    (lone.1 ∙ ap (λ m. m ∷ []) (sym is))
