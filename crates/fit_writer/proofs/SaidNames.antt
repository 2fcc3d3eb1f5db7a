-- The entries of developer fields say the names, units and base types that these have.
use Rattle.std.proofs.Common.{◌≡◌, ◌∙◌, ℕ, ◌+◌, ◌==◌, List, [], ◌∷◌, ◌++◌, Bool, true, false, refl, sym, ap, ap₂, subst, arith, length, take, drop}
use Rattle.std.proofs.Common.{append_assoc, replicate}
use Rattle.std.proofs.lemmas.Bool.{and_parts, ne_eqb, true≢false}
use Rattle.std.proofs.lemmas.List.{append-nil, drop-drop, drop_at, take_at}
use Rattle.std.specs.List.{AllByRecursion, list_all}
use Rattle.std.specs.Prelude.{◌&&◌, Option, Some, None, IfSome, if◌then◌else◌, map, not, option_and_then, unwrap_or}
use Rattle.std.specs.Str.{is_utf8}
use Rattle.fit_base.proofs.Bytes.{little-little_bytes}
use Rattle.fit_base.specs.declared.items.Items.{Items}
use Rattle.fit_messages.specs.Blocks as blocks
use Rattle.fit_messages.specs.Blocks.{dev_column, entry, gap, whole}
unfoldable use Rattle.fit_messages.specs.Blocks.{low}
use Rattle.fit_profile.specs.Described.{Naming, before_closing_zeros, is_printable, naming, naming_of, namings_at, printable_text}
use Rattle.fit_profile.specs.Looks.{first_field, known}
use Rattle.fit_record.specs.Environment.{defined_at, description, dev_defs}
use Rattle.fit_record.specs.declared.definition.DevDef.{DevDef}
use Rattle.fit_record.specs.declared.definition.FieldDef.{FieldDef}
use Rattle.fit_record.specs.declared.environment.Defined.{Defined}
use Rattle.fit_record.specs.declared.learn.Description.{Description}
use Rattle.fit_record.specs.declared.message.Record.{Record}
use Rattle.fit_record.specs.declared.message.Record.TheVariants.{Define, Values as Data}
use Rattle.fit_record.specs.declared.message.Values.{Values}
use Rattle.fit_from_messages.proofs.ColumnsBack.{dev_columns}
use Rattle.fit_from_messages.proofs.ReadBack.{entry_list, length-text, text_back}
use Rattle.fit_from_messages.proofs.SmallSizes.{IsShort}
use Rattle.fit_from_messages.specs.Parts.{byte_at, number_read, text_length}
use Rattle.fit_writer.specs.Reading.{entry_naming, text_in}

-- ---- texts that a reader is told

-- at least one byte, and no zero
abbrev pub IsText : Option (List ℕ) → Type 0
IsText o = IfSome o (λ t. ((length t == 0) ≡ false) × (list_all (λ b. not (b == 0)) t ≡ true))

abbrev pub HasTexts : Naming → Type 0
HasTexts n = IsText n.name × IsText n.unit

no_zero : (b : ℕ) → is_printable b ≡ true → not (b == 0) ≡ true
no_zero b is = ap not (ne_eqb b 0 (λ e. true≢false (sym (subst (λ n. is_printable n ≡ true) e is))))

no_zeros : (bytes : List ℕ) → list_all is_printable bytes ≡ true → list_all (λ b. not (b == 0)) bytes ≡ true
no_zeros [] all = refl
no_zeros (b ∷ bytes) all =
    let both = and_parts (is_printable b) (list_all is_printable bytes) all in
    rw (no_zero b both.0) (no_zeros bytes both.1)

printable_is_text : (bytes : List ℕ) → IsText (printable_text bytes)
printable_is_text bytes = go (length bytes == 0) (list_all is_printable bytes) (is_utf8 bytes) refl refl
  where
    go : (a b c : Bool) → (length bytes == 0) ≡ a → list_all is_printable bytes ≡ b → IsText (if (not a && b) && c then Some bytes else None)
    go true b c is all = tt
    go false false c is all = tt
    go false true false is all = tt
    go false true true is all = (is, no_zeros bytes all)

field_is_text : {A : Type 0} (o : Option (FieldDef × Items A))
    → IsText (option_and_then (λ f. if f.0.code == 0x07 then printable_text (before_closing_zeros f.1.bits) else None) o)
field_is_text None = tt
field_is_text (Some (f, i)) = elim (f.code == 0x07) as (λ t. IsText (if t then printable_text (before_closing_zeros i.bits) else None)) [
  | true ↦ printable_is_text (before_closing_zeros i.bits)
  | false ↦ tt
]

naming_has_texts : {A : Type 0} (p : Defined A) (v : Values A) → HasTexts (naming p.definition v)
naming_has_texts p v =
    (field_is_text (first_field p.definition.fields v.fields 3), field_is_text (first_field p.definition.fields v.fields 8))

-- the last naming is of a description or was there before
by_texts : {A : Type 0} (p : Defined A) (v : Values A) (index number : ℕ) (before : Naming) (o : Option Description) → HasTexts before
    → HasTexts (unwrap_or (option_and_then (λ s. if s.key.index == index && s.key.number == number then Some (naming p.definition v) else None) o) before)
by_texts p v index number before None other = other
by_texts p v index number before (Some s) other =
    elim (s.key.index == index && s.key.number == number) as (λ t. HasTexts (unwrap_or (if t then Some (naming p.definition v) else None) before)) [
      | true ↦ naming_has_texts p v
      | false ↦ other
    ]

after_texts : {A : Type 0} (o : Option (Defined A)) (v : Values A) (index number : ℕ) (before : Naming) → HasTexts before
    → HasTexts (unwrap_or (option_and_then (λ p. option_and_then (λ s.
    if s.key.index == index && s.key.number == number then Some (naming p.definition v) else None) (description p.definition v)) o) before)
after_texts None v index number before other = other
after_texts (Some p) v index number before other = by_texts p v index number before (description p.definition v) other

naming_of_texts : {A : Type 0} (before : List (Record A)) (index number : ℕ) → HasTexts (naming_of before index number)
naming_of_texts [] index number = (tt, tt)
naming_of_texts (Define d ∷ before) index number = naming_of_texts before index number
naming_of_texts (Data v ∷ before) index number =
    after_texts (defined_at (known before) v.local) v index number (naming_of before index number) (naming_of_texts before index number)

own_texts : {A : Type 0} (before : List (Record A)) (fields : List DevDef)
    → AllByRecursion HasTexts (map (λ f. naming_of before f.index f.number) fields)
own_texts before [] = tt
own_texts before (f ∷ fields) = (naming_of_texts before f.index f.number, own_texts before fields)

pub namings_texts : {A : Type 0} (before : List (Record A)) (local : ℕ) → AllByRecursion HasTexts (namings_at before local)
namings_texts [] local = tt
namings_texts (Data v ∷ before) local = namings_texts before local
namings_texts (Define d ∷ before) local =
    elim (d.local == local) as (λ t. AllByRecursion HasTexts (if t then map (λ f. naming_of before f.index f.number) (dev_defs d.dev)
    else namings_at before local)) [
      | true ↦ own_texts before (dev_defs d.dev)
      | false ↦ namings_texts before local
    ]

-- ---- in an entry

text_again : (t more : List ℕ) → take (length t) (blocks.text t ++ more) ≡ t
text_again t more =
    let zeros = replicate (gap (length (t ++ 0 ∷ []))) 0 in
    ap (take (length t)) (append_assoc (t ++ 0 ∷ []) zeros more ∙ append_assoc t (0 ∷ []) (zeros ++ more))
    ∙ take_at t ((0 ∷ []) ++ (zeros ++ more)) (length t) refl

text_in_back : (place : ℕ) (bytes more : List ℕ) (o : Option (List ℕ)) → IsText o → drop place bytes ≡ blocks.text (unwrap_or o []) ++ more
    → text_in place bytes ≡ o
text_in_back place bytes more None is there = ap (λ bs. if text_length bs == 0 then None else Some (take (text_length bs) bs)) there
text_in_back place bytes more (Some t) is there =
    ap (λ bs. if text_length bs == 0 then None else Some (take (text_length bs) bs)) there
    ∙ ap (λ n. if n == 0 then None else Some (take n (blocks.text t ++ more))) (text_back t more is.1)
    ∙ ap (λ b. if b then None else Some (take (length t) (blocks.text t ++ more))) is.0 ∙ ap Some (text_again t more)

naming_back : (at : ℕ) (f : DevDef) (code : ℕ) (n : Naming) → IsShort n → HasTexts n → entry_naming (entry at (dev_column f code n)) ≡ n
unfolding low
naming_back at f code n short is =
    let bytes = entry at (dev_column f code n) in
    let name = blocks.text (unwrap_or n.name []) in
    let unit = blocks.text (unwrap_or n.unit []) in
    let all : drop 32 bytes ≡ name ++ unit = refl in
    let begins : number_read 2 2 bytes ≡ 32 + length name =
    little-little_bytes 2 (32 + length name) (omega (arith, length-text (unwrap_or n.name []), short.0)) in
    let last : drop (number_read 2 2 bytes) bytes ≡ unit ++ [] =
    ap (λ k. drop k bytes) begins ∙ sym (drop-drop (length name) 32 bytes) ∙ ap (drop (length name)) all ∙ drop_at name unit (length name) refl
    ∙ sym (append-nil unit) in
    ap₂ (λ (a b : Option (List ℕ)). record { name = a; unit = b }) (text_in_back 32 bytes unit n.name is.0 all)
    (text_in_back (number_read 2 2 bytes) bytes [] n.unit is.1 last)

-- ---- of all developer fields

pub namings_back : (at : ℕ) (fields : List DevDef) (code : DevDef → ℕ) (namings : List Naming) → length namings ≡ length fields
    → AllByRecursion IsShort namings → AllByRecursion HasTexts namings
    → map entry_naming (entry_list at (dev_columns fields (map code fields) namings)) ≡ namings
unfolding low
namings_back at [] code [] each short are = refl
namings_back at [] code (n ∷ namings) each short are = absurd (omega (arith, each))
namings_back at (f ∷ fields) code [] each short are = absurd (omega (arith, each))
namings_back at (f ∷ fields) code (n ∷ namings) each short are =
    ap₂ (λ (a : Naming) (b : List Naming). a ∷ b) (naming_back at f (code f) n short.0 are.0)
    (namings_back (at + whole f.size) fields code namings (omega (arith, each)) short.1 are.1)

pub codes_back : (at : ℕ) (fields : List DevDef) (code : DevDef → ℕ) (namings : List Naming) → length namings ≡ length fields
    → map (byte_at 7) (entry_list at (dev_columns fields (map code fields) namings)) ≡ map code fields
unfolding low
codes_back at [] code namings each = refl
codes_back at (f ∷ fields) code [] each = absurd (omega (arith, each))
codes_back at (f ∷ fields) code (n ∷ namings) each =
    ap (λ (x : List ℕ). code f ∷ x) (codes_back (at + whole f.size) fields code namings (omega (arith, each)))
