-- Numbers, texts and entries that are read where they were written.
use Rattle.std.proofs.Common.{◌≡◌, ◌∙◌, ℕ, suc, ◌+◌, ◌*◌, ◌/◌, ◌%◌, ◌^◌, ◌<◌, ◌≤◌, ◌==◌, List, [], ◌∷◌, ◌++◌, Bool, true, refl, sym, ap, ap₂, arith, length}
use Rattle.std.proofs.Common.{take, drop, append_assoc, length-append, replicate}
use Rattle.std.proofs.lemmas.Bool.{and_parts, eq-eqb, le-leb, lt-ltb, not-true}
use Rattle.std.proofs.lemmas.List.{drop_at, length-replicate, take_at}
use Rattle.std.proofs.lemmas.List.Sums.{sum_by-cons}
use Rattle.std.specs.List.{AllByRecursion, list_all}
use Rattle.std.specs.Prelude.{◌&&◌, map, nat_le, nat_lt, not, sum_by}
use Rattle.fit_base.proofs.Bytes.{little-little_bytes}
use Rattle.fit_base.proofs.Shapes.{item_width_divides}
use Rattle.fit_base.specs.BaseTypes.{item_width}
use Rattle.fit_base.specs.Numbers.{little_bytes, number}
use Rattle.fit_base.specs.declared.number.Order.TheVariants.{Little}
use Rattle.fit_messages.specs.Blocks as blocks
use Rattle.fit_messages.specs.Blocks.{Column, entries, entry, gap, sized, whole}
unfoldable use Rattle.fit_messages.specs.Blocks.{low}
use Rattle.fit_from_messages.specs.Parts.{entries_of, entry_stands, number_read, size_fits, slot_in, text_length}
use Rattle.fit_from_messages.specs.SaysChain.{IsBlock}
use Rattle.fit_from_messages.specs.declared.slot.Slot.{Slot}

-- ---- blocks and texts

length-sized : (rest : List ℕ) → length (sized rest) ≡ 4 + length rest
unfolding low
length-sized rest = omega arith

-- a length and as many bytes are a block
pub sized_block : (rest : List ℕ) → 20 ≤ length rest → 4 + length rest < 2 ^ 32 → length (sized rest) % 8 ≡ 0 → IsBlock (sized rest)
unfolding low
sized_block rest long short multiple = record {
  own_length = little-little_bytes 4 (4 + length rest) short ∙ sym (length-sized rest);
  front = omega (arith, long, length-sized rest);
  multiple = multiple;
}

pub length-text : (name : List ℕ) → length (blocks.text name) ≡ whole (length name + 1)
length-text name =
    let all = name ++ 0 ∷ [] in
    let one : length all ≡ length name + 1 = length-append name (0 ∷ []) ∙ omega arith in
    length-append all (replicate (gap (length all)) 0) ∙ ap (λ n. length all + n) (length-replicate (gap (length all)) 0) ∙ ap whole one

text_ends : (name more : List ℕ) → list_all (λ b. not (b == 0)) name ≡ true → text_length ((name ++ 0 ∷ []) ++ more) ≡ length name
text_ends [] more full = refl
text_ends (b ∷ name) more full =
    let parts = and_parts (not (b == 0)) (list_all (λ b. not (b == 0)) name) full in
    rw (not-true (b == 0) parts.0) (omega (arith, text_ends name more parts.1))

-- a text without zeros is read up to its first zero
pub text_back : (name more : List ℕ) → list_all (λ b. not (b == 0)) name ≡ true → text_length (blocks.text name ++ more) ≡ length name
text_back name more full =
    let zeros = replicate (gap (length (name ++ 0 ∷ []))) 0 in
    ap text_length (append_assoc (name ++ 0 ∷ []) zeros more) ∙ text_ends name (zeros ++ more) full

-- ---- entries

-- the entries of fields, of which the items of the first begin at this place
abbrev pub entry_list : ℕ → List Column → List (List ℕ)
entry_list at [] = []
entry_list at (c ∷ columns) = entry at c ∷ entry_list (at + whole c.size) columns

-- name and unit have at most 255 bytes each
pub record IsShortColumn (c : Column) : Type 0 where
  pub name : length c.meaning.name < 256
  pub unit : length c.meaning.unit < 256

pub length-entry : (at : ℕ) (c : Column) → length (entry at c) ≡ 32 + length (blocks.text c.meaning.name) + length (blocks.text c.meaning.unit)
unfolding low
length-entry at c = omega (arith, length-append (blocks.text c.meaning.name) (blocks.text c.meaning.unit))

short_entry : (at : ℕ) (c : Column) → IsShortColumn c → length (entry at c) < 1024
short_entry at c short = omega (arith, length-entry at c, length-text c.meaning.name, length-text c.meaning.unit, short.name, short.unit)

-- an entry says its length, whatever comes after it
entry_length : (at : ℕ) (c : Column) (more : List ℕ) → IsShortColumn c → number_read 2 0 (entry at c ++ more) ≡ length (entry at c)
unfolding low
entry_length at c more short =
    let own = 32 + length (blocks.text c.meaning.name) + length (blocks.text c.meaning.unit) in
    let small : own < 65536 = omega (arith, short_entry at c short, length-entry at c) in
    let read : number Little (little_bytes 2 own) ≡ own = little-little_bytes 2 own small in
    read ∙ sym (length-entry at c)

-- entries are cut where they end
pub entries_cut : (at : ℕ) (columns : List Column) → AllByRecursion IsShortColumn columns
    → entries_of (length columns) (entries at columns) ≡ entry_list at columns
entries_cut at [] short = refl
entries_cut at (c ∷ columns) short =
    let first = entry at c in
    let rest = entries (at + whole c.size) columns in
    ap (λ n. take n (first ++ rest) ∷ entries_of (length columns) (drop n (first ++ rest))) (entry_length at c rest short.0)
    ∙ ap₂ (λ x y. x ∷ entries_of (length columns) y) (take_at first rest (length first) refl) (drop_at first rest (length first) refl)
    ∙ ap (λ x. first ∷ x) (entries_cut (at + whole c.size) columns short.1)

pub length-entry_list : (at : ℕ) (columns : List Column) → length (entry_list at columns) ≡ length columns
length-entry_list at [] = refl
length-entry_list at (c ∷ columns) = ap suc (length-entry_list (at + whole c.size) columns)

pub entries_fill : (at : ℕ) (columns : List Column) → sum_by length (entry_list at columns) ≡ length (entries at columns)
entries_fill at [] = refl
entries_fill at (c ∷ columns) =
    let rest = at + whole c.size in
    omega (
      arith,
      sum_by-cons (λ (x : List ℕ). length x) (entry at c) (entry_list rest columns),
      entries_fill rest columns,
      length-append (entry at c) (entries rest columns),
    )

pub entries_short : (at : ℕ) (columns : List Column) → AllByRecursion IsShortColumn columns → length (entries at columns) ≤ length columns * 1024
entries_short at [] short = omega arith
entries_short at (c ∷ columns) short =
    let rest = at + whole c.size in
    omega (arith, length-append (entry at c) (entries rest columns), short_entry at c short.0, entries_short rest columns short.1)

-- how many bytes the items of fields have in a message's block
abbrev pub widths : List Column → ℕ
widths columns = sum_by (λ c. whole c.size) columns

widths-cons : (c : Column) (columns : List Column) → widths (c ∷ columns) ≡ whole c.size + widths columns
widths-cons c columns = sum_by-cons (λ (c : Column). whole c.size) c columns

pub entry_list-append : (at : ℕ) (columns more : List Column)
    → entry_list at (columns ++ more) ≡ entry_list at columns ++ entry_list (at + widths columns) more
entry_list-append at [] more = ap (λ a. entry_list a more) (let same : at ≡ at + 0 = omega arith in same)
entry_list-append at (c ∷ columns) more =
    ap (λ x. entry at c ∷ x) (entry_list-append (at + whole c.size) columns more)
    ∙ ap (λ a. entry at c ∷ entry_list (at + whole c.size) columns ++ entry_list a more)
    (let same : at + whole c.size + widths columns ≡ at + widths (c ∷ columns) = omega (arith, widths-cons c columns) in same)

-- three tests that pass
pub three : (a b c : Bool) → a ≡ true → b ≡ true → c ≡ true → (a && b && c) ≡ true
three a b c p q r = rw (p, q, r) refl

entry_back : (developer at : ℕ) (c : Column) → IsShortColumn c → c.developer ≡ developer → entry_stands developer (entry at c) ≡ true
unfolding low
entry_back developer at c short is =
    let e = entry at c in
    let long : 32 ≤ length e = omega (arith, length-entry at c) in
    let own : number_read 2 0 e ≡ length e =
    little-little_bytes 2 (32 + length (blocks.text c.meaning.name) + length (blocks.text c.meaning.unit))
    (omega (arith, short_entry at c short, length-entry at c)) ∙ sym (length-entry at c) in
    three (nat_le 32 (length e)) (length e == number_read 2 0 e) (c.developer == developer)
    (le-leb 32 (length e) long) (eq-eqb (length e) (number_read 2 0 e) (sym own)) (eq-eqb c.developer developer is)

pub entries_back : (developer at : ℕ) (columns : List Column) → AllByRecursion IsShortColumn columns
    → AllByRecursion (λ (c : Column). c.developer ≡ developer) columns → list_all (entry_stands developer) (entry_list at columns) ≡ true
entries_back developer at [] short are = refl
entries_back developer at (c ∷ columns) short are =
    rw (entry_back developer at c short.0 are.0) (entries_back developer (at + whole c.size) columns short.1 are.1)

-- ---- sizes and slots

pub size_back : (code size : ℕ) → item_width code size * (size / item_width code size) ≡ size
size_back code size = omega (arith, item_width_divides code size)

pub fits_back : (at : ℕ) (c : Column) → c.size < 256 → size_fits c.code (entry at c) ≡ true
unfolding low
fits_back at c small =
    let w = item_width c.code c.size in
    ap (λ s. nat_lt s 256 && (item_width c.code s == w)) (size_back c.code c.size)
    ∙ ap₂ (λ a b. a && b) (lt-ltb c.size 256 small) (eq-eqb w w refl)

-- where the items of fields with these codes and sizes are, of which the first begin at this place
abbrev pub slots_from : ℕ → List (ℕ × ℕ) → List Slot
slots_from at [] = []
slots_from at (f ∷ fs) = record { place = at; width = item_width f.0 f.1; count = f.1 / item_width f.0 f.1 } ∷ slots_from (at + whole f.1) fs

abbrev pub layout_of : List Column → List (ℕ × ℕ)
layout_of columns = map (λ c. (c.code, c.size)) columns

pub slots_back : (at : ℕ) (columns : List Column) → at + widths columns < 2 ^ 32 → map slot_in (entry_list at columns) ≡ slots_from at (layout_of columns)
unfolding low
slots_back at [] small = refl
slots_back at (c ∷ columns) small =
    let w = item_width c.code c.size in
    let first : number Little (little_bytes 4 at) ≡ at = little-little_bytes 4 at (omega (arith, small)) in
    let slot : ℕ → Slot = λ n. record { place = n; width = w; count = c.size / w } in
    ap₂ (λ n x. slot n ∷ x) first (slots_back (at + whole c.size) columns (omega (arith, small, widths-cons c columns)))

pub widths_few : (columns : List Column) → AllByRecursion (λ (c : Column). c.size < 256) columns → widths columns ≤ length columns * 256
widths_few [] small = omega arith
widths_few (c ∷ columns) small = omega (arith, widths-cons c columns, small.0, widths_few columns small.1)
