-- The cells of bytes, by the items of their fields and by the bytes.
use Rattle.fit_shown.proofs.Common.{◌≡◌, ◌∙◌, ◌/◌, [], length, refl, sym, ap, arith, Items, Order, cell, field_text, default_writer, item_width}
use Rattle.fit_shown.proofs.Common.{ne_eqb, unquoted}
use Rattle.std.proofs.Common.{ℕ, List, Option, if◌then◌else◌, ◌==◌, ◌<◌, true, false}
use Rattle.fit_base.specs.declared.code.Class.TheVariants.{Bytes}
use Rattle.fit_cells.proofs.ClassFacts.{bytes_width, item_width-kinds}
use Rattle.fit_cells.proofs.PlainFacts.{all-bytes}
use Rattle.fit_cells.specs.Cells.{bytes_text, class_of, items_text}
use Rattle.fit_profile.specs.Described.{is_printable}
use Rattle.fit_profile.specs.Profile.{Meaning}
use Rattle.fit_record.proofs.Gathering.{one_wide}
use Rattle.fit_record.specs.ReadMessages.{field_from, numbers_of}
use Rattle.fit_shown.proofs.ShownCells.{BothShow, both_show, printable}
use Rattle.fit_texts.specs.Octets.{IsOfBytes}

-- the items are one byte wide
octet_width : (code size : ℕ) → IsOfBytes code size → item_width code size ≡ 1
octet_width code size are = bytes_width code (item_width code size) (item_width-kinds code size) are.class

-- items that stand for these bytes
octets_shown : {A : Type 0} (code size : ℕ) (info : Option Meaning) (items : Items A) (bytes : List ℕ) → IsOfBytes code size
    → items.width ≡ item_width code size → items.bits ≡ bytes → length bytes ≡ size
    → BothShow code info items (bytes_text bytes)
octets_shown code size info items bytes are same bits long =
    let some : (length bytes == 0) ≡ false = ne_eqb (length bytes) 0 (λ e. absurd (omega (arith, e, long, are.some))) in
    let class : class_of code items.width ≡ Bytes = ap (class_of code) same ∙ are.class in
    let is : cell code info items ≡ bytes_text bytes =
    (λ i. if length (bits i) == 0 then [] else items_text (class i) code info items.width (bits i)) ∙ ap (λ b. if b then [] else bytes_text bytes) some in
    both_show code info items (bytes_text bytes) is
    (ap (field_text default_writer) is ∙ unquoted (bytes_text bytes) (all-bytes (λ b. 44 < b) (λ b h _. h) bytes))
    (all-bytes (λ b. is_printable b ≡ true) printable bytes)

-- by the bytes
pub bytes_shown : (A : Type 0) (o : Order) (code size : ℕ) (info : Option Meaning) (bytes : List ℕ) → IsOfBytes code size → length bytes ≡ size
    → BothShow code info (field_from {A = A} o (code, size) bytes) (bytes_text bytes)
bytes_shown A o code size info bytes are long =
    let items = field_from {A = A} o (code, size) bytes in
    let bits : items.bits ≡ bytes =
    ap (λ w. numbers_of o w (size / w) bytes) (octet_width code size are) ∙ ap (λ n. numbers_of o 1 (n / 1) bytes) (sym long) ∙ sym (one_wide o 1 bytes refl) in
    octets_shown code size info items bytes are refl bits long
