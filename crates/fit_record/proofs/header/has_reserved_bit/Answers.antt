use Rattle.fit_record.proofs.Common.{◌≡◌, ◌∙◌, true, false, sym, ap, not, bit}
use Rattle.fit_record.proofs.header.has_reserved_bit.Goals as goal

pub returns-then-has_bit-2 : goal.returns-then-has_bit-2
returns-then-has_bit-2 c =
    let plain : bit 7 c.args.byte ≡ false = sym c.is_compressed.ensures ∙ c.if-is_compressed.false in
    let free : bit 4 c.args.byte ≡ false = sym c.has_bit.ensures ∙ c.if-has_bit.false in
    let developer : bit 5 c.args.byte ≡ true = sym c.has_bit-2.ensures ∙ c.if-has_bit-2.true in
    rw (plain, free, developer) (ap not c.has_bit-then-has_bit-2.ensures)

pub returns-else-has_bit-2 : goal.returns-else-has_bit-2
returns-else-has_bit-2 c =
    let plain : bit 7 c.args.byte ≡ false = sym c.is_compressed.ensures ∙ c.if-is_compressed.false in
    let free : bit 4 c.args.byte ≡ false = sym c.has_bit.ensures ∙ c.if-has_bit.false in
    let developer : bit 5 c.args.byte ≡ false = sym c.has_bit-2.ensures ∙ c.if-has_bit-2.false in
    rw (plain, free, developer) c.if-has_bit-2.false
