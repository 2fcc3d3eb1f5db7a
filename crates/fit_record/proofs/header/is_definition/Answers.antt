use Rattle.fit_record.proofs.Common.{◌≡◌, ◌∙◌, true, false, sym, ap, not, bit}
use Rattle.fit_record.proofs.header.is_definition.Goals as goal

pub returns-then-not-is_compressed : goal.returns-then-not-is_compressed
returns-then-not-is_compressed c =
    let plain : bit 7 c.args.byte ≡ false = sym c.is_compressed.ensures ∙ c.if-not-is_compressed.true in rw plain c.has_bit.ensures

pub returns-else-not-is_compressed : goal.returns-else-not-is_compressed
returns-else-not-is_compressed c =
    let compressed : bit 7 c.args.byte ≡ true = sym c.is_compressed.ensures ∙ c.if-not-is_compressed.false in
    rw compressed (ap not c.if-not-is_compressed.false)
