use Rattle.fit_numbers.proofs.Common.{◌^◌, refl}
use Rattle.std.proofs.Common.{take, w64}
use Rattle.std.proofs.lemmas.Int.{to_z-of_z}
use Rattle.fit_numbers.proofs.WriteFacts.{signed_text}
use Rattle.fit_numbers.proofs.write.write_seventh.Goals as goal

pub returns-then-size-lt4294967296-clause-text : goal.returns-then-size-lt4294967296-clause-text
returns-then-size-lt4294967296-clause-text c =
    let before = take c.args.at c.args.bytes.now in
    let begun = take c.write_sign-at.result c.write_sign-at.new.bytes in
    let same = to_z-of_z w64 c.args.value c.ranges.value in
    signed_text before begun (take c.write_ten_millionths.result c.write_ten_millionths.new.bytes) c.args.value
    c.unsigned_abs-size.result 7 10_000_000
    same c.write_sign-at.ensures.text c.write_ten_millionths.ensures.text c.unsigned_abs-size.ensures.value refl

pub returns-else-size-lt4294967296-clause-text : goal.returns-else-size-lt4294967296-clause-text
returns-else-size-lt4294967296-clause-text c =
    let before = take c.args.at c.args.bytes.now in
    let begun = take c.write_sign-at.result c.write_sign-at.new.bytes in
    let same = to_z-of_z w64 c.args.value c.ranges.value in
    signed_text before begun (take c.write_size.result c.write_size.new.bytes) c.args.value
    c.unsigned_abs-size.result 7 (10 ^ 7) same c.write_sign-at.ensures.text c.write_size.ensures.text c.unsigned_abs-size.ensures.value refl
