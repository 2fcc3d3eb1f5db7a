use Rattle.fit_numbers.proofs.Common.{◌≡◌, ◌++◌, ◌^◌, refl, subst, sym}
use Rattle.std.proofs.Common.{take, w64}
use Rattle.std.proofs.lemmas.Int.{to_z-of_z}
use Rattle.fit_numbers.specs.FixedText.{fixed_text}
use Rattle.fit_numbers.proofs.WriteFacts.{signed_text}
use Rattle.fit_numbers.proofs.write.write_scaled.Goals as goal

pub returns-then-size-ge4294967296-clause-text : goal.returns-then-size-ge4294967296-clause-text
returns-then-size-ge4294967296-clause-text c =
    let before = take c.args.at c.args.bytes.now in
    let begun = take c.write_sign-at.result c.write_sign-at.new.bytes in
    let same = to_z-of_z w64 c.args.value c.ranges.value in
    signed_text before begun (take c.write_size.result c.write_size.new.bytes) c.args.value
    c.unsigned_abs-size.result c.args.decimals (10 ^ c.args.decimals)
    same c.write_sign-at.ensures.text c.write_size.ensures.text c.unsigned_abs-size.ensures.value refl

pub returns-in-1-clause-text : goal.returns-in-1-clause-text
returns-in-1-clause-text c =
    let before = take c.args.at c.args.bytes.now in
    let begun = take c.write_sign-at.result c.write_sign-at.new.bytes in
    let same = to_z-of_z w64 c.args.value c.ranges.value in
    subst (λ d. take c.write_tenths.result c.write_tenths.new.bytes ≡ before ++ fixed_text c.args.value d) (sym c.in-1.is)
    (signed_text before begun (take c.write_tenths.result c.write_tenths.new.bytes) c.args.value
    c.unsigned_abs-size.result 1 10 same c.write_sign-at.ensures.text c.write_tenths.ensures.text c.unsigned_abs-size.ensures.value refl)

pub returns-in-2-clause-text : goal.returns-in-2-clause-text
returns-in-2-clause-text c =
    let before = take c.args.at c.args.bytes.now in
    let begun = take c.write_sign-at.result c.write_sign-at.new.bytes in
    let same = to_z-of_z w64 c.args.value c.ranges.value in
    subst (λ d. take c.write_hundredths.result c.write_hundredths.new.bytes ≡ before ++ fixed_text c.args.value d) (sym c.in-2.is)
    (signed_text before begun (take c.write_hundredths.result c.write_hundredths.new.bytes) c.args.value
    c.unsigned_abs-size.result 2 100 same c.write_sign-at.ensures.text c.write_hundredths.ensures.text c.unsigned_abs-size.ensures.value refl)

pub returns-in-3-clause-text : goal.returns-in-3-clause-text
returns-in-3-clause-text c =
    let before = take c.args.at c.args.bytes.now in
    let begun = take c.write_sign-at.result c.write_sign-at.new.bytes in
    let same = to_z-of_z w64 c.args.value c.ranges.value in
    subst (λ d. take c.write_thousandths.result c.write_thousandths.new.bytes ≡ before ++ fixed_text c.args.value d) (sym c.in-3.is)
    (signed_text before begun (take c.write_thousandths.result c.write_thousandths.new.bytes) c.args.value
    c.unsigned_abs-size.result 3 1000 same c.write_sign-at.ensures.text c.write_thousandths.ensures.text c.unsigned_abs-size.ensures.value refl)

pub returns-in_default-clause-text : goal.returns-in_default-clause-text
returns-in_default-clause-text c =
    let before = take c.args.at c.args.bytes.now in
    let begun = take c.write_sign-at.result c.write_sign-at.new.bytes in
    let same = to_z-of_z w64 c.args.value c.ranges.value in
    signed_text before begun (take c.write_size-in_default.result c.write_size-in_default.new.bytes) c.args.value
    c.unsigned_abs-size.result c.args.decimals (10 ^ c.args.decimals)
    same c.write_sign-at.ensures.text c.write_size-in_default.ensures.text c.unsigned_abs-size.ensures.value refl
