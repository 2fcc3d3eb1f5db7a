use Rattle.std.proofs.Common.{rules}
use Rattle.fit_frame.proofs.Common.{◌≡◌, true, refl, ap, ◌∙◌, checksum, FormFits, ZeroIsSum}
use Rattle.fit_frame.proofs.spelling.head_bytes.Goals as goal

pub returns-clause-ok : goal.returns-clause-ok
returns-clause-ok c =
    let form : FormFits c.args.header.now = c.has_form.ensures.0 c.if-not-has_form.false in
    let sum : ZeroIsSum c.args.header.now c.args.data_len → ⊥ = λ z.
    let zero : c.is_zero.result ≡ true = c.is_zero.ensures.1 (z.0, c.checksum-sum.ensures ∙ ap checksum c.fixed_part-fixed.ensures.bytes ∙ z.1) in
    cc (zero, c.if-is_zero.false) in (
      λ _. record {
        form = form;
        size_fits = c.fixed_part-fixed.ensures.in_range.0;
        profile_fits = c.fixed_part-fixed.ensures.in_range.1;
        data_fits =
            c.ranges.data_len.fits;
        sum = sum;
      },
      λ _. refl,
    )

pub returns-then-not-has_form-clause-bad_header : goal.returns-then-not-has_form-clause-bad_header
returns-then-not-has_form-clause-bad_header c = search rules

pub returns-then-not-has_form-clause-zero_is_sum :
    goal.returns-then-not-has_form-clause-zero_is_sum
returns-then-not-has_form-clause-zero_is_sum c = search rules

pub returns-then-is_zero-clause-bad_header : goal.returns-then-is_zero-clause-bad_header
returns-then-is_zero-clause-bad_header c = search rules

pub returns-then-is_zero-clause-zero_is_sum : goal.returns-then-is_zero-clause-zero_is_sum
returns-then-is_zero-clause-zero_is_sum c = search rules
