use Rattle.fit_numbers.proofs.Common.{◌≡◌, ◌∙◌, ℤ, arith, sym, refl, ap, ap₂, subst, unsigned_abs, FitsSigned, Some, to_z, of_z, ints, to_z-of_z}
use Rattle.fit_numbers.proofs.Common.{starts_with_minus, w128, IsIn128, digits_in, signed_value}
use Rattle.fit_numbers.proofs.ScanFacts.{size-in, size-of-text, text-value}
use Rattle.fit_numbers.proofs.decimal.read_back.Goals as goal

-- a number read back from its 128 bits
kept : (x v : ℤ) → IsIn128 v → x ≡ v → to_z w128 (of_z w128 x) ≡ v
kept x v inside e = let fits : FitsSigned w128 x = rw e (omega (arith, ints, inside)) in to_z-of_z w128 x fits ∙ e

pub returns-in_err-size-clause-every : goal.returns-in_err-size-clause-every
returns-in_err-size-clause-every c v inside e =
    let big = rw c.as_bytes.ensures.value at (c.in_err-size.ensures.none refl) in
    let size : digits_in 0 c.args.text.now ≡ unsigned_abs v = ap (digits_in 0) e ∙ size-of-text v c.args.decimals inside in
    absurd (omega (arith, size, big, size-in v inside))

pub returns-in_err-value-clause-every : goal.returns-in_err-value-clause-every
returns-in_err-value-clause-every c v inside e =
    let out = c.in_err-value.ensures.none refl in
    let is = text-value c.args.text.now v c.args.decimals inside e in
    let value : signed_value c.is_below.result c.in_ok-size.size ≡ v =
    ap₂ signed_value (c.is_below.ensures ∙ ap starts_with_minus c.as_bytes-2.ensures.value)
    (c.in_ok-size.ensures.some ∙ ap (digits_in 0) c.as_bytes.ensures.value) ∙ is in
    absurd (out (subst IsIn128 (sym value) inside))

pub returns-clause-every : goal.returns-clause-every
returns-clause-every c v inside e =
    let is = text-value c.args.text.now v c.args.decimals inside e in
    let value : c.in_ok-value.value ≡ v = c.in_ok-value.ensures.some
    ∙ ap₂ signed_value (c.is_below.ensures ∙ ap starts_with_minus c.as_bytes-2.ensures.value)
    (c.in_ok-size.ensures.some ∙ ap (digits_in 0) c.as_bytes.ensures.value) ∙ is in
    ap (λ (z : ℤ). Some (record { value = z; decimals = c.args.decimals })) (kept c.in_ok-value.value v inside value)
