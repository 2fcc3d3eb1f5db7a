use Rattle.fit_numbers.proofs.Common.{◌≡◌, ◌∙◌, sym, ap, subst, Decides, false, fixed_text}
use Rattle.std.proofs.lemmas.Slice.Eq.{bytes_eq-Decides}
use Rattle.fit_numbers.specs.declared.decimal.Fixed.{Fixed}
use Rattle.fit_numbers.proofs.decimal.Fixed.scan.Goals as goal

pub returns-else-eq-clause-every : goal.returns-else-eq-clause-every
returns-else-eq-clause-every c v inside e =
    let is = c.in_ok-fixed.ensures.every v inside e in
    let number : c.in_ok-fixed.fixed ≡ record { value = v; decimals = c.args.decimals } = cc in
    let same : c.as_str.result.now ≡ c.args.text.now =
    c.as_str.ensures.value ∙ c.print.ensures ∙ ap (λ (f : Fixed). fixed_text f.value f.decimals) number ∙ sym e in
    let differs : Decides false (c.as_str.result.now ≡ c.args.text.now) =
    subst (λ t. Decides t (c.as_str.result.now ≡ c.args.text.now)) (sym c.if-eq.ensures) (bytes_eq-Decides c.as_str.result.now c.args.text.now) in
    absurd (cc (differs.1 same))

pub returns-else-eq-clause-some : goal.returns-else-eq-clause-some
returns-else-eq-clause-some c = tt
