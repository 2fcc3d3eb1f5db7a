use Rattle.fit_profile.proofs.Common.{◌≡◌, ◌∙◌, sym, ap, subst, Some, length, false, IsUtf8}
use Rattle.std.specs.Prelude.{◌==◌}
use Rattle.fit_profile.proofs.TextFacts.{text-some, text-none}
use Rattle.fit_profile.proofs.text.text_of.Goals as goal

pub returns-in-Ok : goal.returns-in-Ok
returns-in-Ok g c =
    let xs = c.args.numbers.now in
    let some : (length xs == 0) ≡ false = sym c.is_empty.ensures ∙ c.if-is_empty.false in
    let listed = rw c.in-Some.is at c.in_ok-bytes.ensures in
    ap Some (c.in_ok-text-in-Ok.ensures.ok ∙ c.in-Ok.ensures.cases.0 ∙ c.as_slice.ensures.value)
    ∙ text-some xs c.in-Some.bytes.items some listed (subst IsUtf8 c.as_slice.ensures.value c.in-Ok.ensures.cases.1)

pub returns : goal.returns
returns g c =
    let xs = c.args.numbers.now in
    let some : (length xs == 0) ≡ false = sym c.is_empty.ensures ∙ c.if-is_empty.false in
    let listed = rw c.in-Some.is at c.in_ok-bytes.ensures in
    text-none xs c.in-Some.bytes.items some listed (λ u. c.in-Err.ensures.cases.0 (subst IsUtf8 (sym c.as_slice.ensures.value) u))
