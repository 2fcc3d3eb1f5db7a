use Rattle.fit_table.proofs.Common.{◌≡◌, ◌∙◌, ◌++◌, ◌≤◌, [], FieldDef, ap, arith, length, subst, ArePlaces}
use Rattle.std.proofs.Common.{List, if◌then◌else◌}
use Rattle.std.specs.Prelude.{Result, Ok, Err, OnOk, is_ok}
use Rattle.fit_table.proofs.columns.Columns.renew.Goals as goal

-- what came after none, where memory was there
filled : {T E : Type 0} (r : Result T E) (before fields after : List FieldDef) → before ≡ []
    → after ≡ (if is_ok r then before ++ fields else before) → OnOk r (after ≡ fields) × (length after ≤ length fields)
filled (Ok x) before fields after none is =
    let same : after ≡ fields = is ∙ ap (λ (b : List FieldDef). b ++ fields) none in (same, omega (arith, ap length same))
filled (Err e) before fields after none is = (tt, omega (arith, ap length (is ∙ none)))

pub new-self-inside-requires : goal.new-self-inside-requires
new-self-inside-requires c =
    let put = c.extend_from_slice-extended in
    let all = filled put.result c.clear.new.self.items c.args.fields.now put.new.self.items c.clear.ensures.items put.ensures.items in
    omega (arith, all.1, ap length c.as_slice.ensures.value, c.requires)

pub invariant_of-self : goal.invariant_of-self
invariant_of-self c = subst (λ (b : List FieldDef). ArePlaces b c.new-self-inside.result) c.as_slice.ensures.value c.new-self-inside.ensures

pub returns : goal.returns
returns c =
    let put = c.extend_from_slice-extended in
    (filled put.result c.clear.new.self.items c.args.fields.now put.new.self.items c.clear.ensures.items put.ensures.items).0
