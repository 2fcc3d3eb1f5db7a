use Rattle.std.proofs.Common.{◌≡◌, Option, IfSome, IsSomeAnd, Some, None}
use Rattle.fit_shown.proofs.form.FieldForm.new.Goals as goal

some-and : {X : Type 0} (o : Option X) (P : X → Type 0) → IsSomeAnd o P → IfSome o P
some-and None P h = tt
some-and (Some x) P h = h

pub returns-clause-known : goal.returns-clause-known
returns-clause-known c = record {
  scale = c.requires;
  small = c.field_form-number.ensures.small;
  whole = c.field_form-number.ensures.whole;
  form = c.field_form-number.ensures.form;
  lone = λ is. some-and c.field_form-number.result.0 (λ n. n.width ≡ c.args.size) (c.field_form-number.ensures.lone (c.field_kind.ensures.lone is));
  kind = c.field_kind.ensures.kind;
}
