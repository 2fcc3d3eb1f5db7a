use Rattle.fit_profile.proofs.Common.{◌∙◌, arith, ne_eqb, sym}
use Rattle.std.proofs.Common.{eqb-true}
use Rattle.fit_profile.proofs.FieldPlaces.{absent}
use Rattle.fit_profile.proofs.plan.is_silent.Goals as goal

pub returns : goal.returns
returns c none = record {
  plain = ne_eqb c.args.definition.now.global 206 c.if-definition-eq-FIELD_DESCRIPTION.false;
  other = ne_eqb c.args.definition.now.global 20 c.if-definition-eq-RECORD.false;
  timeless = λ items. absent c.args.definition.now.fields items 253 0
      (sym (c.requires 253 (omega arith)) ∙ eqb-true _ 0 none);
}
