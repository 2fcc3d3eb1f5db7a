use Rattle.fit_profile.proofs.Common.{◌∙◌, sym, eq-eqb}
use Rattle.fit_profile.proofs.FieldPlaces.{counters-placed}
use Rattle.fit_profile.proofs.counter_places.may_count_by.Goals as goal

pub returns-then-definition-eq-RECORD : goal.returns-then-definition-eq-RECORD
returns-then-definition-eq-RECORD c =
    rw (eq-eqb c.args.definition.now.global 20 c.if-definition-eq-RECORD.true)
    (c.have_counter_by.ensures ∙ sym (counters-placed c.args.places.now c.args.definition.now.fields c.requires))
