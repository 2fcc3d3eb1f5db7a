use Rattle.fit_step.proofs.Common.{sym, ap, ◌∙◌, subst, arith, length, flat_map, field_bytes, IfSome}
use Rattle.fit_record.specs.Sound.{IsSound}
use Rattle.fit_step.proofs.RepeatedDefinitions.{known_again}
use Rattle.fit_step.proofs.repeated.is_known.Goals as goal

pub are_fields-requires : goal.are_fields-requires
are_fields-requires g c =
    let counted = ap length c.as_slice.ensures ∙ (c.begins_as.ensures c.if-not-begins_as.false).count in
    omega (arith, c.requires, counted)

pub returns : goal.returns
returns g c = λ yes.
    let p = c.in-Some.defined.now in
    let known = sym c.in-Some.ensures.place in
    let sound : IsSound p = subst (λ o. IfSome o IsSound) known c.in-Some.ensures.sound in
    known_again c.args.env.now p c.args.front c.args.entries.now known sound (c.begins_as.ensures c.if-not-begins_as.false)
    (ap (flat_map field_bytes) (sym c.as_slice.ensures) ∙ c.are_fields.ensures yes)

pub returns-in_default : goal.returns-in_default
returns-in_default g c = λ yes. absurd (cc yes)

pub returns-then-not-begins_as : goal.returns-then-not-begins_as
returns-then-not-begins_as g c = λ yes. absurd (cc yes)
