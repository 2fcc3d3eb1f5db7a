use Rattle.fit_step.proofs.Common.{◌≡◌, ◌+◌, None, Some, cond, sym, ap, ◌∙◌, option_map, eq-eqb, ne_eqb, message_size, arith}
use Rattle.fit_step.proofs.SkippedRecords.{size_at}
use Rattle.fit_step.proofs.WholeMessage.{same_size}
use Rattle.fit_step.proofs.known_sizes.size_to_skip.Goals as goal

pub defined-requires : goal.defined-requires
defined-requires g c = assumption

pub length-requires : goal.length-requires
length-requires g c = assumption

pub overflow_add-result : goal.overflow_add-result
overflow_add-result g c = omega (arith, c.in-Some-length.ensures.small)

pub returns-in_default : goal.returns-in_default
returns-in_default g c = size_at c.args.env.now c.args.local None c.in_default.ensures.place

pub returns-in_default-length : goal.returns-in_default-length
returns-in_default-length g c =
    let p = c.in-Some.defined.now in
    let none : None ≡ Some (message_size p) = c.in_default-length.ensures.size ∙ ap (option_map message_size) (sym c.in-Some.ensures.place) in
    absurd (cc none)

pub returns-then-defined-eq-FIELD_DESCRIPTION : goal.returns-then-defined-eq-FIELD_DESCRIPTION
returns-then-defined-eq-FIELD_DESCRIPTION g c =
    let p = c.in-Some.defined.now in
    let description = eq-eqb p.definition.global 206 c.if-defined-eq-FIELD_DESCRIPTION.true in
    ap (λ b. cond b 0 (1 + message_size p)) (sym description) ∙ size_at c.args.env.now c.args.local (Some p) c.in-Some.ensures.place

pub returns-else-defined-eq-FIELD_DESCRIPTION : goal.returns-else-defined-eq-FIELD_DESCRIPTION
returns-else-defined-eq-FIELD_DESCRIPTION g c =
    let p = c.in-Some.defined.now in
    let size = same_size p _ c.in-Some-length.size c.in-Some.ensures.place c.in-Some-length.ensures.size in
    let plain = ne_eqb p.definition.global 206 c.if-defined-eq-FIELD_DESCRIPTION.false in
    ap (λ n. 1 + n) size ∙ ap (λ b. cond b 0 (1 + message_size p)) (sym plain) ∙ size_at c.args.env.now c.args.local (Some p) c.in-Some.ensures.place
