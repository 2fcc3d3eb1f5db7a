use Rattle.fit_step.proofs.Common.{◌∙◌, ap, length, arith}
use Rattle.fit_step.proofs.Undoing.{number_taken, length-add_number}
use Rattle.fit_step.proofs.undone.take_number.Goals as goal

pub returns-then-place-len : goal.returns-then-place-len
returns-then-place-len g c = λ before n below more.
    absurd (omega (arith, below, c.if-place-len.true, c.len.ensures, ap length more ∙ length-add_number c.args.place before n))

pub returns : goal.returns
returns g c = λ before n below more.
    c.from_vec.ensures
    ∙ number_taken c.into_vec-items.result.items c.args.fields.now before c.args.place n c.index_mut.result.now c.pop.new.self c.pop.result
    (c.into_vec-items.ensures ∙ c.replace.ensures.value) more below c.index_mut.ensures.value c.pop.ensures.last c.pop.ensures.some
