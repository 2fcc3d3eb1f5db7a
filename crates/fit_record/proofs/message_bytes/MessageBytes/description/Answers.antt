use Rattle.fit_record.proofs.Common.{[], None, ap, ◌∙◌, layout, description}
use Rattle.fit_record.proofs.Gathering.{fields_front}
use Rattle.fit_record.proofs.message_bytes.MessageBytes.description.Goals as goal

pub returns : goal.returns
returns g c =
    let m = c.args.self.now in
    let p = m.defined.now in
    c.description_by_bytes.ensures
    ∙ ap (λ fs. description p.definition (record { local = 0; offset = None; fields = fs; dev = [] })) (fields_front p.definition.order (layout p) m.body.now)
