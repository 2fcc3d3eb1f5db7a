use Rattle.fit_record.proofs.Common.{ap, ◌∙◌, arith, drop, fields_from, layout, sizes}
use Rattle.fit_record.proofs.FoundMessages.{left_for_dev}
use Rattle.fit_record.proofs.Gathering.{fields_front}
use Rattle.fit_record.proofs.message_bytes.MessageBytes.values.Goals as goal

pub read_fields-requires-2 : goal.read_fields-requires-2
read_fields-requires-2 g c =
    let p = c.args.self.now.defined.now in
    let bytes = c.args.self.now.body.now in
    let after = c.in_ok-fields.ensures.1 ∙ ap (λ l. drop (sizes l) bytes) c.layout.ensures.shapes in
    omega (arith, left_for_dev p bytes c.in_ok-fields.back.now c.requires.size after, ap sizes c.dev_layout.ensures.shapes)

pub returns : goal.returns
returns g c =
    let m = c.args.self.now in
    let p = m.defined.now in
    let o = p.definition.order in
    let bytes = m.body.now in
    let after = c.in_ok-fields.ensures.1 ∙ ap (λ l. drop (sizes l) bytes) c.layout.ensures.shapes in
    let fields = c.in_ok-fields.ensures.0 ∙ ap (λ l. fields_from o l bytes) c.layout.ensures.shapes ∙ fields_front o (layout p) bytes in
    let dev = c.in_ok-dev.ensures.0 ∙ ap (fields_from o c.dev_layout.result) after
    ∙ ap (λ l. fields_from o l (drop (sizes (layout p)) bytes)) c.dev_layout.ensures.shapes in
    λ i. record { local = m.local; offset = m.offset; fields = fields i; dev = dev i }
