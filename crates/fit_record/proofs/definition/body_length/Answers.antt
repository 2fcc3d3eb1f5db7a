use Rattle.fit_record.proofs.Common.{◌≡◌, ap, sym, ◌∙◌, dev_defs, sum_by}
use Rattle.fit_record.proofs.definition.body_length.Goals as goal

pub returns-in-Some-clause-length : goal.returns-in-Some-clause-length
returns-in-Some-clause-length g c =
    let d = c.args.d.now in
    let fields : c.sizes_of_fields-fields.result ≡ sum_by (λ f. f.size) d.fields = c.sizes_of_fields-fields.ensures.sum
    ∙ ap (sum_by (λ f. f.size)) c.as_slice.ensures in
    let dev : c.sizes_of_dev_fields.result ≡ sum_by (λ f. f.size) (dev_defs d.dev) = c.sizes_of_dev_fields.ensures.sum
    ∙ ap (sum_by (λ f. f.size)) (c.as_slice-in-Some.ensures ∙ sym (ap dev_defs c.in-Some.is)) in
    rw (fields, dev)
