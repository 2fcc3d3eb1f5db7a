use Rattle.fit_record.proofs.Common.{ap, ◌∙◌, option_map, slice_get-get_or}
use Rattle.std.proofs.lemmas.Option.{slice_get-map}
use Rattle.fit_record.proofs.layout.shape_of_field.Goals as goal

pub returns : goal.returns
returns c =
    slice_get-map (λ f. (f.code, f.size)) c.args.fields.now c.args.place
    ∙ ap (option_map (λ f. (f.code, f.size))) (slice_get-get_or c.args.fields.now c.args.place _ c.requires)
