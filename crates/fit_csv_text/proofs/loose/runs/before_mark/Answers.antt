use Rattle.std.proofs.Common.{bit_or, take, refl}
use Rattle.std.proofs.lemmas.Simd.{length-chunk, zip2_of_maps, zip2_splat}
use Rattle.fit_csv_text.specs.inner.Loose.{is_mark}
use Rattle.fit_csv_text.proofs.Lanes.{before-first}
use Rattle.fit_csv_text.proofs.loose.runs.before_mark.Goals as goal

pub returns : goal.returns
returns c =
    let d = c.args.text.now in
    let v = take 16 d in
    let long = length-chunk 0 16 d c.requires in
    let r = before-first is_mark d _ _ _ c.requires c.type_inv.text c.bits_before.ensures
    (zip2_of_maps bit_or _ _ v (zip2_splat _ v 16 34 long) (zip2_splat _ v 16 13 long)) refl in
    record { within = r.0; none = r.1 }
