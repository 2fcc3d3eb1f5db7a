use Rattle.std.proofs.Common.{refl, take}
use Rattle.std.proofs.lemmas.Simd.{length-chunk, zip2_of_maps}
use Rattle.fit_csv_text.specs.inner.Loose.{is_special}
use Rattle.fit_csv_text.proofs.Lanes.{before-first, by-low-half, halves-fit, themselves}
use Rattle.fit_csv_text.specs.declared.loose.runs.TheConstants.{SPECIALS}
use Rattle.fit_csv_text.proofs.loose.runs.before_special.Goals as goal

pub swizzle-found : goal.swizzle-found
swizzle-found c = halves-fit (take 16 c.args.text.now) (length-chunk 0 16 c.args.text.now c.requires)

pub returns : goal.returns
returns c =
    let d = c.args.text.now in
    let v = take 16 d in
    let r = before-first is_special d _ _ _ c.requires c.type_inv.text c.bits_before.ensures
    (zip2_of_maps _ _ _ v (by-low-half SPECIALS v (length-chunk 0 16 d c.requires)) (themselves v)) refl in
    record { within = r.0; bare = r.1 }
