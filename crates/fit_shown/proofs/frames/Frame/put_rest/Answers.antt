use Rattle.fit_shown.proofs.Common.{◌∙◌, sym, ap, subst, FrameText, Global, HasShape}
use Rattle.fit_base.proofs.ByteLists.{slice_is_bytes}
use Rattle.fit_texts.proofs.ItemFacts.{field_shape}
use Rattle.fit_shown.proofs.frames.Frame.put_rest.Goals as goal

pub put_other-requires : goal.put_other-requires
put_other-requires c =
    let f = c.self.inside.form in
    let long = c.requires ∙ ap (λ (k : FrameText). k.size) (sym c.self.view_is) in
    rw (sym c.self.view_is)
    (subst (HasShape f.code.0 f.size) (sym c.in_ok-items.ensures)
    (field_shape Global c.args.order f.code.0 f.size c.args.bytes.now (slice_is_bytes c.args.bytes.now c.type_inv.bytes) long))
