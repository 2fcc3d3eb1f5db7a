use Rattle.fit_show.proofs.Common.{◌≡◌, ◌∙◌, ◌++◌, ◌∷◌, [], OnOk, map, ap, subst, joined}
use Rattle.std.specs.Prelude.{codes, decimal}
use Rattle.fit_show.proofs.lines.put_versions.Goals as goal

pub returns : goal.returns
returns c =
    let h = c.args.header.now in
    let words : map (λ w. w.now) c.as_slice-4.result.now
    ≡ codes "header " ∷ decimal h.size ∷ codes ", protocol " ∷ decimal h.protocol ∷ codes ", profile " ∷ decimal h.profile ∷ [] =
    ap (map (λ w. w.now)) c.as_slice-4.ensures
    ∙ (λ i. c.as_slice.ensures i ∷ (c.as_bytes.ensures.value ∙ c.format.ensures.text) i ∷ c.as_slice-2.ensures i
    ∷ (c.as_bytes-2.ensures.value ∙ c.format-2.ensures.text) i
    ∷ c.as_slice-3.ensures i ∷ (c.as_bytes-3.ensures.value ∙ c.format-3.ensures.text) i ∷ []) in
    subst (λ ws. OnOk c.put_words.result (c.put_words.new.text.items ≡ c.args.text.now.items ++ joined ws)) words c.put_words.ensures
