use Rattle.std.proofs.Common.{◌∙◌, ◌++◌, ◌∷◌, arith, sym, ap, subst, append_assoc, List, ℕ, take}
use Rattle.std.proofs.lemmas.Result.{MatchResult-weaker}
use Rattle.fit_csv_text.proofs.LooseTexts.{bare-goes-on, none-of}
use Rattle.fit_csv_text.specs.inner.Loose.{NoneOf, Opens, WritesOn, is_special, spot_from}
use Rattle.fit_csv_text.specs.declared.loose.Spot.TheVariants.{RowStart}
use Rattle.fit_csv_text.proofs.loose.take_quoted.Goals as goal

pub returns-in-Some-after_bare-clause-goes : goal.returns-in-Some-after_bare-clause-goes
returns-in-Some-after_bare-clause-goes c =
    let old = c.args.written.now.items in
    let text = c.args.text.now in
    let after = c.in-Some-after_bare.after.now in
    let bare = take c.in-Some.shown text in
    let at = c.spot_of-spot.ensures ∙ ap (λ (w : List ℕ). spot_from RowStart w) c.as_slice.ensures.value in
    let opens : Opens (spot_from RowStart old) bare = subst (λ spot. Opens spot bare) at c.in-Some-after_bare.ensures.1 in
    let plain : NoneOf is_special bare = none-of is_special c.in-Some.shown text c.in-Some.ensures.within c.in-Some.ensures.bare in
    MatchResult-weaker c.end_cell.result c.end_cell.ensures.ends (λ left h.
    subst (λ (t : List ℕ). WritesOn (34 ∷ t) left.now old c.end_cell.new.written.items) (sym c.in-Some-after_bare.ensures.0)
    (subst (λ (w : List ℕ). WritesOn (34 ∷ (bare ++ (34 ∷ after))) left.now old w)
    (sym (h.2 ∙ ap (λ (w : List ℕ). w ++ h.0) c.in_ok-put.ensures.text ∙ append_assoc old bare h.0))
    (bare-goes-on old bare after left.now h.0 opens plain h.1)))
    (λ e p. p)

pub returns-in-Some-after_bare-clause-grows : goal.returns-in-Some-after_bare-clause-grows
returns-in-Some-after_bare-clause-grows c =
    MatchResult-weaker c.end_cell.result c.end_cell.ensures.grows (λ left h. (omega (arith, c.in_ok-put.ensures.long, h.0), h.1)) (λ e p. p)
