use Rattle.fit_cells.proofs.Common.{◌≡◌, ◌∙◌, ◌^◌, ◌/◌, ℕ, ℤ, pos, ◌*ℤ◌, ◌-ℤ◌, inl, refl, sym, ap, ap₂, arith, ints, option_map, meaning}
use Rattle.fit_cells.proofs.Common.{decimals, number_text, fixed_text}
use Rattle.fit_cells.proofs.form.form_by.Goals as goal

pub returns-in-Some-clause-text : goal.returns-in-Some-clause-text
returns-in-Some-clause-text c raw =
    let scale = c.in-Some.info.scale in
    ap (λ i. number_text (option_map meaning i) raw) c.in-Some.is
    ∙ ap (λ (n : ℕ). fixed_text ((raw -ℤ pos n) *ℤ pos (10 ^ decimals scale / scale)) (decimals scale)) (sym c.shift.ensures.value)
    ∙ ap₂ (λ f d. fixed_text ((raw -ℤ pos c.shift.result) *ℤ pos f) d) (sym c.factor_of.ensures.value) (sym c.decimals_of.ensures.value)

pub returns-in-None-clause-small : goal.returns-in-None-clause-small
returns-in-None-clause-small c = record { width = c.requires.width; factor = inl refl; shift = omega arith; few = omega arith }

pub returns-in-None-clause-text : goal.returns-in-None-clause-text
returns-in-None-clause-text c raw =
    let same : raw ≡ (raw -ℤ pos 0) *ℤ pos 1 = omega (arith, ints) in
    ap (λ i. number_text (option_map meaning i) raw) c.in-None.is ∙ ap (λ (z : ℤ). fixed_text z 0) same
