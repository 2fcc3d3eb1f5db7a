use Rattle.fit_cells.proofs.Common.{◌≡◌, ◌∙◌, ◌*ℤ◌, ◌-ℤ◌, ◌*◌, ◌^◌, ◌/◌, ℕ, pos, arith, ap, sym, ints, same_Some, none-some, fixed_text, IsIn128, decimals}
use Rattle.fit_cells.proofs.Common.{scaled_value}
use Rattle.fit_numbers.specs.declared.decimal.Fixed.{Fixed}
use Rattle.fit_cells.proofs.NumberFacts.{kept, scaled-in}
use Rattle.fit_cells.proofs.raw.read_scaled.Goals as goal

pub returns-in_err-number : goal.returns-in_err-number
returns-in_err-number c raw least most e =
    let shift : c.shift-shift.result ≡ c.args.info.offset * c.args.info.scale = c.shift-shift.ensures.value in
    let inside : IsIn128 (scaled_value raw c.args.info.scale c.args.info.offset) =
    scaled-in (raw -ℤ pos (c.args.info.offset * c.args.info.scale)) c.args.info.scale c.requires
    (omega (arith, ints, least, shift, c.shift-shift.ensures.bound)) (omega (arith, ints, most, shift, c.shift-shift.ensures.bound)) in
    let text : c.args.text.now ≡ fixed_text (scaled_value raw c.args.info.scale c.args.info.offset) c.fixed.result.decimals =
    e ∙ ap (fixed_text (scaled_value raw c.args.info.scale c.args.info.offset)) (sym c.fixed.ensures.decimals) in
    absurd (none-some _ (c.in_err-number.ensures (scaled_value raw c.args.info.scale c.args.info.offset) inside text))

pub returns : goal.returns
returns c raw least most e =
    let shift : c.shift-shift.result ≡ c.args.info.offset * c.args.info.scale = c.shift-shift.ensures.value in
    let inside : IsIn128 (scaled_value raw c.args.info.scale c.args.info.offset) =
    scaled-in (raw -ℤ pos (c.args.info.offset * c.args.info.scale)) c.args.info.scale c.requires
    (omega (arith, ints, least, shift, c.shift-shift.ensures.bound)) (omega (arith, ints, most, shift, c.shift-shift.ensures.bound)) in
    let text : c.args.text.now ≡ fixed_text (scaled_value raw c.args.info.scale c.args.info.offset) c.fixed.result.decimals =
    e ∙ ap (fixed_text (scaled_value raw c.args.info.scale c.args.info.offset)) (sym c.fixed.ensures.decimals) in
    let value : c.in_ok-number.number.value ≡ scaled_value raw c.args.info.scale c.args.info.offset =
    ap (λ (f : Fixed). f.value) (same_Some _ _ (c.in_ok-number.ensures (scaled_value raw c.args.info.scale c.args.info.offset) inside text)) in
    c.unscaled.ensures raw least most
    (kept c.in_ok-number.number.value (scaled_value raw c.args.info.scale c.args.info.offset) inside value
    ∙ ap (λ (n : ℕ). (raw -ℤ pos n) *ℤ pos (10 ^ decimals c.args.info.scale / c.args.info.scale)) (sym shift))
