use Rattle.fit_cells.proofs.Common.{◌≡◌, ◌∙◌, ◌^◌, ◌<◌, sym, eqb-true, eq-eqb, subst, length, option_map, same_Some, none-some, base_type, meaning}
use Rattle.std.proofs.Common.{◌==◌}
use Rattle.fit_cells.proofs.ClassFacts.{code_width}
use Rattle.fit_cells.proofs.NumberFacts.{empty-number, some-number, power-bound, raw-least, raw-most, raw-in, kept, same-raw}
use Rattle.fit_cells.proofs.raw.read_number.Goals as goal

pub returns-then-is_empty-clause-every : goal.returns-then-is_empty-clause-every
returns-then-is_empty-clause-every c bits raw below is e =
    let none : length c.args.text.now ≡ 0 = eqb-true (length c.args.text.now) 0 (sym c.is_empty.ensures ∙ c.if-is_empty.true) in
    c.invalid.ensures ∙ sym (eqb-true bits (base_type c.args.code.0).invalid
    (empty-number (bits == (base_type c.args.code.0).invalid) (option_map meaning c.args.info) raw c.args.text.now none e))

pub returns-in-Some-clause-every : goal.returns-in-Some-clause-every
returns-in-Some-clause-every c bits raw below is e =
    let text = some-number (bits == (base_type c.args.code.0).invalid) (option_map meaning c.args.info) raw c.args.text.now
    (λ none. cc (sym c.if-is_empty.false ∙ c.is_empty.ensures ∙ eq-eqb (length c.args.text.now) 0 none)) e in
    let limit = power-bound (base_type c.args.code.0).width (code_width c.args.code.0) in
    let least = raw-least raw bits (256 ^ (base_type c.args.code.0).width) limit is in
    let most = raw-most raw bits (256 ^ (base_type c.args.code.0).width) limit below is in
    let same : c.in-Some.raw ≡ raw = same_Some c.in-Some.raw raw (c.in-Some.ensures raw least most text) in
    c.bits_of.ensures.every bits (subst (λ w. bits < 256 ^ w) (sym c.width.ensures) below)
    (same-raw c.width.result (base_type c.args.code.0).width bits _ raw c.width.ensures (kept c.in-Some.raw raw (raw-in raw least most) same) is)

pub returns-in-None-clause-every : goal.returns-in-None-clause-every
returns-in-None-clause-every c bits raw below is e =
    let text = some-number (bits == (base_type c.args.code.0).invalid) (option_map meaning c.args.info) raw c.args.text.now
    (λ none. cc (sym c.if-is_empty.false ∙ c.is_empty.ensures ∙ eq-eqb (length c.args.text.now) 0 none)) e in
    let limit = power-bound (base_type c.args.code.0).width (code_width c.args.code.0) in
    absurd (none-some raw (c.in-None.ensures raw (raw-least raw bits (256 ^ (base_type c.args.code.0).width) limit is)
    (raw-most raw bits (256 ^ (base_type c.args.code.0).width) limit below is) text))
