use Rattle.fit_cells.proofs.Common.{◌≡◌, ◌∙◌, ◌++◌, [], ℤ, sym, ap, cond, rules, to_z, of_z, to_z-of_z, w64, w128, option_map, base_type, meaning, number_text}
use Rattle.fit_cells.proofs.Common.{item_text}
use Rattle.std.proofs.Common.{◌==◌}
use Rattle.std.proofs.lemmas.Result.{on_ok_weaker}
use Rattle.fit_cells.proofs.numbers.put_item.Goals as goal

pub returns-in-Signed-clause-ok : goal.returns-in-Signed-clause-ok
returns-in-Signed-clause-ok c =
    let info = option_map meaning c.args.info in
    let code = c.args.code.0 in
    let same : to_z w64 (of_z w64 c.signed.result) ≡ c.signed.result = to_z-of_z w64 c.signed.result (search (rules, c.signed.type_inv)) in
    let kept : to_z w128 (of_z w128 c.from.result) ≡ c.from.result = to_z-of_z w128 c.from.result (search (rules, c.from.type_inv)) in
    on_ok_weaker c.put_number.result (λ put.
    put ∙ ap (λ (z : ℤ). c.args.text.now.items ++ cond (c.args.bits == (base_type code).invalid) [] (number_text info z))
    (kept ∙ c.from.ensures ∙ same ∙ c.signed.ensures)
    ∙ ap (λ class. c.args.text.now.items ++ item_text class code info c.args.width c.args.bits) (sym c.in-Signed.is)) c.put_number.ensures.ok

pub returns-in-Unsigned-clause-ok : goal.returns-in-Unsigned-clause-ok
returns-in-Unsigned-clause-ok c =
    let info = option_map meaning c.args.info in
    let code = c.args.code.0 in
    let kept : to_z w128 (of_z w128 c.from-in-Unsigned.result) ≡ c.from-in-Unsigned.result =
    to_z-of_z w128 c.from-in-Unsigned.result (search (rules, c.from-in-Unsigned.type_inv)) in
    on_ok_weaker c.put_number-in-Unsigned.result (λ put.
    put ∙ ap (λ (z : ℤ). c.args.text.now.items ++ cond (c.args.bits == (base_type code).invalid) [] (number_text info z)) (kept ∙ c.from-in-Unsigned.ensures)
    ∙ ap (λ class. c.args.text.now.items ++ item_text class code info c.args.width c.args.bits) (sym c.in-Unsigned.is)) c.put_number-in-Unsigned.ensures.ok

pub returns-in-Signed-clause-kept : goal.returns-in-Signed-clause-kept
returns-in-Signed-clause-kept c = c.put_number.ensures.kept

pub returns-in-Unsigned-clause-kept : goal.returns-in-Unsigned-clause-kept
returns-in-Unsigned-clause-kept c = c.put_number-in-Unsigned.ensures.kept
