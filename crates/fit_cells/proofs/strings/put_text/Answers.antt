-- The bytes before are still there, and one more stands after them.
use Rattle.fit_cells.proofs.Common.{arith, ◌∙◌, ◌++◌, ◌∷◌, [], take, get_or, sym, ap, append_assoc, take_all, take_more, on_err_always, part_put}
use Rattle.fit_cells.proofs.strings.put_text.Goals as goal

pub overflow_cast-byte : goal.overflow_cast-byte
overflow_cast-byte c = omega (arith, c.requires c.loop-byte.byte-index 0 c.loop-byte-test.true)

pub returns-in_err-push-clause-kept : goal.returns-in_err-push-clause-kept
returns-in_err-push-clause-kept c =
    on_err_always c.from_residual.result _
    (part_put c.args.text.now.items c.loop-byte.text.items c.push.new.self.items _ c.loop-byte.invariant c.in_err-push.ensures.items)

pub loop-byte-preserved : goal.loop-byte-preserved
loop-byte-preserved c =
    let text = c.args.text.now.items in
    let byte = get_or c.args.bytes.now c.loop-byte.byte-index 0 in
    c.in_ok-push.ensures.items ∙ ap (λ t. t ++ byte ∷ []) c.loop-byte.invariant
    ∙ append_assoc text (take c.loop-byte.byte-index c.args.bytes.now) (byte ∷ [])
    ∙ ap (λ t. text ++ t) (sym (take_more c.args.bytes.now c.loop-byte.byte-index 0 c.loop-byte-test.true))

pub returns-clause-ok : goal.returns-clause-ok
returns-clause-ok c =
    c.loop-byte.invariant ∙ ap (λ l. c.args.text.now.items ++ l) (take_all c.loop-byte.byte-index c.args.bytes.now c.loop-byte-test.false)
