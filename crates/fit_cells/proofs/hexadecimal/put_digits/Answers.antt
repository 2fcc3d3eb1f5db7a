use Rattle.fit_cells.proofs.Common.{◌≡◌, ◌∷◌, [], ◌++◌, ◌-◌, ◌+◌, is_ok, true, false, refl, rules, ap, ◌∙◌, last_put, none_put, on_err_always, then_none}
use Rattle.fit_cells.proofs.Common.{hex_digits}
use Rattle.fit_cells.proofs.HexFacts.{more_digits, all_digits}
use Rattle.fit_cells.proofs.hexadecimal.put_digits.Goals as goal

pub loop-written-init : goal.loop-written-init
loop-written-init c = (search rules, none_put c.args.text.now.items c.args.text.now.items refl)

pub loop-written-preserved : goal.loop-written-preserved
loop-written-preserved c =
    let good : is_ok c.push.result ≡ true = search rules in
    let items = rw good at c.push.ensures.items in (
      ap (λ t. t ++ hex_digits (c.args.digits - (c.loop-written.written + 1)) c.args.number) items
          ∙ more_digits c.loop-written.text.items _ c.args.digits c.loop-written.written c.args.number c.digit_at.result c.loop-written-test.true
          c.digit_at.ensures c.loop-written.invariant.0,
      last_put c.args.text.now.items c.loop-written.text.items c.push.new.self.items (c.digit_at.result ∷ []) c.loop-written.invariant.1 items,
    )

pub returns-in_err-push-clause-kept : goal.returns-in_err-push-clause-kept
returns-in_err-push-clause-kept c =
    let bad : is_ok c.push.result ≡ false = search rules in
    on_err_always c.from_residual.result _
    (then_none c.args.text.now.items c.loop-written.text.items c.push.new.self.items c.loop-written.invariant.1 (rw bad at c.push.ensures.items))

pub returns-clause-ok : goal.returns-clause-ok
returns-clause-ok c =
    all_digits c.loop-written.text.items _ c.args.digits c.loop-written.written c.args.number c.loop-written-test.false c.loop-written.invariant.0
