use Rattle.std.proofs.Common.{◌∙◌, arith, ap, sym, subst, length, List, ℕ}
use Rattle.fit_csv_text.specs.inner.Loose.{WritesOn}
use Rattle.fit_csv_text.proofs.Spelled.{spelled-rows}
use Rattle.fit_csv_text.proofs.window.Window.fill.Goals as goal

pub returns-then-not-is_loose-clause-plain : goal.returns-then-not-is_loose-clause-plain
returns-then-not-is_loose-clause-plain c rows = absurd (cc (sym (c.is_loose.ensures rows) ∙ c.if-not-is_loose.true))

pub returns-in-Ok-clause-few : goal.returns-in-Ok-clause-few
returns-in-Ok-clause-few c = c.in-Ok.ensures.few (omega (arith, ap length c.clear.ensures.items))

pub returns-in-Ok-clause-many : goal.returns-in-Ok-clause-many
returns-in-Ok-clause-many c some = omega (arith, c.in-Ok.ensures.many some, c.args.self.now.sized.0)

pub returns-in-Ok-clause-rows : goal.returns-in-Ok-clause-rows
returns-in-Ok-clause-rows c rows are =
    spelled-rows c.args.text.now c.in-Ok.left.now c.spell_on.new.written.items rows
    (subst (λ (old : List ℕ). WritesOn c.args.text.now c.in-Ok.left.now old c.spell_on.new.written.items) c.clear.ensures.items c.in-Ok.ensures.goes) are

pub returns-in-Err-Other-clause-plain : goal.returns-in-Err-Other-clause-plain
returns-in-Err-Other-clause-plain c rows = absurd (cc (c.in-Err-Other.ensures.room rows.lines c.args.self.now.sized.1))
