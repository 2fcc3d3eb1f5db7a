use Rattle.fit_cells.proofs.Common.{rules}
use Rattle.std.proofs.Common.{sym, ap, ◌∙◌}
use Rattle.std.proofs.Math.Bool.{not-not, not}
use Rattle.fit_cells.proofs.KindFacts.{plain_ascii, plain_utf8}
use Rattle.fit_cells.proofs.shown.is_plain_by.Goals as goal

pub returns-then-kinds : goal.returns-then-kinds
returns-then-kinds c =
    let some = sym c.requires.zero ∙ sym (not-not c.args.kinds.has_no_zero) ∙ ap not c.if-not-kinds.false in
    let other = sym c.begins_as_bytes.ensures ∙ c.if-begins_as_bytes.false in
    c.if-kinds.true ∙ sym (plain_ascii c.args.text.now (sym c.requires.ascii ∙ c.if-kinds.true) some other)

pub returns-else-kinds : goal.returns-else-kinds
returns-else-kinds c =
    let some = sym c.requires.zero ∙ sym (not-not c.args.kinds.has_no_zero) ∙ ap not c.if-not-kinds.false in
    let other = sym c.begins_as_bytes.ensures ∙ c.if-begins_as_bytes.false in
    c.is_ok.ensures.value ∙ plain_utf8 _ _ c.args.text.now c.from_utf8.result c.from_utf8.ensures.cases some other

pub returns-then-not-kinds : goal.returns-then-not-kinds
returns-then-not-kinds c = search rules
