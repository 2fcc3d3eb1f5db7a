use Rattle.std.proofs.Common.{◌+◌, ◌-◌, ◌++◌, arith, drop, length, subst, take, List, ℕ}
use Rattle.fit_csv_text.specs.inner.Loose.{StandsFor}
use Rattle.fit_csv_text.proofs.PlainTexts.{plain-after-line, plain-left}
use Rattle.fit_csv_text.proofs.ShortLines.{end-goes, front-goes, front-stays}
use Rattle.fit_csv_text.proofs.loose.lines.put_short_line.Goals as goal

pub returns-then-shown-eq-LINE_SIZE-clause-goes : goal.returns-then-shown-eq-LINE_SIZE-clause-goes
returns-then-shown-eq-LINE_SIZE-clause-goes c old text rows ends stands =
    let shown = c.put_line-shown.result in
    let stays = front-stays c.args.sheet.now c.put_line-shown.new.sheet (take shown c.args.text.now) c.args.at shown
    (omega (arith, c.requires, c.told-sheet)) c.put_line-shown.ensures.put in
    subst (λ (l : List ℕ). StandsFor text c.args.text.now (rows ++ (old ++ l))) stays stands

pub returns-in_default-clause-goes : goal.returns-in_default-clause-goes
returns-in_default-clause-goes c old =
    front-goes old c.args.sheet.now c.put_line-shown.new.sheet c.args.text.now c.args.at c.put_line-shown.result
    (omega (arith, c.put_line-shown.ensures.within, c.if-text-lt-LINE_SIZE.false)) c.put_line-shown.ensures.none c.put_line-shown.ensures.put

pub returns-then-place-stop-clause-goes : goal.returns-then-place-stop-clause-goes
returns-then-place-stop-clause-goes c old =
    front-goes old c.args.sheet.now c.put_line-shown.new.sheet c.args.text.now c.args.at c.put_line-shown.result
    (omega (arith, c.put_line-shown.ensures.within, c.if-text-lt-LINE_SIZE.false)) c.put_line-shown.ensures.none c.put_line-shown.ensures.put

pub returns-clause-goes : goal.returns-clause-goes
returns-clause-goes c old =
    let text = c.args.text.now in
    let shown = c.put_line-shown.result in
    end-goes old c.args.sheet.now c.put_line-shown.new.sheet text (take (length text - shown) (drop shown text)) c.in-Some.rest.now
    c.args.at (c.args.at + shown)
    (front-goes old c.args.sheet.now c.put_line-shown.new.sheet text c.args.at shown
    (omega (arith, c.put_line-shown.ensures.within, c.if-text-lt-LINE_SIZE.false)) c.put_line-shown.ensures.none c.put_line-shown.ensures.put)
    c.in-Some.ensures (omega (arith, c.requires, c.put_line-shown.ensures.within, c.if-shown-eq-LINE_SIZE.false, c.put_line-shown.array_long))

pub returns-in_default-clause-lines : goal.returns-in_default-clause-lines
returns-in_default-clause-lines c plain = plain-left c.args.text.now c.put_line-shown.result plain

pub returns-then-place-stop-clause-lines : goal.returns-then-place-stop-clause-lines
returns-then-place-stop-clause-lines c plain = plain-left c.args.text.now c.put_line-shown.result plain

pub returns-clause-lines : goal.returns-clause-lines
returns-clause-lines c plain =
    let text = c.args.text.now in
    let shown = c.put_line-shown.result in
    plain-after-line (take (length text - shown) (drop shown text)) c.in-Some.rest.now c.in-Some.ensures (plain-left text shown plain)
