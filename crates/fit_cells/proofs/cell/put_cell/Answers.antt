use Rattle.fit_cells.proofs.Common.{rules, ◌≡◌, ◌++◌, List, ℕ, OnOk, subst, sym, option_map, meaning}
use Rattle.fit_cells.proofs.PlainFacts.{formed_cell}
use Rattle.fit_cells.proofs.cell.put_cell.Goals as goal

pub returns-in-Some-clause-ok : goal.returns-in-Some-clause-ok
returns-in-Some-clause-ok c =
    let number = c.in-Some.ensures in
    let code = c.args.code.0 in
    let info = option_map meaning c.args.info in
    let form = number.form code info c.number_form.ensures.form in
    subst (λ (t : List ℕ). OnOk c.put_formed.result (c.put_formed.new.text.items ≡ c.args.text.now.items ++ t))
    (sym (formed_cell c.in-Some.form code info c.args.items.now c.in-Some.bits form number.lone.0 number.lone.1))
    (c.put_formed.ensures.ok code info form)

pub returns-in-Text-clause-ok : goal.returns-in-Text-clause-ok
returns-in-Text-clause-ok c = search rules
