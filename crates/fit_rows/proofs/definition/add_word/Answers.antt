use Rattle.fit_rows.proofs.Common.{◌∙◌, ◌++◌, ap}
use Rattle.std.proofs.Common.{ℕ, List}
use Rattle.fit_texts.proofs.AddedCells.{next_cell}
use Rattle.fit_rows.proofs.definition.add_word.Goals as goal

pub returns : goal.returns
returns c =
    let word = c.args.word.now in
    c.in_ok-extend_from_slice.ensures.items ∙ ap (λ (w : List ℕ). c.push.new.self.items ++ w) c.as_bytes.ensures.value
    ∙ ap (λ (t : List ℕ). t ++ word) c.in_ok-push.ensures.items
    ∙ next_cell c.args.text.now.items word c.requires
