use Rattle.fit_rows.proofs.Common.{◌∙◌, ◌++◌, ◌∷◌, [], ap, sym, default_writer, dev_count, fields_text}
use Rattle.fit_rows.proofs.definition.add_dev_count.Goals as goal

pub returns-in_ok-push-in-None : goal.returns-in_ok-push-in-None
unfolding fields_text
returns-in_ok-push-in-None c =
    c.in_ok-push-in-None.ensures.items ∙ ap (λ dev. c.args.text.now.items ++ fields_text default_writer (dev_count dev ∷ [])) (sym c.in-None.is)
