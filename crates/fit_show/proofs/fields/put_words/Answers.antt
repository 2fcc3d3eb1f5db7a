use Rattle.fit_show.proofs.Common.{◌∙◌, ◌++◌, map, ap, take_all, joined}
use Rattle.std.proofs.Common.{Bor, List, ℕ}
use Rattle.fit_show.proofs.fields.put_words.Goals as goal

pub returns : goal.returns
returns c =
    c.loop-word.invariant
    ∙ ap (λ ws. c.args.text.now.items ++ joined (map (λ (w : Bor (List ℕ)). w.now) ws))
    (take_all c.loop-word.word-index c.args.words.now c.loop-word-test.false)
