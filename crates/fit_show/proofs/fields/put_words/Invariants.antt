use Rattle.fit_show.proofs.Common.{◌≡◌, ◌++◌, map, take, joined}
use Rattle.fit_show.proofs.fields.put_words.Given as goal

abbrev pub invariant-loop-word : goal.invariant-loop-word
invariant-loop-word l = l.text.items ≡ l.initial.text.items ++ joined (map (λ w. w.now) (take l.word-index l.words))
