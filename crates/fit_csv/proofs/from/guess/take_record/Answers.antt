use Rattle.fit_csv.proofs.Common.{◌∙◌, sym, MatchResult-weaker, IfSome_then}
use Rattle.std.proofs.lemmas.Bool.{false≢true}
use Rattle.fit_csv.proofs.OpenFiles.{open-takes}
use Rattle.fit_csv.proofs.from.guess.take_record.Goals as goal

pub returns-clause-rows : goal.returns-clause-rows
returns-clause-rows c =
    let x = c.chain.inside.0.1.0 in
    MatchResult-weaker c.take_whole.result c.take_whole.ensures.rows
    (λ found h. IfSome_then found h (λ p goes.
    open-takes c.args.chain.now c.chain.inside.0.0 x.is_open x.file c.take_whole.new.file c.args.text.now p.1.now p.0 c.chain.view_is
    (λ none. false≢true (sym c.if-is_none.false ∙ c.is_none.ensures.1 none)) (goes c.chain.inside.0.0)))
    (λ e p. p)
