use Rattle.fit_sum.proofs.Common.{◌≡◌, [], take, get_or, ap, sym, ◌∙◌, arith, to_le_bytes, w64, take_all, concat, run, spelled}
use Rattle.fit_sum.proofs.SpelledWords.{spelled-none}
use Rattle.fit_sum.proofs.PairsOfWords.{pair-turn}
use Rattle.fit_sum.proofs.wide.add_words.Goals as goal

pub loop-word-init : goal.loop-word-init
loop-word-init c = spelled-none

pub loop-word-preserved : goal.loop-word-preserved
loop-word-preserved c =
    let words = c.args.words.now in
    let i = c.loop-word.word-index in
    let low = to_le_bytes w64 (get_or (get_or words i []) 0 0) in
    let high = to_le_bytes w64 (get_or (get_or words i []) 1 0) in
    c.add_eight-sum-in-loop-word.ensures
    ∙ ap (run c.add_eight-sum.result) c.to_le_bytes-in-loop-word.ensures
    ∙ ap (λ t. run t high) (c.add_eight-sum.ensures ∙ ap (run c.loop-word.sum) c.to_le_bytes.ensures ∙ ap (λ t. run t low) c.loop-word.invariant)
    ∙ sym (pair-turn 0 words i (omega (arith, c.loop-word-test.true, c.told-words)) c.requires)

pub returns : goal.returns
returns c =
    let all : take c.loop-word.word-index c.args.words.now ≡ c.args.words.now
    = take_all c.loop-word.word-index c.args.words.now (omega (arith, c.loop-word-test.false, c.told-words)) in
    c.loop-word.invariant ∙ ap (λ t. run 0 (spelled (concat t))) all
