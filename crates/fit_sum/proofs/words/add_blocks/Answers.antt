use Rattle.fit_sum.proofs.Common.{◌≡◌, [], ◌++◌, get_or, take, ap, sym, ◌∙◌, rules, concat, take_all, run, spelled}
use Rattle.fit_sum.proofs.BlocksOfWords.{keeps-none, keeps-block, keeps-last}
use Rattle.fit_sum.proofs.TurnsAreShifts.{register-64}
use Rattle.fit_sum.proofs.PiecesOfLists.{concat-turn}
use Rattle.fit_sum.proofs.words.add_blocks.Goals as goal

pub loop-block-init : goal.loop-block-init
loop-block-init c = rw c.from.ensures (keeps-none 15 c.args.register (search rules))

pub loop-block-preserved : goal.loop-block-preserved
loop-block-preserved c =
    let front = c.args.front.now in
    let i = c.loop-block.block-index in
    let within = c.loop-block-test.true in
    rw (c.shifted-words.ensures, c.mixed.ensures.sums, concat-turn front i within)
    (keeps-block 0 13 15 1024 c.args.register (concat (take i front)) (get_or front i []) c.loop-block.words register-64
    c.mixed.ensures.bytes (c.told-front i within) c.loop-block.invariant)

pub returns : goal.returns
returns c =
    let register = c.args.register in
    let last = c.args.last.now in
    let i = c.loop-block.block-index in
    let before = concat (take i c.args.front.now) in
    let all : take c.loop-block.block-index c.args.front.now ≡ c.args.front.now = take_all i c.args.front.now c.loop-block-test.false in
    c.add_words.ensures
    ∙ ap (λ t. run 0 (spelled t)) c.mixed-2.ensures.sums
    ∙ sym (keeps-last 16 register before last c.loop-block.words c.mixed-2.ensures.bytes c.told-last c.loop-block.invariant)
    ∙ ap (λ t. run register (concat t ++ last)) all
