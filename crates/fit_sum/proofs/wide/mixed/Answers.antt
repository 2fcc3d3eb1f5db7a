use Rattle.fit_sum.proofs.Common.{refl, mix, words_from}
use Rattle.fit_sum.proofs.RegisterOfAdded.{IsBytes-below}
use Rattle.fit_sum.proofs.PairsOfWords.{sixteen_pairs}
use Rattle.fit_sum.proofs.wide.mixed.Goals as goal

pub returns-clause-bytes : goal.returns-clause-bytes
returns-clause-bytes c = IsBytes-below c.args.block.now c.fits-block

pub returns-clause-sums : goal.returns-clause-sums
unfolding mix words_from
returns-clause-sums c =
    rw (
      c.word.ensures,
      c.word-2.ensures,
      c.word-3.ensures,
      c.word-4.ensures,
      c.word-5.ensures,
      c.word-6.ensures,
      c.word-7.ensures,
      c.word-8.ensures,
      c.word-9.ensures,
      c.word-10.ensures,
      c.word-11.ensures,
      c.word-12.ensures,
      c.word-13.ensures,
      c.word-14.ensures,
      c.word-15.ensures,
      c.word-16.ensures,
      sixteen_pairs c.args.register.now c.told-register c.requires,
    )
    refl

pub returns-clause-pairs : goal.returns-clause-pairs
unfolding words_from
returns-clause-pairs c =
    rw (
      c.word.ensures,
      c.word-2.ensures,
      c.word-3.ensures,
      c.word-4.ensures,
      c.word-5.ensures,
      c.word-6.ensures,
      c.word-7.ensures,
      c.word-8.ensures,
      c.word-9.ensures,
      c.word-10.ensures,
      c.word-11.ensures,
      c.word-12.ensures,
      c.word-13.ensures,
      c.word-14.ensures,
      c.word-15.ensures,
      c.word-16.ensures,
      sixteen_pairs c.args.register.now c.told-register c.requires,
    )
    (refl, (refl, (refl, (refl, (refl, (refl, (refl, (refl, (refl, (refl, (refl, (refl, (refl, (refl, (refl, (refl, tt))))))))))))))))
