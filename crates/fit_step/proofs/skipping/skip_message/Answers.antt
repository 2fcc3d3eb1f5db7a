use Rattle.fit_step.proofs.Common.{Data}
use Rattle.fit_step.proofs.SkippedRecords.{sizes_stay}
use Rattle.fit_step.proofs.skipping.skip_message.Goals as goal

pub put_its_size-requires : goal.put_its_size-requires
put_its_size-requires g c =
    let l = c.learn_any-size in
    (assumption, sizes_stay c.args.env.now l.new.env c.args.sizes.now l.ensures.places c.requires)

pub returns-then-is_plain : goal.returns-then-is_plain
returns-then-is_plain g c =
    let l = c.learn_any-size in
    record {
      within = l.ensures.within;
      sizes = c.put_its_size.ensures;
      none = l.ensures.none;
      skipped = λ some. let (v, is, learnt) = l.ensures.learned some in (Data v, is, learnt);
    }

pub returns : goal.returns
returns g c =
    let l = c.learn_any-size in
    record {
      within = l.ensures.within;
      sizes = sizes_stay c.args.env.now l.new.env c.args.sizes.now l.ensures.places c.requires;
      none = l.ensures.none;
      skipped = λ some. let (v, is, learnt) = l.ensures.learned some in (Data v, is, learnt);
    }
