use Rattle.fit_step.proofs.Common.{refl, slice_is_bytes}
use Rattle.fit_step.proofs.SkippedRecords.{table_skipped}
use Rattle.fit_step.proofs.skipping.skip_record.Goals as goal

pub returns-then-size-gt0 : goal.returns-then-size-gt0
returns-then-size-gt0 g c =
    let s = c.message_to_skip-size in
    record {
      within = s.ensures.within;
      sizes = c.requires;
      none = λ _. refl;
      skipped = λ some.
          let (b, rest, begins, is) = s.ensures.heads some in
          table_skipped c.args.env.now c.args.sizes.now c.args.bytes.now s.result b rest (slice_is_bytes c.args.bytes.now c.type_inv.bytes) c.requires some
          s.ensures.within begins is;
    }
