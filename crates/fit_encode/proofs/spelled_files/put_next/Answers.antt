use Rattle.std.proofs.lemmas.Grind.{common_steps}
use Rattle.fit_encode.proofs.Common.{◌∙◌, refl, subst, empty_environment, records_bytes, arith}
use Rattle.fit_encode.specs.Encoding.{file_of}
use Rattle.fit_encode.specs.inner.Kept.{AreWrittenUnless}
use Rattle.fit_encode.proofs.Kept.{one-more-file, spelled-file}
use Rattle.fit_encode.proofs.spelled_files.put_next.Goals as goal

pub returns-in_ok-past-in-Ok-clause-ok : goal.returns-in_ok-past-in-Ok-clause-ok
returns-in_ok-past-in-Ok-clause-ok c files count written =
    let old = c.args.bytes.now in
    let new = c.put_after.new.bytes in
    let records = c.args.records.now in
    one-more-file old new (file_of c.args.header.now records) files (subst (λ fault. AreWrittenUnless fault old files) c.in_default.is written)
    (spelled-file old new c.as_slice.result.now (records_bytes empty_environment records) c.args.header.now records c.in_ok-past-in-Ok.ensures.ok
    (c.as_slice.ensures.value ∙ c.in-Ok.ensures.head) (λ _. refl) c.in-Ok.ensures.good) c.in_ok-past-in-Ok.ensures.few

pub returns-in-Some-clause-ok : goal.returns-in-Some-clause-ok
returns-in-Some-clause-ok c = grind (arith, common_steps)
