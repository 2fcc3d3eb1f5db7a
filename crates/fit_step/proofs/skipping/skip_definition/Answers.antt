use Rattle.fit_step.proofs.Common.{ap, ◌∙◌, subst, sym, Define, DefinitionFits, learn, size_to_skip, AreSizesToSkip, arith, refl}
use Rattle.fit_step.proofs.SkippedRecords.{sizes_after, others_stay}
use Rattle.fit_step.proofs.ReadDefinitions.{read_fits, read_is_record}
use Rattle.fit_step.specs.inner.Definitions.{definition_of}
use Rattle.fit_step.proofs.skipping.skip_definition.Goals as goal

pub definition_bytes-requires : goal.definition_bytes-requires
definition_bytes-requires g c = assumption

pub overflow_add-size : goal.overflow_add-size
overflow_add-size g c = omega (arith, c.in-Some.ensures.begins.within)

pub define-requires : goal.define-requires
define-requires g c = (
  assumption,
  subst DefinitionFits (sym c.with_fields.ensures)
      (read_fits c.in-Some.front c.in-Some.entries.now c.args.bytes.now c.in-Some.ensures.begins c.in-Ok.fields c.in-Ok.ensures),
)

pub small_size-requires : goal.small_size-requires
small_size-requires g c = assumption

pub put_size-requires : goal.put_size-requires
put_size-requires g c = record { local = c.in-Some.ensures.begins.local; together = c.requires.1 }

pub returns-in_default : goal.returns-in_default
returns-in_default g c = record { within = omega arith; sizes = c.requires; none = λ _. refl; skipped = λ some. absurd (omega (arith, some)) }

pub returns-then-is_known : goal.returns-then-is_known
returns-then-is_known g c =
    let found = c.in-Some in
    let begins = found.ensures.begins in
    record {
      within = begins.within;
      sizes = c.requires;
      none = λ _. refl;
      skipped = λ some.
          let (fields, are, stays) = c.is_known.ensures c.if-is_known.true in
          (Define (definition_of found.front fields), read_is_record found.front found.entries.now c.args.bytes.now begins fields are c.args.env.now, stays);
    }

pub returns-in_default-read_fields : goal.returns-in_default-read_fields
returns-in_default-read_fields g c = record { within = omega arith; sizes = c.requires; none = λ _. refl; skipped = λ some. absurd (omega (arith, some)) }

pub returns-in-Err : goal.returns-in-Err
returns-in-Err g c =
    let same = c.in-Err.ensures.err in
    record {
      within = omega arith;
      sizes = subst (λ f. AreSizesToSkip f c.args.sizes.now) (sym same) c.requires;
      none = λ _. same;
      skipped = λ some. absurd (omega (arith, some));
    }

pub returns : goal.returns
returns g c =
    let e = c.args.env.now in
    let found = c.in-Some in
    let begins = found.ensures.begins in
    let d = definition_of found.front c.in-Ok.fields in
    let learnt = c.in-Ok-define.ensures.ok ∙ ap (λ k. learn e (Define k)) c.with_fields.ensures in
    record {
      within = begins.within;
      sizes = subst (λ f. AreSizesToSkip f c.put_size.new.sizes) (sym learnt)
          (sizes_after e (learn e (Define d)) d.local c.small_size.result c.args.sizes.now c.put_size.new.sizes c.requires c.put_size.ensures.put
          c.put_size.ensures.together (λ some. c.small_size.ensures some ∙ ap (λ f. size_to_skip f d.local) learnt) (others_stay e d));
      none = λ none. absurd (omega (arith, none));
      skipped = λ some.
          (Define d, read_is_record found.front found.entries.now c.args.bytes.now begins c.in-Ok.fields c.in-Ok.ensures e, sym learnt);
    }
