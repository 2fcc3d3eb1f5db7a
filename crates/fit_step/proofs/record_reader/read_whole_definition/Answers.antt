use Rattle.fit_step.proofs.Common.{◌+◌, ap, ◌∙◌, subst, sym, refl, length, take, flat_map, field_bytes, Define, DefinitionFits, IsRecord, arith}
use Rattle.std.proofs.lemmas.Result.{err_from_is_err_and}
use Rattle.fit_step.proofs.ReadBytes.{whole_at_front}
use Rattle.fit_step.proofs.ReadDefinitions.{definition_stands, read_fits, read_is_record}
use Rattle.fit_step.proofs.SkippedRecords.{plain_stands}
use Rattle.fit_step.specs.inner.Definitions.{definition_of}
use Rattle.fit_step.proofs.record_reader.read_whole_definition.Goals as goal

pub learn_copy-requires : goal.learn_copy-requires
learn_copy-requires g c =
    let found = c.in-Some in
    let are = c.in_ok-read_fields.ensures in
    let is = c.with_fields-definition.ensures in
    let same = ap (λ d. d.fields) is in (
      assumption,
      (
        found.ensures.begins.long,
        (
          (ap length same ∙ are.0, ap (flat_map field_bytes) same ∙ are.1),
          (
            is ∙ ap (definition_of found.front) (sym same),
            subst DefinitionFits (sym is)
                (read_fits found.front found.entries.now c.args.piece.now found.ensures.begins c.in_ok-read_fields.field-0 are),
          ),
        ),
      ),
    )

pub overflow_cast-position : goal.overflow_cast-position
overflow_cast-position g c = omega (arith, c.in-Some.ensures.left)

pub overflow_sub-position : goal.overflow_sub-position
overflow_sub-position g c = omega (arith, c.in-Some.ensures.left)

pub returns : goal.returns
returns g c =
    let e = c.args.env.now in
    let p = c.args.position.now in
    let piece = c.args.piece.now in
    let found = c.in-Some in
    let told = found.ensures in
    let size = 6 + length found.entries.now in
    let definition = c.with_fields-definition.result in
    let is = read_is_record found.front found.entries.now piece told.begins c.in_ok-read_fields.field-0 c.in_ok-read_fields.ensures e in
    record {
      reads = whole_at_front e c.learn_copy.new.env p c.args.in_progress.now piece (Define definition) size told.idle
          (plain_stands e p.room piece (Define definition) size (omega arith) told.begins.within told.left
          (subst (λ d. IsRecord e (Define d) (take size piece)) (sym c.with_fields-definition.ensures) is))
          c.in_ok-learn_copy.ensures.ok;
      definition = (definition_of found.front c.in_ok-read_fields.field-0, told.begins.within, is, refl);
      left = omega (arith, told.left);
      none = tt;
      err = tt;
      whole = λ idle size has large.
          let (f, entries, begins, all) = definition_stands e piece size has in
          ap (λ n. 6 + n) (told.whole idle f entries begins (omega (arith, large, all))) ∙ all;
    }

pub returns-in_default : goal.returns-in_default
returns-in_default g c = record {
  reads = tt;
  definition = tt;
  left = tt;
  none = (refl, refl);
  err = tt;
  whole = λ idle size has large.
      let (f, entries, begins, all) = definition_stands c.args.env.now c.args.piece.now size has in
      absurd (c.in_default.ensures.whole idle f entries begins (omega (arith, large, all)));
}

pub returns-in_err-read_fields : goal.returns-in_err-read_fields
returns-in_err-read_fields g c =
    let p = err_from_is_err_and c.from_residual.result c.from_residual.ensures.1 in
    rw p.1 (record { reads = tt; definition = tt; left = tt; none = tt; err = (refl, refl); whole = λ idle size has large. tt })

pub returns-in_err-learn_copy : goal.returns-in_err-learn_copy
returns-in_err-learn_copy g c =
    let p = err_from_is_err_and c.from_residual-in_err-learn_copy.result c.from_residual-in_err-learn_copy.ensures.1 in
    rw p.1 (record {
      reads = tt;
      definition = tt;
      left = tt;
      none = tt;
      err = (c.in_err-learn_copy.ensures.err, refl);
      whole = λ idle size has large. tt;
    })
