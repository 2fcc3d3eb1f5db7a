use Rattle.fit_record.proofs.FirstOfNumber.{dropped}
use Rattle.fit_record.proofs.Common.{◌+◌, ◌++◌, ◌∷◌, [], length, take, sym, ap, ◌∙◌}
use Rattle.fit_record.proofs.Common.{arith, append-nil, drop_all, length-drop, drop-drop, field_from, fields_from, sizes, drop}
use Rattle.fit_record.proofs.Gathering.{layout_more, sizes_more}
use Rattle.fit_record.proofs.message_bytes.read_fields.Goals as goal

pub split_at-requires : goal.split_at-requires
split_at-requires g c =
    omega (arith, sizes_more c.args.layout.now c.loop-place.place c.shape-code.result c.shape-code.ensures, c.loop-place.invariant.enough)

pub loop-place-preserved : goal.loop-place-preserved
loop-place-preserved g c =
    let k = c.loop-place.place in
    let o = c.args.order in
    let rest = c.loop-place.rest.now in
    let f = c.shape-code.result in
    let next = drop (k + 1) c.args.layout.now in
    let more = sizes_more c.args.layout.now k f c.shape-code.ensures in
    record {
      told = ap (λ b. b ++ fields_from o next c.split_at.result.1.now)
          (c.in_ok-push_field.ensures ∙ ap (λ l. c.loop-place.items ++ field_from o f l ∷ []) c.split_at.ensures.front)
          ∙ ap (λ r. (c.loop-place.items ++ field_from o f (take f.1 rest) ∷ []) ++ fields_from o next r) c.split_at.ensures.back
          ∙ layout_more o f _ next rest c.loop-place.items _ (dropped c.args.layout.now k f c.shape-code.ensures) c.loop-place.invariant.told;
      enough = omega (arith, more, c.loop-place.invariant.enough, ap length c.split_at.ensures.back ∙ length-drop f.1 rest);
      after = ap (drop (sizes next)) c.split_at.ensures.back ∙ drop-drop (sizes next) f.1 rest ∙ ap (λ n. drop n rest) (sym more)
          ∙ c.loop-place.invariant.after;
    }

pub returns : goal.returns
returns g c =
    let rest = c.loop-place.rest.now in
    let end = drop_all c.loop-place.place c.args.layout.now (omega (arith, c.loop-place-test.false)) in (
      sym (append-nil c.loop-place.items) ∙ ap (λ l. c.loop-place.items ++ fields_from c.args.order l rest) (sym end) ∙ c.loop-place.invariant.told,
      ap (λ l. drop (sizes l) rest) (sym end) ∙ c.loop-place.invariant.after,
    )
