use Rattle.std.proofs.Common.{◌∙◌, ◌+◌, ◌++◌, length, drop, refl, ap, sym, arith}
use Rattle.std.proofs.lemmas.List.{append-nil, drop_all, length-drop, drop-drop}
use Rattle.std.specs.Prelude.{flat_map}
use Rattle.std.specs.Global.{Global}
use Rattle.fit_record.proofs.FirstOfNumber.{dropped}
use Rattle.fit_record.proofs.Gathering.{sizes_more}
use Rattle.fit_record.specs.ReadMessages.{field_from, fields_from}
use Rattle.fit_record.specs.Records.{sizes}
use Rattle.fit_messages.proofs.ItemFacts.{fields_more}
use Rattle.fit_messages.specs.Blocks.{slot}
use Rattle.fit_messages.specs.inner.Sheets.{with_sheet}
use Rattle.fit_messages.proofs.items.add_all_read.Goals as goal

pub split_at-requires : goal.split_at-requires
split_at-requires c =
    omega (arith, sizes_more c.args.layout.now c.loop-place.place c.shape-code.result c.shape-code.ensures, c.loop-place.invariant.enough)

pub loop-place-preserved : goal.loop-place-preserved
loop-place-preserved c =
    let k = c.loop-place.place in
    let o = c.args.order in
    let rest = c.loop-place.rest.now in
    let f = c.shape-code.result in
    let next = drop (k + 1) c.args.layout.now in
    let old = with_sheet c.loop-place.bytes.items c.loop-place.sheet c.loop-place.at in
    let now = with_sheet c.add_read.new.bytes.items c.add_read.new.sheet c.in_ok-at.at in
    let more = sizes_more c.args.layout.now k f c.shape-code.ensures in
    record {
      told = ap (λ r. now ++ flat_map slot (fields_from {A = Global} o next r)) c.split_at.ensures.back
          ∙ fields_more o f _ next rest old now _ (dropped c.args.layout.now k f c.shape-code.ensures)
          (c.in_ok-at.ensures.text ∙ ap (λ b. old ++ slot (field_from {A = Global} o f b)) c.split_at.ensures.front) c.loop-place.invariant.told;
      enough = omega (arith, more, c.loop-place.invariant.enough, ap length c.split_at.ensures.back ∙ length-drop f.1 rest);
      small = c.in_ok-at.ensures.place;
      after = ap (drop (sizes next)) c.split_at.ensures.back ∙ drop-drop (sizes next) f.1 rest ∙ ap (λ n. drop n rest) (sym more)
          ∙ c.loop-place.invariant.after;
    }

pub loop-place-init : goal.loop-place-init
loop-place-init c = record { told = refl; enough = c.requires.size; small = c.requires.place; after = refl }

pub returns-clause-place : goal.returns-clause-place
returns-clause-place c = c.loop-place.invariant.small

pub returns-clause-text : goal.returns-clause-text
returns-clause-text c =
    let l = c.loop-place in
    let end = drop_all l.place c.args.layout.now (omega (arith, c.loop-place-test.false)) in
    sym (append-nil (with_sheet l.bytes.items l.sheet l.at))
    ∙ ap (λ slots. with_sheet l.bytes.items l.sheet l.at ++ flat_map slot (fields_from {A = Global} c.args.order slots l.rest.now)) (sym end)
    ∙ l.invariant.told

pub returns-clause-rest : goal.returns-clause-rest
returns-clause-rest c =
    let end = drop_all c.loop-place.place c.args.layout.now (omega (arith, c.loop-place-test.false)) in
    ap (λ slots. drop (sizes slots) c.loop-place.rest.now) (sym end) ∙ c.loop-place.invariant.after
