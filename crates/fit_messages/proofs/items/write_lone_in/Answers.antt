use Rattle.std.proofs.Common.{◌∙◌, ◌+◌, ◌++◌, length, drop, take, ap, sym, arith}
use Rattle.std.proofs.lemmas.List.{length-drop, drop-drop}
use Rattle.std.specs.Prelude.{flat_map}
use Rattle.std.specs.Global.{Global}
use Rattle.fit_record.proofs.FirstOfNumber.{dropped}
use Rattle.fit_record.proofs.Gathering.{sizes_more}
use Rattle.fit_record.specs.ReadMessages.{fields_from}
use Rattle.fit_record.specs.Records.{sizes}
use Rattle.fit_messages.proofs.ItemFacts.{fields_more}
use Rattle.fit_messages.proofs.MessageFacts.{lone_at}
use Rattle.fit_messages.specs.Blocks.{slot}
use Rattle.fit_messages.proofs.items.write_lone_in.Goals as goal

pub write_one-at-requires-clause-width : goal.write_one-at-requires-clause-width
write_one-at-requires-clause-width c = lone_at c.args.layout.now c.loop-place.place c.shape-code.result c.requires.lone c.shape-code.ensures

pub split_at-requires : goal.split_at-requires
split_at-requires c =
    omega (arith, sizes_more c.args.layout.now c.loop-place.place c.shape-code.result c.shape-code.ensures, c.loop-place.invariant.enough)

pub loop-place-preserved : goal.loop-place-preserved
loop-place-preserved c =
    let k = c.loop-place.place in
    let o = c.args.order in
    let rest = c.loop-place.rest.now in
    let f = c.shape-code.result in
    let next = drop (k + 1) c.args.layout.now in
    let old = take c.loop-place.at c.loop-place.sheet in
    let now = take c.write_one-at.result c.write_one-at.new.sheet in
    let more = sizes_more c.args.layout.now k f c.shape-code.ensures in
    record {
      told = ap (λ r. now ++ flat_map slot (fields_from {A = Global} o next r)) c.split_at.ensures.back
          ∙ fields_more o f _ next rest old now _ (dropped c.args.layout.now k f c.shape-code.ensures) c.write_one-at.ensures.text
          c.loop-place.invariant.told;
      enough = omega (arith, more, c.loop-place.invariant.enough, ap length c.split_at.ensures.back ∙ length-drop f.1 rest);
      far = omega (arith, c.write_one-at.ensures.end, c.loop-place.invariant.far);
      after = ap (drop (sizes next)) c.split_at.ensures.back ∙ drop-drop (sizes next) f.1 rest ∙ ap (λ n. drop n rest) (sym more)
          ∙ c.loop-place.invariant.after;
    }
