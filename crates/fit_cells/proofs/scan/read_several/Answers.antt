use Rattle.fit_cells.proofs.Common.{◌≡◌, ◌∙◌, ◌<◌, ◌^◌, ◌++◌, ◌∷◌, [], All, rules, arith, sym, ap, ap₂, subst, length, get_or, length-append, option_map}
use Rattle.fit_cells.proofs.Common.{take_all, take_more, All-push, base_type, meaning, item_text}
use Rattle.fit_cells.proofs.TextFacts.{low-item}
use Rattle.fit_cells.proofs.SplitFacts.{piece, after-piece}
use Rattle.fit_cells.proofs.scan.read_several.Goals as goal

pub loop-place-preserved : goal.loop-place-preserved
loop-place-preserved c =
    let pushed = c.in_ok-push.ensures.ok in
    let longer = ap length pushed in
    record {
      text = search rules;
      count = let one = length-append c.loop-place.bits (c.read_item.result ∷ []) in omega (arith, longer, one, c.loop-place.invariant.count);
      below = subst (λ bits. All (λ n. n < 256 ^ (base_type c.args.code.0).width) bits) (sym pushed)
          (All-push (λ n. n < 256 ^ (base_type c.args.code.0).width) c.loop-place.bits c.read_item.result c.loop-place.invariant.below
          c.read_item.ensures.below);
      every = λ numbers long small e.
          let so_far = c.loop-place.invariant.every numbers long small e in
          let within : c.loop-place.place < length numbers = omega (arith, long, c.loop-place-test.true) in
          let low = low-item c.args.class c.args.code.0 (option_map meaning c.args.info) (base_type c.args.code.0).width in
          let shown = c.split_at_bar.ensures.before
          ∙ piece (item_text c.args.class c.args.code.0 (option_map meaning c.args.info) (base_type c.args.code.0).width) numbers c.loop-place.rest.now
          c.loop-place.place low within so_far.1 in
          let item : c.read_item.result ≡ get_or numbers c.loop-place.place 0 =
          c.read_item.ensures.every (get_or numbers c.loop-place.place 0) (small c.loop-place.place 0 within) shown in (
            pushed ∙ ap₂ (λ bits x. bits ++ (x ∷ [])) so_far.0 item ∙ sym (take_more numbers c.loop-place.place 0 within),
            c.split_at_bar.ensures.after ∙ after-piece (item_text c.args.class c.args.code.0 (option_map meaning c.args.info) (base_type c.args.code.0).width)
                numbers c.loop-place.rest.now c.loop-place.place low within so_far.1,
          );
    }

pub returns-clause-below : goal.returns-clause-below
returns-clause-below c = c.loop-place.invariant.below

pub returns-clause-every : goal.returns-clause-every
returns-clause-every c numbers long small shows =
    (c.loop-place.invariant.every numbers long small shows).0
    ∙ take_all c.loop-place.place numbers (omega (arith, long, c.loop-place-test.false))
