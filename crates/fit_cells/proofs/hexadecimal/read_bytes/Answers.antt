use Rattle.fit_cells.proofs.Common.{◌∙◌, ◌++◌, ◌-◌, ◌+◌, ◌<◌, All, ap₂, subst, sym, All-push, read_pairs, rules}
use Rattle.fit_cells.proofs.ReadFacts.{pairs-more, pairs-end}
use Rattle.fit_cells.proofs.hexadecimal.read_bytes.Goals as goal

pub loop-place-preserved : goal.loop-place-preserved
loop-place-preserved c =
    let pushed = c.in_ok-push.ensures.ok in
    record {
      value = ap₂ (λ bits rest. bits ++ read_pairs (c.args.count - (c.loop-place.place + 1)) rest) pushed c.after-rest-in-loop-place.ensures
          ∙ pairs-more c.loop-place.bits _ c.loop-place.rest.now c.args.count c.loop-place.place c.first_pair.result c.loop-place-test.true
          c.first_pair.ensures.value c.loop-place.invariant.value;
      below = subst (λ bits. All (λ b. b < 256) bits) (sym pushed)
          (All-push (λ b. b < 256) c.loop-place.bits c.first_pair.result c.loop-place.invariant.below c.first_pair.ensures.below);
    }

pub returns-clause-value : goal.returns-clause-value
returns-clause-value c = pairs-end c.loop-place.bits _ c.loop-place.rest.now c.args.count c.loop-place.place c.loop-place-test.false
    c.loop-place.invariant.value

pub loop-place-init : goal.loop-place-init
loop-place-init c = search rules
