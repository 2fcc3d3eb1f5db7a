use Rattle.fit_text_report.proofs.Common.{◌≡◌, ◌∙◌, ◌++◌, ◌∷◌, [], length, ap, arith, slice_get}
use Rattle.std.proofs.Common.{◌+◌, zero, suc, ℕ, List, None, Some}
use Rattle.std.proofs.lemmas.List.{length-append}
use Rattle.fit_text_report.proofs.found.make_places.Goals as goal

-- what stands in a list still stands there with more after it
with_more : {X : Type 0} (xs ys : List X) (k : ℕ) (x : X) → slice_get xs k ≡ Some x → slice_get (xs ++ ys) k ≡ Some x
with_more [] ys k x is = cc
with_more (y ∷ xs) ys zero x is = is
with_more (y ∷ xs) ys (suc k) x is = with_more xs ys k x is

pub loop-init : goal.loop-init
loop-init g c = (omega (arith, c.len-counter.ensures), λ other t is. is)

pub loop-preserved : goal.loop-preserved
loop-preserved g c =
    let kept = c.loop.items.items in (
      ap length c.in_ok-push.ensures.items ∙ length-append kept (None ∷ []) ∙ ap (λ n. n + 1) c.loop.invariant.0,
      λ other t is. ap (λ items. slice_get items other) c.in_ok-push.ensures.items
          ∙ with_more kept (None ∷ []) other (Some t) (c.loop.invariant.1 other t is),
    )

pub returns-in_err-push-clause-others : goal.returns-in_err-push-clause-others
returns-in_err-push-clause-others g c = λ other t is.
    ap (λ items. slice_get items other) c.in_err-push.ensures.items ∙ c.loop.invariant.1 other t is

pub returns-clause-here : goal.returns-clause-here
returns-clause-here g c = omega (arith, c.loop.invariant.0, c.loop-test.false, c.len-counter.ensures)
