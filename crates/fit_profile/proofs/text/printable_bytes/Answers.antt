use Rattle.fit_profile.proofs.Common.{◌≡◌, ◌∙◌, ◌++◌, ◌∷◌, [], true, refl, ap, sym, subst, arith, get_or, Some, list_all, is_printable}
use Rattle.std.specs.Prelude.{◌&&◌}
use Rattle.std.proofs.lemmas.List.{take_all, take_more}
use Rattle.std.proofs.lemmas.List.Folds.{list_all_at, list_all_more}
use Rattle.fit_profile.proofs.text.printable_bytes.Goals as goal

pub loop-number-preserved : goal.loop-number-preserved
loop-number-preserved g c =
    let numbers = c.args.numbers.now in
    let i = c.loop-number.number-index in
    record {
      bytes =
          c.in_ok-push.ensures.items ∙ ap (λ bytes. bytes ++ get_or numbers i 0 ∷ []) c.loop-number.invariant.bytes
          ∙ sym (take_more numbers i 0 c.loop-number-test.true);
      printable =
          list_all_more is_printable numbers i 0 c.loop-number-test.true
          ∙ ap (λ b. b && is_printable (get_or numbers i 0)) c.loop-number.invariant.printable ∙ sym c.if-not-is_printable.ensures;
    }

pub returns-then-not-is_printable : goal.returns-then-not-is_printable
returns-then-not-is_printable g c =
    rw (list_all_at is_printable c.args.numbers.now c.loop-number.number-index 0 c.loop-number-test.true (sym c.if-not-is_printable.ensures)) refl

pub returns : goal.returns
returns g c =
    let numbers = c.args.numbers.now in
    let all = take_all c.loop-number.number-index numbers (omega (arith, c.loop-number-test.false)) in
    let printable : list_all is_printable numbers ≡ true = subst (λ t. list_all is_printable t ≡ true) all c.loop-number.invariant.printable in
    rw printable (ap Some (c.loop-number.invariant.bytes ∙ all))
