use Rattle.std.proofs.Common.{◌≡◌, ◌∙◌, ◌<◌, ℕ, sym, arith, true, false, length}
use Rattle.std.proofs.lemmas.Bool.{eq-eqb, eqb-true, false_from_ne_true}
use Rattle.std.specs.Prelude.{◌==◌}
use Rattle.fit_from_messages.proofs.DefinedSlots.{fit_more}
use Rattle.fit_from_messages.proofs.file.widths_fit.Goals as goal

differ : (a b w : ℕ) → w ≡ a → (w ≡ b → ⊥) → (a == b) ≡ false
differ a b w is other = false_from_ne_true (a == b) (λ same. other (is ∙ eqb-true a b same))

pub returns-then-width_of-slot : goal.returns-then-width_of-slot
returns-then-width_of-slot c =
    let less : c.loop-n.n < length c.args.slots.now = omega (arith, c.loop-n-test.true, c.len-n-end.ensures, c.requires) in
    sym (c.loop-n.invariant ∙ fit_more c.args.layout.now c.args.slots.now c.loop-n.n c.shape-code.result (record { place = 0; width = 0; count = 0 }) false
    c.shape-code.ensures less (differ _ _ c.width_of.result c.width_of.ensures c.if-width_of-slot.true))

pub loop-n-preserved : goal.loop-n-preserved
loop-n-preserved c =
    let less : c.loop-n.n < length c.args.slots.now = omega (arith, c.loop-n-test.true, c.len-n-end.ensures, c.requires) in
    c.loop-n.invariant ∙ fit_more c.args.layout.now c.args.slots.now c.loop-n.n c.shape-code.result (record { place = 0; width = 0; count = 0 }) true
    c.shape-code.ensures less (eq-eqb _ _ (sym c.width_of.ensures ∙ c.if-width_of-slot.false))
