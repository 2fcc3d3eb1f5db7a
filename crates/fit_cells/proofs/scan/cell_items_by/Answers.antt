use Rattle.fit_cells.proofs.Common.{◌≡◌, ◌∙◌, ◌<◌, ◌^◌, Some, true, false, Decides, refl, sym, ap, subst, option_map, recursion_from_All, meaning, cell}
use Rattle.std.proofs.lemmas.Slice.Eq.{bytes_eq-Decides}
use Rattle.fit_cells.proofs.ItemFacts.{same-items, shape_whole}
use Rattle.fit_cells.proofs.scan.cell_items_by.Goals as goal

pub returns-then-eq-clause-some : goal.returns-then-eq-clause-some
returns-then-eq-clause-some c =
    let equal : Decides true (c.as_slice.result.now ≡ c.as_bytes.result.now) =
    subst (λ t. Decides t (c.as_slice.result.now ≡ c.as_bytes.result.now)) (sym c.if-eq.ensures)
    (bytes_eq-Decides c.as_slice.result.now c.as_bytes.result.now) in
    let written = rw c.clear.ensures.items at c.in_ok-put_cell.ensures.ok in (
      record {
        width = c.width_of-width.ensures;
        whole = shape_whole c.args.code.0 c.args.size c.width_of-width.result c.in_ok-bits.bits c.width_of-width.ensures c.in_ok-bits.ensures.count;
        fits = recursion_from_All (λ n. n < 256 ^ c.width_of-width.result) c.in_ok-bits.bits c.in_ok-bits.ensures.below;
      },
      sym written ∙ sym c.as_slice.ensures.value ∙ equal.0 refl ∙ c.as_bytes.ensures.value,
    )

pub returns-then-eq-clause-every : goal.returns-then-eq-clause-every
returns-then-eq-clause-every c items shape e =
    ap Some (same-items c.args.code.0 c.args.size c.width_of-width.result (option_map meaning c.args.info) c.args.text.now c.in_ok-bits.bits items
    c.width_of-width.ensures shape e c.in_ok-bits.ensures.count c.in_ok-bits.ensures.every)

pub returns-else-eq-clause-every : goal.returns-else-eq-clause-every
returns-else-eq-clause-every c items shape e =
    let same = same-items c.args.code.0 c.args.size c.width_of-width.result (option_map meaning c.args.info) c.args.text.now c.in_ok-bits.bits items
    c.width_of-width.ensures shape e c.in_ok-bits.ensures.count c.in_ok-bits.ensures.every in
    let written = rw c.clear.ensures.items at c.in_ok-put_cell.ensures.ok in
    let differs : Decides false (c.as_slice.result.now ≡ c.as_bytes.result.now) =
    subst (λ t. Decides t (c.as_slice.result.now ≡ c.as_bytes.result.now)) (sym c.if-eq.ensures)
    (bytes_eq-Decides c.as_slice.result.now c.as_bytes.result.now) in
    absurd (cc (differs.1 (c.as_slice.ensures.value ∙ written ∙ ap (cell c.args.code.0 (option_map meaning c.args.info)) same ∙ e
    ∙ sym c.as_bytes.ensures.value)))
