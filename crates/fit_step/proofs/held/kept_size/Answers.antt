use Rattle.fit_step.proofs.Common.{◌≡◌, ◌+◌, ◌-◌, ◌++◌, ◌∙◌, ap, arith, entry_count, items_so_far, layout, dev_layout, sizes, option_map_or}
use Rattle.fit_step.proofs.KeptSizes.{items_both}
use Rattle.fit_step.proofs.held.kept_size.Goals as goal

pub overflow_add-result : goal.overflow_add-result
overflow_add-result g c =
    omega (arith, c.entry_count.ensures.small, c.items_so_far-fields.ensures.few, c.saturating_sub.ensures, c.requires.few)

pub overflow_add-result-2 : goal.overflow_add-result-2
overflow_add-result-2 g c =
    omega (
      arith,
      c.entry_count.ensures.small,
      c.items_so_far-fields.ensures.few,
      c.saturating_sub.ensures,
      c.requires.few,
      c.items_so_far-dev.ensures.few,
      c.items_so_far-fields.ensures.left,
    )

pub returns : goal.returns
returns g c =
    let p = c.in-Some.defined.now in
    let count = c.args.count - 1 in
    let first : c.saturating_sub.result ≡ count = c.saturating_sub.ensures in
    let shapes = c.layout.ensures.shapes in
    let fields : c.items_so_far-fields.result.0 ≡ items_so_far (layout p) count =
    c.items_so_far-fields.ensures.items ∙ ap (λ l. items_so_far l c.saturating_sub.result) shapes ∙ ap (items_so_far (layout p)) first in
    let left : c.items_so_far-fields.result.1 ≡ count - sizes (layout p) =
    c.items_so_far-fields.ensures.left ∙ ap (λ l. c.saturating_sub.result - sizes l) shapes ∙ ap (λ n. n - sizes (layout p)) first in
    let dev : c.items_so_far-dev.result.0 ≡ items_so_far (dev_layout p) (count - sizes (layout p)) =
    c.items_so_far-dev.ensures.items ∙ ap (λ l. items_so_far l c.items_so_far-fields.result.1) c.dev_layout.ensures.shapes
    ∙ ap (items_so_far (dev_layout p)) left in
    let all : c.entry_count.result + c.items_so_far-fields.result.0 + c.items_so_far-dev.result.0
    ≡ entry_count p.definition + items_so_far (layout p ++ dev_layout p) count =
    omega (arith, c.entry_count.ensures.count, fields, dev, items_both (layout p) (dev_layout p) count) in
    all ∙ ap (λ (o : _). option_map_or (λ d. entry_count d.definition + items_so_far (layout d ++ dev_layout d) count) o 0) c.in-Some.ensures.place
