-- How long the bytes of records are.
use Rattle.fit_step.proofs.Common.{◌≡◌, ℕ, ◌+◌, ◌*◌, List, [], ◌∷◌, ◌++◌, length, sym, ap, arith, length-append, flat_map, flat_map_more, sum_by-append}
use Rattle.fit_step.proofs.Common.{sum_by-cons, Items, Order, items_bytes, length-number_bytes, MessageDef, Defined, field_bytes, layout}
use Rattle.fit_step.proofs.Common.{dev_layout, message_size, sizes, definition_front, fields_front, TakenFields, taken, width_of, IsTaking, length-fields}
use Rattle.fit_step.proofs.Common.{length-items}
use Rattle.fit_base.proofs.ShapeTests.{length-numbers}

pub length-fields_front : {A : Type 0} (d : MessageDef A) (n : ℕ) → length (fields_front d n) ≡ 6 + 3 * length d.fields
length-fields_front d n =
    omega (arith, length-append (definition_front d) (n ∷ flat_map field_bytes d.fields), length-number_bytes d.order 2 d.global, length-fields d.fields)

length-bits : {A : Type 0} (o : Order) (i : Items A) → length (items_bytes o i) ≡ length i.bits * i.width
length-bits o i = length-numbers o i.width i.bits

-- the bytes of the fields that have come, and those that are to come
pub taken_rest : {A : Type 0} (o : Order) (all : List (ℕ × ℕ)) (t : TakenFields A) → IsTaking all t
    → length (flat_map (items_bytes o) (taken t) ++ t.partial) + t.left + sizes t.to_come ≡ sizes all
taken_rest {A} o all t s =
    let last : Items A = record { width = width_of t; bits = t.bits } in
    omega (
      arith,
      length-append (flat_map (items_bytes o) (taken t)) t.partial,
      ap length (sym (flat_map_more (items_bytes o) [] t.whole last)),
      length-append (flat_map (items_bytes o) t.whole) (items_bytes o last),
      length-bits o last,
      length-items o t.done t.whole s.shapes,
      ap sizes s.layout,
      sum_by-append (λ (f : ℕ × ℕ). f.1) t.done (t.field ∷ t.to_come),
      sum_by-cons (λ (f : ℕ × ℕ). f.1) t.field t.to_come,
      s.size,
    )

pub message_sizes : {A : Type 0} (p : Defined A) → message_size p ≡ sizes (layout p) + sizes (dev_layout p)
message_sizes p = sum_by-append (λ (f : ℕ × ℕ). f.1) (layout p) (dev_layout p)
