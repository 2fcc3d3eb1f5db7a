use Rattle.fit_encode.proofs.Common.{◌≡◌, ℕ, List, [], ◌∷◌, ◌++◌, length, ap, ◌∙◌, append_assoc, length-append, arith, flat_map, items_bytes}
use Rattle.fit_encode.proofs.Common.{sym, subst, AllByRecursion, HasBytes}
use Rattle.std.proofs.Common.{◌+◌}
use Rattle.fit_encode.proofs.place.place_values.Goals as goal

-- the lengths of two lists of parts, one after the other
both_long : {X : Type 0} (f : X → List ℕ) (xs ys us vs : List X) (n : ℕ) → xs ≡ us → ys ≡ vs
    → (n + length (flat_map f xs)) + length (flat_map f ys) ≡ n + length (flat_map f us ++ flat_map f vs)
both_long f xs ys us vs n one other = rw (one, other) (omega (arith, length-append (flat_map f us) (flat_map f vs)))

-- a byte, and two lists of parts after it
both_after : {X : Type 0} (f : X → List ℕ) (front : List ℕ) (b k : ℕ) (xs ys us vs : List X) → b ≡ k → xs ≡ us → ys ≡ vs
    → ((front ++ b ∷ []) ++ flat_map f xs) ++ flat_map f ys ≡ front ++ k ∷ (flat_map f us ++ flat_map f vs)
both_after f front b k xs ys us vs same one other = rw (same, one, other)
    (ap (λ l. l ++ flat_map f vs) (append_assoc front (k ∷ []) (flat_map f us)) ∙ append_assoc front (k ∷ flat_map f us) (flat_map f vs))

pub returns-clause-end : goal.returns-clause-end
returns-clause-end g c =
    let part = items_bytes {A = g.row.A.Denot} c.args.order in
    c.place_lists.ensures.end ∙ ap (λ n. n + length (flat_map part c.as_slice-2.result.now))
    (c.place_lists-at.ensures.end ∙ ap (λ n. n + length (flat_map part c.as_slice.result.now)) c.place_bytes-at.ensures.end)
    ∙ both_long part c.as_slice.result.now c.as_slice-2.result.now _ _ (c.args.at + 1) c.as_slice.ensures c.as_slice-2.ensures

pub returns-clause-text : goal.returns-clause-text
returns-clause-text g c =
    let part = items_bytes {A = g.row.A.Denot} c.args.order in
    c.place_lists.ensures.text ∙ ap (λ l. l ++ flat_map part c.as_slice-2.result.now)
    (c.place_lists-at.ensures.text ∙ ap (λ l. l ++ flat_map part c.as_slice.result.now) c.place_bytes-at.ensures.text)
    ∙ both_after part _ c.data_header.result _ c.as_slice.result.now c.as_slice-2.result.now _ _ c.data_header.ensures c.as_slice.ensures c.as_slice-2.ensures

pub data_header-requires : goal.data_header-requires
data_header-requires g c = c.requires.header

pub place_bytes-at-requires : goal.place_bytes-at-requires
place_bytes-at-requires g c = omega (arith, c.requires.room)

pub place_lists-at-requires-clause-lists : goal.place_lists-at-requires-clause-lists
place_lists-at-requires-clause-lists g c = subst (AllByRecursion HasBytes) (sym c.as_slice.ensures) c.requires.fields

pub place_lists-at-requires-clause-room : goal.place_lists-at-requires-clause-room
place_lists-at-requires-clause-room g c =
    let part = items_bytes {A = g.row.A.Denot} c.args.order in
    let v = c.args.v.now in
    omega (
      arith,
      c.requires.room,
      c.place_bytes-at.ensures.size,
      c.place_bytes-at.ensures.end,
      ap (λ l. length (flat_map part l)) c.as_slice.ensures,
      length-append (flat_map part v.fields) (flat_map part v.dev),
    )

pub place_lists-requires-clause-lists : goal.place_lists-requires-clause-lists
place_lists-requires-clause-lists g c = subst (AllByRecursion HasBytes) (sym c.as_slice-2.ensures) c.requires.dev_fields

pub place_lists-requires-clause-room : goal.place_lists-requires-clause-room
place_lists-requires-clause-room g c =
    let part = items_bytes {A = g.row.A.Denot} c.args.order in
    let v = c.args.v.now in
    omega (
      arith,
      c.requires.room,
      c.place_bytes-at.ensures.size,
      c.place_bytes-at.ensures.end,
      c.place_lists-at.ensures.size,
      c.place_lists-at.ensures.end,
      ap (λ l. length (flat_map part l)) c.as_slice.ensures,
      ap (λ l. length (flat_map part l)) c.as_slice-2.ensures,
      length-append (flat_map part v.fields) (flat_map part v.dev),
    )

pub returns-clause-size : goal.returns-clause-size
returns-clause-size g c = c.place_lists.ensures.size ∙ c.place_lists-at.ensures.size ∙ c.place_bytes-at.ensures.size
