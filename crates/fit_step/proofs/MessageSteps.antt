-- The bytes of a data message after its record header: none is refused, and the last one makes it whole.
use Rattle.fit_step.proofs.Common.{◌≡◌, inl, inr, ℕ, suc, ◌-◌, ◌<◌, true, false, List, [], ◌∷◌, ◌++◌, length, refl, sym, ap, ◌∙◌, subst, arith, append_assoc}
use Rattle.fit_step.proofs.Common.{length-append, Some, None, Ok, Option, flat_map, option_map, unwrap_or, cond_both, eqb-true, eqb-false, eq-eqb, ne_eqb}
use Rattle.fit_step.proofs.Common.{cases_eq, append-nil, flat_map_more, Items, Order, HasShape, items_bytes, FieldItems, DevItems, item_width_positive}
use Rattle.fit_step.proofs.Common.{IsBytes-none, Defined, Data, Environment, defined_at, layout, dev_layout, HaveShape, data_header, DataHeaderFits, order_at}
use Rattle.fit_step.proofs.Common.{Tests, reading, no_items, begin_dev, begin_fields, layout_at, dev_layout_at, field_move, dev_move, step, TakenFields}
use Rattle.fit_step.proofs.Common.{in_fields, in_dev_fields, taken, IsTaking, part_bytes, IsPart, state_of, Values, all_items, width_of, next_with_bytes, map}
use Rattle.fit_step.proofs.Common.{drop, ◌==◌}
use Rattle.fit_step.proofs.Takes.{HaveShape-last, ends_number, grown, items_at, rest_at, bytes_at, stands_at, whole_at}
use Rattle.fit_step.proofs.TwoLists.{dev_found, field_found, dev_begun, field_begun}
use Rattle.fit_step.proofs.Outcomes.{Moves}

empty : {A : Type 0} (f : ℕ × ℕ) → f.1 ≡ 0 → HasShape {A = A} f.0 f.1 (no_items f)
empty f h = record { width = refl; whole = omega arith; fits = tt }

-- a field without items has no bytes
no_bytes : {A : Type 0} (o : Order) (items : List (Items A)) (f : ℕ × ℕ) → flat_map (items_bytes o) (items ++ no_items f ∷ []) ≡ flat_map (items_bytes o) items
no_bytes o items f = sym (flat_map_more (items_bytes o) [] items (no_items f)) ∙ append-nil (flat_map (items_bytes o) items)

next_to_last : {X : Type 0} (done rest : List X) (f : X) → done ++ f ∷ rest ≡ (done ++ f ∷ []) ++ rest
next_to_last done rest f = sym (append_assoc done (f ∷ []) rest)

one_longer : {X : Type 0} (place : ℕ) (done : List X) (f : X) → place ≡ length done → suc place ≡ length (done ++ f ∷ [])
one_longer place done f h = omega (arith, h, length-append done (f ∷ []))

-- What the search for the next field that has bytes finds: all are whole, or where it stands and what there is of them.
abbrev Found : {A : Type 0} → Order → List (ℕ × ℕ) → List ℕ → List (Items A) → Option (ℕ × ℕ × ℕ) → Type 0
Found o all bytes items None = HaveShape all items × (flat_map (items_bytes o) items ≡ bytes)
Found {A} o all bytes items (Some (place, width, left)) =
    (t : TakenFields A) × IsTaking all t × (place ≡ length t.done) × (width ≡ width_of t) × (left ≡ t.left) × (items ≡ all_items t) × (t.partial ≡ [])
    × (flat_map (items_bytes o) (taken t) ++ t.partial ≡ bytes)

found : {A : Type 0} (o : Order) (all rest done : List (ℕ × ℕ)) (place : ℕ) (whole : List (Items A)) (bytes : List ℕ) → all ≡ done ++ rest
    → place ≡ length done → HaveShape done whole → flat_map (items_bytes o) whole ≡ bytes
    → Found o all bytes (whole ++ map no_items rest) (next_with_bytes place rest)
found o all [] done place whole bytes l at s is = (
  subst (HaveShape all) (sym (append-nil whole)) (subst (λ fs. HaveShape fs whole) (sym (l ∙ append-nil done)) s),
  ap (flat_map (items_bytes o)) (append-nil whole) ∙ is,
)
found {A} o all (f ∷ rest) done place whole bytes l at s is =
    let none = no_bytes o whole f in
    let one : (whole ++ no_items f ∷ []) ++ map no_items rest ≡ whole ++ no_items f ∷ map no_items rest =
    append_assoc whole (no_items f ∷ []) (map no_items rest) in
    cond_both (f.1 == 0) _ _ (λ n. Found {A = A} o all bytes (whole ++ no_items f ∷ map no_items rest) n)
    (λ h. subst (λ i. Found {A = A} o all bytes i (next_with_bytes (suc place) rest)) one
    (found o all rest (done ++ f ∷ []) (suc place) (whole ++ no_items f ∷ []) bytes (l ∙ next_to_last done rest f) (one_longer place done f at)
    (HaveShape-last done whole f (no_items f) s (empty f (eqb-true f.1 0 h))) (none ∙ is)))
    (λ h. let some = eqb-false f.1 0 h in (
      record { done = done; whole = whole; field = f; bits = []; partial = []; left = f.1; to_come = rest },
      record {
        layout = l;
        shapes = s;
        numbers = tt;
        size = omega arith;
        short = item_width_positive f.0 f.1;
        some = omega arith;
        bytes = IsBytes-none;
      },
      at,
      refl,
      refl,
      sym one,
      refl,
      append-nil (flat_map (items_bytes o) (whole ++ no_items f ∷ [])) ∙ none ∙ is,
    ))

module _ {A : Type 0} (e : Environment A) (room local : ℕ) (offset : Option ℕ) (p : Defined A) (known : defined_at e local ≡ Some p)
    (header : DataHeaderFits local offset) where
  abbrev o : Order
  o = order_at e local

  pub dev_begins : (items : List (Items A)) → HaveShape (layout p) items → (rest done : List (ℕ × ℕ)) (place : ℕ) (dev : List (Items A)) (bytes : List ℕ)
      → dev_layout p ≡ done ++ rest → place ≡ length done → HaveShape done dev
      → data_header local offset ∷ flat_map (items_bytes o) items ++ flat_map (items_bytes o) dev ≡ bytes
      → Moves e room bytes (Ok (begin_dev room (record { local = local; offset = offset; fields = items; dev = dev ++ map no_items rest }) place rest))
  dev_begins items shapes rest done place dev bytes l at s is =
      subst (λ n. Moves e room bytes (Ok n)) (sym (dev_found room v place rest))
      (go (next_with_bytes place rest) (found o (dev_layout p) rest done place dev (flat_map (items_bytes o) dev) l at s refl))
    where
      v : Values A
      v = record { local = local; offset = offset; fields = items; dev = dev ++ map no_items rest }

      go : (n : Option (ℕ × ℕ × ℕ)) → Found o (dev_layout p) (flat_map (items_bytes o) dev) (dev ++ map no_items rest) n
          → Moves e room bytes (Ok (dev_begun room v n))
      go None (shape, same) = inr (record {
        whole = Data v;
        fits = rw known (record { header = header; fields = shapes; dev_fields = shape });
        spelled = ap (λ z. data_header local offset ∷ flat_map (items_bytes o) items ++ z) same ∙ is;
        is = refl;
      })
      go (Some (k, width, left)) (t, taking, a, b, c, same, none, spelled) = inl (record {
        next = in_dev_fields local offset items t;
        stands = (p, known, header, shapes, taking);
        begun = tt;
        spelled = ap (λ z. data_header local offset ∷ flat_map (items_bytes o) items ++ z) spelled ∙ is;
        is = λ i. Ok (
          reading (DevItems (a i) (b i) (c i)) room (record v { dev = same i }) (sym none i),
          None,
        );
      })

  pub fields_begin : (rest done : List (ℕ × ℕ)) (place : ℕ) (items : List (Items A)) (bytes : List ℕ) → layout p ≡ done ++ rest → place ≡ length done
      → HaveShape done items → data_header local offset ∷ flat_map (items_bytes o) items ≡ bytes
      → Moves e room bytes (Ok (begin_fields room
      (record { local = local; offset = offset; fields = items ++ map no_items rest; dev = map no_items (dev_layout p) }) place rest (dev_layout p)))
  fields_begin rest done place items bytes l at s is =
      subst (λ n. Moves e room bytes (Ok n)) (sym (field_found room v place rest (dev_layout p)))
      (go (next_with_bytes place rest) (found o (layout p) rest done place items (flat_map (items_bytes o) items) l at s refl))
    where
      v : Values A
      v = record { local = local; offset = offset; fields = items ++ map no_items rest; dev = map no_items (dev_layout p) }

      go : (n : Option (ℕ × ℕ × ℕ)) → Found o (layout p) (flat_map (items_bytes o) items) (items ++ map no_items rest) n
          → Moves e room bytes (Ok (field_begun room v (dev_layout p) n))
      go None (shape, same) =
          dev_begins v.fields shape (dev_layout p) [] 0 [] bytes refl refl tt
          (ap (λ z. data_header local offset ∷ z) (append-nil (flat_map (items_bytes o) v.fields) ∙ same) ∙ is)
      go (Some (k, width, left)) (t, taking, a, b, c, same, none, spelled) = inl (record {
        next = in_fields local offset t (dev_layout p);
        stands = (p, known, header, taking, refl);
        begun = tt;
        spelled = ap (λ z. data_header local offset ∷ z) spelled ∙ is;
        is = λ i. Ok (
          reading (FieldItems (a i) (b i) (c i)) room (record v { fields = same i }) (sym none i),
          None,
        );
      })

-- ---- inside a field

pub dev_layout-known : {A : Type 0} (e : Environment A) (local : ℕ) (p : Defined A) → defined_at e local ≡ Some p → dev_layout_at e local ≡ dev_layout p
dev_layout-known e local p known = ap (λ o. unwrap_or (option_map dev_layout o) []) known

layout-known : {A : Type 0} (e : Environment A) (local : ℕ) (p : Defined A) → defined_at e local ≡ Some p → layout_at e local ≡ layout p
layout-known e local p known = ap (λ o. unwrap_or (option_map layout o) []) known

drop_past : {X : Type 0} (done rest : List X) (f : X) → drop (suc (length done)) (done ++ f ∷ rest) ≡ rest
drop_past [] rest f = refl
drop_past (d ∷ done) rest f = drop_past done rest f

-- the fields after the one that is read
pub still_to_come : {A : Type 0} (all : List (ℕ × ℕ)) (t : TakenFields A) → IsTaking all t → drop (suc (length t.done)) all ≡ t.to_come
still_to_come all t s = ap (drop (suc (length t.done))) s.layout ∙ drop_past t.done t.to_come t.field

pub fields_to_come : {A : Type 0} (e : Environment A) (local : ℕ) (p : Defined A) (t : TakenFields A) → defined_at e local ≡ Some p → IsTaking (layout p) t
    → drop (suc (length t.done)) (layout_at e local) ≡ t.to_come
fields_to_come e local p t known s = ap (drop (suc (length t.done))) (layout-known e local p known) ∙ still_to_come (layout p) t s

pub dev_to_come : {A : Type 0} (e : Environment A) (local : ℕ) (p : Defined A) (t : TakenFields A) → defined_at e local ≡ Some p → IsTaking (dev_layout p) t
    → drop (suc (length t.done)) (dev_layout_at e local) ≡ t.to_come
dev_to_come e local p t known s = ap (drop (suc (length t.done))) (dev_layout-known e local p known) ∙ still_to_come (dev_layout p) t s

pub field_moves : {A : Type 0} (e : Environment A) (tests : Tests A) (room local : ℕ) (offset : Option ℕ) (t : TakenFields A) (dev : List (ℕ × ℕ)) (b : ℕ)
    → IsPart e (in_fields local offset t dev) → b < 256
    → Moves e (room - 1) (part_bytes e (in_fields local offset t dev) ++ b ∷ []) (step e tests (state_of room (in_fields local offset t dev)) b)
unfolding step field_move
field_moves {A} e tests room local offset t dev b (p, known, header, s, same) low =
    let o = order_at e local in
    let more = bytes_at (ends_number t b) o t b refl s.bytes low in
    elim (cases_eq t.left 1) [
      | inl last ↦
          let w = whole_at (ends_number t b) o (layout p) t b refl s low last in
          let spelled : flat_map (items_bytes o) (taken (grown o t b)) ≡ (flat_map (items_bytes o) (taken t) ++ t.partial) ++ b ∷ [] =
          sym (append-nil (flat_map (items_bytes o) (taken (grown o t b)))) ∙ ap (λ z. flat_map (items_bytes o) (taken (grown o t b)) ++ z) (sym w.0) ∙ more in
          let end : (t.left == 1) ≡ true = eq-eqb t.left 1 last in
          rw (end, items_at (ends_number t b) o t b refl s.shapes, fields_to_come e local p t known s, dev_layout-known e local p known, same)
          (fields_begin e (room - 1) local offset p known header t.to_come (t.done ++ t.field ∷ []) (suc (length t.done)) (taken (grown o t b)) _
          (s.layout ∙ next_to_last t.done t.to_come t.field) (one_longer (length t.done) t.done t.field refl) w.1
          (ap (λ z. data_header local offset ∷ z) spelled))
      | inr inside ↦
          let on : (t.left == 1) ≡ false = ne_eqb t.left 1 inside in
          let some = s.some in
          rw (on, items_at (ends_number t b) o t b refl s.shapes, rest_at (ends_number t b) o t b refl)
          (inl (record {
            next = in_fields local offset (grown o t b) dev;
            stands = (p, known, header, stands_at (ends_number t b) o (layout p) t b refl s low (omega arith), same);
            begun = tt;
            spelled = ap (λ z. data_header local offset ∷ z) more;
            is = refl;
          }))
    ]

pub dev_moves : {A : Type 0} (e : Environment A) (tests : Tests A) (room local : ℕ) (offset : Option ℕ) (items : List (Items A)) (t : TakenFields A) (b : ℕ)
    → IsPart e (in_dev_fields local offset items t) → b < 256
    → Moves e (room - 1) (part_bytes e (in_dev_fields local offset items t) ++ b ∷ []) (step e tests (state_of room (in_dev_fields local offset items t)) b)
unfolding step dev_move
dev_moves {A} e tests room local offset items t b (p, known, header, shapes, s) low =
    let o = order_at e local in
    let more = bytes_at (ends_number t b) o t b refl s.bytes low in
    let front = flat_map (items_bytes o) items in
    elim (cases_eq t.left 1) [
      | inl last ↦
          let w = whole_at (ends_number t b) o (dev_layout p) t b refl s low last in
          let spelled : front ++ flat_map (items_bytes o) (taken (grown o t b)) ≡ (front ++ (flat_map (items_bytes o) (taken t) ++ t.partial)) ++ b ∷ [] =
          ap (λ z. front ++ z) (sym (append-nil (flat_map (items_bytes o) (taken (grown o t b))))
          ∙ ap (λ z. flat_map (items_bytes o) (taken (grown o t b)) ++ z) (sym w.0) ∙ more)
          ∙ sym (append_assoc front (flat_map (items_bytes o) (taken t) ++ t.partial) (b ∷ [])) in
          let end : (t.left == 1) ≡ true = eq-eqb t.left 1 last in
          rw (end, items_at (ends_number t b) o t b refl s.shapes, dev_to_come e local p t known s)
          (dev_begins e (room - 1) local offset p known header items shapes t.to_come (t.done ++ t.field ∷ []) (suc (length t.done)) (taken (grown o t b)) _
          (s.layout ∙ next_to_last t.done t.to_come t.field) (one_longer (length t.done) t.done t.field refl) w.1
          (ap (λ z. data_header local offset ∷ z) spelled))
      | inr inside ↦
          let on : (t.left == 1) ≡ false = ne_eqb t.left 1 inside in
          let some = s.some in
          rw (on, items_at (ends_number t b) o t b refl s.shapes, rest_at (ends_number t b) o t b refl)
          (inl (record {
            next = in_dev_fields local offset items (grown o t b);
            stands = (p, known, header, shapes, stands_at (ends_number t b) o (dev_layout p) t b refl s low (omega arith));
            begun = tt;
            spelled = ap (λ z. data_header local offset ∷ z)
                (ap (λ z. front ++ z) more ∙ sym (append_assoc front (flat_map (items_bytes o) (taken t) ++ t.partial) (b ∷ [])));
            is = refl;
          }))
    ]
