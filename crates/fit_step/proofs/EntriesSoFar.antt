-- What there is of a definition message in progress is what is whole in its bytes.
use Rattle.fit_step.proofs.Common.{◌≡◌, ℕ, ◌+◌, ◌*◌, ◌<◌, List, [], ◌∷◌, ◌++◌, length, length-append, refl, sym, ap, subst, arith, Some, flat_map, number_bytes}
use Rattle.fit_step.proofs.Common.{length-number_bytes, MessageDef, Environment, defined_at, dev_defs, architecture, field_bytes, definition_header}
use Rattle.fit_step.proofs.Common.{dev_field_bytes, DefinitionFits, entry_count, DefinitionPhase, Reserved, AtArchitecture, GlobalFirst, GlobalSecond}
use Rattle.fit_step.proofs.Common.{FieldCount, FieldNumber, FieldSize, FieldCode, DevCount, DevNumber, DevSize, DevIndex, RecordPart, nothing, in_definition}
use Rattle.fit_step.proofs.Common.{in_fields, in_dev_fields, definition_part, part_bytes, IsNew, AwaitsFields, AwaitsDev, IsDefinitionPart, IsPart, state_of}
use Rattle.fit_step.proofs.Common.{HasNone, fields_front, dev_front, entries_so_far, held_of_record, part_size, append-nil}
use Rattle.fit_step.proofs.Common.{DevDef, Defined, IsDefining, nat_tests, ◌≤◌, slice_index, length-dev_fields}
use Rattle.fit_step.proofs.DefinitionReasons.{count_at, count_before, count_in_dev}
use Rattle.fit_step.proofs.HeaderBits.{definition_bits}
use Rattle.fit_step.proofs.Lengths.{length-fields_front}
use Rattle.fit_step.proofs.HeldParts.{front_of, devs_of, no_dev_fields, fields_counted, dev_counted, after_both, in_fields_held}
use Rattle.fit_step.proofs.HeldParts.{in_dev_held, message_within, made_size, IsMadeCountable}
use Rattle.fit_step.proofs.Limits.{AreLimited, IsLimited}
use Rattle.fit_step.proofs.Preconditions.{is_defining}

-- ---- counts of entries, by the bytes

none_so_far : (bytes : List ℕ) → length bytes < 5 → entries_so_far bytes ≡ 0
none_so_far bytes short = grind (arith, nat_tests)

fields_so_far : (bytes : List ℕ) (k r : ℕ) → length bytes ≡ 5 + 3 * k + r → r < 3 → length bytes ≤ 5 + 3 * slice_index bytes 4 → entries_so_far bytes ≡ k
fields_so_far bytes k r long low within = grind (arith, nat_tests)

dev_so_far : (bytes : List ℕ) (n m r : ℕ) → slice_index bytes 4 ≡ n → length bytes ≡ 6 + 3 * n + 3 * m + r → r < 3 → entries_so_far bytes ≡ n + m
dev_so_far bytes n m r at long low = grind (arith, nat_tests)

-- ---- by the parts that have come

module _ {A : Type 0} (e : Environment A) (d : MessageDef A) where
  -- as many entries as are whole in the bytes, and no more than these allow
  abbrev Counts : List ℕ → Type 0
  Counts bytes = (entry_count d ≡ held_of_record e bytes) × (entry_count d ≤ part_size e bytes)

  definition_so_far : (more : List ℕ) → d.local < 16 → held_of_record e (definition_header d ∷ more) ≡ entries_so_far more
  definition_so_far more local = let kind = (definition_bits (definition_header d) d.local d.dev refl local).kind in rw kind refl

  length-front : (n : ℕ) → length (front_of d n) ≡ 5 + 3 * length d.fields
  length-front n = omega (arith, length-fields_front d n)

  new_so_far : (more : List ℕ) → length more < 5 → IsNew d → Counts (definition_header d ∷ more)
  new_so_far more short h = (
    omega (arith, definition_so_far more h.local, none_so_far more short, ap length h.fields, no_dev_fields d.dev h.dev),
    fields_counted e d h.local more h.dev (omega (arith, ap length h.fields)),
  )

  -- some bytes of the next entry after those that have come
  among_fields : (left : ℕ) (entry : List ℕ) → AwaitsFields d left → length entry < 3
      → Counts (definition_header d ∷ (front_of d (length d.fields + left) ++ entry))
  among_fields left entry h few =
      let n : ℕ = length d.fields + left in
      let more : List ℕ = front_of d n ++ entry in
      let at = count_at d.order d.global d.reserved (architecture d.order) n (flat_map field_bytes d.fields) entry in
      let long : length more ≡ 5 + 3 * length d.fields + length entry = omega (arith, length-append (front_of d n) entry, length-front n) in
      let some = h.some in
      let whole = fields_so_far more (length d.fields) (length entry) long few (omega (arith, at, long, few, some)) in (
        omega (arith, definition_so_far more h.local, whole, no_dev_fields d.dev h.dev),
        fields_counted e d h.local more h.dev (omega (arith, at)),
      )

  among_dev : (left : ℕ) (entry : List ℕ) → AwaitsDev d left → length entry < 3
      → Counts (definition_header d ∷ ((front_of d (length d.fields) ++ devs_of d left) ++ entry))
  among_dev left entry h few =
      let front : List ℕ = front_of d (length d.fields) in
      let come : List DevDef = dev_defs d.dev in
      let more : List ℕ = (front ++ devs_of d left) ++ entry in
      let at = count_in_dev d.order d.global d.reserved (architecture d.order) (length d.fields) (flat_map field_bytes d.fields) (devs_of d left) entry in
      let long : length more ≡ 6 + 3 * length d.fields + 3 * length come + length entry =
      omega (
        arith,
        length-append (front ++ devs_of d left) entry,
        length-append front (devs_of d left),
        length-front (length d.fields),
        length-dev_fields come,
      ) in (
        omega (arith, definition_so_far more h.local, dev_so_far more (length d.fields) (length come) (length entry) at long few),
        dev_counted e d h.local more h.defs (length come + left) h.dev at
            (after_both front (5 + 3 * length d.fields) (length come + left) (flat_map dev_field_bytes come) entry (length-front (length d.fields)))
            (omega arith),
      )

  definition_is : (k : DefinitionPhase) → IsDefinitionPart k d → Counts (definition_part k d)
  definition_is Reserved h = new_so_far [] (omega arith) h
  definition_is AtArchitecture h = new_so_far (d.reserved ∷ []) (omega arith) h
  definition_is GlobalFirst h = new_so_far (d.reserved ∷ architecture d.order ∷ []) (omega arith) h
  definition_is (GlobalSecond first) h = new_so_far (d.reserved ∷ architecture d.order ∷ first ∷ []) (omega arith) h.0
  definition_is FieldCount h = new_so_far (d.reserved ∷ architecture d.order ∷ number_bytes d.order 2 d.global)
      (omega (arith, length-number_bytes d.order 2 d.global)) h
  definition_is (FieldNumber left) h = subst Counts (append-nil (fields_front d (length d.fields + left))) (among_fields left [] h (omega arith))
  definition_is (FieldSize left number) h = among_fields left (number ∷ []) h (omega arith)
  definition_is (FieldCode left number size) h = among_fields left (number ∷ size ∷ []) h (omega arith)
  definition_is DevCount h =
      let front : List ℕ = front_of d (length d.fields) in
      let at = count_before d.order d.global d.reserved (architecture d.order) (length d.fields) (flat_map field_bytes d.fields) in
      let none : length (dev_defs d.dev) ≡ 0 = ap (λ o. length (dev_defs o)) h.1 in
      let whole = fields_so_far front (length d.fields) 0 (omega (arith, length-front (length d.fields))) (omega arith)
      (omega (arith, at, length-front (length d.fields))) in (
        omega (arith, definition_so_far front h.0.local, whole, none),
        fields_counted e d h.0.local front (subst HasNone (sym h.1) refl) (omega (arith, at)),
      )
  definition_is (DevNumber left) h = subst Counts (append-nil (dev_front d (length (dev_defs d.dev) + left))) (among_dev left [] h.0 (omega arith))
  definition_is (DevSize left number) h = among_dev left (number ∷ []) h.0 (omega arith)
  definition_is (DevIndex left number size) h = among_dev left (number ∷ size ∷ []) h.0 (omega arith)

-- ---- any record

codes_known : {A : Type 0} (e : Environment A) (local : ℕ) (p : Rattle.fit_record.specs.declared.environment.Defined.Defined A) → AreLimited e
    → defined_at e local ≡ Some p → length p.dev_codes ≡ length (dev_defs p.definition.dev)
codes_known e local p known at = (subst IsLimited at (known.places local)).2

pub part_is : {A : Type 0} (e : Environment A) (room : ℕ) (f : RecordPart A) → AreLimited e → IsPart e f
    → made_size (state_of room f).in_progress ≡ held_of_record e (part_bytes e f)
part_is e room nothing known h = refl
part_is e room (in_definition k d) known h = (definition_is e d k h).0
part_is e room (in_fields local offset t dev) known (p, at, fits, taking, same) =
    subst (λ l. made_size (state_of room (in_fields local offset t l)).in_progress ≡ held_of_record e (part_bytes e (in_fields local offset t l)))
    (sym same)
    (in_fields_held e local offset p at fits (codes_known e local p known at) t taking)
part_is e room (in_dev_fields local offset items t) known (p, at, fits, shape, taking) =
    in_dev_held e local offset p at fits (codes_known e local p known at) items t shape taking

-- what there is of a record is no more than its bytes tell
pub part_held : {A : Type 0} (e : Environment A) (room : ℕ) (f : RecordPart A) → AreLimited e → IsPart e f
    → made_size (state_of room f).in_progress ≤ part_size e (part_bytes e f)
part_held e room nothing limited h = omega arith
part_held e room (in_definition k d) limited h = (definition_is e d k h).1
part_held e room (in_fields local offset t dev) limited h =
    message_within e local offset h.0 h.1 h.2 _ _ (part_is e room (in_fields local offset t dev) limited h)
part_held e room (in_dev_fields local offset items t) limited h =
    message_within e local offset h.0 h.1 h.2 _ _ (part_is e room (in_dev_fields local offset items t) limited h)

-- ---- how much that can be

fits_of : {A : Type 0} (k : DefinitionPhase) (d : MessageDef A) → IsDefining k d → DefinitionFits d
fits_of (FieldNumber left) d h = h.0
fits_of (FieldSize left number) d h = h.0
fits_of (FieldCode left number size) d h = h.0
fits_of DevCount d h = h.0
fits_of (DevNumber left) d h = h.0
fits_of (DevSize left number) d h = h.0
fits_of (DevIndex left number size) d h = h.0
fits_of k d h = h

pub part_small : {A : Type 0} (e : Environment A) (room : ℕ) (f : RecordPart A) → AreLimited e → IsPart e f → part_size e (part_bytes e f) ≤ 130560
    → IsMadeCountable (state_of room f).in_progress
part_small e room nothing limited h few = tt
part_small e room (in_definition k d) limited h few = let fits = fits_of k d (is_defining k d h) in (fits.fields, fits.dev_fields)
part_small e room f limited h few = omega (arith, part_held e room f limited h, few)
