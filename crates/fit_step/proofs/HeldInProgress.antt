-- How much is kept of a record in progress.
use Rattle.fit_step.proofs.Common.{◌≡◌, cond, ℕ, ◌+◌, ◌-◌, List, length, refl, inl, inr, sym, ap, ◌∙◌, subst, arith, Some, None, Option, option_map_or}
use Rattle.fit_step.proofs.Common.{Environment, empty_environment, learn_all, held_of_record, part_size, in_progress_size, IsCountable}
use Rattle.fit_step.proofs.Common.{HeldIsOfBytes, HeldIsLimited, State, part_bytes, ◌≤◌, Record, Define, Data, Values, Defined, Phase, RecordHeader, defined_at}
use Rattle.fit_step.proofs.Common.{new_message, IsKeptMessage, Position, message_held, kept_size, items_so_far, entry_count, layout, dev_layout, local_type}
use Rattle.fit_step.proofs.Common.{item_count, ◌++◌, [], entries_so_far, counts_so_far}
use Rattle.fit_record.proofs.SixteenPlaces.{sixteen_places}
use Rattle.fit_step.proofs.EntriesSoFar.{part_is, part_held, part_small}
use Rattle.fit_step.proofs.HeldParts.{part_limited, made_size, IsMadeCountable, items_within}
use Rattle.fit_step.proofs.Limits.{AreLimited, all_limited, environment_limited, nothing_limited}
use Rattle.fit_step.proofs.RecordsInProgress.{header_idle}

-- ---- where fields are made

pub values_made : {A : Type 0} (e : Environment A) (phase : Phase) (count : ℕ) (v : Values A) → (phase ≡ RecordHeader → ⊥)
    → message_held e phase count v ≡ made_size (Some (Data v))
values_made e RecordHeader count v other = absurd (other refl)
values_made e phase count v other = refl

module _ {A : Type 0} (e : Environment A) (p : Position) where
  not_header : (v : Values A) → (p.phase ≡ RecordHeader → ◌≡◌ {A = Option (Record A)} (Some (Data v)) None) → p.phase ≡ RecordHeader → ⊥
  not_header v idle header = let both : ◌≡◌ {A = Option (Record A)} (Some (Data v)) None = idle header in cc

  size_made : (o : Option (Record A)) → (p.phase ≡ RecordHeader → o ≡ None) → in_progress_size e p o ≡ made_size o
  size_made None idle = refl
  size_made (Some (Define d)) idle = refl
  size_made (Some (Data v)) idle = values_made e p.phase (length p.partial) v (not_header v idle)

  countable_made : (o : Option (Record A)) → (p.phase ≡ RecordHeader → o ≡ None) → IsMadeCountable o → IsCountable e p o
  countable_made None idle few = tt
  countable_made (Some (Define d)) idle few = few
  countable_made (Some (Data v)) idle few = omega (arith, values_made e p.phase (length p.partial) v (not_header v idle), few)

-- ---- where the bytes are kept as they came

module _ {A : Type 0} (e : Environment A) (room : ℕ) (bytes : List ℕ) (p : Position) (o : Option (Record A)) (k : IsKeptMessage e room bytes p o) where
  abbrev first : Values A
  first = new_message k.header [] []

  kept_is : in_progress_size e p o ≡ kept_size e (local_type k.header) (length bytes)
  kept_is =
      ap (in_progress_size e p) k.message ∙ ap (λ h. message_held e h (length p.partial) first) k.phase
      ∙ ap (λ l. kept_size e (local_type k.header) (length l)) k.partial

  kept_countable : in_progress_size e p o ≤ 130560 → IsCountable e p o
  kept_countable few =
      subst (λ (q : Option (Record A)). IsCountable e p q) (sym k.message)
      (omega (arith, few, ap (in_progress_size e p) k.message))

  by_size : (n : ℕ) → length bytes - 1 ≡ n → (q : Option (Defined A))
      → option_map_or (λ d. entry_count d.definition + items_so_far (layout d ++ dev_layout d) (length bytes - 1)) q 0
      ≡ option_map_or (λ d. entry_count d.definition + items_so_far (layout d ++ dev_layout d) n) q 0
  by_size n is q = ap (λ m. option_map_or (λ d. entry_count d.definition + items_so_far (layout d ++ dev_layout d) m) q 0) is

  kept_held : kept_size e (local_type k.header) (length bytes) ≡ held_of_record e bytes
  kept_held =
      let rest : length bytes - 1 ≡ length k.body = omega (arith, ap length k.begins) in
      by_size (length k.body) rest (defined_at e (local_type k.header))
      ∙ sym (ap (held_of_record e) k.begins
      ∙ ap (λ c. cond c (entries_so_far k.body)
      (option_map_or (λ d. entry_count d.definition + items_so_far (layout d ++ dev_layout d) (length k.body)) (defined_at e (local_type k.header)) 0)) k.kind)

  at_most : (q : Option (Defined A)) → option_map_or (λ d. entry_count d.definition + items_so_far (layout d ++ dev_layout d) (length bytes - 1)) q 0
      ≤ option_map_or (λ d. entry_count d.definition + item_count d) q 0
  at_most None = omega arith
  at_most (Some d) = let within = items_within (layout d ++ dev_layout d) (length bytes - 1) in omega (arith, within)

  kept_within : kept_size e (local_type k.header) (length bytes) ≤ part_size e bytes
  kept_within =
      let all : part_size e bytes ≡ option_map_or (λ d. entry_count d.definition + item_count d) (defined_at e (local_type k.header)) 0 =
      ap (part_size e) k.begins
      ∙ ap (λ c. cond c (counts_so_far k.header k.body)
      (option_map_or (λ d. entry_count d.definition + item_count d) (defined_at e (local_type k.header)) 0)) k.kind in
      omega (arith, all, at_most (defined_at e (local_type k.header)))

-- ---- all of it

pub held_is_of_bytes : {A : Type 0} → HeldIsOfBytes A
held_is_of_bytes {A} records room bytes p in_progress fit are (inl h) =
    let e : Environment A = learn_all empty_environment records in
    let known : AreLimited e = all_limited empty_environment records fit are (nothing_limited A) in
    let few : part_size e (part_bytes e h.part) ≤ 130560 = subst (λ l. part_size e l ≤ 130560) (sym h.spelled) (part_limited e bytes known h.are_bytes) in
    let idle : p.phase ≡ RecordHeader → in_progress ≡ None = header_idle p.phase p.room p.room in_progress p.partial h.part h.is in
    let made = size_made e p in_progress idle in
    let held : made_size in_progress ≡ held_of_record e bytes =
    ap (λ (s : State A). made_size s.in_progress) h.is ∙ part_is e p.room h.part known h.is_part ∙ ap (held_of_record e) h.spelled in
    let within : made_size in_progress ≤ part_size e bytes =
    subst (λ l. made_size in_progress ≤ part_size e l) h.spelled
    (subst (λ (s : State A). made_size s.in_progress ≤ part_size e (part_bytes e h.part)) (sym h.is) (part_held e p.room h.part known h.is_part)) in (
      countable_made e p in_progress idle
          (subst (λ (s : State A). IsMadeCountable s.in_progress) (sym h.is) (part_small e p.room h.part known h.is_part few)),
      made ∙ held,
      omega (arith, made, within),
    )
held_is_of_bytes {A} records room bytes p in_progress fit are (inr k) =
    let e : Environment A = learn_all empty_environment records in
    let known : AreLimited e = all_limited empty_environment records fit are (nothing_limited A) in
    let is = kept_is e room bytes p in_progress k in
    let within = kept_within e room bytes p in_progress k in
    let few = part_limited e bytes known k.are_bytes in (
      kept_countable e room bytes p in_progress k (omega (arith, is, within, few)),
      is ∙ kept_held e room bytes p in_progress k,
      omega (arith, is, within),
    )

pub held_is_limited : {A : Type 0} → HeldIsLimited A
held_is_limited {A} records bytes fit are low =
    let e : Environment A = learn_all empty_environment records in
    let known : AreLimited e = all_limited empty_environment records fit are (nothing_limited A) in
    (environment_limited e (sixteen_places records) known, part_limited e bytes known low)
