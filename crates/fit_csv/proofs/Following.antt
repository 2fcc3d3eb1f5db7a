-- The rows that can follow others, by what has been read of a chain.
use Rattle.fit_csv.proofs.Common.{◌≡◌, ◌∷◌, ◌++◌, length, refl, sym, subst, inl, inr, IsSomeAnd, ◌↔◌, flat_map, slice_get, Global, Items, HasShape, Naming}
use Rattle.fit_csv.proofs.Common.{TextHasOneNumber, known, DevDef, FieldDef, Defined, Record, Values, defined_at, dev_defs, Row, first_line, dev_row, field_row}
use Rattle.fit_csv.proofs.Common.{file_rows, CanFollow, MayGoOn, IsDevDefRow, IsDevRow, IsEndRow, IsFieldDefRow, IsFieldRow, IsFileRow, naming_at, chain_limit}
use Rattle.fit_csv.proofs.Common.{IsHeadRow, IsMessageRow, IsSoundChain, rows_so_far, DefinitionStep, DevStep, FieldStep, MessageStep, OpenStep, PartStep, Run}
use Rattle.fit_csv.proofs.Common.{file_begun, nothing_yet, opened, settled, with_dev_field, with_dev_items, with_field, with_file, with_items, Chain}
use Rattle.fit_csv.proofs.Common.{OpenDefinition, OpenFile, Part, Nothing, Definition}
use Rattle.std.proofs.Common.{◌⊎◌, ℕ, List, Option, Some, None}
use Rattle.std.specs.Prelude.{◌<◌}
use Rattle.fit_csv.specs.declared.from.open_file.Part.TheVariants.{Message}
use Rattle.fit_csv.proofs.Judging.{can-follow, can-step, judged}
use Rattle.fit_csv.proofs.OneWay.{run-split, tail-same}
use Rattle.fit_csv.proofs.WholeRuns.{chain-run}

-- ---- the table, by what has been read

-- in a definition: `fdef` until its N fields are there, and then `ddef`
abbrev pub NextInDefinition : OpenDefinition → Row → Type 0
NextInDefinition o r = ((length o.fields < o.head.fields) × IsFieldDefRow r) ⊎ ((length o.fields ≡ o.head.fields) × IsDevDefRow r)

-- in a data message: `field`, and after the last field `dev`
abbrev pub NextInMessage : List (Record Global) → Values Global → Defined Global → Row → Type 0
NextInMessage before v p r =
    IsSomeAnd (slice_get p.definition.fields (length v.fields)) (λ f. IsFieldRow p.definition.global f r)
    ⊎ ((length v.fields ≡ length p.definition.fields)
    × IsSomeAnd (slice_get (dev_defs p.definition.dev) (length v.dev)) (λ f.
    IsSomeAnd (slice_get p.dev_codes (length v.dev)) (λ code. IsDevRow f code (naming_at before v.local (length v.dev)) r)))

-- in a file: after a whole record `def`, `data` or `end`
abbrev pub NextInFile : List (Record Global) → Part → Row → Type 0
NextInFile before Nothing r = IsHeadRow r ⊎ (IsMessageRow before r ⊎ IsEndRow r)
NextInFile before (Definition o) r = NextInDefinition o r
NextInFile before (Message v) r = IsSomeAnd (defined_at (known before) v.local) (λ p. NextInMessage before v p r)

-- between files `file`, unless there are as many files as a chain may have
abbrev pub NextIn : ℕ → Option OpenFile → Row → Type 0
NextIn count None r = (count < chain_limit) × IsFileRow r
NextIn count (Some f) r = NextInFile f.before f.part r

-- ---- definitions

step-of-definition : (o : OpenDefinition) (r : Row) → NextInDefinition o r → (q : OpenDefinition) × DefinitionStep o r q
step-of-definition o r (inl (less, (f, range, e))) = (with_field o f, inl (less, (f, range, e, refl)))
step-of-definition o r (inr (all, (f, range, e))) = (with_dev_field o f, inr (all, (f, range, e, refl)))

definition-of-step : (o q : OpenDefinition) (r : Row) → DefinitionStep o r q → NextInDefinition o r
definition-of-step o q r (inl (less, (f, range, e, is))) = inl (less, (f, range, e))
definition-of-step o q r (inr (all, (f, range, e, is))) = inr (all, (f, range, e))

-- ---- data messages

some-map : {A : Type 0} (P Q : A → Type 0) (o : Option A) → ((a : A) → P a → Q a) → IsSomeAnd o P → IsSomeAnd o Q
some-map P Q (Some a) f h = f a h
some-map P Q None f h = h

module _ (before : List (Record Global)) (v : Values Global) (r : Row) where
  field-of-step : (p : Defined Global) (w : Values Global) → FieldStep p v r w
      → IsSomeAnd (slice_get p.definition.fields (length v.fields)) (λ f. IsFieldRow p.definition.global f r)
  field-of-step p w step = some-map _ _ (slice_get p.definition.fields (length v.fields)) (λ f h. (h.0, h.1, h.2)) step

  dev-of-step : (p : Defined Global) (w : Values Global) → DevStep before p v r w
      → (length v.fields ≡ length p.definition.fields)
      × IsSomeAnd (slice_get (dev_defs p.definition.dev) (length v.dev)) (λ f.
      IsSomeAnd (slice_get p.dev_codes (length v.dev)) (λ code. IsDevRow f code (naming_at before v.local (length v.dev)) r))
  dev-of-step p w (all, step) = (
    all,
    some-map _ _ (slice_get (dev_defs p.definition.dev) (length v.dev))
        (λ f h. some-map _ _ (slice_get p.dev_codes (length v.dev)) (λ code k. (k.0, k.1, k.2)) h) step,
  )

  message-of-step : (w : Values Global) → MessageStep before v r w → IsSomeAnd (defined_at (known before) v.local) (λ p. NextInMessage before v p r)
  message-of-step w step = some-map _ _ (defined_at (known before) v.local) one step
    where
      one : (p : Defined Global) → FieldStep p v r w ⊎ DevStep before p v r w → NextInMessage before v p r
      one p (inl h) = inl (field-of-step p w h)
      one p (inr h) = inr (dev-of-step p w h)

  -- the items of a row make a step
  field-step : (p : Defined Global) (o : Option FieldDef) → IsSomeAnd o (λ f. IsFieldRow p.definition.global f r)
      → (w : Values Global) × IsSomeAnd o (λ f. (i : Items Global) × HasShape f.code f.size i × (r ≡ field_row p.definition.global f i) × (w ≡ with_items v i))
  field-step p (Some f) (i, shape, e) = (with_items v i, (i, shape, e, refl))
  field-step p None h = absurd h

  dev-step : (n : Naming) (o : Option DevDef) (c : Option ℕ) → IsSomeAnd o (λ f. IsSomeAnd c (λ code. IsDevRow f code n r))
      → (w : Values Global) × IsSomeAnd o (λ f.
      IsSomeAnd c (λ code. (i : Items Global) × HasShape code f.size i × (r ≡ dev_row f code n i) × (w ≡ with_dev_items v i)))
  dev-step n (Some f) (Some code) (i, shape, e) = (with_dev_items v i, (i, shape, e, refl))
  dev-step n (Some f) None h = absurd h
  dev-step n None c h = absurd h

  message-step : (o : Option (Defined Global)) → IsSomeAnd o (λ p. NextInMessage before v p r)
      → (w : Values Global) × IsSomeAnd o (λ p. FieldStep p v r w ⊎ DevStep before p v r w)
  message-step (Some p) (inl h) = let step = field-step p (slice_get p.definition.fields (length v.fields)) h in (step.0, inl step.1)
  message-step (Some p) (inr (all, h)) =
      let step = dev-step (naming_at before v.local (length v.dev)) (slice_get (dev_defs p.definition.dev) (length v.dev))
      (slice_get p.dev_codes (length v.dev)) h in
      (step.0, inr (all, step.1))
  message-step None h = absurd h

-- ---- files

part-of-step : (before : List (Record Global)) (part p : Part) (r : Row) → PartStep before part r p → NextInFile before part r
part-of-step before Nothing p r (inl (h, range, e, is)) = inl (h, range, e)
part-of-step before Nothing p r (inr (v, start, e, is)) = inr (inl (v, start, e))
part-of-step before (Definition o) p r (q, step, is) = definition-of-step o q r step
part-of-step before (Message v) p r (w, step, is) = message-of-step before v r w step

module _ (c : Chain) (f : OpenFile) (r : Row) where
  of-step : (t : Chain) → OpenStep c (Some f) r t → NextInFile f.before f.part r
  of-step t (inl (none, e, is)) = subst (λ (part : Part). NextInFile f.before part r) (sym none) (inr (inr e))
  of-step t (inr (g, (p, step, is), same)) = part-of-step f.before f.part p r step

  go-on : (p : Part) → PartStep f.before f.part r p → (t : Chain) × OpenStep c (Some f) r t
  go-on p step = (record c { current = Some (settled f p) }, inr (settled f p, (p, step, refl), refl))

  to-step : (part : Part) → f.part ≡ part → NextInFile f.before part r → (t : Chain) × OpenStep c (Some f) r t
  to-step Nothing is (inl (h, range, e)) =
      go-on (Definition (opened h)) (subst (λ (part : Part). PartStep f.before part r (Definition (opened h))) (sym is) (inl (h, range, e, refl)))
  to-step Nothing is (inr (inl (v, start, e))) =
      go-on (Message v) (subst (λ (part : Part). PartStep f.before part r (Message v)) (sym is) (inr (v, start, e, refl)))
  to-step Nothing is (inr (inr e)) = (with_file c f, inl (is, e, refl))
  to-step (Definition o) is h =
      let step = step-of-definition o r h in
      go-on (Definition step.0) (subst (λ (part : Part). PartStep f.before part r (Definition step.0)) (sym is) (step.0, step.1, refl))
  to-step (Message v) is h =
      let step = message-step f.before v r (defined_at (known f.before) v.local) h in
      go-on (Message step.0) (subst (λ (part : Part). PartStep f.before part r (Message step.0)) (sym is) (step.0, step.1, refl))

-- ---- chains

come-of-step : (c : Chain) (m : Option OpenFile) (r : Row) (t : Chain) → OpenStep c m r t → NextIn (length c.files) m r
come-of-step c None r t (room, (h, range, e, is)) = (room, (h, range, e))
come-of-step c (Some f) r t step = of-step c f r t step

step-of-come : (c : Chain) (m : Option OpenFile) (r : Row) → NextIn (length c.files) m r → (t : Chain) × OpenStep c m r t
step-of-come c None r (room, (h, range, e)) = (record c { current = Some (file_begun h) }, (room, (h, range, e, refl)))
step-of-come c (Some f) r h = to-step c f r f.part refl h

pub next-rows : TextHasOneNumber → (rows : List Row) → MayGoOn (first_line ∷ rows)
    → (c : Chain) × IsSoundChain c × (rows_so_far c ≡ rows) × ((r : Row) → CanFollow (first_line ∷ rows) r ↔ NextIn (length c.files) c.current r)
next-rows law rows (files, more, good, e) =
    let rest : flat_map file_rows files ≡ rows ++ more = tail-same first_line first_line (flat_map file_rows files) (rows ++ more) e in
    let done : Chain = record { files = files; current = None } in
    let whole : Run nothing_yet (rows ++ more) done = subst (λ (l : List Row). Run nothing_yet l done) rest (chain-run files good) in
    let (c, front, others) = run-split nothing_yet rows more done whole in
    let (sound, so_far) = judged rows c front in (
      c,
      sound,
      so_far,
      (λ r. (
        (λ follows. let (t, step) = can-step law rows c r front follows in come-of-step c c.current r t step),
        (λ come. can-follow rows c r front (step-of-come c c.current r come)),
      )),
    )
