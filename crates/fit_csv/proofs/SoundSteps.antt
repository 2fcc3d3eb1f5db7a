-- One more row keeps what holds of what has been read.
use Rattle.fit_csv.proofs.Common.{◌≡◌, ◌∙◌, suc, ◌+◌, ◌≤◌, ◌^◌, true, false, [], ◌∷◌, ◌++◌, length, map, refl, sym, ap, subst, inl, inr, arith, eqb-true, ◌&&◌}
use Rattle.fit_csv.proofs.Common.{slice_get, IsSome, IsSomeAnd, option_map_or, Global, AllByRecursion, cases_Bool, eqb-false, length-map, reverse-append}
use Rattle.fit_csv.proofs.Common.{length-zip, slice_get_within, slice_get-map, Items, HasShape, DevDef, Defined, Record, Define, Data, Values, defined_at}
use Rattle.fit_csv.proofs.Common.{dev_defs, empty_environment, DataFits, DefinitionFits, Fits, HaveShape, dev_layout, layout, known, dev_row, field_row}
use Rattle.fit_csv.proofs.Common.{DefinitionInRange, DevDefInRange, FieldDefInRange, RecordInRange, HeadInRange, IsMessageStart, DefinitionStep, DevStep}
use Rattle.fit_csv.proofs.Common.{FieldStep, FileStep, FitsOnceWhole, PartHasRoom, PartStep, built_definition, dev_total, has_all, is_whole, is_whole_message}
use Rattle.fit_csv.proofs.Common.{opened, settled, with_dev_items, with_items, with_record, naming_at, Row, HaveShapeSoFar, IsSoundDefinition, IsSoundFile}
use Rattle.fit_csv.proofs.Common.{IsSoundMessage, IsSoundPart, IsSoundSoFar, DefinitionHead, OpenDefinition, OpenFile, Part, Nothing, Definition}
use Rattle.std.proofs.Common.{ℕ, ◌<◌, List, Option, Some, None}
use Rattle.std.specs.Prelude.{◌==◌, ◌⊎◌, option_map, unwrap_or, IfSome}
use Rattle.std.proofs.lemmas.List.{length-append}
use Rattle.fit_csv.specs.declared.from.open_file.Part.TheVariants.{Message}
use Rattle.fit_profile.proofs.KnownFacts.{codes-long, fit-last, known_learned}
use Rattle.fit_csv.proofs.SoFar.{both-true, get-zip, some-at}

-- ---- lists

pub all-last : {X : Type 0} (P : X → Type 0) (xs : List X) (x : X) → AllByRecursion P xs → P x → AllByRecursion P (xs ++ x ∷ [])
all-last P [] x h p = (p, tt)
all-last P (y ∷ xs) x h p = (h.0, all-last P xs x h.1 p)

pub length-last : {X : Type 0} (xs : List X) (x : X) → length (xs ++ x ∷ []) ≡ suc (length xs)
length-last xs x = omega (arith, length-append xs (x ∷ []))

-- ---- definitions

-- of two lists, one that isn't full leaves room
pub some-left : (a b c d : ℕ) → (a == c && b == d) ≡ false → a ≤ c → b ≤ d → a + b < c + d
some-left a b c d e few few_more = elim (cases_Bool (a == c)) [
  | inl same ↦ (let differ = eqb-false b d (rw same at e) in omega (arith, differ))
  | inr other ↦ (let differ = eqb-false a c other in omega (arith, differ))
]

-- developer fields are to come
pub dev-left : (o : OpenDefinition) → IsSoundDefinition o → is_whole o ≡ false → length o.fields ≡ o.head.fields → length o.dev < dev_total o.head
dev-left o sound going all = omega (arith, all, some-left _ _ _ _ going sound.few sound.few_dev_fields)

pub definition-sound : (o : OpenDefinition) (r : Row) (q : OpenDefinition) → IsSoundDefinition o → is_whole o ≡ false → DefinitionStep o r q
    → IsSoundDefinition q
definition-sound o r q sound going (inl (room, (f, range, e, is))) =
    subst IsSoundDefinition (sym is) (record {
      head = sound.head;
      fields = all-last FieldDefInRange o.fields f sound.fields range;
      dev_fields = sound.dev_fields;
      few = omega (arith, room, length-last o.fields f);
      few_dev_fields = sound.few_dev_fields;
      in_order = λ more. sound.in_order room;
    })
definition-sound o r q sound going (inr (all, (f, range, e, is))) =
    let left = dev-left o sound going all in
    subst IsSoundDefinition (sym is) (record {
      head = sound.head;
      fields = sound.fields;
      dev_fields = all-last DevDefInRange o.dev f sound.dev_fields range;
      few = sound.few;
      few_dev_fields = omega (arith, left, length-last o.dev f);
      in_order = λ more. absurd (omega (arith, more, all));
    })

opened-sound : (h : DefinitionHead) → HeadInRange h → IsSoundDefinition (opened h)
opened-sound h range = record { head = range; fields = tt; dev_fields = tt; few = omega arith; few_dev_fields = omega arith; in_order = λ more. refl }

few-dev : (m : Option ℕ) (dev : List DevDef) → IfSome m (λ n. n < 2 ^ 8) → length dev ≤ unwrap_or m 0 → length (dev_defs (option_map (λ _. dev) m)) < 256
few-dev None dev small few = omega arith
few-dev (Some n) dev small few = omega (arith, small, few)

all-dev : (m : Option ℕ) (dev : List DevDef) → AllByRecursion DevDefInRange dev → AllByRecursion DevDefInRange (dev_defs (option_map (λ _. dev) m))
all-dev None dev h = tt
all-dev (Some n) dev h = h

pub definition-fits : (o : OpenDefinition) → IsSoundDefinition o → DefinitionFits (built_definition o)
definition-fits o sound = record {
  local = sound.head.local;
  global = sound.head.global;
  fields = let small = sound.head.fields in omega (arith, small, sound.few);
  dev_fields = few-dev o.head.dev o.dev sound.head.dev sound.few_dev_fields;
}

pub definition-range : (o : OpenDefinition) → IsSoundDefinition o → DefinitionInRange (built_definition o)
definition-range o sound = record { reserved = sound.head.reserved; fields = sound.fields; dev_fields = all-dev o.head.dev o.dev sound.dev_fields }

-- ---- data messages

shape-last : (fields : List (ℕ × ℕ)) (items : List (Items Global)) (code size : ℕ) (i : Items Global) → HaveShapeSoFar fields items
    → slice_get fields (length items) ≡ Some (code, size)
    → HasShape code size i → HaveShapeSoFar fields (items ++ i ∷ [])
shape-last [] [] code size i so_far e shape = cc e
shape-last [] (x ∷ items) code size i so_far e shape = absurd so_far
shape-last (f ∷ fields) [] code size i so_far e shape =
    let same : f ≡ (code, size) = cc e in
    (subst (λ (g : ℕ × ℕ). HasShape g.0 g.1 i) (sym same) shape, tt)
shape-last (f ∷ fields) (x ∷ items) code size i so_far e shape = (so_far.0, shape-last fields items code size i so_far.1 e shape)

pub shapes-whole : (fields : List (ℕ × ℕ)) (items : List (Items Global)) → HaveShapeSoFar fields items → length items ≡ length fields → HaveShape fields items
shapes-whole [] [] so_far long = tt
shapes-whole [] (i ∷ items) so_far long = absurd so_far
shapes-whole (f ∷ fields) [] so_far long = absurd (omega (arith, long))
shapes-whole (f ∷ fields) (i ∷ items) so_far long = (so_far.0, shapes-whole fields items so_far.1 (omega (arith, long)))

pub shapes-few : (fields : List (ℕ × ℕ)) (items : List (Items Global)) → HaveShapeSoFar fields items → length items ≤ length fields
shapes-few fields [] so_far = omega arith
shapes-few [] (i ∷ items) so_far = absurd so_far
shapes-few (f ∷ fields) (i ∷ items) so_far = let more = shapes-few fields items so_far.1 in omega (arith, more)

pub layout-long : (p : Defined Global) → length (layout p) ≡ length p.definition.fields
layout-long p = length-map p.definition.fields (λ f. (f.code, f.size))

pub dev-layout-long : (p : Defined Global) → length p.dev_codes ≡ length (dev_defs p.definition.dev)
    → length (dev_layout p) ≡ length (dev_defs p.definition.dev)
dev-layout-long p coded =
    let sizes = map (λ f. f.size) (dev_defs p.definition.dev) in
    omega (arith, coded, length-zip p.dev_codes sizes, length-map (dev_defs p.definition.dev) (λ f. f.size))

pub message-sound : (before : List (Record Global)) (p : Defined Global) (v : Values Global) (r : Row) (w : Values Global) → IsSoundMessage v p
    → FieldStep p v r w ⊎ DevStep before p v r w
    → IsSoundMessage w p × (w.local ≡ v.local)
message-sound before p v r w sound (inl step) =
    let (f, next, (i, shape, e, same)) = some-at (slice_get p.definition.fields (length v.fields))
    (λ f. (i : Items Global) × HasShape f.code f.size i × (r ≡ field_row p.definition.global f i) × (w ≡ with_items v i)) step in
    let within = slice_get_within p.definition.fields (length v.fields) f next in
    let laid : slice_get (layout p) (length v.fields) ≡ Some (f.code, f.size) =
    slice_get-map (λ f. (f.code, f.size)) p.definition.fields (length v.fields) ∙ ap (option_map (λ f. (f.code, f.size))) next in (
      subst (λ (x : Values Global). IsSoundMessage x p) (sym same) (record {
        header = sound.header;
        fields = shape-last (layout p) v.fields f.code f.size i sound.fields laid shape;
        dev_fields = sound.dev_fields;
        in_order = λ more. sound.in_order within;
      }),
      ap (λ (x : Values Global). x.local) same,
    )
message-sound before p v r w sound (inr (all, step)) =
    let (f, next, step') = some-at (slice_get (dev_defs p.definition.dev) (length v.dev))
    (λ f. IsSomeAnd (slice_get p.dev_codes (length v.dev)) (λ code. (i : Items Global) ×
    HasShape code f.size i × (r ≡ dev_row f code (naming_at before v.local (length v.dev)) i) × (w ≡ with_dev_items v i))) step in
    let (code, coded, (i, shape, e, same)) = some-at (slice_get p.dev_codes (length v.dev)) (λ code. (i : Items Global) ×
    HasShape code f.size i × (r ≡ dev_row f code (naming_at before v.local (length v.dev)) i) × (w ≡ with_dev_items v i)) step' in
    let sized : slice_get (map (λ f. f.size) (dev_defs p.definition.dev)) (length v.dev) ≡ Some f.size =
    slice_get-map (λ f. f.size) (dev_defs p.definition.dev) (length v.dev) ∙ ap (option_map (λ f. f.size)) next in
    let laid : slice_get (dev_layout p) (length v.dev) ≡ Some (code, f.size) =
    get-zip p.dev_codes (map (λ f. f.size) (dev_defs p.definition.dev)) (length v.dev) code f.size coded sized in (
      subst (λ (x : Values Global). IsSoundMessage x p) (sym same) (record {
        header = sound.header;
        fields = sound.fields;
        dev_fields = shape-last (dev_layout p) v.dev code f.size i sound.dev_fields laid shape;
        in_order = λ more. absurd (omega (arith, more, all));
      }),
      ap (λ (x : Values Global). x.local) same,
    )

pub is-some-at : {X : Type 0} (o : Option X) → IsSome o → (x : X) × (o ≡ Some x)
is-some-at None h = cc h
is-some-at (Some x) h = (x, refl)

pub at-some : {X : Type 0} (o : Option X) (x : X) (P : X → Type 0) → o ≡ Some x → P x → IsSomeAnd o P
at-some o x P e p = subst (λ q. IsSomeAnd q P) (sym e) p

start-sound : (before : List (Record Global)) (v : Values Global) → IsMessageStart before v → IsSoundSoFar before (Message v)
start-sound before v start =
    let (p, is) = is-some-at (defined_at (known before) v.local) start.defined in
    at-some (defined_at (known before) v.local) p (IsSoundMessage v) is (record {
      header = start.header;
      fields = subst (λ (items : List (Items Global)). HaveShapeSoFar (layout p) items) (sym start.no_fields) tt;
      dev_fields = subst (λ (items : List (Items Global)). HaveShapeSoFar (dev_layout p) items) (sym start.no_dev_fields) tt;
      in_order = λ more. start.no_dev_fields;
    })

-- ---- records

pub part-sound : (before : List (Record Global)) (part : Part) (r : Row) (p : Part) → IsSoundPart before part → PartStep before part r p → IsSoundSoFar before p
part-sound before Nothing r p sound (inl (h, range, e, is)) = subst (IsSoundSoFar before) (sym is) (opened-sound h range)
part-sound before Nothing r p sound (inr (v, start, e, is)) = subst (IsSoundSoFar before) (sym is) (start-sound before v start)
part-sound before (Definition o) r p sound (q, step, is) = subst (IsSoundSoFar before) (sym is) (definition-sound o r q sound.0 sound.1 step)
part-sound before (Message v) r p sound (w, step, is) =
    let (d, known_d, so_far) = some-at (defined_at (known before) v.local) (IsSoundMessage v) sound.0 in
    let here : FieldStep d v r w ⊎ DevStep before d v r w = subst (λ q. IsSomeAnd q (λ d. FieldStep d v r w ⊎ DevStep before d v r w)) known_d step in
    let (next, place) = message-sound before d v r w so_far here in
    subst (IsSoundSoFar before) (sym is) (at-some (defined_at (known before) w.local) d (IsSoundMessage w)
    (ap (λ l. defined_at (known before) l) place ∙ known_d) next)

pub part-room : (before : List (Record Global)) (part : Part) → IsSoundSoFar before part → PartHasRoom before part
part-room before Nothing sound = tt
part-room before (Definition o) sound = sound.few
part-room before (Message v) sound =
    let (p, is, so_far) = some-at (defined_at (known before) v.local) (IsSoundMessage v) sound in
    let few : length v.fields ≤ length p.definition.fields = omega (arith, shapes-few (layout p) v.fields so_far.fields, layout-long p) in
    subst (λ q. IfSome q (λ p. length v.fields ≤ length p.definition.fields)) (sym is) few

pub message-fits : (before : List (Record Global)) (v : Values Global) (p : Defined Global) → defined_at (known before) v.local ≡ Some p → IsSoundMessage v p
    → has_all v p ≡ true → DataFits v p
message-fits before v p is sound whole =
    let both = both-true (length v.fields == length p.definition.fields) (length v.dev == length (dev_defs p.definition.dev)) whole in
    let fields = eqb-true (length v.fields) (length p.definition.fields) both.0 in
    let dev = eqb-true (length v.dev) (length (dev_defs p.definition.dev)) both.1 in
    record {
      header = sound.header;
      fields = shapes-whole (layout p) v.fields sound.fields (fields ∙ sym (layout-long p));
      dev_fields = shapes-whole (dev_layout p) v.dev sound.dev_fields (dev ∙ sym (dev-layout-long p (codes-long before v.local p is)));
    }

whole-at : (before : List (Record Global)) (v : Values Global) (p : Defined Global) → defined_at (known before) v.local ≡ Some p
    → is_whole_message before v ≡ has_all v p
whole-at before v p is = ap (λ q. option_map_or (has_all v) q true) is

pub part-fits : (before : List (Record Global)) (part : Part) → IsSoundSoFar before part → FitsOnceWhole before part
part-fits before Nothing sound = tt
part-fits before (Definition o) sound = λ whole. definition-fits o sound
part-fits before (Message v) sound = λ whole.
    let (p, is, so_far) = some-at (defined_at (known before) v.local) (IsSoundMessage v) sound in
    at-some (defined_at (known before) v.local) p (DataFits v) is (message-fits before v p is so_far (sym (whole-at before v p is) ∙ whole))

-- ---- files

pub with-record-sound : (f : OpenFile) (r : Record Global) → IsSoundFile f → Fits (known f.before) r → RecordInRange r → IsSoundFile (with_record f r)
with-record-sound f r sound fits range = record {
  header = sound.header;
  same_records = ap (λ b. r ∷ b) sound.same_records ∙ sym (reverse-append f.records (r ∷ []));
  fit = fit-last empty_environment f.records r sound.fit (subst (λ e. Fits e r) (ap known sound.same_records ∙ known_learned f.records) fits);
  numbers = all-last RecordInRange f.records r sound.numbers range;
  part = (tt, tt);
}

with-part-sound : (f : OpenFile) (part : Part) → IsSoundFile f → IsSoundPart f.before part → IsSoundFile (record f { part = part })
with-part-sound f part sound h = record { header = sound.header; same_records = sound.same_records; fit = sound.fit; numbers = sound.numbers; part = h }

pub settled-sound : (f : OpenFile) (part : Part) → IsSoundFile f → IsSoundSoFar f.before part → IsSoundFile (settled f part)
settled-sound f Nothing sound h = with-part-sound f Nothing sound (tt, tt)
settled-sound f (Definition o) sound h = elim (cases_Bool (is_whole o)) [
  | inl whole ↦ subst IsSoundFile (sym (rw whole refl)) (with-record-sound f (Define (built_definition o)) sound (definition-fits o h) (definition-range o h))
  | inr part ↦ subst IsSoundFile (sym (rw part refl)) (with-part-sound f (Definition o) sound (h, part))
]
settled-sound f (Message v) sound h = elim (cases_Bool (is_whole_message f.before v)) [
  | inl whole ↦ subst IsSoundFile (sym (rw whole refl)) (with-record-sound f (Data v) sound (part-fits f.before (Message v) h whole) tt)
  | inr part ↦ subst IsSoundFile (sym (rw part refl)) (with-part-sound f (Message v) sound (h, part))
]

pub file-sound : (f : OpenFile) (r : Row) (g : OpenFile) → IsSoundFile f → FileStep f r g → IsSoundFile g
file-sound f r g sound (p, step, is) = subst IsSoundFile (sym is) (settled-sound f p sound (part-sound f.before f.part r p sound.part step))
