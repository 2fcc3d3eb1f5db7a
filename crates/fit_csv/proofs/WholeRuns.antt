-- The rows of a chain are read one after another.
use Rattle.fit_csv.proofs.Common.{◌≡◌, ◌∙◌, suc, ◌≤◌, ◌+◌, ◌^◌, true, false, [], ◌∷◌, ◌++◌, length, map, refl, sym, ap, subst, inl, inr, arith, append_assoc}
use Rattle.fit_csv.proofs.Common.{eq-eqb, eqb-true, flat_map, zip, slice_get, IsSome, IsSomeAnd, option_map_or, Global, AllByRecursion, Items, DevDef, FieldDef}
use Rattle.fit_csv.proofs.Common.{MessageDef, Defined, FitFile, Record, Define, Data, Values, defined_at, dev_defs, chain_limit, AllFit, DataFits}
use Rattle.fit_csv.proofs.Common.{DefinitionFits, Fits, HaveShape, dev_layout, layout, Naming, namings_at, nameless, known, header_time, previous_time}
use Rattle.fit_csv.proofs.Common.{data_row, data_rows, def_row, definition_rows, dev_def_row, dev_row, dev_rows, end_row, field_def_row, field_row, field_rows}
use Rattle.fit_csv.proofs.Common.{file_row, file_rows, record_rows, records_rows, DefinitionInRange, DevDefInRange, FieldDefInRange, IsChainOfRows}
use Rattle.fit_csv.proofs.Common.{IsFileOfRows, RecordInRange, HeadInRange, IsMessageStart, global_at, message_row, ChainStep, DevStep, FieldStep, FileStep}
use Rattle.fit_csv.proofs.Common.{PartStep, Run, file_begun, built_definition, dev_total, has_all, is_whole, is_whole_message, nothing_yet, opened, settled}
use Rattle.fit_csv.proofs.Common.{with_dev_field, with_dev_items, with_field, with_items, with_record, naming_at, Row, Chain, DefinitionHead, OpenDefinition}
use Rattle.fit_csv.proofs.Common.{OpenFile, Part, Nothing, Definition, false_from_ne_true, both_true, get_or-append_seam, slice_get-get_or}
use Rattle.std.proofs.Common.{ℕ, ◌<◌, List, Option, Some, None}
use Rattle.std.specs.Prelude.{◌==◌, ◌⊎◌, option_map, unwrap_or, IfSome}
use Rattle.std.proofs.lemmas.List.{append-nil, length-append}
use Rattle.fit_csv.specs.declared.from.open_file.Part.TheVariants.{Message}
use Rattle.fit_profile.proofs.KnownFacts.{codes-long}
use Rattle.fit_texts.proofs.NamingFacts.{namings_long}
use Rattle.fit_csv.proofs.OneWay.{run-join, run-one}
use Rattle.fit_texts.proofs.Shapes.{as_long}
use Rattle.fit_csv.proofs.SoFar.{both-true, data-rows-at, some-at}
use Rattle.fit_csv.proofs.SoundSteps.{dev-layout-long, layout-long, length-last}
use Rattle.fit_csv.proofs.ValueSteps.{dev-step, field-step}

-- rows of a file one after another
unfoldable pub FileRun : OpenFile → List Row → OpenFile → Type 0
FileRun f [] g = f ≡ g
FileRun f (r ∷ rows) g = (m : OpenFile) × FileStep f r m × FileRun m rows g

none-run : (f g : OpenFile) → f ≡ g → FileRun f [] g
unfolding FileRun
none-run f g e = e

more-run : (f s m t : OpenFile) (r : Row) (rows : List Row) → s ≡ f → FileStep f r m → FileRun m rows t → FileRun s (r ∷ rows) t
unfolding FileRun
more-run f s m t r rows e step rest = subst (λ (x : OpenFile). FileRun x (r ∷ rows) t) (sym e) (m, step, rest)

joined-run : (f : OpenFile) (xs ys : List Row) (m t : OpenFile) → FileRun f xs m → FileRun m ys t → FileRun f (xs ++ ys) t
unfolding FileRun
joined-run f [] ys m t first rest = subst (λ (x : OpenFile). FileRun x ys t) (sym first) rest
joined-run f (r ∷ xs) ys m t (n, step, first) rest = (n, step, joined-run n xs ys m t first rest)

pub lifted-run : (files : List (FitFile Global)) (f : OpenFile) (rows : List Row) (g : OpenFile) → FileRun f rows g
    → Run (record { files = files; current = Some f }) rows (record { files = files; current = Some g })
unfolding FileRun Run
lifted-run files f [] g run = ap (λ (x : OpenFile). record { files = files; current = Some x }) run
lifted-run files f (r ∷ rows) g (m, step, run) = (record { files = files; current = Some m }, inr (m, step, refl), lifted-run files m rows g run)

-- what has come before of the record doesn't matter
settled-again : (f : OpenFile) (old new : Part) → settled (record f { part = old }) new ≡ settled f new
settled-again f old Nothing = refl
settled-again f old part = refl

get-middle : {X : Type 0} (front : List X) (x : X) (rest : List X) (k : ℕ) → length front ≡ k → slice_get (front ++ x ∷ rest) k ≡ Some x
get-middle front x rest k e =
    rw (← e) (slice_get-get_or (front ++ x ∷ rest) (length front) x (omega (arith, length-append front (x ∷ rest)))
    ∙ ap Some (get_or-append_seam front x rest x))

-- ---- definitions

whole-definition : (o : OpenDefinition) → length o.fields ≡ o.head.fields → length o.dev ≡ dev_total o.head → is_whole o ≡ true
whole-definition o p q = both_true (eq-eqb (length o.fields) o.head.fields p) (eq-eqb (length o.dev) (dev_total o.head) q)

open-definition : (o : OpenDefinition) → (length o.fields ≡ o.head.fields → length o.dev ≡ dev_total o.head → ⊥) → is_whole o ≡ false
open-definition o h = false_from_ne_true (is_whole o) (λ whole.
    let both = both-true (length o.fields == o.head.fields) (length o.dev == dev_total o.head) whole in
    h (eqb-true (length o.fields) o.head.fields both.0) (eqb-true (length o.dev) (dev_total o.head) both.1))

definition-run : (f : OpenFile) (fs : List FieldDef) (ds : List DevDef) (o q : OpenDefinition) → AllByRecursion FieldDefInRange fs
    → AllByRecursion DevDefInRange ds
    → length o.fields + length fs ≡ o.head.fields → length o.dev + length ds ≡ dev_total o.head → q.head ≡ o.head → q.fields ≡ o.fields ++ fs
    → q.dev ≡ o.dev ++ ds
    → FileRun (settled f (Definition o)) (map field_def_row fs ++ map dev_def_row ds) (with_record f (Define (built_definition q)))
definition-run f [] [] o q pf pd lf ld eh ef ed =
    let same : o ≡ q = λ i. record { head = sym eh i; fields = (sym (append-nil o.fields) ∙ sym ef) i; dev = (sym (append-nil o.dev) ∙ sym ed) i } in
    let whole = whole-definition o (omega (arith, lf)) (omega (arith, ld)) in
    let here : settled f (Definition o) ≡ with_record f (Define (built_definition o)) = rw whole refl in
    none-run (settled f (Definition o)) (with_record f (Define (built_definition q))) (here ∙ ap (λ x. with_record f (Define (built_definition x))) same)
definition-run f (x ∷ fs) ds o q pf pd lf ld eh ef ed =
    let going = open-definition o (λ all dev. omega (arith, lf, all)) in
    let here : settled f (Definition o) ≡ record f { part = Definition o } = rw going refl in
    let n = with_field o x in
    let step : FileStep (record f { part = Definition o }) (field_def_row x) (settled f (Definition (with_field o x))) = (
      Definition (with_field o x),
      (with_field o x, inl (omega (arith, lf), (x, pf.0, refl, refl)), refl),
      sym (settled-again f (Definition o) (Definition (with_field o x))),
    ) in
    more-run _ _ _ _ _ _ here step
    (definition-run f fs ds (with_field o x) q pf.1 pd (omega (arith, lf, length-last o.fields x)) ld eh (ef ∙ sym (append_assoc o.fields (x ∷ []) fs)) ed)
definition-run f [] (y ∷ ds) o q pf pd lf ld eh ef ed =
    let going = open-definition o (λ all dev. omega (arith, ld, dev)) in
    let here : settled f (Definition o) ≡ record f { part = Definition o } = rw going refl in
    let step : FileStep (record f { part = Definition o }) (dev_def_row y) (settled f (Definition (with_dev_field o y))) = (
      Definition (with_dev_field o y),
      (with_dev_field o y, inr (omega (arith, lf), (y, pd.0, refl, refl)), refl),
      sym (settled-again f (Definition o) (Definition (with_dev_field o y))),
    ) in
    more-run _ _ _ _ _ _ here step
    (definition-run f [] ds (with_dev_field o y) q tt pd.1 lf (omega (arith, ld, length-last o.dev y)) eh ef (ed ∙ sym (append_assoc o.dev (y ∷ []) ds)))

abbrev head_of : MessageDef Global → DefinitionHead
head_of d = record {
  local = d.local;
  reserved = d.reserved;
  order = d.order;
  global = d.global;
  fields = length d.fields;
  dev =
      option_map (λ fields. length fields) d.dev;
}

few-dev-fields : (dev : Option (List DevDef)) → length (dev_defs dev) < 256 → IfSome (option_map (λ (fields : List DevDef). length fields) dev) (λ n. n < 2 ^ 8)
few-dev-fields None h = tt
few-dev-fields (Some fields) h = h

dev-again : (dev : Option (List DevDef)) → option_map (λ _. dev_defs dev) (option_map (λ (fields : List DevDef). length fields) dev) ≡ dev
dev-again None = refl
dev-again (Some fields) = refl

dev-count : (dev : Option (List DevDef)) → 0 + length (dev_defs dev) ≡ unwrap_or (option_map (λ (fields : List DevDef). length fields) dev) 0
dev-count None = refl
dev-count (Some fields) = omega arith

define-run : (f : OpenFile) (d : MessageDef Global) → f.part ≡ Nothing → DefinitionFits d → DefinitionInRange d
    → FileRun f (definition_rows d) (with_record f (Define d))
define-run f d none fits range =
    let h = head_of d in
    let head_range : HeadInRange (head_of d) =
    record { local = fits.local; reserved = range.reserved; global = fits.global; fields = fits.fields; dev = few-dev-fields d.dev fits.dev_fields } in
    let q : OpenDefinition = record { head = head_of d; fields = d.fields; dev = dev_defs d.dev } in
    let step : FileStep f (def_row d) (settled f (Definition (opened (head_of d)))) = (
      Definition (opened (head_of d)),
      subst (λ (part : Part). PartStep f.before part (def_row d) (Definition (opened (head_of d)))) (sym none)
          (inl (head_of d, head_range, refl, refl)),
      refl,
    ) in
    let same : built_definition q ≡ d =
    λ i. record { local = d.local; reserved = d.reserved; order = d.order; global = d.global; fields = d.fields; dev = dev-again d.dev i } in
    more-run f f (settled f (Definition (opened (head_of d)))) (with_record f (Define d)) (def_row d)
    (map field_def_row d.fields ++ map dev_def_row (dev_defs d.dev)) refl step
    (subst (λ (x : MessageDef Global). FileRun (settled f (Definition (opened (head_of d)))) (map field_def_row d.fields ++ map dev_def_row (dev_defs d.dev))
    (with_record f (Define x))) same
    (definition-run f d.fields (dev_defs d.dev) (opened (head_of d)) q range.fields range.dev_fields (omega arith) (dev-count d.dev) refl refl refl))

-- ---- data messages

abbrev placed : OpenFile → Values Global → Defined Global → Type 0
placed f v p = defined_at (known f.before) v.local ≡ Some p

has-at : (f : OpenFile) (v : Values Global) (p : Defined Global) → placed f v p → is_whole_message f.before v ≡ has_all v p
has-at f v p is = ap (λ q. option_map_or (has_all v) q true) is

open-message : (f : OpenFile) (v : Values Global) (p : Defined Global) → placed f v p
    → (length v.fields ≡ length p.definition.fields → length v.dev ≡ length (dev_defs p.definition.dev) → ⊥)
    → settled f (Message v) ≡ record f { part = Message v }
open-message f v p is h =
    let going : is_whole_message f.before v ≡ false = has-at f v p is ∙ false_from_ne_true (has_all v p) (λ whole.
    let both = both-true (length v.fields == length p.definition.fields) (length v.dev == length (dev_defs p.definition.dev)) whole in
    h (eqb-true (length v.fields) (length p.definition.fields) both.0) (eqb-true (length v.dev) (length (dev_defs p.definition.dev)) both.1)) in
    rw going refl

whole-message : (f : OpenFile) (v : Values Global) (p : Defined Global) → placed f v p → length v.fields ≡ length p.definition.fields
    → length v.dev ≡ length (dev_defs p.definition.dev)
    → settled f (Message v) ≡ with_record f (Data v)
whole-message f v p is fields dev =
    let whole : is_whole_message f.before v ≡ true =
    has-at f v p is ∙ both_true (eq-eqb (length v.fields) (length p.definition.fields) fields)
    (eq-eqb (length v.dev) (length (dev_defs p.definition.dev)) dev) in
    rw whole refl

message-step : (f : OpenFile) (v w : Values Global) (p : Defined Global) (r : Row) → placed f v p → FieldStep p v r w ⊎ DevStep f.before p v r w
    → FileStep (record f { part = Message v }) r (settled f (Message w))
message-step f v w p r is step = (
  Message w,
  (w, subst (λ q. IsSomeAnd q (λ d. FieldStep d v r w ⊎ DevStep f.before d v r w)) (sym is) step, refl),
  sym (settled-again f (Message v) (Message w)),
)

fields-run : (f : OpenFile) (p : Defined Global) (front fs : List FieldDef) (items : List (Items Global)) (v w : Values Global) → placed f v p
    → p.definition.fields ≡ front ++ fs
    → length front ≡ length v.fields → HaveShape (map (λ f. (f.code, f.size)) fs) items → w ≡ record v { fields = v.fields ++ items }
    → FileRun (settled f (Message v)) (field_rows p.definition.global fs items) (settled f (Message w))
fields-run f p front [] [] v w is all long shapes e =
    none-run (settled f (Message v)) (settled f (Message w))
    (ap (λ (l : List (Items Global)). settled f (Message (record v { fields = l }))) (sym (append-nil v.fields)) ∙ ap (λ x. settled f (Message x)) (sym e))
fields-run f p front [] (i ∷ items) v w is all long shapes e = absurd shapes
fields-run f p front (x ∷ fs) [] v w is all long shapes e = absurd shapes
fields-run f p front (x ∷ fs) (i ∷ items) v w is all long shapes e =
    let more : length p.definition.fields ≡ length (front ++ x ∷ fs) = ap length all in
    let short = length-append front (x ∷ fs) in
    let here = open-message f v p is (λ fields dev. omega (arith, fields, more, short, long)) in
    let next : slice_get p.definition.fields (length v.fields) ≡ Some x =
    ap (λ l. slice_get l (length v.fields)) all ∙ get-middle front x fs (length v.fields) long in
    let r = field_row p.definition.global x i in
    let step = message-step f v (with_items v i) p r is (inl (field-step p v x r i next shapes.0 refl)) in
    more-run _ _ _ _ _ _ here step
    (fields-run f p (front ++ x ∷ []) fs items (with_items v i) w is (all ∙ sym (append_assoc front (x ∷ []) fs))
    (length-last front x ∙ ap suc long ∙ sym (length-last v.fields i)) shapes.1
    (e ∙ ap (λ (l : List (Items Global)). record v { fields = l }) (sym (append_assoc v.fields (i ∷ []) items))))

naming-here : (before : List (Record Global)) (local k : ℕ) (front : List Naming) (n : Naming) (rest : List Naming)
    → namings_at before local ≡ front ++ n ∷ rest → length front ≡ k
    → naming_at before local k ≡ n
naming-here before local k front n rest all long =
    ap (λ o. unwrap_or o nameless) (ap (λ l. slice_get l k) all ∙ get-middle front n rest k long)

dev-run : (f : OpenFile) (p : Defined Global) (front : List DevDef) (ds : List DevDef) (done cs : List ℕ) (names ns : List Naming) (items : List (Items Global))
    (v w : Values Global) → placed f v p
    → length v.fields ≡ length p.definition.fields → dev_defs p.definition.dev ≡ front ++ ds → p.dev_codes ≡ done ++ cs
    → namings_at f.before v.local ≡ names ++ ns
    → length front ≡ length v.dev → length done ≡ length v.dev → length names ≡ length v.dev → length cs ≡ length ds → length ns ≡ length ds
    → HaveShape (zip cs (map (λ f. f.size) ds)) items → w ≡ record v { dev = v.dev ++ items }
    → FileRun (settled f (Message v)) (dev_rows ds cs ns items) (settled f (Message w))
dev-run f p front [] done [] names [] [] v w is fields all coded named lf lc ln same_c same_n shapes e =
    none-run (settled f (Message v)) (settled f (Message w))
    (ap (λ (l : List (Items Global)). settled f (Message (record v { dev = l }))) (sym (append-nil v.dev)) ∙ ap (λ x. settled f (Message x)) (sym e))
dev-run f p front [] done [] names [] (i ∷ items) v w is fields all coded named lf lc ln same_c same_n shapes e = absurd shapes
dev-run f p front (d ∷ ds) done (c ∷ cs) names (n ∷ ns) [] v w is fields all coded named lf lc ln same_c same_n shapes e = absurd shapes
dev-run f p front (d ∷ ds) done (c ∷ cs) names (n ∷ ns) (i ∷ items) v w is fields all coded named lf lc ln same_c same_n shapes e =
    let more : length (dev_defs p.definition.dev) ≡ length (front ++ d ∷ ds) = ap length all in
    let short = length-append front (d ∷ ds) in
    let here = open-message f v p is (λ _ dev. omega (arith, dev, more, short, lf)) in
    let k = length v.dev in
    let next : slice_get (dev_defs p.definition.dev) (length v.dev) ≡ Some d =
    ap (λ l. slice_get l (length v.dev)) all ∙ get-middle front d ds (length v.dev) lf in
    let code : slice_get p.dev_codes (length v.dev) ≡ Some c = ap (λ l. slice_get l (length v.dev)) coded ∙ get-middle done c cs (length v.dev) lc in
    let naming : naming_at f.before v.local (length v.dev) ≡ n = naming-here f.before v.local (length v.dev) names n ns named ln in
    let r = dev_row d c n i in
    let row : dev_row d c n i ≡ dev_row d c (naming_at f.before v.local (length v.dev)) i = ap (λ x. dev_row d c x i) (sym naming) in
    let step = message-step f v (with_dev_items v i) p r is (inr (dev-step f.before p v d c r i fields next code shapes.0 row)) in
    more-run _ _ _ _ _ _ here step
    (dev-run f p (front ++ d ∷ []) ds (done ++ c ∷ []) cs (names ++ n ∷ []) ns items (with_dev_items v i) w is fields
    (all ∙ sym (append_assoc front (d ∷ []) ds))
    (coded ∙ sym (append_assoc done (c ∷ []) cs)) (named ∙ sym (append_assoc names (n ∷ []) ns))
    (length-last front d ∙ ap suc lf ∙ sym (length-last v.dev i)) (length-last done c ∙ ap suc lc ∙ sym (length-last v.dev i))
    (length-last names n ∙ ap suc ln ∙ sym (length-last v.dev i))
    (omega (arith, same_c)) (omega (arith, same_n)) shapes.1
    (e ∙ ap (λ (l : List (Items Global)). record v { dev = l }) (sym (append_assoc v.dev (i ∷ []) items))))
dev-run f p front ds done cs names ns items v w is fields all coded named lf lc ln same_c same_n shapes e = absurd (omega (arith, same_c, same_n))

some-is : {X : Type 0} (o : Option X) (x : X) → o ≡ Some x → IsSome o
some-is o x e = rw e refl

data-run : (f : OpenFile) (v : Values Global) (p : Defined Global) → f.part ≡ Nothing → placed f v p → DataFits v p
    → FileRun f (data_rows f.before v) (with_record f (Data v))
data-run f v p none is fits =
    let start : Values Global = record { local = v.local; offset = v.offset; fields = []; dev = [] } in
    let whole : Values Global = record { local = v.local; offset = v.offset; fields = v.fields; dev = [] } in
    let time = header_time (previous_time f.before) v.offset in
    let global : p.definition.global ≡ global_at f.before v.local = sym (ap (λ q. unwrap_or (option_map (λ (d : Defined Global). d.definition.global) q) 0) is)
    in
    let first = data_row v p.definition.global (header_time (previous_time f.before) v.offset) in
    let row : first ≡ message_row f.before start = ap (λ g. data_row v g time) global in
    let opens : IsMessageStart f.before start =
    record { header = fits.header; defined = some-is (defined_at (known f.before) v.local) p is; no_fields = refl; no_dev_fields = refl } in
    let step : FileStep f first (settled f (Message start)) =
    (Message start, subst (λ (part : Part). PartStep f.before part first (Message start)) (sym none) (inr (start, opens, row, refl)), refl) in
    let fields = as_long (layout p) v.fields fits.fields ∙ layout-long p in
    let dev = as_long (dev_layout p) v.dev fits.dev_fields ∙ dev-layout-long p (codes-long f.before v.local p is) in
    let rows = field_rows p.definition.global p.definition.fields v.fields in
    let others = dev_rows (dev_defs p.definition.dev) p.dev_codes (namings_at f.before v.local) v.dev in
    subst (λ (l : List Row). FileRun f l (with_record f (Data v))) (sym (data-rows-at f.before v p is))
    (more-run f f (settled f (Message start)) (with_record f (Data v)) first (rows ++ others) refl step
    (joined-run (settled f (Message start)) rows others (settled f (Message whole)) (with_record f (Data v))
    (fields-run f p [] p.definition.fields v.fields start whole is refl refl fits.fields refl)
    (subst (λ (g : OpenFile). FileRun (settled f (Message whole)) others g) (whole-message f v p is fields dev)
    (dev-run f p [] (dev_defs p.definition.dev) [] p.dev_codes [] (namings_at f.before v.local) v.dev whole v is fields refl refl refl refl refl refl
    (codes-long f.before v.local p is) (namings_long f.before v.local p is) fits.dev_fields refl))))

-- ---- records, files and chains

pub record-run : (f : OpenFile) (r : Record Global) → f.part ≡ Nothing → Fits (known f.before) r → RecordInRange r
    → FileRun f (record_rows f.before r) (with_record f r)
record-run f (Define d) none fits range = define-run f d none fits range
record-run f (Data v) none fits range =
    let (p, is, data_fits) = some-at (defined_at (known f.before) v.local) (DataFits v) fits in
    data-run f v p none is data_fits

abbrev IsAfter : OpenFile → List (Record Global) → OpenFile → Type 0
IsAfter f records g = (g.part ≡ Nothing) × (g.header ≡ f.header) × (g.records ≡ f.records ++ records)

records-run : (f : OpenFile) (records : List (Record Global)) → f.part ≡ Nothing → AllFit (known f.before) records → AllByRecursion RecordInRange records
    → (g : OpenFile) × FileRun f (records_rows f.before records) g × IsAfter f records g
unfolding records_rows
records-run f [] none fit range = (f, none-run f f refl, (none, refl, sym (append-nil f.records)))
records-run f (r ∷ records) none fit range =
    let (g, run, (part, header, rest)) = records-run (with_record f r) records refl fit.1 range.1 in (
      g,
      joined-run f (record_rows f.before r) (records_rows (r ∷ f.before) records) (with_record f r) g (record-run f r none fit.0 range.0) run,
      (part, header, rest ∙ append_assoc f.records (r ∷ []) records),
    )

file-run : (files : List (FitFile Global)) (x : FitFile Global) → length files < chain_limit → IsFileOfRows x
    → Run (record { files = files; current = None }) (file_rows x) (record { files = files ++ x ∷ []; current = None })
file-run files x room good =
    let c : Chain = record { files = files; current = None } in
    let d : Chain = record { files = files; current = Some (file_begun x.header) } in
    let (g, run, (part, header, records)) = records-run (file_begun x.header) x.records refl good.records good.numbers in
    let e : Chain = record { files = files; current = Some g } in
    let t : Chain = record { files = files ++ x ∷ []; current = None } in
    let begin : ChainStep c (file_row x.header) d = (room, (x.header, good.header, refl, refl)) in
    let same : record { header = g.header; records = g.records } ≡ x = λ i. record { header = header i; records = records i } in
    let ends : ChainStep e end_row t = inl (part, refl, ap (λ (y : FitFile Global). record { files = files ++ y ∷ []; current = None }) (sym same)) in
    run-join c (file_row x.header ∷ records_rows [] x.records) (end_row ∷ []) e t
    (run-join c (file_row x.header ∷ []) (records_rows [] x.records) d e (run-one c (file_row x.header) d begin)
    (lifted-run files (file_begun x.header) (records_rows [] x.records) g run))
    (run-one e end_row t ends)

files-run : (files rest : List (FitFile Global)) → length files + length rest ≤ chain_limit → AllByRecursion IsFileOfRows rest
    → Run (record { files = files; current = None }) (flat_map file_rows rest) (record { files = files ++ rest; current = None })
unfolding Run
files-run files [] room good = ap (λ (l : List (FitFile Global)). record { files = l; current = None }) (sym (append-nil files))
files-run files (x ∷ rest) room good =
    run-join (record { files = files; current = None }) (file_rows x) (flat_map file_rows rest) (record { files = files ++ x ∷ []; current = None })
    (record { files = files ++ x ∷ rest; current = None })
    (file-run files x (omega (arith, room)) good.0)
    (subst (λ (l : List (FitFile Global)). Run (record { files = files ++ x ∷ []; current = None }) (flat_map file_rows rest)
    (record { files = l; current = None })) (append_assoc files (x ∷ []) rest)
    (files-run (files ++ x ∷ []) rest (omega (arith, room, length-last files x)) good.1))

-- the rows of a chain run through
pub chain-run : (files : List (FitFile Global)) → IsChainOfRows files → Run nothing_yet (flat_map file_rows files) (record { files = files; current = None })
chain-run files good = files-run [] files (omega (arith, good.0)) good.1
