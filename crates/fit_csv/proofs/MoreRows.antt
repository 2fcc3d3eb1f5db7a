-- One more row stands after the rows of a file and of a chain.
use Rattle.fit_csv.proofs.Common.{◌≡◌, ◌∙◌, [], ◌∷◌, ◌++◌, length, refl, sym, ap, subst, inl, inr, arith, append_assoc, flat_map, IsSomeAnd, Global}
use Rattle.fit_csv.proofs.Common.{AllByRecursion, cases_Bool, Items, Header, FieldDef, Defined, FitFile, Record, Define, Data, Values, defined_at, dev_defs}
use Rattle.fit_csv.proofs.Common.{namings_at, known, header_time, previous_time, data_row, data_rows, end_row, field_rows, file_row, file_rows, record_rows}
use Rattle.fit_csv.proofs.Common.{records_rows, IsFileOfRows, IsMessageStart, global_at, message_row, ChainStep, DevStep, FieldStep, FileStep, OpenStep}
use Rattle.fit_csv.proofs.Common.{PartStep, file_begun, built_definition, is_whole, is_whole_message, settled, with_record, Row, IsSoundChain, IsSoundCurrent}
use Rattle.fit_csv.proofs.Common.{IsSoundFile, IsSoundMessage, IsSoundPart, current_rows, open_file_rows, part_rows, rows_so_far, Chain, OpenFile, Part}
use Rattle.fit_csv.proofs.Common.{Nothing, Definition}
use Rattle.std.proofs.Common.{ℕ, List, Option, Some, None}
use Rattle.std.specs.Prelude.{◌⊎◌, reverse, option_map, unwrap_or}
use Rattle.std.proofs.lemmas.List.{append-nil}
use Rattle.fit_csv.specs.declared.from.open_file.Part.TheVariants.{Message}
use Rattle.fit_csv.proofs.SoFar.{data-rows-at, definition-more, definition-whole, message-more, rows-of-more, some-at, without-dev-rows}
use Rattle.fit_csv.proofs.SoundSteps.{all-last, file-sound, is-some-at, length-last}

-- ---- records

no-items : (global : ℕ) (fields : List FieldDef) → field_rows {A = Global} global fields [] ≡ []
no-items global [] = refl
no-items global (f ∷ fields) = refl

start-rows : (before : List (Record Global)) (v : Values Global) → IsMessageStart before v → data_rows before v ≡ message_row before v ∷ []
start-rows before v start =
    let (p, is) = is-some-at (defined_at (known before) v.local) start.defined in
    let time = header_time (previous_time before) v.offset in
    let first = data_row v p.definition.global (header_time (previous_time before) v.offset) in
    let global : p.definition.global ≡ global_at before v.local = sym (ap (λ q. unwrap_or (option_map (λ (d : Defined Global). d.definition.global) q) 0) is) in
    data-rows-at before v p is
    ∙ without-dev-rows (first ∷ field_rows p.definition.global p.definition.fields v.fields) (dev_defs p.definition.dev) p.dev_codes (namings_at before v.local)
    v.dev start.no_dev_fields
    ∙ ap (λ (items : List (Items Global)). first ∷ field_rows p.definition.global p.definition.fields items) start.no_fields
    ∙ ap (λ (rows : List Row). first ∷ rows) (no-items p.definition.global p.definition.fields)
    ∙ ap (λ g. data_row v g time ∷ []) global

pub part-more : (before : List (Record Global)) (part : Part) (r : Row) (p : Part) → IsSoundPart before part → PartStep before part r p
    → part_rows before p ≡ part_rows before part ++ r ∷ []
part-more before Nothing r p sound (inl (h, range, e, is)) = ap (part_rows before) is ∙ ap (λ (x : Row). x ∷ []) (sym e)
part-more before Nothing r p sound (inr (v, start, e, is)) = ap (part_rows before) is ∙ start-rows before v start ∙ ap (λ (x : Row). x ∷ []) (sym e)
part-more before (Definition o) r p sound (q, step, is) = ap (part_rows before) is ∙ definition-more o r q sound.0 step
part-more before (Message v) r p sound (w, step, is) =
    let (d, known_d, so_far) = some-at (defined_at (known before) v.local) (IsSoundMessage v) sound.0 in
    let here : FieldStep d v r w ⊎ DevStep before d v r w = subst (λ q. IsSomeAnd q (λ d. FieldStep d v r w ⊎ DevStep before d v r w)) known_d step in
    ap (part_rows before) is ∙ message-more before d v r w known_d so_far here

-- ---- files

pub record-added : (f : OpenFile) (r : Record Global) → IsSoundFile f
    → open_file_rows (with_record f r) ≡ file_row f.header ∷ (records_rows [] f.records ++ record_rows f.before r)
record-added f r sound =
    let place : reverse f.records ++ [] ≡ f.before = append-nil (reverse f.records) ∙ sym sound.same_records in
    append-nil (file_row f.header ∷ records_rows [] (f.records ++ r ∷ []))
    ∙ ap (λ (rows : List Row). file_row f.header ∷ rows) (rows-of-more [] f.records r)
    ∙ ap (λ b. file_row f.header ∷ (records_rows [] f.records ++ record_rows b r)) place

pub settled-rows : (f : OpenFile) (p : Part) → IsSoundFile f
    → open_file_rows (settled f p) ≡ file_row f.header ∷ (records_rows [] f.records ++ part_rows f.before p)
settled-rows f Nothing sound = refl
settled-rows f (Definition o) sound = elim (cases_Bool (is_whole o)) [
  | inl whole ↦
      let same : settled f (Definition o) ≡ with_record f (Define (built_definition o)) = rw whole refl in
      ap open_file_rows same ∙ record-added f (Define (built_definition o)) sound
      ∙ ap (λ (rows : List Row). file_row f.header ∷ (records_rows [] f.records ++ rows)) (sym (definition-whole o whole))
  | inr part ↦ let same : settled f (Definition o) ≡ record f { part = Definition o } = rw part refl in ap open_file_rows same
]
settled-rows f (Message v) sound = elim (cases_Bool (is_whole_message f.before v)) [
  | inl whole ↦ let same : settled f (Message v) ≡ with_record f (Data v) = rw whole refl in ap open_file_rows same ∙ record-added f (Data v) sound
  | inr part ↦ let same : settled f (Message v) ≡ record f { part = Message v } = rw part refl in ap open_file_rows same
]

pub file-more : (f : OpenFile) (r : Row) (g : OpenFile) → IsSoundFile f → FileStep f r g → open_file_rows g ≡ open_file_rows f ++ r ∷ []
file-more f r g sound (p, step, is) =
    ap open_file_rows is ∙ settled-rows f p sound
    ∙ ap (λ (rows : List Row). file_row f.header ∷ (records_rows [] f.records ++ rows)) (part-more f.before f.part r p sound.part step)
    ∙ ap (λ (rows : List Row). file_row f.header ∷ rows) (sym (append_assoc (records_rows [] f.records) (part_rows f.before f.part) (r ∷ [])))

-- ---- chains

pub flat-last : (files : List (FitFile Global)) (f : FitFile Global) → flat_map file_rows (files ++ f ∷ []) ≡ flat_map file_rows files ++ file_rows f
flat-last [] f = append-nil (file_rows f)
flat-last (x ∷ files) f = ap (λ (rows : List Row). file_rows x ++ rows) (flat-last files f)
    ∙ sym (append_assoc (file_rows x) (flat_map file_rows files) (file_rows f))

pub begun-rows : (h : Header) → open_file_rows (file_begun h) ≡ file_row h ∷ []
unfolding records_rows
begun-rows h = refl

pub ended-rows : (f : OpenFile) → f.part ≡ Nothing
    → file_rows {A = Global} (record { header = f.header; records = f.records }) ≡ open_file_rows f ++ end_row ∷ []
ended-rows f none =
    ap (λ (rows : List Row). rows ++ end_row ∷ []) (sym (append-nil (file_row f.header ∷ records_rows [] f.records)))
    ∙ ap (λ (part : Part). (file_row f.header ∷ (records_rows [] f.records ++ part_rows f.before part)) ++ end_row ∷ []) (sym none)

current-more : (c : Chain) (m : Option OpenFile) (r : Row) (t : Chain) → c.current ≡ m → IsSoundCurrent (length c.files) m → OpenStep c m r t
    → rows_so_far t ≡ rows_so_far c ++ r ∷ []
current-more c None r t here sound (room, (h, range, e, is)) =
    let front = flat_map file_rows c.files in
    ap rows_so_far is ∙ ap (λ (rows : List Row). front ++ rows) (begun-rows h) ∙ ap (λ (x : Row). front ++ x ∷ []) (sym e)
    ∙ ap (λ (rows : List Row). rows ++ r ∷ []) (sym (append-nil front)) ∙ ap (λ m. (front ++ current_rows m) ++ r ∷ []) (sym here)
current-more c (Some f) r t here sound (inl (none, e, is)) =
    let front = flat_map file_rows c.files in
    let file : FitFile Global = record { header = f.header; records = f.records } in
    ap rows_so_far is ∙ append-nil (flat_map file_rows (c.files ++ file ∷ [])) ∙ flat-last c.files file
    ∙ ap (λ (rows : List Row). front ++ rows) (ended-rows f none) ∙ sym (append_assoc front (open_file_rows f) (end_row ∷ []))
    ∙ ap (λ (x : Row). (front ++ open_file_rows f) ++ x ∷ []) (sym e) ∙ ap (λ m. (front ++ current_rows m) ++ r ∷ []) (sym here)
current-more c (Some f) r t here sound (inr (g, step, is)) =
    let front = flat_map file_rows c.files in
    ap rows_so_far is ∙ ap (λ (rows : List Row). front ++ rows) (file-more f r g sound.1 step) ∙ sym (append_assoc front (open_file_rows f) (r ∷ []))
    ∙ ap (λ m. (front ++ current_rows m) ++ r ∷ []) (sym here)

pub chain-more : (c : Chain) (r : Row) (t : Chain) → IsSoundChain c → ChainStep c r t → rows_so_far t ≡ rows_so_far c ++ r ∷ []
chain-more c r t sound step = current-more c c.current r t refl sound.current step

current-sound : (c : Chain) (m : Option OpenFile) (r : Row) (t : Chain) → AllByRecursion IsFileOfRows c.files → IsSoundCurrent (length c.files) m
    → OpenStep c m r t → IsSoundChain t
current-sound c None r t files sound (room, (h, range, e, is)) =
    subst IsSoundChain (sym is) (record {
      files = files;
      current = (room, record { header = range; same_records = refl; fit = tt; numbers = tt; part = (tt, tt) });
    })
current-sound c (Some f) r t files sound (inl (none, e, is)) =
    subst IsSoundChain (sym is) (record {
      files = all-last IsFileOfRows c.files (record { header = f.header; records = f.records }) files
          (record { header = sound.1.header; records = sound.1.fit; numbers = sound.1.numbers });
      current = let more = length-last c.files (record { header = f.header; records = f.records }) in omega (arith, more, sound.0);
    })
current-sound c (Some f) r t files sound (inr (g, step, is)) =
    subst IsSoundChain (sym is) (record { files = files; current = (sound.0, file-sound f r g sound.1 step) })

pub chain-sound : (c : Chain) (r : Row) (t : Chain) → IsSoundChain c → ChainStep c r t → IsSoundChain t
chain-sound c r t sound step = current-sound c c.current r t sound.files sound.current step
