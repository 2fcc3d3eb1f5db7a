-- The rows of a chain are those of no other, and no record's rows begin another's.
use Rattle.fit_csv.proofs.Common.{◌≡◌, ◌∙◌, suc, [], ◌∷◌, ◌++◌, length, refl, sym, ap, subst, inl, inr, arith, flat_map, Global, cases_Bool, FitFile}
use Rattle.fit_csv.proofs.Common.{Record, Define, Data, Fits, TextHasOneNumber, known, chain_rows, file_rows, record_rows, IsChainOfRows, RecordInRange}
use Rattle.fit_csv.proofs.Common.{FileStep, PartStep, Run, built_definition, is_whole, is_whole_message, nothing_yet, settled, with_record, Row, first_line}
use Rattle.fit_csv.proofs.Common.{Chain, OpenFile, Part, Nothing, Definition}
use Rattle.std.proofs.Common.{◌<◌, List, None}
use Rattle.std.specs.Prelude.{◌⊎◌}
use Rattle.fit_frame.specs.declared.header.HeaderSum.TheVariants.{Absent}
use Rattle.fit_csv.specs.declared.from.open_file.Part.TheVariants.{Message}
use Rattle.fit_csv.proofs.OneWay.{one-part, one-run, tail-same}
use Rattle.fit_csv.proofs.WholeRuns.{FileRun, chain-run, record-run}

pub one-chain : TextHasOneNumber → (a b : List (FitFile Global)) → IsChainOfRows a → IsChainOfRows b → chain_rows a ≡ chain_rows b → a ≡ b
one-chain law a b p q e =
    let rows : flat_map file_rows b ≡ flat_map file_rows a = sym (tail-same first_line first_line (flat_map file_rows a) (flat_map file_rows b) e) in
    let done_a : Chain = record { files = a; current = None } in
    let done_b : Chain = record { files = b; current = None } in
    ap (λ (c : Chain). c.files) (one-run law nothing_yet (flat_map file_rows a) done_a done_b (chain-run a p)
    (subst (λ (l : List Row). Run nothing_yet l done_b) rows (chain-run b q)))

-- ---- records

one-file-step : TextHasOneNumber → (f : OpenFile) (r : Row) (g h : OpenFile) → FileStep f r g → FileStep f r h → g ≡ h
one-file-step law f r g h (p, sp, is) (q, sq, is') = is ∙ ap (settled f) (one-part law f.before f.part r p q sp sq) ∙ sym is'

-- a row either leaves a record open, or makes one whole
abbrev Advances : OpenFile → OpenFile → Type 0
Advances f g = ((length g.before ≡ length f.before) × (g.part ≡ Nothing → ⊥)) ⊎ (length g.before ≡ suc (length f.before))

settled-advances : (f : OpenFile) (p : Part) → (p ≡ Nothing → ⊥) → Advances f (settled f p)
settled-advances f Nothing some = absurd (some refl)
settled-advances f (Definition o) some = elim (cases_Bool (is_whole o)) [
  | inl whole ↦ let same : settled f (Definition o) ≡ with_record f (Define (built_definition o)) = rw whole refl in subst (Advances f) (sym same) (inr refl)
  | inr part ↦ let same : settled f (Definition o) ≡ record f { part = Definition o } = rw part refl in subst (Advances f) (sym same) (inl (refl, λ e. cc e))
]
settled-advances f (Message v) some = elim (cases_Bool (is_whole_message f.before v)) [
  | inl whole ↦ let same : settled f (Message v) ≡ with_record f (Data v) = rw whole refl in subst (Advances f) (sym same) (inr refl)
  | inr part ↦ let same : settled f (Message v) ≡ record f { part = Message v } = rw part refl in subst (Advances f) (sym same) (inl (refl, λ e. cc e))
]

some-part : (f : OpenFile) (part : Part) (r : Row) (p : Part) → PartStep f.before part r p → p ≡ Nothing → ⊥
some-part f Nothing r p (inl (h, range, e, is)) none = cc (sym is ∙ none)
some-part f Nothing r p (inr (v, start, e, is)) none = cc (sym is ∙ none)
some-part f (Definition o) r p (q, step, is) none = cc (sym is ∙ none)
some-part f (Message v) r p (w, step, is) none = cc (sym is ∙ none)

step-advances : (f : OpenFile) (r : Row) (g : OpenFile) → FileStep f r g → Advances f g
step-advances f r g (p, step, is) = subst (Advances f) (sym is) (settled-advances f p (some-part f f.part r p step))

run-ends : (f : OpenFile) (r : Row) (rows : List Row) (g : OpenFile) → FileRun f (r ∷ rows) g → g.part ≡ Nothing → length f.before < length g.before
unfolding FileRun
run-ends f r [] g (m, step, run) none =
    elim (step-advances f r m step) [
      | inl same ↦ absurd (same.1 (ap (λ (x : OpenFile). x.part) run ∙ none))
      | inr next ↦ let e = ap (λ (x : OpenFile). length x.before) run in omega (arith, next, e)
    ]
run-ends f r (s ∷ rows) g (m, step, run) none =
    let more = run-ends m s rows g run none in
    elim (step-advances f r m step) [
      | inl same ↦ omega (arith, more, same.0)
      | inr next ↦ omega (arith, more, next)
    ]

-- Of two runs through rows of which one begins the other, each to the end of a record, both have the same rows.
same-run : TextHasOneNumber → (f : OpenFile) (xs ys x y : List Row) (g h : OpenFile) → FileRun f xs g → FileRun f ys h → g.part ≡ Nothing → h.part ≡ Nothing
    → length g.before ≡ length h.before → xs ++ x ≡ ys ++ y → (g ≡ h) × (xs ≡ ys)
unfolding FileRun
same-run law f [] [] x y g h a b none_g none_h long e = (sym a ∙ b, refl)
same-run law f [] (s ∷ ys) x y g h a b none_g none_h long e =
    let start = ap (λ (o : OpenFile). length o.before) a in
    absurd (omega (arith, start, long, run-ends f s ys h b none_h))
same-run law f (r ∷ xs) [] x y g h a b none_g none_h long e =
    let start = ap (λ (o : OpenFile). length o.before) b in
    absurd (omega (arith, start, long, run-ends f r xs g a none_g))
same-run law f (r ∷ xs) (s ∷ ys) x y g h (m, sm, a) (n, sn, b) none_g none_h long e =
    let first : s ≡ r = cc e in
    let rest : xs ++ x ≡ ys ++ y = cc e in
    let here : n ≡ m = one-file-step law f r n m (subst (λ (q : Row). FileStep f q n) first sn) sm in
    let (same, rows) = same-run law m xs ys x y g h a (subst (λ (o : OpenFile). FileRun o ys h) here b) none_g none_h long rest in
    (same, λ i. sym first i ∷ rows i)

pub one-record : TextHasOneNumber → (before : List (Record Global)) (r s : Record Global) (x y : List Row) → Fits (known before) r → RecordInRange r
    → Fits (known before) s → RecordInRange s
    → record_rows before r ++ x ≡ record_rows before s ++ y → (r ≡ s) × (record_rows before r ≡ record_rows before s)
one-record law before r s x y fr rr fs rs e =
    let f : OpenFile = record {
      header = record { size = 12; protocol = 0; profile = 0; sum = Absent; rest = record { items = [] } };
      records = [];
      before =
          before;
      part = Nothing;
    } in
    let (same, rows) = same-run law f (record_rows before r) (record_rows before s) x y (with_record f r) (with_record f s) (record-run f r refl fr rr)
    (record-run f s refl fs rs) refl refl refl e in
    let latest : r ∷ before ≡ s ∷ before = ap (λ (o : OpenFile). o.before) same in
    (cc latest, rows)
