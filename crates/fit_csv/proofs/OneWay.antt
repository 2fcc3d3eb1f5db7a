-- Rows go on in one way.
use Rattle.fit_csv.proofs.Common.{◌≡◌, ◌∙◌, [], ◌∷◌, ◌++◌, length, take, arith, refl, sym, ap, subst, inl, inr, slice_get, IsSomeAnd, Global, slice_get_within}
use Rattle.fit_csv.proofs.Common.{Items, HasShape, DevDef, FieldDef, Defined, Record, Values, defined_at, dev_defs, TextHasOneNumber, known, dev_row, end_row}
use Rattle.fit_csv.proofs.Common.{field_row, head_row, message_row, ChainStep, DefinitionStep, DevStep, FieldStep, OpenStep, PartStep, Run, file_begun, opened}
use Rattle.fit_csv.proofs.Common.{settled, with_dev_field, with_dev_items, with_field, with_items, naming_at, Row, Chain, OpenDefinition, OpenFile, Part}
use Rattle.fit_csv.proofs.Common.{Nothing, Definition}
use Rattle.std.proofs.Common.{ℕ, List, Option, Some, None}
use Rattle.std.specs.Prelude.{◌⊎◌}
use Rattle.fit_csv.specs.declared.from.open_file.Part.TheVariants.{Message}
use Rattle.fit_csv.proofs.ChainSteps.{not-end}
use Rattle.fit_csv.proofs.OneStep.{one-dev-def, one-field-def, one-head, one-header, one-start}
use Rattle.fit_csv.proofs.PartSteps.{letter}
use Rattle.fit_csv.proofs.ProfileOffsets.{one-dev-field, one-field}
use Rattle.fit_csv.proofs.SoFar.{some-at}

some-one : {X : Type 0} (a b : X) → Some a ≡ Some b → a ≡ b
some-one a b e = cc e

-- ---- records

one-definition : (o : OpenDefinition) (r : Row) (p q : OpenDefinition) → DefinitionStep o r p → DefinitionStep o r q → p ≡ q
one-definition o r p q (inl (room, (f, hf, ef, is))) (inl (room', (g, hg, eg, is'))) = is ∙ ap (with_field o) (one-field-def f g hf hg (sym ef ∙ eg)) ∙ sym is'
one-definition o r p q (inl (room, (f, hf, ef, is))) (inr (all, s)) = absurd (omega (arith, room, all))
one-definition o r p q (inr (all, s)) (inl (room, (f, hf, ef, is))) = absurd (omega (arith, room, all))
one-definition o r p q (inr (all, (f, hf, ef, is))) (inr (all', (g, hg, eg, is'))) = is ∙ ap (with_dev_field o) (one-dev-def f g hf hg (sym ef ∙ eg)) ∙ sym is'

abbrev FieldAt : Defined Global → Values Global → Row → Values Global → FieldDef → Type 0
FieldAt p v r w f = (i : Items Global) × HasShape f.code f.size i × (r ≡ field_row p.definition.global f i) × (w ≡ with_items v i)

abbrev DevAt : List (Record Global) → Values Global → Row → Values Global → DevDef → ℕ → Type 0
DevAt before v r w f code = (i : Items Global) × HasShape code f.size i × (r ≡ dev_row f code (naming_at before v.local (length v.dev)) i)
    × (w ≡ with_dev_items v i)

one-message : TextHasOneNumber → (before : List (Record Global)) (p : Defined Global) (v : Values Global) (r : Row) (w x : Values Global)
    → FieldStep p v r w ⊎ DevStep before p v r w
    → FieldStep p v r x ⊎ DevStep before p v r x → w ≡ x
one-message law before p v r w x (inl s) (inl t) =
    let (f, next, (i, hi, ei, is)) = some-at (slice_get p.definition.fields (length v.fields)) (FieldAt p v r w) s in
    let (g, next', other) = some-at (slice_get p.definition.fields (length v.fields)) (FieldAt p v r x) t in
    let (j, hj, ej, is') = subst (FieldAt p v r x) (some-one g f (sym next' ∙ next)) other in
    is ∙ ap (with_items v) (one-field law p.definition.global f i j hi hj (sym ei ∙ ej)) ∙ sym is'
one-message law before p v r w x (inl s) (inr (all, t)) =
    let (f, next, here) = some-at (slice_get p.definition.fields (length v.fields)) (FieldAt p v r w) s in
    absurd (omega (arith, all, slice_get_within p.definition.fields (length v.fields) f next))
one-message law before p v r w x (inr (all, t)) (inl s) =
    let (f, next, here) = some-at (slice_get p.definition.fields (length v.fields)) (FieldAt p v r x) s in
    absurd (omega (arith, all, slice_get_within p.definition.fields (length v.fields) f next))
one-message law before p v r w x (inr (all, s)) (inr (all', t)) =
    let (f, next, s') = some-at (slice_get (dev_defs p.definition.dev) (length v.dev))
    (λ f. IsSomeAnd (slice_get p.dev_codes (length v.dev)) (DevAt before v r w f)) s in
    let (code, coded, (i, hi, ei, is)) = some-at (slice_get p.dev_codes (length v.dev)) (DevAt before v r w f) s' in
    let (g, next', t') = some-at (slice_get (dev_defs p.definition.dev) (length v.dev))
    (λ f. IsSomeAnd (slice_get p.dev_codes (length v.dev)) (DevAt before v r x f)) t in
    let (m, coded', other) = some-at (slice_get p.dev_codes (length v.dev)) (DevAt before v r x g) t' in
    let here = subst (λ d. DevAt before v r x d code) (some-one g f (sym next' ∙ next))
    (subst (DevAt before v r x g) (some-one m code (sym coded' ∙ coded)) other) in
    let (j, hj, ej, is') = here in
    is ∙ ap (with_dev_items v) (one-dev-field law f code (naming_at before v.local (length v.dev)) i j hi hj (sym ei ∙ ej)) ∙ sym is'

head-or-message : (before : List (Record Global)) (r a b : Row) → r ≡ a → r ≡ b → letter (take 1 a) ≡ letter (take 1 b)
head-or-message before r a b e f = ap (λ (x : Row). letter (take 1 x)) (sym e ∙ f)

pub one-part : TextHasOneNumber → (before : List (Record Global)) (part : Part) (r : Row) (p q : Part) → PartStep before part r p → PartStep before part r q
    → p ≡ q
one-part law before Nothing r p q (inl (h, hh, eh, is)) (inl (k, hk, ek, is')) =
    is ∙ ap (λ d. Definition (opened d)) (one-head h k hh hk (sym eh ∙ ek)) ∙ sym is'
one-part law before Nothing r p q (inl (h, hh, eh, is)) (inr (v, start, e, is')) =
    absurd (omega (arith, head-or-message before r (head_row h) (message_row before v) eh e))
one-part law before Nothing r p q (inr (v, start, e, is)) (inl (h, hh, eh, is')) =
    absurd (omega (arith, head-or-message before r (head_row h) (message_row before v) eh e))
one-part law before Nothing r p q (inr (v, sv, ev, is)) (inr (w, sw, ew, is')) = is ∙ ap Message (one-start before v w sv sw (sym ev ∙ ew)) ∙ sym is'
one-part law before (Definition o) r p q (a, sa, is) (b, sb, is') = is ∙ ap Definition (one-definition o r a b sa sb) ∙ sym is'
one-part law before (Message v) r p q (a, sa, is) (b, sb, is') =
    let (d, known_d, ta) = some-at (defined_at (known before) v.local) (λ d. FieldStep d v r a ⊎ DevStep before d v r a) sa in
    let tb = subst (λ o. IsSomeAnd o (λ d. FieldStep d v r b ⊎ DevStep before d v r b)) known_d sb in
    is ∙ ap Message (one-message law before d v r a b ta tb) ∙ sym is'

-- ---- chains

one-current : TextHasOneNumber → (c : Chain) (m : Option OpenFile) (r : Row) (s t : Chain) → OpenStep c m r s → OpenStep c m r t → s ≡ t
one-current law c None r s t (room, (h, hh, eh, is)) (room', (k, hk, ek, is')) =
    is ∙ ap (λ d. record c { current = Some (file_begun d) }) (one-header h k hh hk (sym eh ∙ ek)) ∙ sym is'
one-current law c (Some f) r s t (inl (none, e, is)) (inl (none', e', is')) = is ∙ sym is'
one-current law c (Some f) r s t (inl (none, e, is)) (inr (g, (p, step, is_g), is')) =
    absurd (not-end f.before end_row r p refl (ap (λ (x : Row). take 1 x) e) (subst (λ (part : Part). PartStep f.before part r p) none step))
one-current law c (Some f) r s t (inr (g, (p, step, is_g), is')) (inl (none, e, is)) =
    absurd (not-end f.before end_row r p refl (ap (λ (x : Row). take 1 x) e) (subst (λ (part : Part). PartStep f.before part r p) none step))
one-current law c (Some f) r s t (inr (g, (p, sp, is_g), is)) (inr (h, (q, sq, is_h), is')) =
    is ∙ ap (λ (x : OpenFile). record c { current = Some x }) (is_g ∙ ap (settled f) (one-part law f.before f.part r p q sp sq) ∙ sym is_h) ∙ sym is'

pub one-step : TextHasOneNumber → (c : Chain) (r : Row) (s t : Chain) → ChainStep c r s → ChainStep c r t → s ≡ t
one-step law c r s t a b = one-current law c c.current r s t a b

pub one-run : TextHasOneNumber → (c : Chain) (rows : List Row) (s t : Chain) → Run c rows s → Run c rows t → s ≡ t
unfolding Run
one-run law c [] s t a b = sym a ∙ b
one-run law c (r ∷ rows) s t (m, step, a) (n, step', b) = one-run law m rows s t a (subst (λ (x : Chain). Run x rows t) (one-step law c r n m step' step) b)

pub run-split : (c : Chain) (xs ys : List Row) (t : Chain) → Run c (xs ++ ys) t → (m : Chain) × Run c xs m × Run m ys t
unfolding Run
run-split c [] ys t run = (c, refl, run)
run-split c (r ∷ xs) ys t (m, step, run) = let (n, first, rest) = run-split m xs ys t run in (n, (m, step, first), rest)

pub run-join : (c : Chain) (xs ys : List Row) (m t : Chain) → Run c xs m → Run m ys t → Run c (xs ++ ys) t
unfolding Run
run-join c [] ys m t first rest = subst (λ (x : Chain). Run x ys t) (sym first) rest
run-join c (r ∷ xs) ys m t (n, step, first) rest = (n, step, run-join n xs ys m t first rest)

pub run-one : (c : Chain) (r : Row) (t : Chain) → ChainStep c r t → Run c (r ∷ []) t
unfolding Run
run-one c r t step = (t, step, refl)

pub first-of-run : (c : Chain) (r : Row) (rows : List Row) (t : Chain) → Run c (r ∷ rows) t → (m : Chain) × ChainStep c r m
unfolding Run
first-of-run c r rows t (m, step, run) = (m, step)

pub run-none : (c t : Chain) → c ≡ t → Run c [] t
unfolding Run
run-none c t e = e

pub tail-same : (a b : Row) (xs ys : List Row) → a ∷ xs ≡ b ∷ ys → xs ≡ ys
tail-same a b xs ys e = cc e
