-- A row goes on in one way.
use Rattle.fit_csv.proofs.Common.{◌≡◌, ◌∙◌, ◌≤◌, ◌-◌, ◌^◌, [], length, get_or, All, arith, refl, sym, ap, Global, decimal_injective, decimal_nonempty, Order}
use Rattle.fit_csv.proofs.Common.{Little, Big, Header, HeaderSum, Zero, True, DevDef, FieldDef, Record, Values, dev_def_row, field_def_row}
use Rattle.fit_csv.proofs.Common.{file_row, optional_number, order_word, rest_text, sum_word, DevDefInRange, FieldDefInRange, HeaderInRange, HeadInRange}
use Rattle.fit_csv.proofs.Common.{IsMessageStart, head_row, message_row, Row, DefinitionHead}
use Rattle.std.proofs.Common.{ℕ, ◌<◌, List, decimal, Option, Some, None}
use Rattle.std.specs.Prelude.{IfSome}
use Rattle.fit_frame.specs.declared.header.HeaderSum.TheVariants.{Absent}
use Rattle.fit_cells.specs.Rows.{Cell}
use Rattle.fit_csv.proofs.HeaderRows.{rest-long, rest-shown}
use Rattle.fit_texts.proofs.CellFacts.{small-local, small-offset}

-- ---- cells

abbrev pub cell_at : ℕ → Row → Cell
cell_at k r = get_or r k []

one-decimal : (a b limit : ℕ) → limit ≤ 2 ^ 64 → a < limit → b < limit → decimal a ≡ decimal b → a ≡ b
one-decimal a b limit h p q e = decimal_injective a b (omega (arith, h, p)) (omega (arith, h, q)) e

one-optional : (a b : Option ℕ) → IfSome a (λ n. n < 2 ^ 8) → IfSome b (λ n. n < 2 ^ 8) → optional_number a ≡ optional_number b → a ≡ b
one-optional None None p q e = refl
one-optional None (Some n) p q e = let some = decimal_nonempty n (omega (arith, q)) in absurd (omega (arith, some, ap length e))
one-optional (Some m) None p q e = let some = decimal_nonempty m (omega (arith, p)) in absurd (omega (arith, some, ap length e))
one-optional (Some m) (Some n) p q e = ap Some (one-decimal m n (2 ^ 8) (omega arith) p q e)

one-order : (a b : Order) → order_word a ≡ order_word b → a ≡ b
one-order Little Little e = refl
one-order Little Big e = absurd (omega (arith, ap length e))
one-order Big Little e = absurd (omega (arith, ap length e))
one-order Big Big e = refl

one-sum : (a b : HeaderSum) → sum_word a ≡ sum_word b → a ≡ b
one-sum Absent Absent e = refl
one-sum Zero Zero e = refl
one-sum True True e = refl
one-sum a b e = absurd (omega (arith, ap (λ (c : Cell). get_or c 0 0) e))

one-rest : (a b : List ℕ) → length a ≡ length b → All (λ n. n < 2 ^ 8) a → All (λ n. n < 2 ^ 8) b → rest_text a ≡ rest_text b → a ≡ b
one-rest a b l p q e = sym (rest-shown a (rest_text a) (length a) refl refl p) ∙ rest-shown b (rest_text a) (length a) (sym e) (sym l) q

-- ---- rows

pub one-header : (h k : Header) → HeaderInRange h → HeaderInRange k → file_row h ≡ file_row k → h ≡ k
one-header h k p q e =
    let size = one-decimal h.size k.size (2 ^ 8) (omega arith) p.size q.size (ap (cell_at 1) e) in
    let protocol = one-decimal h.protocol k.protocol 48 (omega arith) (let v = p.form.version in omega (arith, v)) (let v = q.form.version in omega (arith, v))
    (ap (cell_at 2) e) in
    let profile = one-decimal h.profile k.profile (2 ^ 16) (omega arith) p.profile q.profile (ap (cell_at 3) e) in
    let sum = one-sum h.sum k.sum (ap (cell_at 4) e) in
    let long : length h.rest.items ≡ length k.rest.items =
    rest-long h.sum h.size h.rest.items p.form.size ∙ ap (λ n. n - 14) size ∙ sym (rest-long k.sum k.size k.rest.items q.form.size) in
    let rest = one-rest h.rest.items k.rest.items long p.rest q.rest (ap (cell_at 5) e) in
    λ i. record { size = size i; protocol = protocol i; profile = profile i; sum = sum i; rest = record { items = rest i } }

pub one-head : (h k : DefinitionHead) → HeadInRange h → HeadInRange k → head_row h ≡ head_row k → h ≡ k
one-head h k p q e =
    let local = one-decimal h.local k.local 16 (omega arith) p.local q.local (ap (cell_at 1) e) in
    let reserved = one-decimal h.reserved k.reserved (2 ^ 8) (omega arith) p.reserved q.reserved (ap (cell_at 2) e) in
    let order = one-order h.order k.order (ap (cell_at 3) e) in
    let global = one-decimal h.global k.global (2 ^ 16) (omega arith) p.global q.global (ap (cell_at 4) e) in
    let fields = one-decimal h.fields k.fields (2 ^ 8) (omega arith) p.fields q.fields (ap (cell_at 5) e) in
    let dev = one-optional h.dev k.dev p.dev q.dev (ap (cell_at 6) e) in
    λ i. record { local = local i; reserved = reserved i; order = order i; global = global i; fields = fields i; dev = dev i }

pub one-field-def : (f g : FieldDef) → FieldDefInRange f → FieldDefInRange g → field_def_row f ≡ field_def_row g → f ≡ g
one-field-def f g p q e =
    let number = one-decimal f.number g.number (2 ^ 8) (omega arith) p.number q.number (ap (cell_at 1) e) in
    let size = one-decimal f.size g.size (2 ^ 8) (omega arith) p.size q.size (ap (cell_at 2) e) in
    let code = one-decimal f.code g.code (2 ^ 8) (omega arith) p.code q.code (ap (cell_at 3) e) in
    λ i. record { number = number i; size = size i; code = code i }

pub one-dev-def : (f g : DevDef) → DevDefInRange f → DevDefInRange g → dev_def_row f ≡ dev_def_row g → f ≡ g
one-dev-def f g p q e =
    let number = one-decimal f.number g.number (2 ^ 8) (omega arith) p.number q.number (ap (cell_at 1) e) in
    let size = one-decimal f.size g.size (2 ^ 8) (omega arith) p.size q.size (ap (cell_at 2) e) in
    let index = one-decimal f.index g.index (2 ^ 8) (omega arith) p.index q.index (ap (cell_at 3) e) in
    λ i. record { number = number i; size = size i; index = index i }

pub one-start : (before : List (Record Global)) (v w : Values Global) → IsMessageStart before v → IsMessageStart before w
    → message_row before v ≡ message_row before w → v ≡ w
one-start before v w p q e =
    let local = one-decimal v.local w.local 16 (omega arith) (small-local v.local v.offset p.header) (small-local w.local w.offset q.header) (ap (cell_at 1) e)
    in
    let offset = one-optional v.offset w.offset (small-offset v.local v.offset p.header) (small-offset w.local w.offset q.header) (ap (cell_at 2) e) in
    let fields = p.no_fields ∙ sym q.no_fields in
    let dev = p.no_dev_fields ∙ sym q.no_dev_fields in
    λ i. record { local = local i; offset = offset i; fields = fields i; dev = dev i }
