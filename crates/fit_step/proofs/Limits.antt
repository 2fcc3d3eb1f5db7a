-- How much can be known, and how much of a record there can be.
use Rattle.fit_step.proofs.Common.{◌≡◌, cond, ℕ, zero, suc, ◌+◌, ◌*◌, ◌/◌, ◌<◌, List, [], ◌∷◌, ◌++◌, length, get_or, set, refl, ap, ◌∙◌, subst, arith, Some}
use Rattle.fit_step.proofs.Common.{None, Option, IsSomeAnd, flat_map, zip, option_and_then, option_map_or, div-le_self, cond_both, eqb-true, length-map}
use Rattle.fit_step.proofs.Common.{sum_by-append, sum_by-cons, sum_by-le, Items, item_width, IsBytes, number_bytes, IsBytes-tail, IsBytes-front, IsBytes-back}
use Rattle.fit_step.proofs.Common.{DevDef, FieldDef, MessageDef, Defined, Record, Define, Data, Values, Environment, empty_environment, defined_at, defined_by}
use Rattle.fit_step.proofs.Common.{describe, described_by, description, dev_code, dev_defs, dev_key_cmp, first_items, learn, learn_all, only, only_byte}
use Rattle.fit_step.proofs.Common.{architecture, layout, dev_layout, field_bytes, dev_field_bytes, dev_part, DefinitionFits, DataFits, HaveShape, Fits}
use Rattle.fit_step.proofs.Common.{record_bytes, AllFit, records_bytes, entry_count, environment_size, item_count, ◌==◌, ◌≤◌, replicate, map, sum_by}
use Rattle.std.specs.Ordering.{nat_cmp, ordering_then, match_ordering, MatchOrdering}
use Rattle.std.specs.BTreeMap.{insert_entry}
use Rattle.std.specs.declared.cmp.Ordering.{Ordering}
use Rattle.std.specs.declared.cmp.Ordering.TheVariants.{Less, Equal, Greater}
use Rattle.std.proofs.lemmas.Cmp.{ranked}
use Rattle.std.proofs.lemmas.List.Elements.{All-from_get_or}
use Rattle.fit_record.specs.declared.learn.Description.{Description}
use Rattle.fit_record.specs.declared.learn.DevKey.{DevKey}
use Rattle.fit_record.proofs.FirstOfNumber.{first_below}

-- ---- described developer fields

-- a place for each developer field
pub rank : DevKey → ℕ
rank k = 256 * k.index + k.number

-- the places ascend from this one on
unfoldable pub Ascend : ℕ → List (DevKey × ℕ) → Type 0
Ascend low [] = low ≤ 65536
Ascend low (e ∷ es) = (low ≤ rank e.0) × (e.0.number < 256) × Ascend (suc (rank e.0)) es

few_described : (low : ℕ) (es : List (DevKey × ℕ)) → Ascend low es → length es + low ≤ 65536
unfolding Ascend
few_described low [] h = omega (arith, h)
few_described low (e ∷ es) h = omega (arith, h.0, few_described (suc (rank e.0)) es h.2)

key_ranked : (a b : DevKey) → a.number < 256 → b.number < 256 → (x y : Ordering) → x ≡ nat_cmp a.index b.index → y ≡ nat_cmp a.number b.number
    → MatchOrdering (ordering_then x y) (rank a < rank b) (rank a ≡ rank b) (rank b < rank a)
unfolding rank
key_ranked a b p q Less y first second = let less : a.index < b.index = ranked a.index b.index Less first in omega (arith, less, p, q)
key_ranked a b p q Greater y first second = let less : b.index < a.index = ranked a.index b.index Greater first in omega (arith, less, p, q)
key_ranked a b p q Equal Less first second =
    let same : a.index ≡ b.index = ranked a.index b.index Equal first in
    let less : a.number < b.number = ranked a.number b.number Less second in
    omega (arith, same, less)
key_ranked a b p q Equal Equal first second =
    let same : a.index ≡ b.index = ranked a.index b.index Equal first in
    let tied : a.number ≡ b.number = ranked a.number b.number Equal second in
    omega (arith, same, tied)
key_ranked a b p q Equal Greater first second =
    let same : a.index ≡ b.index = ranked a.index b.index Equal first in
    let less : b.number < a.number = ranked a.number b.number Greater second in
    omega (arith, same, less)

ascend_insert : (low : ℕ) (es : List (DevKey × ℕ)) (k : DevKey) (v : ℕ) → low ≤ rank k → rank k < 65536 → k.number < 256 → Ascend low es
    → Ascend low (insert_entry dev_key_cmp es k v)
unfolding Ascend
ascend_insert low [] k v above below number h = (above, number, omega (arith, below))
ascend_insert low (e ∷ es) k v above below number h =
    go (dev_key_cmp k e.0) (key_ranked k e.0 number h.1 (nat_cmp k.index e.0.index) (nat_cmp k.number e.0.number) refl refl)
    (λ less. ascend_insert (suc (rank e.0)) es k v (omega (arith, less)) below number h.2)
  where
    go : (o : Ordering) → MatchOrdering o (rank k < rank e.0) (rank k ≡ rank e.0) (rank e.0 < rank k)
        → (rank e.0 < rank k → Ascend (suc (rank e.0)) (insert_entry dev_key_cmp es k v))
        → Ascend low (match_ordering o ((k, v) ∷ e ∷ es) ((e.0, v) ∷ es) (e ∷ insert_entry dev_key_cmp es k v))
    go Less less later = (above, number, (omega (arith, less), h.1, h.2))
    go Equal same later = (h.0, h.1, h.2)
    go Greater less later = (h.0, h.1, later less)

-- ---- the items of a message

abbrev pub items_of : ℕ × ℕ → ℕ
items_of f = f.1 / item_width f.0 f.1

no_more_items : (code size : ℕ) → size < 256 → size / item_width code size ≤ 255
no_more_items code size small = omega (arith, div-le_self size (item_width code size))

few_items : (fields : List FieldDef) → IsBytes (flat_map field_bytes fields) → sum_by items_of (map (λ f. (f.code, f.size)) fields) ≤ 255 * length fields
few_items [] are = omega arith
few_items (f ∷ fields) are =
    let rest = few_items fields (λ i. are (suc (suc (suc i)))) in
    let size : f.size < 256 = are 1 in
    omega (arith, rest, no_more_items f.code f.size size, sum_by-cons items_of (f.code, f.size) (map (λ f. (f.code, f.size)) fields))

few_dev_items : (codes : List ℕ) (fields : List DevDef) → IsBytes (flat_map dev_field_bytes fields)
    → sum_by items_of (zip codes (map (λ f. f.size) fields)) ≤ 255 * length fields
few_dev_items [] fields are = omega arith
few_dev_items (c ∷ codes) [] are = omega arith
few_dev_items (c ∷ codes) (f ∷ fields) are =
    let rest = few_dev_items codes fields (λ i. are (suc (suc (suc i)))) in
    let size : f.size < 256 = are 1 in
    omega (arith, rest, no_more_items c f.size size, sum_by-cons items_of (c, f.size) (zip codes (map (λ f. f.size) fields)))

dev_bytes : (dev : Option (List DevDef)) → IsBytes (dev_part dev) → IsBytes (flat_map dev_field_bytes (dev_defs dev))
dev_bytes None are = λ i. omega arith
dev_bytes (Some fields) are = IsBytes-tail (length fields) (flat_map dev_field_bytes fields) are

-- ---- what is known

abbrev pub IsLimited : {A : Type 0} → Option (Defined A) → Type 0
IsLimited None = Unit {0}
IsLimited (Some p) = (entry_count p.definition ≤ 510) × (item_count p ≤ 130050) × (length p.dev_codes ≡ length (dev_defs p.definition.dev))

-- Each definition has that many entries at most, messages of that many items, and a code for each developer field; and the described
-- developer fields are in order.
pub record AreLimited {A : Type 0} (e : Environment A) : Type 0 where
  pub places : (local : ℕ) → IsLimited (defined_at e local)
  pub described : Ascend 0 e.described

limited_definition : {A : Type 0} (e f : Environment A) (d : MessageDef A) → DefinitionFits d → IsBytes (record_bytes e (Define d))
    → IsLimited (Some (defined_by f d))
limited_definition e f d fits are =
    let front : List ℕ = d.reserved ∷ architecture d.order ∷ number_bytes d.order 2 d.global in
    let fields : List ℕ = length d.fields ∷ flat_map field_bytes d.fields in
    let beyond : IsBytes ((front ++ fields) ++ dev_part d.dev) = λ i. are (suc i) in
    let field_items = few_items d.fields (IsBytes-tail (length d.fields) (flat_map field_bytes d.fields)
    (IsBytes-back front fields (IsBytes-front (front ++ fields) (dev_part d.dev) beyond))) in
    let dev_items = few_dev_items (defined_by f d).dev_codes (dev_defs d.dev) (dev_bytes d.dev (IsBytes-back (front ++ fields) (dev_part d.dev) beyond)) in
    let both = sum_by-append items_of (layout (defined_by f d)) (dev_layout (defined_by f d)) in (
      omega (arith, fits.fields, fits.dev_fields),
      omega (arith, fits.fields, fits.dev_fields, field_items, dev_items, both),
      length-map (dev_defs d.dev) (dev_code f),
    )

none_limited : (A : Type 0) (n local : ℕ) → IsLimited {A = A} (get_or (replicate n None) local None)
none_limited A zero local = tt
none_limited A (suc n) zero = tt
none_limited A (suc n) (suc local) = none_limited A n local

set_limited : {A : Type 0} (places : List (Option (Defined A))) (k : ℕ) (p : Defined A) → ((local : ℕ) → IsLimited (get_or places local None))
    → IsLimited (Some p) → (local : ℕ) → IsLimited (get_or (set places k (Some p)) local None)
set_limited [] k p each one local = tt
set_limited (q ∷ places) zero p each one zero = one
set_limited (q ∷ places) zero p each one (suc local) = each (suc local)
set_limited (q ∷ places) (suc k) p each one zero = each zero
set_limited (q ∷ places) (suc k) p each one (suc local) = set_limited places k p (λ i. each (suc i)) one local

-- ---- descriptions

only_below : {A : Type 0} (fields : List FieldDef) (items : List (Items A)) (n b : ℕ) → HaveShape (map (λ f. (f.code, f.size)) fields) items
    → only_byte fields items n ≡ Some b → b < 256
only_below {A} fields items n b shape = found (first_items fields items n) refl
  where
    bits_below : (i : Items A) → first_items fields items n ≡ Some i → i.width ≡ 1 → (bits : List ℕ) → i.bits ≡ bits → only bits ≡ Some b → b < 256
    bits_below i at one (x ∷ []) is told = let same : x ≡ b = cc in first_below fields items n i b shape at one (is ∙ ap (λ y. y ∷ []) same)
    bits_below i at one bits is told = absurd cc

    found : (o : Option (Items A)) → first_items fields items n ≡ o → option_and_then (λ i. cond (i.width == 1) (only i.bits) None) o ≡ Some b → b < 256
    found None at = λ told. absurd cc
    found (Some i) at =
        cond_both (i.width == 1) _ _ (λ (o : Option ℕ). o ≡ Some b → b < 256) (λ one told. bits_below i at (eqb-true i.width 1 one) i.bits refl told)
        (λ _ told. absurd cc)

described_below : {A : Type 0} (d : MessageDef A) (v : Values A) (s : Description) → HaveShape (map (λ f. (f.code, f.size)) d.fields) v.fields
    → description d v ≡ Some s → (s.key.index < 256) × (s.key.number < 256)
described_below {A} d v s shape =
    cond_both (d.global == 206) _ _ (λ (o : Option Description). o ≡ Some s → (s.key.index < 256) × (s.key.number < 256))
    (λ _. first (only_byte d.fields v.fields 0) (only_byte d.fields v.fields 1) (only_byte d.fields v.fields 2) refl refl) (λ _ told. absurd cc)
  where
    first : (index number code : Option ℕ) → only_byte d.fields v.fields 0 ≡ index → only_byte d.fields v.fields 1 ≡ number
        → option_and_then (λ i. option_and_then (λ n. option_and_then (λ c. Some (record { key = record { index = i; number = n }; code = c })) code) number)
        index ≡ Some s → (s.key.index < 256) × (s.key.number < 256)
    first (Some i) (Some n) (Some c) at_index at_number told =
        let one : i ≡ s.key.index = ap (λ (o : Option Description). option_map_or (λ (t : Description). t.key.index) o i) told in
        let two : n ≡ s.key.number = ap (λ (o : Option Description). option_map_or (λ (t : Description). t.key.number) o n) told in (
          subst (λ x. x < 256) one (only_below d.fields v.fields 0 i shape at_index),
          subst (λ x. x < 256) two (only_below d.fields v.fields 1 n shape at_number),
        )
    first index number code at_index at_number told = absurd cc

describe_limited : {A : Type 0} (e : Environment A) (o : Option Description) → ((s : Description) → o ≡ Some s → (s.key.index < 256) × (s.key.number < 256))
    → AreLimited e → AreLimited (describe e o)
unfolding rank
describe_limited e None below h = h
describe_limited e (Some s) below h =
    let low = below s refl in
    record { places = h.places; described = ascend_insert 0 e.described s.key s.code (omega arith) (omega (arith, low.0, low.1)) low.1 h.described }

message_below : {A : Type 0} (e : Environment A) (v : Values A) (o : Option (Defined A)) → IsSomeAnd o (DataFits v) → (s : Description)
    → option_and_then (λ p. description p.definition v) o ≡ Some s → (s.key.index < 256) × (s.key.number < 256)
message_below e v None fits s told = absurd cc
message_below e v (Some p) fits s told = described_below p.definition v s fits.fields told

-- ---- all records

learn_limited : {A : Type 0} (e : Environment A) (r : Record A) → Fits e r → IsBytes (record_bytes e r) → AreLimited e → AreLimited (learn e r)
learn_limited e (Define d) fits are h = record {
  places =
      set_limited e.places d.local (defined_by e d) h.places (limited_definition e e d fits are);
  described = h.described;
}
learn_limited e (Data v) fits are h = describe_limited e (described_by e v) (message_below e v (defined_at e v.local) fits) h

pub all_limited : {A : Type 0} (e : Environment A) (records : List (Record A)) → AllFit e records → IsBytes (records_bytes e records) → AreLimited e
    → AreLimited (learn_all e records)
all_limited e [] fit are h = h
all_limited e (r ∷ records) fit are h =
    all_limited (learn e r) records fit.1 (IsBytes-back (record_bytes e r) (records_bytes (learn e r) records) are)
    (learn_limited e r fit.0 (IsBytes-front (record_bytes e r) (records_bytes (learn e r) records) are) h)

pub nothing_limited : (A : Type 0) → AreLimited {A = A} empty_environment
unfolding Ascend
nothing_limited A = record { places = none_limited A 16; described = omega arith }

place_limited : {A : Type 0} (o : Option (Defined A)) → IsLimited o → option_map_or (λ q. entry_count q.definition) o 0 ≤ 510
place_limited None h = omega arith
place_limited (Some p) h = h.0

pub environment_limited : {A : Type 0} (e : Environment A) → length e.places ≡ 16 → AreLimited e → environment_size e ≤ 16 * 510 + 65536
environment_limited {A} e sixteen h =
    let f = λ (p : Option (Defined A)). option_map_or (λ q. entry_count q.definition) p 0 in
    let each = All-from_get_or (λ p. f p ≤ 510) e.places None (λ i less. place_limited (get_or e.places i None) (h.places i)) in
    omega (arith, sixteen, sum_by-le f 510 e.places each, few_described 0 e.described h.described)
