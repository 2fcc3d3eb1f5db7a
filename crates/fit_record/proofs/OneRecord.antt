-- Under an environment a record and its bytes determine each other, and no record's bytes begin those of another.
use Rattle.fit_record.proofs.Common.{◌≡◌, ℕ, ◌+◌, ◌<◌, List, [], ◌∷◌, ◌++◌, length, refl, sym, ap, ◌∙◌, subst, arith, append_assoc, length-append, Some, None}
use Rattle.fit_record.proofs.Common.{flat_map, option_map, unwrap_or, IsSomeAnd, Items, Order, Little, Big, number_bytes, items_bytes, one_number, FieldDef}
use Rattle.fit_record.proofs.Common.{DevDef, MessageDef, Record, Define, Data, Defined, Environment, defined_at, learn, architecture, field_bytes}
use Rattle.fit_record.proofs.Common.{dev_field_bytes, dev_part, definition_header, definition_bytes, DefinitionFits, layout, dev_layout, HaveShape, data_header}
use Rattle.fit_record.proofs.Common.{DataHeaderFits, data_bytes, DataFits, Fits, order_at, record_bytes, AllFit, records_bytes, RecordsHaveOneSpelling, Option}
use Rattle.fit_record.proofs.Common.{Values}
use Rattle.fit_base.proofs.SameItems.{same_items}

pub regroup : {X : Type 0} → (a b c d : List X) → (a ++ b ++ c) ++ d ≡ a ++ (b ++ (c ++ d))
regroup a b c d = simp append_assoc

-- ---- definitions

one_order : (o p : Order) → architecture o ≡ architecture p → o ≡ p
one_order Little Big e = cc
one_order Big Little e = cc
one_order _ _ e = refl

-- lists of entries, as long as each other, of which each is known from its bytes
module _ {F : Type 0} (bytes : F → List ℕ) (one : (f g : F) (x y : List ℕ) → bytes f ++ x ≡ bytes g ++ y → (f ≡ g) × (x ≡ y)) where
  same_entries : (fs gs : List F) (x y : List ℕ) → length fs ≡ length gs → flat_map bytes fs ++ x ≡ flat_map bytes gs ++ y → (fs ≡ gs) × (x ≡ y)
  same_entries [] [] x y l e = (refl, e)
  same_entries (f ∷ fs) (g ∷ gs) x y l e =
      let k = one f g (flat_map bytes fs ++ x) (flat_map bytes gs ++ y)
      (sym (append_assoc (bytes f) (flat_map bytes fs) x) ∙ e ∙ append_assoc (bytes g) (flat_map bytes gs) y) in
      let r = same_entries fs gs x y (omega arith) k.1 in
      (cc (k.0, r.0), r.1)
  same_entries _ _ x y l e = absurd (omega arith)

one_field : (f g : FieldDef) (x y : List ℕ) → field_bytes f ++ x ≡ field_bytes g ++ y → (f ≡ g) × (x ≡ y)
one_field f g x y e =
    let a : f.number ≡ g.number = cc in
    let b : f.size ≡ g.size = cc in
    let c : f.code ≡ g.code = cc in
    let t : x ≡ y = cc in
    (λ i. record { number = a i; size = b i; code = c i }, t)

one_dev_field : (f g : DevDef) (x y : List ℕ) → dev_field_bytes f ++ x ≡ dev_field_bytes g ++ y → (f ≡ g) × (x ≡ y)
one_dev_field f g x y e =
    let a : f.number ≡ g.number = cc in
    let b : f.size ≡ g.size = cc in
    let c : f.index ≡ g.index = cc in
    let t : x ≡ y = cc in
    (λ i. record { number = a i; size = b i; index = c i }, t)

pub same_fields : (fs gs : List FieldDef) (x y : List ℕ) → length fs ≡ length gs → flat_map field_bytes fs ++ x ≡ flat_map field_bytes gs ++ y
    → (fs ≡ gs) × (x ≡ y)
same_fields = same_entries field_bytes one_field

pub same_dev_fields : (fs gs : List DevDef) (x y : List ℕ) → length fs ≡ length gs → flat_map dev_field_bytes fs ++ x ≡ flat_map dev_field_bytes gs ++ y
    → (fs ≡ gs) × (x ≡ y)
same_dev_fields = same_entries dev_field_bytes one_dev_field

-- the local type and whether there are developer fields, from the record header
same_dev : (u v : Option (List DevDef)) (l m : ℕ) (x y : List ℕ) → l < 16 → m < 16
    → 0x40 + l + unwrap_or (option_map (λ _. 0x20) u) 0 ≡ 0x40 + m + unwrap_or (option_map (λ _. 0x20) v) 0
    → dev_part u ++ x ≡ dev_part v ++ y → (l ≡ m) × (u ≡ v) × (x ≡ y)
same_dev None None l m x y p q h e = (omega arith, refl, e)
same_dev (Some u) (Some v) l m x y p q h e =
    let n : length u ≡ length v = cc in
    let t : flat_map dev_field_bytes u ++ x ≡ flat_map dev_field_bytes v ++ y = cc in
    let r = same_dev_fields u v x y n t in
    (omega arith, ap Some r.0, r.1)
same_dev _ _ l m x y p q h e = absurd (omega arith)

pub same_definition : {A : Type 0} (c d : MessageDef A) (x y : List ℕ) → DefinitionFits c → DefinitionFits d
    → (definition_header c ∷ definition_bytes c) ++ x ≡ (definition_header d ∷ definition_bytes d) ++ y → (c ≡ d) × (x ≡ y)
same_definition c d x y p q e =
    let header : definition_header c ≡ definition_header d = cc in
    let reserved : c.reserved ≡ d.reserved = cc in
    let arch : architecture c.order ≡ architecture d.order = cc in
    let order = one_order c.order d.order arch in
    let after : (number_bytes c.order 2 c.global ++ (length c.fields ∷ flat_map field_bytes c.fields) ++ dev_part c.dev) ++ x
    ≡ (number_bytes d.order 2 d.global ++ (length d.fields ∷ flat_map field_bytes d.fields) ++ dev_part d.dev) ++ y = cc in
    let parts = sym (regroup (number_bytes c.order 2 c.global) (length c.fields ∷ flat_map field_bytes c.fields) (dev_part c.dev) x) ∙ after
    ∙ regroup (number_bytes d.order 2 d.global) (length d.fields ∷ flat_map field_bytes d.fields) (dev_part d.dev) y in
    let in_order = subst (λ o. number_bytes c.order 2 c.global ++ ((length c.fields ∷ flat_map field_bytes c.fields) ++ (dev_part c.dev ++ x))
    ≡ number_bytes o 2 d.global ++ ((length d.fields ∷ flat_map field_bytes d.fields) ++ (dev_part d.dev ++ y))) (sym order) parts in
    let global = one_number c.order 2 c.global d.global _ _ p.global q.global in_order in
    let counts = global.1 in
    let count : length c.fields ≡ length d.fields = cc in
    let entries : flat_map field_bytes c.fields ++ (dev_part c.dev ++ x) ≡ flat_map field_bytes d.fields ++ (dev_part d.dev ++ y) = cc in
    let fields = same_fields c.fields d.fields _ _ count entries in
    let dev = same_dev c.dev d.dev c.local d.local x y p.local q.local header fields.1 in
    (λ i. record { local = dev.0 i; reserved = reserved i; order = order i; global = global.0 i; fields = fields.0 i; dev = dev.1 i }, dev.2)

-- ---- data

same_values : {A : Type 0} (o : Order) (fs : List (ℕ × ℕ)) (us vs : List (Items A)) (x y : List ℕ) → HaveShape fs us → HaveShape fs vs
    → flat_map (items_bytes o) us ++ x ≡ flat_map (items_bytes o) vs ++ y → (us ≡ vs) × (x ≡ y)
same_values o [] [] [] x y p q e = (refl, e)
same_values o [] (u ∷ us) vs x y p q e = absurd p
same_values o (f ∷ fs) [] vs x y p q e = absurd p
same_values o (f ∷ fs) (u ∷ us) (v ∷ vs) x y p q e =
    let first = same_items o f.0 f.1 u v (flat_map (items_bytes o) us ++ x) (flat_map (items_bytes o) vs ++ y) p.0 q.0
    (sym (append_assoc (items_bytes o u) (flat_map (items_bytes o) us) x) ∙ e ∙ append_assoc (items_bytes o v) (flat_map (items_bytes o) vs) y) in
    let others = same_values o fs us vs x y p.1 q.1 first.1 in
    (cc (first.0, others.0), others.1)
same_values o _ _ _ x y p q e = absurd q

same_data : {A : Type 0} (o : Option (Defined A)) (v w : Values A) (x y : List ℕ) → IsSomeAnd o (DataFits v) → IsSomeAnd o (DataFits w)
    → data_bytes (unwrap_or (option_map (λ p. p.definition.order) o) Little) v ++ x
    ≡ data_bytes (unwrap_or (option_map (λ p. p.definition.order) o) Little) w ++ y
    → (v.fields ≡ w.fields) × (v.dev ≡ w.dev) × (x ≡ y)
same_data None v w x y p q e = absurd p
same_data (Some d) v w x y p q e =
    let o = d.definition.order in
    let fields = same_values o (layout d) v.fields w.fields (flat_map (items_bytes o) v.dev ++ x) (flat_map (items_bytes o) w.dev ++ y) p.fields q.fields
    (sym (append_assoc (flat_map (items_bytes o) v.fields) (flat_map (items_bytes o) v.dev) x) ∙ e
    ∙ append_assoc (flat_map (items_bytes o) w.fields) (flat_map (items_bytes o) w.dev) y) in
    let dev = same_values o (dev_layout d) v.dev w.dev x y p.dev_fields q.dev_fields fields.1 in
    (fields.0, dev.0, dev.1)

pub same_header : (l m : ℕ) (s t : Option ℕ) → DataHeaderFits l s → DataHeaderFits m t → data_header l s ≡ data_header m t → (l ≡ m) × (s ≡ t)
same_header l m None None p q e = (e, refl)
same_header l m (Some s) (Some t) p q e = (omega arith, ap Some (omega arith))
same_header l m _ _ p q e = absurd (omega arith)

pub header_fits : {A : Type 0} (o : Option (Defined A)) (v : Values A) → IsSomeAnd o (DataFits v) → DataHeaderFits v.local v.offset
header_fits None v p = absurd p
header_fits (Some d) v p = p.header

-- the two kinds of record differ in their headers
two_kinds : (l m : ℕ) (u : Option (List DevDef)) (t : Option ℕ) → l < 16 → DataHeaderFits m t
    → 0x40 + l + unwrap_or (option_map (λ _. 0x20) u) 0 ≡ data_header m t → ⊥
two_kinds l m None None p q e = omega arith
two_kinds l m None (Some t) p q e = omega arith
two_kinds l m (Some u) None p q e = omega arith
two_kinds l m (Some u) (Some t) p q e = omega arith

-- what follows the bytes of a record tells it from no other
pub same_record : {A : Type 0} (e : Environment A) (r s : Record A) (x y : List ℕ) → Fits e r → Fits e s → record_bytes e r ++ x ≡ record_bytes e s ++ y
    → (r ≡ s) × (x ≡ y)
same_record e (Define c) (Define d) x y p q h = let k = same_definition c d x y p q h in (ap Define k.0, k.1)
same_record e (Define c) (Data w) x y p q h =
    let head : definition_header c ≡ data_header w.local w.offset = cc in
    absurd (two_kinds c.local w.local c.dev w.offset p.local (header_fits (defined_at e w.local) w q) head)
same_record e (Data v) (Define d) x y p q h =
    let head : definition_header d ≡ data_header v.local v.offset = cc in
    absurd (two_kinds d.local v.local d.dev v.offset q.local (header_fits (defined_at e v.local) v p) head)
same_record e (Data v) (Data w) x y p q h =
    let head : data_header v.local v.offset ≡ data_header w.local w.offset = cc in
    let tail : data_bytes (order_at e v.local) v ++ x ≡ data_bytes (order_at e w.local) w ++ y = cc in
    let header = same_header v.local w.local v.offset w.offset (header_fits (defined_at e v.local) v p) (header_fits (defined_at e w.local) w q) head in
    let k = same_data (defined_at e v.local) v w x y p
    (subst (λ l. IsSomeAnd (defined_at e l) (DataFits w)) (sym header.0) q)
    (subst (λ l. data_bytes (order_at e v.local) v ++ x ≡ data_bytes (order_at e l) w ++ y) (sym header.0) tail) in
    (λ i. Data (record { local = header.0 i; offset = header.1 i; fields = k.0 i; dev = k.1 i }), k.2)

pub one_record : {A : Type 0} → RecordsHaveOneSpelling A
one_record e r s a b x y p q h =
    let k = same_record e r s x y p.0 q.0 (sym (ap (λ t. t ++ x) p.1) ∙ h ∙ ap (λ t. t ++ y) q.1) in
    (k.0, p.1 ∙ ap (record_bytes e) k.0 ∙ sym q.1)

-- ---- lists of records

pub no_bytes : {A : Type 0} (e : Environment A) (s : Record A) (z : List ℕ) → length (record_bytes e s ++ z) ≡ 0 → ⊥
no_bytes e (Define d) z h = omega arith
no_bytes e (Data v) z h = omega arith

-- records with as many bytes are equal
pub same_records : {A : Type 0} (e : Environment A) (rs ss : List (Record A)) (x y : List ℕ) → AllFit e rs → AllFit e ss
    → length (records_bytes e rs) ≡ length (records_bytes e ss) → records_bytes e rs ++ x ≡ records_bytes e ss ++ y → rs ≡ ss
same_records e [] [] x y p q l h = refl
same_records e [] (s ∷ ss) x y p q l h = absurd (no_bytes e s (records_bytes (learn e s) ss) (sym l))
same_records e (r ∷ rs) [] x y p q l h = absurd (no_bytes e r (records_bytes (learn e r) rs) l)
same_records e (r ∷ rs) (s ∷ ss) x y p q l h =
    let first = same_record e r s (records_bytes (learn e r) rs ++ x) (records_bytes (learn e s) ss ++ y) p.0 q.0
    (sym (append_assoc (record_bytes e r) (records_bytes (learn e r) rs) x) ∙ h ∙ append_assoc (record_bytes e s) (records_bytes (learn e s) ss) y) in
    let learned = ap (learn e) first.0 in
    let total = sym (length-append (record_bytes e r) (records_bytes (learn e r) rs)) ∙ l ∙ length-append (record_bytes e s) (records_bytes (learn e s) ss) in
    let same_length = ap (λ t. length (record_bytes e t)) first.0 in
    let l' : length (records_bytes (learn e r) rs) ≡ length (records_bytes (learn e s) ss) = omega (arith, total, same_length) in
    let others = same_records (learn e r) rs ss x y p.1
    (subst (λ f. AllFit f ss) (sym learned) q.1)
    (subst (λ f. length (records_bytes (learn e r) rs) ≡ length (records_bytes f ss)) (sym learned) l')
    (subst (λ f. records_bytes (learn e r) rs ++ x ≡ records_bytes f ss ++ y) (sym learned) first.1) in
    cc (first.0, others)
