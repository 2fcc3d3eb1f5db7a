-- The lines of `show`, part by part.
use Rattle.fit_show.proofs.Common.{◌≡◌, ◌+◌, [], ◌∷◌, ◌++◌, length, map, refl, sym, ap, ap₂, ◌∙◌, arith, append_assoc, subst, get_or, take, drop, zero, suc}
use Rattle.fit_show.proofs.Common.{◌≤◌, eq-eqb, ne_eqb, length-map, map-append, take_more, Bool, true, false, ◌||◌, zip, Global, Items, FieldDef, DevDef}
use Rattle.fit_show.proofs.Common.{Naming, Defined, Values, Record, Data, dev_layout, layout, defined_at, dev_defs, known, namings_at, time}
use Rattle.fit_show.proofs.Common.{instant_text, joined, listed, message_front, message_label, message_line, record_line}
use Rattle.fit_show.proofs.Common.{separator, shown_cell, shown_dev, shown_devs, shown_field, shown_fields, shown_part, time_part}
use Rattle.fit_show.proofs.Common.{unit_part, DevKey, MessageKey, PartKey, ShownKey, dev_field_part, dev_keys, field_part, first_head, key_text, keys_text}
use Rattle.fit_show.proofs.Common.{line_front, line_head, message_key, line_keys, line_shapes, line_text, own_end, own_parts, part_texts, shown_key, shown_keys}
use Rattle.fit_show.proofs.Common.{HasFields, TakesFields}
use Rattle.std.proofs.Common.{◌<◌, ℕ, List}
use Rattle.std.proofs.Math.Seq.{drop-append_seam}
use Rattle.std.specs.Prelude.{codes, decimal, option_map, unwrap_or, Option, Some, ◌==◌, if◌then◌else◌}
use Rattle.std.proofs.lemmas.List.{append-nil, length-append, length-drop}
use Rattle.fit_shown.proofs.FieldWalks.{KnowsItems}
use Rattle.fit_texts.proofs.NamingFacts.{namings_long}

-- ---- fields one after another

pub listed-append : (n : ℕ) (xs ys : List (List ℕ)) → listed n (xs ++ ys) ≡ listed n xs ++ listed (n + length xs) ys
listed-append n [] ys = ap (λ k. listed k ys) (omega arith)
listed-append n (x ∷ xs) ys =
    ap (λ t. separator n ++ x ++ t) (listed-append (n + 1) xs ys) ∙ sym (append_assoc (separator n ++ x) (listed (n + 1) xs) (listed (n + 1 + length xs) ys))
    ∙ ap (λ k. separator n ++ x ++ listed (n + 1) xs ++ listed k ys) (omega arith)

-- ---- the parts of a message

-- the fields of a message, without other items after theirs
own_shown : (global : ℕ) (fields : List FieldDef) (items more : List (Items Global)) → length items ≡ length fields
    → part_texts (map (field_part global) fields) (items ++ more) ≡ shown_fields global fields items
own_shown global [] items more long = refl
own_shown global (f ∷ fields) [] more long = absurd (omega (arith, long))
own_shown global (f ∷ fields) (i ∷ items) more long = ap (λ ts. shown_field global f i ∷ ts) (own_shown global fields items more (omega (arith, long)))

devs_shown : (fields : List DevDef) (coded : List ℕ) (namings : List Naming) (items : List (Items Global))
    → part_texts (map dev_field_part (dev_keys fields coded namings)) items ≡ shown_devs fields coded namings items
devs_shown [] coded namings items = refl
devs_shown (f ∷ fields) [] namings items = refl
devs_shown (f ∷ fields) (code ∷ coded) [] items = refl
devs_shown (f ∷ fields) (code ∷ coded) (n ∷ namings) [] = refl
devs_shown (f ∷ fields) (code ∷ coded) (n ∷ namings) (i ∷ items) = ap (λ ts. shown_dev f code n i ∷ ts) (devs_shown fields coded namings items)

-- what is known of the developer fields to take their items
dev_key_shapes : (fields : List DevDef) (coded : List ℕ) (namings : List Naming) → length namings ≡ length fields
    → map (λ (d : DevKey). (d.code, d.size)) (dev_keys fields coded namings) ≡ zip coded (map (λ f. f.size) fields)
dev_key_shapes [] [] namings long = refl
dev_key_shapes [] (code ∷ coded) namings long = refl
dev_key_shapes (f ∷ fields) [] namings long = refl
dev_key_shapes (f ∷ fields) (code ∷ coded) [] long = absurd (omega (arith, long))
dev_key_shapes (f ∷ fields) (code ∷ coded) (n ∷ namings) long = ap (λ ts. (code, f.size) ∷ ts) (dev_key_shapes fields coded namings (omega (arith, long)))

pub shapes_known : (before : List (Record Global)) (local : ℕ) (p : Defined Global) → defined_at (known before) local ≡ Some p
    → line_shapes (message_key before local p) ≡ layout p ++ dev_layout p
shapes_known before local p place =
    ap (λ ts. layout p ++ ts) (dev_key_shapes (dev_defs p.definition.dev) p.dev_codes (namings_at before local) (namings_long before local p place))

-- the line of a message
pub line_known : (before : List (Record Global)) (p : Defined Global) (local : ℕ) (at : Option ℕ) (v : Values Global)
    → defined_at (known before) local ≡ Some p → v.local ≡ local → length v.fields ≡ length p.definition.fields → at ≡ time before (Data v)
    → line_text (message_key before local p) at (v.fields ++ v.dev) ≡ record_line before (Data v)
line_known before p local at v place is long timed =
    let global = p.definition.global in
    let fields = p.definition.fields in
    let beyond : drop (length fields) (v.fields ++ v.dev) ≡ v.dev = ap (λ n. drop n (v.fields ++ v.dev)) (sym long) ∙ drop-append_seam v.fields v.dev in
    let devs = ap (part_texts (map dev_field_part (dev_keys (dev_defs p.definition.dev) p.dev_codes (namings_at before local)))) beyond
    ∙ devs_shown (dev_defs p.definition.dev) p.dev_codes (namings_at before local) v.dev in
    ap₂ (λ own dev. message_front local global at ++ listed 0 (own ++ dev) ++ codes "\n") (own_shown global fields v.fields v.dev long) devs
    ∙ (λ i. message_front (sym is i) global (timed i)
    ++ listed 0 (shown_fields global fields v.fields ++ shown_devs (dev_defs p.definition.dev) p.dev_codes (namings_at before (sym is i)) v.dev)
    ++ codes "\n")
    ∙ ap (λ o. unwrap_or (option_map (λ q. message_line v q (time before (Data v)) (namings_at before v.local)) o) [])
    (sym (ap (defined_at (known before)) is ∙ place))

-- ---- what stands between the cells of a message

-- a unit after its cell, and what stands before the next one
unit_after : (a b : Bool) (text head : List ℕ) → (if a then head else (if b then [] else text) ++ head) ≡ (if a || b then [] else text) ++ head
unit_after true b text head = refl
unit_after false b text head = refl

key_shown : {A : Type 0} (p : PartKey) (head : List ℕ) (i : Items A)
    → key_text (shown_key p head) i ≡ shown_cell p.code p.info i ++ (unit_part (shown_cell p.code p.info i) p.unit ++ head)
key_shown p head i =
    let text = shown_cell p.code p.info i in
    ap (λ t. text ++ t) (unit_after (length text == 0) (length p.unit == 0) (joined (codes " " ∷ p.unit ∷ [])) head)

line_regroup : (s n c u h r : List ℕ) → (s ++ (n ++ codes "=")) ++ ((c ++ (u ++ h)) ++ r) ≡ (s ++ (n ++ (codes "=" ++ (c ++ (u ++ []))))) ++ (h ++ r)
line_regroup s n c u h r = simp (append_assoc, append-nil)

-- fields one after another, before others
keys_shown : {A : Type 0} (before : ℕ) (parts : List PartKey) (end : List ℕ) (more : List ShownKey) (items : List (Items A)) → length parts ≤ length items
    → first_head before parts end ++ keys_text (shown_keys before parts end ++ more) items
    ≡ listed before (part_texts parts items) ++ (end ++ keys_text more (drop (length parts) items))
keys_shown before [] end more items long = refl
keys_shown before (p ∷ parts) end more [] long = absurd (omega (arith, long))
keys_shown before (p ∷ parts) end more (i ∷ items) long =
    let text = shown_cell p.code p.info i in
    let unit = unit_part text p.unit in
    let head = first_head (before + 1) parts end in
    let others = keys_text (shown_keys (before + 1) parts end ++ more) items in
    let beyond = end ++ keys_text more (drop (length parts) items) in
    ap (λ t. joined (separator before ∷ p.name ∷ codes "=" ∷ []) ++ (t ++ others)) (key_shown p head i)
    ∙ line_regroup (separator before) p.name text unit head others
    ∙ ap (λ t. (separator before ++ shown_part p.name text p.unit) ++ t) (keys_shown (before + 1) parts end more items (omega (arith, long)))
    ∙ sym (append_assoc (separator before ++ shown_part p.name text p.unit) (listed (before + 1) (part_texts parts items)) beyond)

length-part_texts : {A : Type 0} (parts : List PartKey) (items : List (Items A)) → length parts ≤ length items
    → length (part_texts parts items) ≡ length parts
length-part_texts [] items long = refl
length-part_texts (p ∷ parts) [] long = absurd (omega (arith, long))
length-part_texts (p ∷ parts) (i ∷ items) long = ap suc (length-part_texts parts items (omega (arith, long)))

-- the fields and developer fields of a message, and the end of its line
line_cells : {A : Type 0} (k : MessageKey) (items : List (Items A)) → length k.own.fields + length k.devs ≤ length items
    → line_head k ++ keys_text (line_keys k) items
    ≡ listed 0 (part_texts (own_parts k.own) items ++ part_texts (map dev_field_part k.devs) (drop (length k.own.fields) items)) ++ codes "\n"
line_cells k items long =
    let own = own_parts k.own in
    let devs = map dev_field_part k.devs in
    let many : length own ≡ length k.own.fields = length-map k.own.fields (field_part k.own.global) in
    let more : length devs ≡ length k.devs = length-map k.devs dev_field_part in
    let n = length k.own.fields in
    let fits : length own ≤ length items = omega (arith, long, many) in
    let left : length devs ≤ length (drop n items) = omega (arith, long, more, length-drop n items) in
    let own_texts = part_texts own items in
    let dev_texts = part_texts devs (drop n items) in
    let both : listed 0 own_texts ++ listed n dev_texts ≡ listed 0 (own_texts ++ dev_texts) =
    ap (λ m. listed 0 own_texts ++ listed m dev_texts) (omega (arith, many, length-part_texts own items fits))
    ∙ sym (listed-append 0 own_texts dev_texts) in
    keys_shown 0 own (own_end k) (shown_keys n devs (codes "\n")) items fits
    ∙ ap (λ m. listed 0 own_texts ++ (own_end k ++ keys_text (shown_keys n devs (codes "\n")) (drop m items))) many
    ∙ ap (λ ks. listed 0 own_texts ++ (own_end k ++ keys_text ks (drop n items))) (sym (append-nil (shown_keys n devs (codes "\n"))))
    ∙ ap (λ t. listed 0 own_texts ++ t) (keys_shown n devs (codes "\n") [] (drop n items) left)
    ∙ sym (append_assoc (listed 0 own_texts) (listed n dev_texts) (codes "\n"))
    ∙ ap (λ t. t ++ codes "\n") both

-- what is known of a field to take its items
abbrev pub key_shape : ShownKey → ℕ × ℕ
key_shape k = (k.code, k.size)

abbrev pub dev_shape : DevKey → ℕ × ℕ
dev_shape d = (d.code, d.size)

own_shapes : (before global : ℕ) (fields : List FieldDef) (end : List ℕ)
    → map key_shape (shown_keys before (map (field_part global) fields) end) ≡ map (λ f. (f.code, f.size)) fields
own_shapes before global [] end = refl
own_shapes before global (f ∷ fields) end = ap (λ xs. (f.code, f.size) ∷ xs) (own_shapes (before + 1) global fields end)

dev_shapes : (before : ℕ) (devs : List DevKey) (end : List ℕ)
    → map key_shape (shown_keys before (map dev_field_part devs) end) ≡ map dev_shape devs
dev_shapes before [] end = refl
dev_shapes before (d ∷ devs) end = ap (λ xs. (d.code, d.size) ∷ xs) (dev_shapes (before + 1) devs end)

pub shown_shapes : (k : MessageKey) → map key_shape (line_keys k) ≡ line_shapes k
shown_shapes k =
    map-append key_shape (shown_keys 0 (own_parts k.own) (own_end k)) (shown_keys (length k.own.fields) (map dev_field_part k.devs) (codes "\n"))
    ∙ ap₂ (λ a b. a ++ b) (own_shapes 0 k.own.global k.own.fields (own_end k)) (dev_shapes (length k.own.fields) k.devs (codes "\n"))

pub keys_long : {X : Type 0} (part : X → PartKey) (before : ℕ) (xs : List X) (end : List ℕ) → length (shown_keys before (map part xs) end) ≡ length xs
keys_long part before [] end = refl
keys_long part before (x ∷ xs) end = ap suc (keys_long part (before + 1) xs end)

key_at : {X : Type 0} (part : X → PartKey) (before : ℕ) (xs : List X) (end : List ℕ) (k : ℕ) (d : X) (e : ShownKey) → k < length xs
    → get_or (shown_keys before (map part xs) end) k e
    ≡ shown_key (part (get_or xs k d)) (first_head (before + suc k) (map part (drop (suc k) xs)) end)
key_at part before [] end k d e within = absurd (omega (arith, within))
key_at part before (x ∷ xs) end zero d e within = refl
key_at part before (x ∷ xs) end (suc k) d e within =
    key_at part (before + 1) xs end k d e (omega (arith, within))
    ∙ ap (λ n. shown_key (part (get_or xs k d)) (first_head n (map part (drop (suc k) xs)) end)) (omega arith)

-- one field more
pub shown_taken : {X : Type 0} (part : X → PartKey) (before : ℕ) (xs : List X) (end : List ℕ) (k : ℕ) (d : X) → k < length xs
    → take (k + 1) (shown_keys before (map part xs) end)
    ≡ take k (shown_keys before (map part xs) end)
    ++ (shown_key (part (get_or xs k d)) (first_head (before + (k + 1)) (map part (drop (k + 1) xs)) end) ∷ [])
shown_taken part before xs end k d within =
    let keys = shown_keys before (map part xs) end in
    let one : suc k ≡ k + 1 = omega arith in
    take_more keys k (shown_key (part d) []) (omega (arith, within, keys_long part before xs end))
    ∙ ap (λ (x : ShownKey). take k keys ++ (x ∷ [])) (key_at part before xs end k d (shown_key (part d) []) within
    ∙ (λ i. shown_key (part (get_or xs k d)) (first_head (before + one i) (map part (drop (one i) xs)) end)))

is_same : (k m n : ℕ) → m ≡ n + k → (m == n) ≡ (k == 0)
is_same zero m n e = eq-eqb m n (omega (arith, e))
is_same (suc k) m n e = ne_eqb m n (λ same. omega (arith, e, same)) ∙ sym (ne_eqb (suc k) 0 (λ same. omega (arith, same)))

-- a cell, and what comes after it
pub cell_after : (old cell celled all bare full beyond : List ℕ) (m n : ℕ) → celled ≡ old ++ cell → m ≡ length celled → n ≡ length old
    → beyond ≡ (if m == n then bare else full) → all ≡ celled ++ beyond → all ≡ old ++ (cell ++ (if length cell == 0 then bare else full))
cell_after old cell celled all bare full beyond m n first now before is last =
    let more : m ≡ n + length cell = omega (arith, now, before, ap length first, length-append old cell) in
    last ∙ ap₂ (λ t u. t ++ u) first (is ∙ ap (λ b. if b then bare else full) (is_same (length cell) m n more))
    ∙ append_assoc old cell (if length cell == 0 then bare else full)

-- a field after others
abbrev pub key_after : {A : Type 0} → List ℕ → ShownKey → Items A → List ℕ
key_after t k i = t ++ key_text k i

pub key_more : {A : Type 0} (t : List ℕ) (k : ShownKey) (ks : List ShownKey) (i : Items A) (is : List (Items A))
    → key_after t k i ++ keys_text ks is ≡ t ++ keys_text (k ∷ ks) (i ∷ is)
key_more t k ks i is = append_assoc t (key_text k i) (keys_text ks is)

-- ---- the front of a message

-- what stands before the time, and the time
pub front_parts : (local global : ℕ) (at : Option ℕ) → line_front local global ++ time_part at ≡ message_front local global at
front_parts local global at =
    ap (λ x. 32 ∷ 32 ∷ x) (
    append_assoc (decimal local) (32 ∷ (message_label global ++ [])) (time_part at)
    ∙ ap (λ x. decimal local ++ (32 ∷ x))
    (append_assoc (message_label global) [] (time_part at) ∙ ap (λ x. message_label global ++ x) (sym (append-nil (time_part at))))
    )

parts_regroup : (old front time head cells : List ℕ) → (((old ++ front) ++ time) ++ head) ++ cells ≡ old ++ ((front ++ time) ++ (head ++ cells))
parts_regroup old front time head cells = simp append_assoc

-- a time after what stands before it
pub time_put : (old front one two : List ℕ) (t : ℕ) → one ≡ old ++ (front ++ codes " ") → two ≡ one ++ instant_text t
    → two ≡ old ++ (front ++ time_part (Some t))
time_put old front one two t label time =
    time ∙ ap (λ u. u ++ instant_text t) label ∙ append_assoc old (front ++ codes " ") (instant_text t)
    ∙ ap (λ u. old ++ u) (append_assoc front (codes " ") (instant_text t) ∙ ap (λ u. front ++ (32 ∷ u)) (sym (append-nil (instant_text t))))

-- the line of a message, put in four parts
pub line_parts : {A : Type 0} (k : MessageKey) (at : Option ℕ) (items : List (Items A)) (old one two three four : List ℕ)
    → one ≡ old ++ line_front k.own.local k.own.global → two ≡ one ++ time_part at → three ≡ two ++ line_head k
    → four ≡ three ++ keys_text (line_keys k) items → length k.own.fields + length k.devs ≤ length items → four ≡ old ++ line_text k at items
line_parts k at items old one two three four first second third fourth long =
    let cells = keys_text (line_keys k) items in
    let head = line_head k in
    fourth ∙ ap (λ t. t ++ cells) (third ∙ ap (λ t. t ++ head) (second ∙ ap (λ t. t ++ time_part at) first))
    ∙ parts_regroup old (line_front k.own.local k.own.global) (time_part at) head cells
    ∙ ap₂ (λ a b. old ++ (a ++ b)) (front_parts k.own.local k.own.global at) (line_cells k items long)
    ∙ ap (λ t. old ++ t) (sym (append_assoc (message_front k.own.local k.own.global at)
    (listed 0 (part_texts (own_parts k.own) items ++ part_texts (map dev_field_part k.devs) (drop (length k.own.fields) items))) (codes "\n")))

-- ---- a message by what is kept for its definition

module _ {S : Type 0} (has : KnowsItems S) (from : S) (key : MessageKey) (before : List (Record Global)) (p : Defined Global) (local : ℕ) where
  module _ (same : key ≡ message_key before local p) (place : defined_at (known before) local ≡ Some p) where
    shapes : line_shapes key ++ [] ≡ layout p ++ dev_layout p
    shapes = append-nil (line_shapes key) ∙ ap line_shapes same ∙ shapes_known before local p place

    pub line_items : (all : List (Items Global)) → has from (layout p ++ dev_layout p) all → HasFields has from (line_shapes key)
    line_items all h = ([], all, subst (λ fs. has from fs all) (sym shapes) h)

    pub line_put : (now : S) (at : Option ℕ) (old new : List ℕ) → TakesFields has from now (line_shapes key) (λ all. new ≡ old ++ line_text key at all)
        → (v : Values Global) → v.local ≡ local → length v.fields ≡ length p.definition.fields → at ≡ time before (Data v)
        → has from (layout p ++ dev_layout p) (v.fields ++ v.dev) → new ≡ old ++ record_line before (Data v)
    line_put now at old new takes v is long timed h =
        let all = v.fields ++ v.dev in
        let t = takes [] all (subst (λ fs. has from fs all) (sym shapes) h) in
        t.2 ∙ ap (λ k. old ++ line_text k at all) same ∙ ap (λ u. old ++ u) (line_known before p local at v place is long timed)
