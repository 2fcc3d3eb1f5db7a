-- Which definitions in progress can be completed so that records fill the room: the tests and what they mean.
use Rattle.fit_record.proofs.Common.{◌≡◌, ℕ, ◌+◌, ◌-◌, ◌*◌, ◌^◌, ◌<◌, ◌≤◌, ◌⊎◌, inl, inr, ◌↔◌, IsTrue, true, List, [], ◌∷◌, ◌++◌, length, refl, sym, ap, ◌∙◌}
use Rattle.fit_record.proofs.Common.{subst, arith, lit<, append_assoc, length-append, None, Some, get_or, sum_by, flat_map, ◌==◌, ◌||◌, ◌&&◌, nat_le, unwrap_or}
use Rattle.fit_record.proofs.Common.{option_map, or_cases, or_left, or_right, and_parts, and_from, leb-true, le-leb, append-nil, Order, Little, Big, IsBytes}
use Rattle.fit_record.proofs.Common.{number_bytes, front_back, IsBytes-append, IsBytes-cons, IsBytes-none, FieldDef, DevDef, MessageDef, Environment, dev_defs}
use Rattle.fit_record.proofs.Common.{architecture, field_bytes, dev_field_bytes, dev_part, definition_header, definition_bytes, others_have, can_fill_with}
use Rattle.fit_record.proofs.Common.{can_fill_from, finishes, can_complete, can_complete_dev, CanComplete, IsCut, fields_part, dev_fields_part, size_so_far}
use Rattle.fit_record.proofs.Common.{body_length, CanFill, Define, learn, Option}
use Rattle.fit_record.proofs.RoomSums.{fills_6}
use Rattle.fit_record.proofs.EntryParts.{sizes_known, goes_on, length-entries}
use Rattle.fit_record.proofs.DefinitionInPlace.{can_fill_after, open_from, open_to, IsOpenSize, finishes_from, finishes_to, completes_from, IsSize}

-- ---- what stands before the entries

-- both spell four bytes first
strip : (o p : Order) (g h : ℕ) (x y u v w : List ℕ) → (number_bytes o 2 g ++ x) ++ y ≡ ((number_bytes p 2 h ++ u) ++ v) ++ w → x ++ y ≡ (u ++ v) ++ w
strip Little Little g h x y u v w e = cc
strip Little Big g h x y u v w e = cc
strip Big Little g h x y u v w e = cc
strip Big Big g h x y u v w e = cc

after_front : {A : Type 0} (c d : MessageDef A) (count : ℕ) (entry rest : List ℕ) → definition_bytes c ≡ fields_part d count entry ++ rest
    → (length c.fields ≡ count) × (flat_map field_bytes c.fields ++ dev_part c.dev ≡ flat_map field_bytes d.fields ++ entry ++ rest)
after_front c d count entry rest e =
    let past : (number_bytes c.order 2 c.global ++ (length c.fields ∷ flat_map field_bytes c.fields)) ++ dev_part c.dev
    ≡ ((number_bytes d.order 2 d.global ++ (count ∷ flat_map field_bytes d.fields)) ++ entry) ++ rest = cc in
    let entries = strip c.order d.order c.global d.global (length c.fields ∷ flat_map field_bytes c.fields) (dev_part c.dev)
    (count ∷ flat_map field_bytes d.fields) entry rest past in
    (cc, cc)

-- a definition with these fields goes on so
join : {A : Type 0} (d : MessageDef A) (fields : List FieldDef) (dev : Option (List DevDef)) (count : ℕ) (entry rest : List ℕ) → length fields ≡ count
    → flat_map field_bytes fields ++ dev_part dev ≡ flat_map field_bytes d.fields ++ entry ++ rest
    → definition_bytes (record d { fields = fields; dev = dev }) ≡ fields_part d count entry ++ rest
join d fields dev count entry rest n e =
    let front = d.reserved ∷ architecture d.order ∷ number_bytes d.order 2 d.global in
    append_assoc front (length fields ∷ flat_map field_bytes fields) (dev_part dev)
    ∙ ap (λ (z : List ℕ). front ++ z) (cc (n, e))
    ∙ sym (append_assoc front ((count ∷ flat_map field_bytes d.fields) ++ entry) rest)
    ∙ ap (λ (z : List ℕ). z ++ rest) (sym (append_assoc front (count ∷ flat_map field_bytes d.fields) entry))

-- ---- record headers

abbrev header_with : ℕ → Option (List DevDef) → ℕ
header_with local dev = 0x40 + local + unwrap_or (option_map (λ _. 0x20) dev) 0

no_dev : (u : Option (List DevDef)) (l m : ℕ) → l < 16 → m < 16 → header_with l u ≡ 0x40 + m + 0 → (l ≡ m) × (u ≡ None)
no_dev None l m p q e = (omega arith, refl)
no_dev (Some u) l m p q e = absurd (omega arith)

some_dev : (u : Option (List DevDef)) (l m : ℕ) → l < 16 → m < 16 → header_with l u ≡ 0x40 + m + 0x20 → (l ≡ m) × (ds : List DevDef) × (u ≡ Some ds)
some_dev None l m p q e = absurd (omega arith)
some_dev (Some u) l m p q e = (omega arith, u, refl)

-- ---- sizes

abbrev field_sizes : List FieldDef → ℕ
field_sizes fs = sum_by (λ f. f.size) fs

abbrev dev_sizes : Option (List DevDef) → ℕ
dev_sizes dev = sum_by (λ f. f.size) (dev_defs dev)

length-devs : (devs : List DevDef) → length (flat_map dev_field_bytes devs) ≡ 3 * length devs
length-devs devs = length-entries (λ (f : DevDef). f.number) (λ f. f.size) (λ f. f.index) devs

-- what can be filled after a definition of the same local message type
filled : {A : Type 0} (e : Environment A) (c : MessageDef A) (local left : ℕ) → length e.places ≡ 16 → local < 16 → c.local ≡ local
    → CanFill (learn e (Define c)) left → can_fill_with e local (body_length c) left ≡ true
filled e c local left sixteen low same fill =
    subst (λ l. can_fill_with e l (body_length c) left ≡ true) same ((can_fill_after e c left sixteen (omega (arith, same, low))).1 fill)

-- ---- fields

module _ {A : Type 0} (e : Environment A) (d : MessageDef A) (count : ℕ) (entry : List ℕ) (t room : ℕ)
    (sixteen : length e.places ≡ 16) (local : d.local < 16) (global : d.global < 2 ^ 16) (counts : count < 256) (cut : IsCut count (length d.fields) entry t)
  where
    abbrev Completes : Type 0
    Completes = CanComplete e (definition_header d) (fields_part d count entry) room

    -- the sizes of the fields that have come
    abbrev come : ℕ
    come = field_sizes d.fields + get_or entry 1 0

    -- the fields go on so, and then come these developer fields
    completes_with : (dev : Option (List DevDef)) (extra left : ℕ) → header_with d.local dev ≡ definition_header d → dev_sizes d.dev ≡ 0
        → length (dev_defs dev) < 256 → IsBytes (dev_part dev) → t + length (dev_part dev) + left ≡ room → (t < 2 → extra ≡ 0) → extra < 256
        → can_fill_with e d.local (size_so_far d entry + extra + dev_sizes dev) left ≡ true → Completes
    completes_with dev extra left header none few are room_is closed small fill =
        let r = goes_on (λ (f : FieldDef). f.number) (λ f. f.size) (λ f. f.code) (λ a b c. record { number = a; size = b; code = c }) (λ a b c. refl)
        d.fields entry t count extra cut.0 cut.1 closed small in
        let c : MessageDef A = record d { fields = r.entries; dev = dev } in
        let size : size_so_far d entry + extra + dev_sizes dev ≡ body_length c = omega (arith, none, r.sized) in
        let spelled : flat_map field_bytes r.entries ++ dev_part dev ≡ flat_map field_bytes d.fields ++ entry ++ (r.rest ++ dev_part dev) =
        ap (λ (z : List ℕ). z ++ dev_part dev) r.spelled ∙ append_assoc (flat_map field_bytes d.fields ++ entry) r.rest (dev_part dev) in (
          c,
          r.rest ++ dev_part dev,
          left,
          record { local = local; global = global; fields = omega (arith, r.counted); dev_fields = few },
          header,
          join d r.entries dev count entry (r.rest ++ dev_part dev) r.counted spelled,
          IsBytes-append r.rest (dev_part dev) r.are_bytes are,
          (can_fill_after e c left sixteen local).0 (subst (λ s. can_fill_with e d.local s left ≡ true) size fill),
          omega (arith, r.to_come, length-append r.rest (dev_part dev), room_is),
        )

    -- no developer fields come then
    completes_without : dev_defs d.dev ≡ [] → IsBytes (dev_part d.dev) → (left : ℕ) → t + length (dev_part d.dev) + left ≡ room
        → IsSize e d.local t (size_so_far d entry) left → Completes
    completes_without none are left room_is (extra, small, closed, fill) =
        let sum : dev_sizes d.dev ≡ 0 = ap (sum_by (λ (f : DevDef). f.size)) none in
        let size : size_so_far d entry + extra ≡ size_so_far d entry + extra + dev_sizes d.dev = omega (arith, sum) in
        completes_with d.dev extra left refl sum (subst (λ ds. length ds < 256) (sym none) (lit< tt)) are room_is closed small
        (subst (λ s. can_fill_with e d.local s left ≡ true) size fill)

    completes : d.dev ≡ None → IsTrue (can_complete e d.local t (size_so_far d entry) room) → Completes
    completes none h =
        let parts = and_parts (nat_le t room) _ h in
        completes_without (ap dev_defs none) (subst (λ o. IsBytes (dev_part o)) (sym none) IsBytes-none) (room - t)
        (omega (arith, leb-true t room parts.0, ap (λ o. length (dev_part o)) none)) (finishes_to e d.local t (size_so_far d entry) (room - t) parts.1)

    -- what the bytes of a definition tell of its sizes, and of what is to come
    known : (c : MessageDef A) (rest : List ℕ) → definition_bytes c ≡ fields_part d count entry ++ rest
        → (come ≤ field_sizes c.fields) × (t < 2 → field_sizes c.fields ≡ come) × (length rest ≡ t + length (dev_part c.dev))
    known c rest spelled =
        let parts = after_front c d count entry rest spelled in
        sizes_known (λ (f : FieldDef). f.number) (λ f. f.size) (λ f. f.code) c.fields d.fields entry rest (dev_part c.dev) t cut.0
        (omega (arith, cut.1, parts.0)) parts.1

    completed : d.dev ≡ None → Completes → IsTrue (can_complete e d.local t (size_so_far d entry) room)
    completed none (c, rest, left, fits, header, spelled, are, fill, total) =
        let h = no_dev c.dev c.local d.local fits.local local (header ∙ ap (header_with d.local) none) in
        let k = known c rest spelled in
        let before = ap dev_sizes none in
        let after = ap dev_sizes h.1 in
        completes_from e d.local t (size_so_far d entry) (body_length c) left room (omega (arith, k.0, before, after))
        (λ b. omega (arith, k.1 b, before, after))
        (omega (arith, k.2, ap (λ o. length (dev_part o)) h.1, total)) (filled e c d.local left sixteen local h.0 fill)

    -- where no developer fields follow, and bytes of the fields' entries alone are to come
    pub fields_can_complete : d.dev ≡ None → IsTrue (can_complete e d.local t (size_so_far d entry) room)
        ↔ CanComplete e (definition_header d) (fields_part d count entry) room
    fields_can_complete none = (completes none, completed none)

    -- ---- fields, where the number of developer fields is to come after them

    -- what is left once that number has come
    abbrev beyond : ℕ
    beyond = room - (t + 1)

    abbrev Finishes : Type 0
    Finishes = (finishes e d.local t (size_so_far d entry) beyond || (nat_le 3 beyond && can_fill_from e d.local (size_so_far d entry) (beyond - 3))) ≡ true

    completes_dev : d.dev ≡ Some [] → IsTrue (can_complete_dev e d.local t (size_so_far d entry) room) → Completes
    completes_dev some h = go (or_cases (finishes e d.local t (size_so_far d entry) beyond) _ (and_parts (nat_le (t + 1) room) _ h).1) where
      enough : t + 1 ≤ room
      enough = leb-true (t + 1) room (and_parts (nat_le (t + 1) room) _ h).0

      with_one : 3 ≤ beyond → IsOpenSize e d.local (size_so_far d entry) (beyond - 3) → Completes
      with_one three (extra, small, fill) =
          let size : size_so_far d entry + extra ≡ size_so_far d entry + 0 + (0 + extra) = omega arith in
          completes_with (Some (record { number = 0; size = extra; index = 0 } ∷ [])) 0 (beyond - 3) (ap (header_with d.local) (sym some)) (ap dev_sizes some)
          (lit< tt)
          (IsBytes-cons 1 (0 ∷ extra ∷ 0 ∷ []) (lit< tt)
          (IsBytes-cons 0 (extra ∷ 0 ∷ []) (lit< tt) (IsBytes-cons extra (0 ∷ []) small (IsBytes-cons 0 [] (lit< tt) IsBytes-none))))
          (omega (arith, enough, three)) (λ _. refl) (lit< tt)
          (subst (λ s. can_fill_with e d.local s (beyond - 3) ≡ true) size fill)

      go : (finishes e d.local t (size_so_far d entry) beyond ≡ true)
          ⊎ ((nat_le 3 beyond && can_fill_from e d.local (size_so_far d entry) (beyond - 3)) ≡ true) → Completes
      go (inl k) =
          completes_without (ap dev_defs some) (subst (λ o. IsBytes (dev_part o)) (sym some) (IsBytes-cons 0 [] (lit< tt) IsBytes-none)) beyond
          (omega (arith, enough, ap (λ o. length (dev_part o)) some)) (finishes_to e d.local t (size_so_far d entry) beyond k)
      go (inr k) =
          let p = and_parts (nat_le 3 beyond) (can_fill_from e d.local (size_so_far d entry) (beyond - 3)) k in
          with_one (leb-true 3 beyond p.0) (open_to e d.local (size_so_far d entry) (beyond - 3) p.1)

    completed_dev : d.dev ≡ Some [] → Completes → IsTrue (can_complete_dev e d.local t (size_so_far d entry) room)
    completed_dev some (c, rest, left, fits, header, spelled, are, fill, total) =
        go (some_dev c.dev c.local d.local fits.local local (header ∙ ap (header_with d.local) some)) where
          k : (come ≤ field_sizes c.fields) × (t < 2 → field_sizes c.fields ≡ come) × (length rest ≡ t + length (dev_part c.dev))
          k = known c rest spelled

          before : dev_sizes d.dev ≡ 0
          before = ap dev_sizes some

          by_count : (ds : List DevDef) → c.dev ≡ Some ds → left + 3 * length ds ≡ beyond → can_fill_with e d.local (body_length c) left ≡ true → Finishes
          by_count [] h remains f =
              let after = ap dev_sizes h in
              or_left (finishes e d.local t (size_so_far d entry) beyond) _
              (finishes_from e d.local t (size_so_far d entry) (body_length c) beyond (omega (arith, k.0, before, after))
              (λ b. omega (arith, k.1 b, before, after))
              (subst (λ n. can_fill_with e d.local (body_length c) n ≡ true) (let l : left ≡ beyond = omega (arith, remains) in l) f))
          by_count (_ ∷ []) h remains f =
              or_right (finishes e d.local t (size_so_far d entry) beyond) _
              (and_from (nat_le 3 beyond) _ (le-leb 3 beyond (omega (arith, remains)))
              (open_from e d.local (size_so_far d entry) (body_length c) (beyond - 3) (omega (arith, k.0, before))
              (subst (λ n. can_fill_with e d.local (body_length c) n ≡ true) (let l : left ≡ beyond - 3 = omega (arith, remains) in l) f)))
          by_count (_ ∷ _ ∷ ds) h remains f =
              or_left (finishes e d.local t (size_so_far d entry) beyond) _
              (finishes_from e d.local t (size_so_far d entry) (size_so_far d entry) beyond (omega arith) (λ b. refl)
              (fills_6 (λ n. others_have e d.local n || (1 + size_so_far d entry == n)) beyond (omega (arith, remains))))

          go : (c.local ≡ d.local) × (ds : List DevDef) × (c.dev ≡ Some ds) → IsTrue (can_complete_dev e d.local t (size_so_far d entry) room)
          go (same, ds, h) =
              let after : length (dev_part c.dev) ≡ 1 + 3 * length ds = omega (arith, ap (λ o. length (dev_part o)) h, length-devs ds) in
              and_from (nat_le (t + 1) room) _ (le-leb (t + 1) room (omega (arith, k.2, after, total)))
              (by_count ds h (omega (arith, k.2, after, total)) (filled e c d.local left sixteen local same fill))

    -- where the number of developer fields is to come after the bytes of the fields' entries
    pub dev_can_complete : d.dev ≡ Some [] → IsTrue (can_complete_dev e d.local t (size_so_far d entry) room)
        ↔ CanComplete e (definition_header d) (fields_part d count entry) room
    dev_can_complete some = (completes_dev some, completed_dev some)

-- ---- developer fields

after_dev_front : {A : Type 0} (c d : MessageDef A) (ds : List DevDef) (count : ℕ) (entry rest : List ℕ) → c.dev ≡ Some ds
    → definition_bytes c ≡ dev_fields_part d count entry ++ rest
    → (field_sizes c.fields ≡ field_sizes d.fields) × (length ds ≡ count)
    × (flat_map dev_field_bytes ds ++ [] ≡ flat_map dev_field_bytes (dev_defs d.dev) ++ entry ++ rest)
after_dev_front c d ds count entry rest h e =
    let whole = fields_part d (length d.fields) [] in
    let tail : List ℕ = (count ∷ flat_map dev_field_bytes (dev_defs d.dev) ++ entry) ++ rest in
    let regrouped : definition_bytes c ≡ whole ++ tail =
    e ∙ ap (λ (z : List ℕ). z ++ rest) (append_assoc whole (count ∷ flat_map dev_field_bytes (dev_defs d.dev)) entry)
    ∙ append_assoc whole (count ∷ flat_map dev_field_bytes (dev_defs d.dev) ++ entry) rest in
    let parts = after_front c d (length d.fields) [] tail regrouped in
    let lengths : 3 * length d.fields + 0 + 0 ≡ 3 * length c.fields = omega (arith, parts.0) in
    let known = sizes_known (λ (f : FieldDef). f.number) (λ f. f.size) (λ f. f.code) c.fields d.fields [] tail (dev_part c.dev) 0 (lit< tt) lengths parts.1 in
    let same = front_back (flat_map field_bytes c.fields) (flat_map field_bytes d.fields) (dev_part c.dev) tail
    (omega (
      arith,
      parts.0,
      length-entries (λ (f : FieldDef). f.number) (λ f. f.size) (λ f. f.code) c.fields,
      length-entries (λ (f : FieldDef). f.number) (λ f. f.size) (λ f. f.code) d.fields,
    ))
    (parts.1 ∙ ap (λ (z : List ℕ). z ++ tail) (append-nil (flat_map field_bytes d.fields))) in
    let devs : length ds ∷ flat_map dev_field_bytes ds ≡ count ∷ ((flat_map dev_field_bytes (dev_defs d.dev) ++ entry) ++ rest) = ap dev_part (sym h) ∙ same.1
    in
    let sum : field_sizes c.fields ≡ field_sizes d.fields = omega (arith, known.1 (lit< tt)) in
    let entries : flat_map dev_field_bytes ds ≡ (flat_map dev_field_bytes (dev_defs d.dev) ++ entry) ++ rest = cc in
    (sum, cc, append-nil (flat_map dev_field_bytes ds) ∙ entries)

join_dev : {A : Type 0} (d : MessageDef A) (dev : List DevDef) (count : ℕ) (entry rest : List ℕ) → length dev ≡ count
    → flat_map dev_field_bytes dev ≡ flat_map dev_field_bytes (dev_defs d.dev) ++ entry ++ rest
    → definition_bytes (record d { dev = Some dev }) ≡ dev_fields_part d count entry ++ rest
join_dev d dev count entry rest n e =
    let whole = fields_part d (length d.fields) [] in
    let tail : List ℕ = (count ∷ flat_map dev_field_bytes (dev_defs d.dev) ++ entry) ++ rest in
    let devs : dev_part (Some dev) ≡ tail = cc (n, e) in
    let fields : flat_map field_bytes d.fields ++ dev_part (Some dev) ≡ flat_map field_bytes d.fields ++ [] ++ tail =
    ap (λ (z : List ℕ). flat_map field_bytes d.fields ++ z) devs ∙ ap (λ (z : List ℕ). z ++ tail) (sym (append-nil (flat_map field_bytes d.fields))) in
    join d d.fields (Some dev) (length d.fields) [] tail refl fields
    ∙ sym (append_assoc whole (count ∷ flat_map dev_field_bytes (dev_defs d.dev) ++ entry) rest)
    ∙ ap (λ (z : List ℕ). z ++ rest) (sym (append_assoc whole (count ∷ flat_map dev_field_bytes (dev_defs d.dev)) entry))

module _ {A : Type 0} (e : Environment A) (d : MessageDef A) (devs : List DevDef) (count : ℕ) (entry : List ℕ) (t room : ℕ)
    (sixteen : length e.places ≡ 16) (local : d.local < 16) (global : d.global < 2 ^ 16) (fields : length d.fields < 256) (counts : count < 256)
    (some : d.dev ≡ Some devs) (cut : IsCut count (length devs) entry t) where
  completes_devs : IsTrue (can_complete e d.local t (size_so_far d entry) room) → CanComplete e (definition_header d) (dev_fields_part d count entry) room
  completes_devs h = go (finishes_to e d.local t (size_so_far d entry) (room - t) (and_parts (nat_le t room) _ h).1) where
    go : IsSize e d.local t (size_so_far d entry) (room - t) → CanComplete e (definition_header d) (dev_fields_part d count entry) room
    go (extra, small, closed, fill) =
        let r = goes_on (λ (f : DevDef). f.number) (λ f. f.size) (λ f. f.index) (λ a b c. record { number = a; size = b; index = c }) (λ a b c. refl)
        devs entry t count extra cut.0 cut.1 closed small in
        let c : MessageDef A = record d { dev = Some r.entries } in
        let size : size_so_far d entry + extra ≡ body_length c = omega (arith, ap dev_sizes some, r.sized) in
        let spelled : flat_map dev_field_bytes r.entries ≡ flat_map dev_field_bytes (dev_defs d.dev) ++ entry ++ r.rest =
        r.spelled ∙ ap (λ o. flat_map dev_field_bytes (dev_defs o) ++ entry ++ r.rest) (sym some) in (
          c,
          r.rest,
          room - t,
          record { local = local; global = global; fields = fields; dev_fields = omega (arith, r.counted) },
          ap (header_with d.local) (sym some),
          join_dev d r.entries count entry r.rest r.counted spelled,
          r.are_bytes,
          (can_fill_after e c (room - t) sixteen local).0 (subst (λ s. can_fill_with e d.local s (room - t) ≡ true) size fill),
          omega (arith, r.to_come, leb-true t room (and_parts (nat_le t room) _ h).0),
        )

  completed_devs : CanComplete e (definition_header d) (dev_fields_part d count entry) room → IsTrue (can_complete e d.local t (size_so_far d entry) room)
  completed_devs (c, rest, left, fits, header, spelled, are, fill, total) =
      go (some_dev c.dev c.local d.local fits.local local (header ∙ ap (header_with d.local) some)) where
        go : (c.local ≡ d.local) × (ds : List DevDef) × (c.dev ≡ Some ds) → IsTrue (can_complete e d.local t (size_so_far d entry) room)
        go (same, ds, h) =
            let parts = after_dev_front c d ds count entry rest h spelled in
            let entries : flat_map dev_field_bytes ds ++ [] ≡ flat_map dev_field_bytes devs ++ entry ++ rest =
            parts.2 ∙ ap (λ o. flat_map dev_field_bytes (dev_defs o) ++ entry ++ rest) some in
            let known = sizes_known (λ (f : DevDef). f.number) (λ f. f.size) (λ f. f.index) ds devs entry rest [] t cut.0 (omega (arith, cut.1, parts.1))
            entries in
            let before = ap dev_sizes some in
            let after = ap dev_sizes h in
            completes_from e d.local t (size_so_far d entry) (body_length c) left room (omega (arith, known.0, before, after, parts.0))
            (λ b. omega (arith, known.1 b, before, after, parts.0)) (omega (arith, known.2, total)) (filled e c d.local left sixteen local same fill)

  -- where bytes of the developer fields' entries alone are to come
  pub dev_fields_can_complete : IsTrue (can_complete e d.local t (size_so_far d entry) room)
      ↔ CanComplete e (definition_header d) (dev_fields_part d count entry) room
  dev_fields_can_complete = (completes_devs, completed_devs)
